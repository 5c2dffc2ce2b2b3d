use Rattle.std.proofs.Common.{◌∙◌, ap, subst}
use Rattle.si_base.specs.Codes.{CodedGraph, IsCoded}
use Rattle.si_base.specs.Graph.{StateGraph}
use Rattle.si_insert.specs.Insertion.{new_signal}
use Rattle.si_by_hand.proofs.ToldReasons.{told_among}
use Rattle.si_by_hand.proofs.partitions.accepted_for.Goals as goal

pub refused_so-requires-clause-among : goal.refused_so-requires-clause-among
refused_so-requires-clause-among c =
    let same = c.coded.ensures.same in
    let graph = c.graph.ensures.same ∙ ap (λ (k : CodedGraph). k.graph) same in
    let signals = c.signals-signals.ensures ∙ ap (λ (g : StateGraph). g.signals) graph in
    let coded = subst IsCoded same c.graph.ensures.coded in
    rw signals (told_among c.args.graph.now.graph c.in-Ok.partition (new_signal c.args.made.now.name)
    c.in-Err-accept.why coded.graph_is c.requires.room c.in-Err-accept.ensures.fault)
