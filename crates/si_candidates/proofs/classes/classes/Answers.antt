use Rattle.std.proofs.Common.{◌∙◌, ap, subst}
use Rattle.si_base.specs.Codes.{CodedGraph, IsCoded}
use Rattle.si_candidates.proofs.PartLemmas.{first_torn, told_classes}
use Rattle.si_candidates.proofs.classes.classes.Goals as goal

pub returns-in-Some-clause-fault : goal.returns-in-Some-clause-fault
returns-in-Some-clause-fault c =
    let same = c.graph-g.ensures.same ∙ ap (λ (d : CodedGraph). d.graph) c.coded.ensures.same in
    first_torn c.args.graph.now.graph c.args.plus.now c.args.minus.now c.in_ok-high.high c.in_ok-low.low
    (rw same at c.in_ok-high.ensures) (rw same at c.in_ok-low.ensures) c.in-Some.s c.in-Some.ensures

pub known-requires : goal.known-requires
known-requires c =
    let r = c.requires in
    let same = c.graph-g.ensures.same ∙ ap (λ (d : CodedGraph). d.graph) c.coded.ensures.same in
    let coded : IsCoded c.args.graph.now = subst IsCoded c.coded.ensures.same c.graph-g.ensures.coded in
    rw c.in_ok-list.ensures
    (told_classes c.args.graph.now.graph c.args.plus.now c.args.minus.now c.in_ok-high.high c.in_ok-low.low
    (rw same at c.in_ok-high.ensures) (rw same at c.in_ok-low.ensures) coded.graph_is coded.connected r.plus_size
    r.minus_size r.disjoint r.some_plus r.some_minus c.in_default.ensures).1

pub returns-clause-classes : goal.returns-clause-classes
returns-clause-classes c =
    let r = c.requires in
    let same = c.graph-g.ensures.same ∙ ap (λ (d : CodedGraph). d.graph) c.coded.ensures.same in
    let coded : IsCoded c.args.graph.now = subst IsCoded c.coded.ensures.same c.graph-g.ensures.coded in
    rw (c.known.ensures, c.in_ok-list.ensures)
    (told_classes c.args.graph.now.graph c.args.plus.now c.args.minus.now c.in_ok-high.high c.in_ok-low.low
    (rw same at c.in_ok-high.ensures) (rw same at c.in_ok-low.ensures) coded.graph_is coded.connected r.plus_size
    r.minus_size r.disjoint r.some_plus r.some_minus c.in_default.ensures).0

pub returns-clause-lawful : goal.returns-clause-lawful
returns-clause-lawful c =
    let r = c.requires in
    let same = c.graph-g.ensures.same ∙ ap (λ (d : CodedGraph). d.graph) c.coded.ensures.same in
    let coded : IsCoded c.args.graph.now = subst IsCoded c.coded.ensures.same c.graph-g.ensures.coded in
    rw (c.known.ensures, c.in_ok-list.ensures)
    (told_classes c.args.graph.now.graph c.args.plus.now c.args.minus.now c.in_ok-high.high c.in_ok-low.low
    (rw same at c.in_ok-high.ensures) (rw same at c.in_ok-low.ensures) coded.graph_is coded.connected r.plus_size
    r.minus_size r.disjoint r.some_plus r.some_minus c.in_default.ensures).1
