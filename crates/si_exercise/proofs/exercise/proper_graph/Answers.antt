use Rattle.std.proofs.Common.{◌∙◌, sym, subst}
use Rattle.si_base.specs.Graph.{StateGraph}
use Rattle.si_base.specs.Proper.{IsProper}
use Rattle.si_handshakes.proofs.HandshakeRefusals.{never_uncoded, never_improper}
use Rattle.si_exercise.proofs.exercise.proper_graph.Goals as goal

pub unreachable-requires : goal.unreachable-requires
unreachable-requires c =
    let fault = c.in-Err-default-Nondeterministic in
    let none = never_uncoded c.args.graph fault.field-0-1 c.requires.proper fault.ensures.fault in
    let clash = sym fault.field-0-1-is ∙ none in
    cc clash

pub unreachable-requires-in-Err-default-Noncommutative : goal.unreachable-requires-in-Err-default-Noncommutative
unreachable-requires-in-Err-default-Noncommutative c =
    let fault = c.in-Err-default-Noncommutative in
    let graph = c.in-Ok.coded.graph in
    let good = subst (λ (g : StateGraph). IsProper g) (sym c.in-Ok.ensures.same) c.requires.proper in
    let none = never_improper graph fault.field-0-1 good fault.ensures.fault in
    let clash = sym fault.field-0-1-is ∙ none in
    cc clash

pub unreachable-requires-in-Err-default-Nonpersistent : goal.unreachable-requires-in-Err-default-Nonpersistent
unreachable-requires-in-Err-default-Nonpersistent c =
    let fault = c.in-Err-default-Nonpersistent in
    let graph = c.in-Ok.coded.graph in
    let good = subst (λ (g : StateGraph). IsProper g) (sym c.in-Ok.ensures.same) c.requires.proper in
    let none = never_improper graph fault.field-0-1 good fault.ensures.fault in
    let clash = sym fault.field-0-1-is ∙ none in
    cc clash
