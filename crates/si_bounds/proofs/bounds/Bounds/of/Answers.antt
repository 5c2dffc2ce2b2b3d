use Rattle.std.proofs.Common.{◌≡◌, ◌∙◌, ◌+◌, true, List, Option, Some, None, is_some, refl, sym, ap, subst}
use Rattle.std.proofs.lemmas.Bool.{true≢false}
use Rattle.si_base.specs.Codes.{CodedGraph}
use Rattle.si_base.specs.Graph.{StateGraph, IsNonInput}
use Rattle.si_checks.specs.Loops.Lent.{coded_of}
use Rattle.si_match.specs.Fit.{first_fit}
use Rattle.si_bounds.specs.declared.unfit.Unfit.{Unfit}
use Rattle.si_bounds.specs.Loops.Bounds.{AreKnown}
use Rattle.si_bounds.proofs.BoundLemmas.{one_known}
use Rattle.si_bounds.proofs.bounds.Bounds.of.Goals as goal
use Rattle.si_bounds.proofs.bounds.Bounds.of.Goals.{then-not-is_driven-via-then-not-is_driven}
use Rattle.si_bounds.proofs.bounds.Bounds.of.Goals.{then-not-is_driven-via-else-not-is_driven+then-get}

-- of an input and of a signal that some cell fits nothing has to be known
pub loop-i-preserved-then-not-is_driven : goal.loop-i-preserved-then-not-is_driven
loop-i-preserved-then-not-is_driven c =
    let d = coded_of c.args.graph in
    let library = c.args.library.now in
    let i = c.loop-i.i in
    let graph = c.graph-known.ensures.same ∙ ap (λ (e : CodedGraph). e.graph)
    (c.coded.ensures.same ∙ c.proper.ensures.same) in
    subst (λ (xs : List (Option Unfit)). AreKnown d library (i + 1) xs) (sym c.in_ok-push.ensures.items)
    (one_known d library i c.loop-i.unfit.items c.loop-i.invariant None tt (λ driven none. absurd (
    elim c.then-not-is_driven.branch [
      | then-not-is_driven-via-then-not-is_driven w ↦ (
          let here = subst (λ (g : StateGraph). IsNonInput g.signals i) (sym graph) driven in
          true≢false (sym (c.is_driven.ensures.1 here) ∙ w.if-not-is_driven.true))
      | then-not-is_driven-via-else-not-is_driven+then-get w ↦ (
          let fits : is_some (first_fit d library i) ≡ true =
          sym (c.requires i driven) ∙ sym w.get.ensures ∙ w.if-get.true in
          true≢false (sym fits ∙ ap is_some none))
    ])))

pub loop-i-preserved : goal.loop-i-preserved
loop-i-preserved c =
    let d = coded_of c.args.graph in
    let library = c.args.library.now in
    let i = c.loop-i.i in
    subst (λ (xs : List (Option Unfit)). AreKnown d library (i + 1) xs) (sym c.in_ok-push-2.ensures.items)
    (one_known d library i c.loop-i.unfit.items c.loop-i.invariant (Some c.in_ok-of.field-0) c.in_ok-of.ensures
    (λ driven none. (c.in_ok-of.field-0, refl)))
