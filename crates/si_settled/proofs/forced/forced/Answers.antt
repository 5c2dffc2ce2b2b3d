use Rattle.std.proofs.Common.{◌≡◌, ◌<◌, ◌-◌, ◌∙◌, ◌∷◌, ℕ, List, All, drop, length, subst, sym, take}
use Rattle.std.proofs.lemmas.Bool.{true≢false}
use Rattle.std.proofs.lemmas.List.Elements.{All-push}
use Rattle.si_base.specs.Limits.{max_signals}
use Rattle.si_settled.proofs.ForcedLemmas.{LeftOut, first_and_rest, one_dropped, one_forced, rest_all, told_by_codes}
use Rattle.si_settled.proofs.forced.forced.Goals as goal

abbrev IsNarrow : ℕ → Type 0
IsNarrow z = z < max_signals

pub loop-left-preserved-in_ok-push : goal.loop-left-preserved-in_ok-push
loop-left-preserved-in_ok-push c =
    let n = c.args.netlist.now in
    let before = c.loop-left.forced.items in
    let left : List ℕ = c.loop-left.left.now in
    let rest : List ℕ = take (length left - 1) (drop 1 left) in
    let z = c.z-item.result in
    let is : left ≡ z ∷ rest = first_and_rest left z c.in-len1-up.len_at_least c.z-item.is in
    let told = told_by_codes n c.as_slice.result.now c.as_slice-in-len1-up.result.now before rest _ _ _ _ _ _ _
    (c.as_slice.ensures.value ∙ c.in_ok-undriven.ensures.inputs) c.as_slice-in-len1-up.ensures.value c.inputs-2.view_is
    c.held.view_is c.held-in-len1-up.view_is c.marks-inputs.ensures c.marks.ensures c.marks-in-len1-up.ensures
    c.in_ok-suffices.ensures in
    let small : z < max_signals =
    subst IsNarrow (sym c.z-item.is) (c.loop-left.invariant.left 0 z c.in-len1-up.len_at_least) in
    record {
      left_out = subst (λ (l : List ℕ). LeftOut n l rest) (sym c.in_ok-push.ensures.items)
          (one_forced n before left rest z is (λ enough. true≢false (sym (told.1 enough) ∙ c.if-not-branch.true))
          c.loop-left.invariant.left_out);
      forced = subst (All IsNarrow) (sym c.in_ok-push.ensures.items)
          (All-push IsNarrow before z c.loop-left.invariant.forced small);
      left = rest_all IsNarrow left rest z is c.loop-left.invariant.left;
    }

pub loop-left-preserved : goal.loop-left-preserved
loop-left-preserved c =
    let n = c.args.netlist.now in
    let before = c.loop-left.forced.items in
    let left : List ℕ = c.loop-left.left.now in
    let rest : List ℕ = take (length left - 1) (drop 1 left) in
    let z = c.z-item.result in
    let is : left ≡ z ∷ rest = first_and_rest left z c.in-len1-up.len_at_least c.z-item.is in
    let told = told_by_codes n c.as_slice.result.now c.as_slice-in-len1-up.result.now before rest _ _ _ _ _ _ _
    (c.as_slice.ensures.value ∙ c.in_ok-undriven.ensures.inputs) c.as_slice-in-len1-up.ensures.value c.inputs-2.view_is
    c.held.view_is c.held-in-len1-up.view_is c.marks-inputs.ensures c.marks.ensures c.marks-in-len1-up.ensures
    c.in_ok-suffices.ensures in
    record {
      left_out = one_dropped n before left rest z is (told.0 c.if-not-branch.false) c.loop-left.invariant.left_out;
      forced = c.loop-left.invariant.forced;
      left = rest_all IsNarrow left rest z is c.loop-left.invariant.left;
    }
