use Rattle.std.proofs.Common.{◌≡◌, ◌∙◌, ◌+◌, ◌<◌, ◌≤◌, sym, ap, arith, subst, ℕ, Option, get_or}
use Rattle.std.proofs.lemmas.Bool.{true≢false}
use Rattle.std.proofs.lemmas.List.{get_or_default}
use Rattle.si_base.specs.Graph.{StateGraph}
use Rattle.si_checks.specs.Loops.Searches.{Differ}
use Rattle.si_checks.proofs.ConflictLemmas.{IsAt, keep_found, take_pair}
use Rattle.si_kin.proofs.FirstKin.{IsFoundTo, at_first, first_kin, with_firsts}
use Rattle.si_kin.proofs.kin.first_kin_conflict.Goals as goal
use Rattle.si_kin.proofs.kin.first_kin_conflict.Goals.{then-differ, else-differ}

pub loop-s-preserved : goal.loop-s-preserved
loop-s-preserved c =
    let d = c.args.coded.now in
    let n = c.loop-s.s in
    let p = c.index-p.result.now in
    let firsts = c.in_ok-firsts.firsts.items in
    let alike = c.in_ok-firsts.ensures in
    let same = c.graph-graph.ensures.same in
    let within : n < d.graph.states =
    omega (arith, ap (λ (g : StateGraph). g.states) same, c.states-s-end.ensures, c.loop-s-test.true) in
    let p_is : p ≡ get_or firsts n 0 =
    c.index-p.ensures ∙ get_or_default firsts n p 0 (omega (arith, alike.count, within)) in
    let by_first = with_firsts d firsts in
    let at : IsAt by_first n p =
    subst (IsAt by_first n) (sym p_is) (at_first d c.args.classes.now firsts c.requires alike n within) in
    let Differs : StateGraph → Type 0 = λ g. Differ g p n in
    let Found : Option (ℕ × ℕ) → Type 0 = λ o. IsFoundTo d firsts (n + 1) o in
    elim c.if-differ.branch [
      | then-differ w ↦ subst Found (sym w.found-is) (take_pair by_first n p c.loop-s.found w.earlier.result at
          (subst Differs same (c.differ.ensures.0 w.if-differ.true)) c.loop-s.invariant w.earlier.ensures)
      | else-differ w ↦ subst Found (sym w.found-is) (keep_found by_first n p c.loop-s.found at (λ is. true≢false
          (sym (c.differ.ensures.1 (subst Differs (sym same) is)) ∙ w.if-differ.false)) c.loop-s.invariant)
    ]

pub returns : goal.returns
returns c =
    let d = c.args.coded.now in
    let all : d.graph.states ≤ c.loop-s.s =
    omega (
      arith,
      ap (λ (g : StateGraph). g.states) c.graph-graph.ensures.same,
      c.states-s-end.ensures,
      c.loop-s-test.false,
    ) in
    first_kin d c.args.classes.now c.in_ok-firsts.firsts.items c.requires c.in_ok-firsts.ensures c.loop-s.s
    c.loop-s.found all c.loop-s.invariant
