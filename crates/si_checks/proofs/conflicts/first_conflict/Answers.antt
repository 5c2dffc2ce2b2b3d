use Rattle.std.proofs.Common.{ℕ, ◌+◌, ◌<◌, ◌≤◌, ◌∙◌, arith, sym, ap, subst, Option}
use Rattle.std.proofs.lemmas.Bool.{true≢false}
use Rattle.std.specs.BTreeMap.{get}
use Rattle.std.specs.Ordering.{nat_cmp}
use Rattle.si_base.specs.Graph.{StateGraph}
use Rattle.si_base.specs.Codes.{code}
use Rattle.si_base.specs.Proper.{pair_place}
use Rattle.si_checks.specs.Loops.Searches.{Differ, IsFirstOrNone}
use Rattle.si_checks.proofs.ConflictLemmas.{IsConflictBelow, IsAt, first_at, firsts_more, keep_found, take_pair}
use Rattle.si_checks.proofs.ConflictLemmas.{all_states}
use Rattle.si_checks.proofs.conflicts.first_conflict.Goals as goal
use Rattle.si_checks.proofs.conflicts.first_conflict.Goals.{then-differ, else-differ}

pub loop-s-preserved : goal.loop-s-preserved
loop-s-preserved c =
    let d = c.args.coded.now in
    let n = c.loop-s.s in
    let p = c.in_ok-p.p in
    let same = c.graph-graph.ensures.same in
    let within : n < d.graph.states = omega (arith, ap (λ (g : StateGraph). g.states) same, c.states-s-end.ensures) in
    let old : ℕ → Option ℕ = λ k. get nat_cmp c.loop-s.firsts k in
    let new : ℕ → Option ℕ = λ k. get nat_cmp c.first_of_code.new.firsts k in
    let at : IsAt d n p =
    first_at d n p (old (code d n)) within (rw c.code.ensures at c.in_ok-p.ensures.found)
    (c.loop-s.invariant.firsts (code d n)) in
    let Differs : StateGraph → Type 0 = λ g. Differ g p n in
    let Found : Option (ℕ × ℕ) → Type 0 = λ o. IsFirstOrNone pair_place (IsConflictBelow d (n + 1)) o in
    record {
      firsts = firsts_more d n p old new at (rw c.code.ensures at c.in_ok-p.ensures.there)
          (rw c.code.ensures at c.in_ok-p.ensures.others) c.loop-s.invariant.firsts;
      found = elim c.if-differ.branch [
        | then-differ w ↦ subst Found (sym w.found-is) (take_pair d n p c.loop-s.found w.earlier.result
            at (subst Differs same (c.differ.ensures.0 w.if-differ.true)) c.loop-s.invariant.found w.earlier.ensures)
        | else-differ w ↦ subst Found (sym w.found-is) (keep_found d n p c.loop-s.found at (λ is. true≢false
            (sym (c.differ.ensures.1 (subst Differs (sym same) is)) ∙ w.if-differ.false)) c.loop-s.invariant.found)
      ];
    }

pub returns : goal.returns
returns c =
    let d = c.args.coded.now in
    let all : d.graph.states ≤ c.loop-s.s =
    omega (arith, ap (λ (g : StateGraph). g.states) c.graph-graph.ensures.same, c.states-s-end.ensures) in
    all_states d c.loop-s.s c.loop-s.found all c.loop-s.invariant.found
