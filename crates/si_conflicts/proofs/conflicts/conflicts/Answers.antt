use Rattle.std.proofs.Common.{◌≡◌, ◌≤◌, ◌∙◌, List, length, arith, ap, inl, inr}
use Rattle.std.proofs.lemmas.List.{length-map}
use Rattle.si_base.specs.Graph.{StateGraph}
use Rattle.si_conflicts.specs.declared.conflicts.Pair.{Pair}
use Rattle.si_conflicts.specs.Conflicts.{pairs_of}
use Rattle.si_conflicts.proofs.SearchLemmas.{first_all, first_full}
use Rattle.si_conflicts.proofs.conflicts.conflicts.Goals as goal

same_length : (xs : List Pair) → length (pairs_of xs) ≡ length xs
same_length xs = length-map xs (λ (x : Pair). (x.p, x.q))

pub returns-then-len-limit : goal.returns-then-len-limit
returns-then-len-limit c =
    let d = c.args.graph.now in
    let xs = c.loop-s.pairs.items in
    elim c.loop-s.invariant [
      | inl so ↦ first_full d c.loop-s.s 0 c.args.limit (pairs_of xs)
          (omega (arith, same_length xs, so.1, c.if-len-limit.true, c.len.ensures)) so.0
      | inr full ↦ full.0
    ]

pub returns : goal.returns
returns c =
    let d = c.args.graph.now in
    let xs = c.loop-s.pairs.items in
    let all : d.graph.states ≤ c.loop-s.s = omega (
      arith,
      c.loop-s-test.false,
      c.states-s-end.ensures ∙ ap
          (λ (g : StateGraph). g.states) c.graph.ensures.same,
    ) in
    elim c.loop-s.invariant [
      | inl so ↦ first_all d c.loop-s.s c.args.limit (pairs_of xs) all (omega (arith, same_length xs, so.1)) so.0
      | inr full ↦ full.0
    ]
