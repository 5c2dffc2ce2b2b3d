use Rattle.std.proofs.Common.{◌≤◌, ◌∙◌, ℕ, arith, sym, inl, inr}
use Rattle.std.proofs.lemmas.Bool.{cases_lt, true≢false}
use Rattle.si_resolve.specs.Loops.Aspects.{column_at, unparted_count}
use Rattle.si_resolve.specs.Loops.Progress.{bar_of}
use Rattle.si_resolve.proofs.SearchLemmas.{none_by_aspects, one_flag, other_flag, same_lengths}
use Rattle.si_resolve.proofs.search.Search.may_part.Goals as goal

pub leaves_below-requires-clause-i : goal.leaves_below-requires-clause-i
leaves_below-requires-clause-i c = omega (arith, c.requires.i_within, c.requires.list.aspects.count)

pub leaves_below-requires-clause-j : goal.leaves_below-requires-clause-j
leaves_below-requires-clause-j c = omega (arith, c.requires.j_within, c.requires.list.aspects.count)

pub leaves_below-requires-clause-count : goal.leaves_below-requires-clause-count
leaves_below-requires-clause-count c =
    let r = c.requires in
    let d = c.args.graph.now in
    let list = c.args.list.now in
    same_lengths list.blocks.items list.usable.items list.sides.items r.list.pairs list.columns.items
    c.args.i c.args.j r.list.aspects r.i_within r.j_within
    (one_flag d list r.list c.args.i c.args.j r.i_within r.j_within r.first r.later)
    (other_flag d list r.list c.args.i c.args.j r.i_within r.j_within r.first r.later)

pub returns : goal.returns
returns c = λ refused.
    let r = c.requires in
    let list = c.args.list.now in
    let left : ℕ = unparted_count (column_at list.columns.items c.args.i) (column_at list.columns.items c.args.j) in
    let enough : bar_of c.args.self.now ≤ left =
    elim (cases_lt left c.bar.result) [
      | inl fewer ↦ absurd (true≢false (sym (c.leaves_below.ensures.1 fewer) ∙ refused))
      | inr more ↦ omega (arith, more, c.bar.ensures)
    ] in
    none_by_aspects c.args.graph.now list r.list c.args.i c.args.j r.i_within r.j_within r.first r.later
    c.args.self.now.counts.chains r.counts.chains (bar_of c.args.self.now) enough
