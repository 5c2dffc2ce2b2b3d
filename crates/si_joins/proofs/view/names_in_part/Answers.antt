use Rattle.std.proofs.Common.{◌<◌, ℕ, length, sym, ap, subst, arith, slice_index, List}
use Rattle.si_joins.proofs.ViewLemmas.{shown_at}
use Rattle.si_joins.proofs.view.names_in_part.Goals as goal

pub bounds-states-i : goal.bounds-states-i
bounds-states-i c =
    let shown = shown_at c.args.states.now c.args.i c.args.tuples.now c.loop-tuple.tuple-index c.tuple-item.result
    c.requires.shown c.loop-tuple-test.true c.tuple-item.is in
    let same = ap (length {A = ℕ}) c.states.ensures in
    omega (arith, shown.0, same)

pub name_at-requires : goal.name_at-requires
name_at-requires c =
    let shown = shown_at c.args.states.now c.args.i c.args.tuples.now c.loop-tuple.tuple-index c.tuple-item.result
    c.requires.shown c.loop-tuple-test.true c.tuple-item.is in
    subst (λ (xs : List ℕ). slice_index xs c.args.i < length c.args.states.now) (sym c.states.ensures) shown.1
