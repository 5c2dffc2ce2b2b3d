use Rattle.std.proofs.Common.{◌∙◌, sym, ap, subst, refl, arith}
use Rattle.si_base.specs.Codes.{IsCoded}
use Rattle.si_candidates.specs.Loops.Sides.{side_classes}
use Rattle.si_candidates.proofs.SideClassLemmas.{one_size, only_by_sides, size_is}
use Rattle.si_candidates.proofs.by_sides.SideClasses.new.Goals as goal

pub is_between-requires-clause-plus : goal.is_between-requires-clause-plus
is_between-requires-clause-plus c =
    let r = c.requires in
    omega (arith, c.first_of-rising.ensures.within, r.plus_size, r.sided.plus_are.size)

pub is_between-requires-clause-minus : goal.is_between-requires-clause-minus
is_between-requires-clause-minus c =
    let r = c.requires in
    omega (arith, c.first_of-rising.ensures.within, r.plus_size, r.sided.minus_are.size)

pub invariant_of-result : goal.invariant_of-result
invariant_of-result c =
    let a = c.args in
    let r = c.requires in
    one_size a.graph.now.graph a.plus.now a.minus.now a.plus_sides.now a.minus_sides.now r.plus_size r.sided
    r.minus_size

pub returns-clause-size : goal.returns-clause-size
returns-clause-size c =
    let a = c.args in
    size_is a.plus.now a.minus.now a.plus_sides.now a.minus_sides.now _ ∙ c.requires.plus_size

pub returns-clause-told : goal.returns-clause-told
returns-clause-told c = (c.is_between.result, refl)

pub returns-clause-only : goal.returns-clause-only
returns-clause-only c = λ others from.
    let a = c.args in
    let r = c.requires in
    let graph = (subst IsCoded c.coded.ensures.same c.graph-given.ensures.coded).graph_is in
    let rising = c.first_of-rising.ensures in
    only_by_sides a.graph.now.graph a.plus.now a.minus.now a.plus_sides.now a.minus_sides.now
    r.plus_size r.sided graph c.first_of-rising.result rising.within rising.there others from
    ∙ ap (side_classes a.plus.now a.minus.now a.plus_sides.now a.minus_sides.now) (sym c.is_between.ensures)
