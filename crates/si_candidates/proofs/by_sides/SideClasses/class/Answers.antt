use Rattle.std.proofs.Common.{◌∙◌, List, sym, ap, ap₂, arith}
use Rattle.si_base.specs.Sets.{is_in}
use Rattle.si_insert.specs.declared.partition.Class.{Class}
use Rattle.si_insert.specs.Partition.{class_of}
use Rattle.si_candidates.specs.Loops.Sides.{class_by, differ}
use Rattle.si_candidates.proofs.SideClassLemmas.{class_at, state_within}
use Rattle.si_candidates.proofs.by_sides.SideClasses.class.Goals as goal

pub is_between-requires-clause-plus : goal.is_between-requires-clause-plus
is_between-requires-clause-plus c =
    let b = c.self.inside in
    let within = state_within b.plus.now b.minus.now b.plus_sides.now b.minus_sides.now b.turn c.args.self.now
    c.args.s c.self.view_is c.requires in
    omega (arith, within, c.self.invariant.plus_sides_size)

pub is_between-requires-clause-minus : goal.is_between-requires-clause-minus
is_between-requires-clause-minus c =
    let b = c.self.inside in
    let within = state_within b.plus.now b.minus.now b.plus_sides.now b.minus_sides.now b.turn c.args.self.now
    c.args.s c.self.view_is c.requires in
    omega (arith, within, c.self.invariant.minus_sides_size)

pub has-requires : goal.has-requires
has-requires c =
    let b = c.self.inside in
    state_within b.plus.now b.minus.now b.plus_sides.now b.minus_sides.now b.turn c.args.self.now
    c.args.s c.self.view_is c.requires

pub has-requires-2 : goal.has-requires-2
has-requires-2 c =
    let b = c.self.inside in
    let within = state_within b.plus.now b.minus.now b.plus_sides.now b.minus_sides.now b.turn c.args.self.now
    c.args.s c.self.view_is c.requires in
    omega (arith, within, c.self.invariant.minus_size)

pub returns : goal.returns
returns c =
    let b = c.self.inside in
    let s = c.args.s in
    let within = state_within b.plus.now b.minus.now b.plus_sides.now b.minus_sides.now b.turn c.args.self.now
    s c.self.view_is c.requires in
    let value = c.differ-value.ensures ∙ ap (differ b.turn) c.is_between.ensures in
    c.class_by.ensures
    ∙ ap₂ (λ x y. class_by x y c.differ-value.result) c.has.ensures c.has-2.ensures
    ∙ ap (class_by (is_in b.plus.now s) (is_in b.minus.now s)) value
    ∙ sym (class_at b.plus.now b.minus.now b.plus_sides.now b.minus_sides.now b.turn s within)
    ∙ ap (λ (list : List Class). class_of list s) c.self.view_is
