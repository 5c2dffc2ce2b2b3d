use Rattle.std.proofs.Common.{◌+◌, Some, None, sym, subst, arith}
use Rattle.si_base.specs.Order.{IsFirst}
use Rattle.si_breaches.specs.Loops.Steps.{IsEndFrom}
use Rattle.si_breaches.proofs.StepLemmas.{no_ends, no_others, first_apart, second_apart, third_apart, none_apart}
use Rattle.si_breaches.proofs.StepLemmas.{apart_told, same_told, behind_ends}
use Rattle.si_told.specs.All.{number_place}
use Rattle.si_breaches.proofs.steps.ends_apart.Goals as goal

pub returns-in_err-w : goal.returns-in_err-w
returns-in_err-w c =
    let g = c.args.graph.now in
    let s = c.args.s in
    let a = c.args.a.now in
    let e = c.args.c.now in
    let by_a = c.arcs_by-by_a.result.now in
    let none = behind_ends g by_a e 0 s a c.arcs_by-by_a.ensures None c.in_err-w.ensures.first in
    rw c.from_residual.ensures (no_ends g s a e none)

pub returns-in_err-w2 : goal.returns-in_err-w2
returns-in_err-w2 c =
    let g = c.args.graph.now in
    let s = c.args.s in
    let a = c.args.a.now in
    let e = c.args.c.now in
    let by_e = c.arcs_by-by_c.result.now in
    let none = behind_ends g by_e a 0 s e c.arcs_by-by_c.ensures None c.in_err-w2.ensures.first in
    rw c.from_residual-in_err-w2.ensures (no_others g s a e none)

pub returns-then-ne : goal.returns-then-ne
returns-then-ne c =
    let g = c.args.graph.now in
    let s = c.args.s in
    let a = c.args.a.now in
    let e = c.args.c.now in
    let by_a = c.arcs_by-by_a.result.now in
    let by_e = c.arcs_by-by_c.result.now in
    let w = c.in_ok-w.w in
    let w2 = c.in_ok-w2.w2 in
    let one = behind_ends g by_a e 0 s a c.arcs_by-by_a.ensures (Some w) c.in_ok-w.ensures.first in
    let other = behind_ends g by_e a 0 s e c.arcs_by-by_c.ensures (Some w2) c.in_ok-w2.ensures.first in
    first_apart g s a e w w2 one other (apart_told w w2 c.if-ne.ensures)

pub next_to-next-requires : goal.next_to-next-requires
next_to-next-requires c = omega (arith, c.in_ok-w.ensures.within, c.arcs-arcs.ensures.graph.few_states)

pub returns-in-Some : goal.returns-in-Some
returns-in-Some c =
    let g = c.args.graph.now in
    let s = c.args.s in
    let a = c.args.a.now in
    let e = c.args.c.now in
    let by_a = c.arcs_by-by_a.result.now in
    let by_e = c.arcs_by-by_c.result.now in
    let w = c.in_ok-w.w in
    let w2 = c.in_ok-w2.w2 in
    let one = behind_ends g by_a e 0 s a c.arcs_by-by_a.ensures (Some w) c.in_ok-w.ensures.first in
    let other = behind_ends g by_e a 0 s e c.arcs_by-by_c.ensures (Some w2) c.in_ok-w2.ensures.first in
    let also = subst (IsFirst number_place (IsEndFrom g s e a 0)) (sym (same_told w w2 c.if-ne.ensures)) other in
    let n = c.in-Some.other in
    let next = behind_ends g by_e a (w + 1) s e c.arcs_by-by_c.ensures (Some n)
    (rw c.next_to-next.ensures at c.in-Some.ensures.first) in
    second_apart g s a e w one also n next

pub returns-in_err-other : goal.returns-in_err-other
returns-in_err-other c =
    let g = c.args.graph.now in
    let s = c.args.s in
    let a = c.args.a.now in
    let e = c.args.c.now in
    let by_a = c.arcs_by-by_a.result.now in
    let by_e = c.arcs_by-by_c.result.now in
    let w = c.in_ok-w.w in
    let w2 = c.in_ok-w2.w2 in
    let one = behind_ends g by_a e 0 s a c.arcs_by-by_a.ensures (Some w) c.in_ok-w.ensures.first in
    let other = behind_ends g by_e a 0 s e c.arcs_by-by_c.ensures (Some w2) c.in_ok-w2.ensures.first in
    let also = subst (IsFirst number_place (IsEndFrom g s e a 0)) (sym (same_told w w2 c.if-ne.ensures)) other in
    let none = behind_ends g by_e a (w + 1) s e c.arcs_by-by_c.ensures None
    (rw c.next_to-next.ensures at c.in_default.ensures.first) in
    let nor = behind_ends g by_a e (w + 1) s a c.arcs_by-by_a.ensures None
    (rw c.next_to-next.ensures at c.in_err-other.ensures.first) in
    rw c.from_residual-in_err-other.ensures (none_apart g s a e w one also none nor)

pub returns : goal.returns
returns c =
    let g = c.args.graph.now in
    let s = c.args.s in
    let a = c.args.a.now in
    let e = c.args.c.now in
    let by_a = c.arcs_by-by_a.result.now in
    let by_e = c.arcs_by-by_c.result.now in
    let w = c.in_ok-w.w in
    let w2 = c.in_ok-w2.w2 in
    let one = behind_ends g by_a e 0 s a c.arcs_by-by_a.ensures (Some w) c.in_ok-w.ensures.first in
    let other = behind_ends g by_e a 0 s e c.arcs_by-by_c.ensures (Some w2) c.in_ok-w2.ensures.first in
    let also = subst (IsFirst number_place (IsEndFrom g s e a 0)) (sym (same_told w w2 c.if-ne.ensures)) other in
    let n = c.in_ok-other.other in
    let none = behind_ends g by_e a (w + 1) s e c.arcs_by-by_c.ensures None
    (rw c.next_to-next.ensures at c.in_default.ensures.first) in
    let next = behind_ends g by_a e (w + 1) s a c.arcs_by-by_a.ensures (Some n)
    (rw c.next_to-next.ensures at c.in_ok-other.ensures.first) in
    third_apart g s a e w one also none n next
