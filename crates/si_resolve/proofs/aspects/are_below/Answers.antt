use Rattle.std.proofs.Common.{◌≤◌, arith, sym}
use Rattle.std.proofs.lemmas.Bool.{true≢false}
use Rattle.si_resolve.specs.Loops.Aspects.{unparted_count}
use Rattle.si_resolve.proofs.AspectLemmas.{unparted_parts}
use Rattle.si_resolve.proofs.aspects.are_below.Goals as goal

pub returns-then-left-room : goal.returns-then-left-room
returns-then-left-room c =
    let one = c.split_at in
    let other = c.split_at-in-loop-plus in
    let parts = unparted_parts 64 c.loop-plus.plus.now c.loop-plus.minus.now _ _ _ _
    one.ensures.front one.ensures.back other.ensures.front other.ensures.back in
    let rest = c.loop-plus.invariant.rest in
    let enough : c.args.bar ≤ unparted_count c.args.plus.now c.args.minus.now =
    omega (arith, parts, rest, c.unparted_count-left.ensures, c.if-left-room.true) in
    ((λ no. absurd (true≢false (sym no))), (λ few. absurd (omega (arith, enough, few))))

pub loop-plus-preserved : goal.loop-plus-preserved
loop-plus-preserved c =
    let one = c.split_at in
    let other = c.split_at-in-loop-plus in
    let parts = unparted_parts 64 c.loop-plus.plus.now c.loop-plus.minus.now _ _ _ _
    one.ensures.front one.ensures.back other.ensures.front other.ensures.back in
    let rest = c.loop-plus.invariant.rest in
    record {
      count = omega (arith, c.loop-plus.invariant.count, one.ensures.back_len, other.ensures.back_len);
      rest = omega (arith, parts, rest, c.unparted_count-left.ensures, c.if-left-room.false);
    }
