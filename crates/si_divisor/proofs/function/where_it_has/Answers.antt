use Rattle.std.proofs.Common.{◌≡◌, ◌-◌, ◌^◌, ◌↔◌, Bool, true, subst, sym}
use Rattle.si_base.specs.Bits.{bit}
use Rattle.si_closures.proofs.WordBits.{in_not}
use Rattle.si_divisor.proofs.function.where_it_has.Goals as goal

pub returns-else-value : goal.returns-else-value
returns-else-value c i few =
    let column = c.args.column in
    subst (λ (v : Bool). (bit (2 ^ 128 - 1 - column) i ≡ true) ↔ (bit column i ≡ v)) (sym c.if-value.false)
    (in_not column i c.ranges.column.fits few)
