-- Each non-input has pin literals and divisors, and one list of each.
use Rattle.std.proofs.Common.{length, refl, sym, ap, ◌∙◌}
use Rattle.si_divisor.specs.DivisorLaws.{DivisorsAreUnique, PinsExist, DivisorsExist}
use Rattle.si_divisor.specs.Divisors.{divisors_of}
use Rattle.si_divisor.proofs.PinCubesExist.{some_cubes}
use Rattle.si_divisor.proofs.PinLemmas.{are_pins, one_list, pins}

pub one_divisors : DivisorsAreUnique
one_divisors c library z xs ys a b =
    a.are ∙ ap (divisors_of (length c.graph.signals) library) (one_list c z a.pins b.pins a.are_pins b.are_pins)
    ∙ sym b.are

pub some_pins : PinsExist
some_pins c z coded proper distinct non_input =
    let (cubes, are) = some_cubes c z coded in
    (pins c z cubes are, are_pins c z cubes are)

pub some_divisors : DivisorsExist
some_divisors c library z coded proper distinct non_input =
    let (from, are) = some_pins c z coded proper distinct non_input in
    (divisors_of (length c.graph.signals) library from, record { pins = from; are_pins = are; are = refl })
