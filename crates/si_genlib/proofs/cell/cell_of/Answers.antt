use Rattle.std.proofs.Common.{◌≤◌, Bool, true, false, arith}
use mir.Val.{bool_byte}
use Rattle.std.proofs.lemmas.List.{length-map}
use Rattle.si_genlib.proofs.GateCellLemmas.{over_pins}
use Rattle.si_genlib.proofs.cell.cell_of.Goals as goal

at_most_one : (own : Bool) → bool_byte own ≤ 1
at_most_one true = omega arith
at_most_one false = omega arith

pub of-requires : goal.of-requires
of-requires c =
    let pins = rw length-map at c.requires in
    let own = at_most_one c.args.gate.now.pins.own in
    over_pins _ _ c.in_ok-cover.cover (omega (arith, pins, c.from.ensures, c.len-count.ensures, own))
    c.in_ok-cover.ensures
