use Rattle.std.proofs.Common.{sym, arith}
use Rattle.std.proofs.lemmas.List.{take_all, length-take}
use Rattle.si_told.specs.ToldLines.{max_told}
use Rattle.si_told.proofs.lines.printed.Goals as goal

pub returns-then-found-le-MAX_TOLD : goal.returns-then-found-le-MAX_TOLD
returns-then-found-le-MAX_TOLD g c = sym (take_all max_told c.args.found.now c.if-found-le-MAX_TOLD.true)

pub slice_bounds-first-end : goal.slice_bounds-first-end
slice_bounds-first-end g c =
    omega (arith, c.if-found-le-MAX_TOLD.false, length-take max_told c.args.found.now)
