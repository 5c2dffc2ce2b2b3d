use Rattle.std.proofs.Common.{◌≡◌, drop}
use Rattle.si_io.specs.Memory.{failing_call}
use Rattle.si_io.proofs.lookup.failing.Given as goal

abbrev pub invariant-loop-fail : goal.invariant-loop-fail
invariant-loop-fail l = failing_call (drop l.fail-index l.fails) l.call ≡ failing_call l.fails l.call
