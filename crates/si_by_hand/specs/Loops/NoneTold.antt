-- The states of reasons are there to be told.
use Rattle.std.specs.Prelude.{ℕ, ◌<◌}
use Rattle.si_divisor.specs.declared.fault.NoPartition.{NoPartition}
use Rattle.si_divisor.specs.declared.fault.NoPartition.TheVariants.{NoMemory, Unforced}
use Rattle.si_divisor.specs.declared.fault.NoPartition.TheVariants.{Contradiction, LeavesForced}
use Rattle.si_divisor.specs.declared.fault.NoPartition.TheVariants.{Constant}
use Rattle.si_insert.specs.declared.accept.Rejected.{Rejected}
use Rattle.si_insert.specs.declared.accept.Rejected.TheVariants.{DelaysInput, BreaksPersistency}
use Rattle.si_insert.specs.declared.accept.Rejected.TheVariants.{TooLarge, NoCodeBit}

-- the state that the reason shows is one of so many
abbrev pub IsWithinStates : ℕ → NoPartition → Type 0
IsWithinStates n NoMemory = Unit {0}
IsWithinStates n (Unforced s) = s < n
IsWithinStates n (Contradiction s) = s < n
IsWithinStates n (LeavesForced s) = s < n
IsWithinStates n Constant = Unit {0}

abbrev pub IsRejectedWithin : ℕ → Rejected → Type 0
IsRejectedWithin n (DelaysInput s e) = s < n
IsRejectedWithin n (BreaksPersistency s lost by) = s < n
IsRejectedWithin n (TooLarge count) = Unit {0}
IsRejectedWithin n NoCodeBit = Unit {0}
