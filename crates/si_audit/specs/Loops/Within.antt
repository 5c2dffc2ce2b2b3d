-- What is told of a partition that isn't accepted.
use Rattle.std.specs.Prelude.{◌≡◌, ℕ, ◌<◌, List}
use Rattle.si_base.specs.Graph.{StateGraph}
use Rattle.si_insert.specs.declared.accept.Rejected.{Rejected}
use Rattle.si_insert.specs.declared.accept.Rejected.TheVariants.{DelaysInput, BreaksPersistency}
use Rattle.si_insert.specs.declared.accept.Rejected.TheVariants.{TooLarge, NoCodeBit}
use Rattle.si_audit.specs.declared.fault.AuditFault.{AuditFault}
use Rattle.si_audit.specs.declared.fault.AuditFault.TheVariants.{NoMemory, States, Classes, Refused}
use Rattle.si_audit.specs.declared.fault.AuditFault.TheVariants.{Start, Gate}

-- the state that a reason shows is one of the graph's
abbrev pub IsWithin : StateGraph → Rejected → Type 0
IsWithin g (DelaysInput s e) = s < g.states
IsWithin g (BreaksPersistency s lost by) = s < g.states
IsWithin g (TooLarge count) = Unit {0}
IsWithin g NoCodeBit = Unit {0}

-- the fault tells of insertion k that reason, with that word
abbrev pub TellsRefusal : List ℕ → Rejected → ℕ → AuditFault → Type 0
TellsRefusal word why k NoMemory = Unit {0}
TellsRefusal word why k (States at) = ⊥
TellsRefusal word why k (Classes at) = ⊥
TellsRefusal word why k (Refused at state told) = (at ≡ k) × (state ≡ word) × (told ≡ why)
TellsRefusal word why k (Start sig) = ⊥
TellsRefusal word why k (Gate sig state) = ⊥
