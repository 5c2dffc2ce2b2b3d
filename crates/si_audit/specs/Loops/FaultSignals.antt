-- What a fault tells is there to be told: signals of the netlist.
use Rattle.std.specs.Prelude.{◌<◌, List, length}
use Rattle.si_base.specs.declared.graph.Signal.{Signal}
use Rattle.si_insert.specs.declared.accept.Rejected.{Rejected}
use Rattle.si_insert.specs.declared.accept.Rejected.TheVariants.{DelaysInput, BreaksPersistency}
use Rattle.si_insert.specs.declared.accept.Rejected.TheVariants.{TooLarge, NoCodeBit}
use Rattle.si_audit.specs.declared.fault.AuditFault.{AuditFault}
use Rattle.si_audit.specs.declared.fault.AuditFault.TheVariants.{NoMemory, States, Classes, Refused}
use Rattle.si_audit.specs.declared.fault.AuditFault.TheVariants.{Start, Gate}

-- the events that the reason shows are of these signals; that a graph has too many signals is no
-- reason of an audit, since a netlist has no more than a graph may have
abbrev pub AreAmong : List Signal → Rejected → Type 0
AreAmong signals (DelaysInput s e) = e.sig < length signals
AreAmong signals (BreaksPersistency s lost by) =
    (lost.sig < length signals) × (by.sig < length signals)
AreAmong signals (TooLarge count) = Unit {0}
AreAmong signals NoCodeBit = ⊥

-- the signals that the fault shows are among these
abbrev pub TellsOf : List Signal → AuditFault → Type 0
TellsOf signals NoMemory = Unit {0}
TellsOf signals (States k) = Unit {0}
TellsOf signals (Classes k) = Unit {0}
TellsOf signals (Refused k state why) = AreAmong signals why
TellsOf signals (Start sig) = sig < length signals
TellsOf signals (Gate sig state) = sig < length signals
