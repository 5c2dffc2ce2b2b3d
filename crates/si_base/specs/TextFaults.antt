-- (text) The faults of texts: how they are named, and what a reader's answer says of them.
use Rattle.std.specs.Prelude.{◌≡◌, ℕ, List, codes, Option, Some, None, Result, Ok, Err}
use Rattle.si_base.specs.declared.fault.TextKind.{TextKind}
use Rattle.si_base.specs.declared.fault.TextKind.TheVariants.{BadByte, UnknownDirective, BadName}
use Rattle.si_base.specs.declared.fault.TextKind.TheVariants.{Repeated, Dummy, Toggle, Undeclared}
use Rattle.si_base.specs.declared.fault.TextKind.TheVariants.{BadEvent, BadArcLine, BadLine}
use Rattle.si_base.specs.declared.fault.TextKind.TheVariants.{NoStateGraph, NoMarking}
use Rattle.si_base.specs.declared.fault.TextKind.TheVariants.{MarkingNotOne, UnknownState, NoEnd}
use Rattle.si_base.specs.declared.fault.TextKind.TheVariants.{TooManySignals, TooManyStates}
use Rattle.si_base.specs.declared.fault.TextKind.TheVariants.{TooManyArcs, TooManyCells}
use Rattle.si_base.specs.declared.fault.TextKind.TheVariants.{TooManyPins, BadGate, BadNumber}
use Rattle.si_base.specs.declared.fault.TextKind.TheVariants.{BadPin, Latch, BadWord, BadExpression}
use Rattle.si_base.specs.declared.fault.TextKind.TheVariants.{TooDeep, OwnFalling}
use Rattle.si_base.specs.declared.fault.LineFault.{LineFault}
use Rattle.si_base.specs.declared.fault.LineFault.TheVariants.{NoMemory, Kind}
use Rattle.si_base.specs.declared.fault.TextFault.{TextFault}
use Rattle.si_base.specs.declared.fault.TextFault.TheVariants as faults

-- the word under which a kind prints
abbrev pub kind_name : TextKind → List ℕ
kind_name BadByte = codes "BadByte"
kind_name UnknownDirective = codes "UnknownDirective"
kind_name BadName = codes "BadName"
kind_name Repeated = codes "Repeated"
kind_name Dummy = codes "Dummy"
kind_name Toggle = codes "Toggle"
kind_name Undeclared = codes "Undeclared"
kind_name BadEvent = codes "BadEvent"
kind_name BadArcLine = codes "BadArcLine"
kind_name BadLine = codes "BadLine"
kind_name NoStateGraph = codes "NoStateGraph"
kind_name NoMarking = codes "NoMarking"
kind_name MarkingNotOne = codes "MarkingNotOne"
kind_name UnknownState = codes "UnknownState"
kind_name NoEnd = codes "NoEnd"
kind_name TooManySignals = codes "TooManySignals"
kind_name TooManyStates = codes "TooManyStates"
kind_name TooManyArcs = codes "TooManyArcs"
kind_name TooManyCells = codes "TooManyCells"
kind_name TooManyPins = codes "TooManyPins"
kind_name BadGate = codes "BadGate"
kind_name BadNumber = codes "BadNumber"
kind_name BadPin = codes "BadPin"
kind_name Latch = codes "Latch"
kind_name BadWord = codes "BadWord"
kind_name BadExpression = codes "BadExpression"
kind_name TooDeep = codes "TooDeep"
kind_name OwnFalling = codes "OwnFalling"

-- the line's fault is this one, or `NoMemory`
abbrev pub ShowsKind : LineFault → Option TextKind → Type 0
ShowsKind NoMemory fault = Unit {0}
ShowsKind (Kind kind) fault = fault ≡ Some kind

-- Ok where there is no fault, the fault where there is one, and either may want memory
abbrev pub Tells : {X : Type 0} → Result X LineFault → Option TextKind → Type 0
Tells (Ok x) fault = fault ≡ None
Tells (Err e) fault = ShowsKind e fault

-- a line's fault, with its number
abbrev pub ToldAt : LineFault → ℕ → TextFault → Type 0
ToldAt NoMemory n fault = fault ≡ faults.NoMemory
ToldAt (Kind kind) n fault = fault ≡ faults.At n kind

-- the fault is this one, or `NoMemory`
abbrev pub Shows : TextFault → Option (ℕ × TextKind) → Type 0
Shows faults.NoMemory fault = Unit {0}
Shows (faults.At line kind) fault = fault ≡ Some (line, kind)

-- an answer that is a fault is this one
abbrev pub ToldBy : {X : Type 0} → Result X TextFault → Option (ℕ × TextKind) → Type 0
ToldBy (Ok x) fault = Unit {0}
ToldBy (Err e) fault = Shows e fault

-- Ok with the value where there is no fault, the fault where there is one, and either may want
-- memory
abbrev pub Gives : {X Y : Type 0} → (X → Y) → Result X TextFault → Option (ℕ × TextKind) → Y
    → Type 0
Gives view (Ok x) fault value = (fault ≡ None) × (view x ≡ value)
Gives view (Err e) fault value = Shows e fault
