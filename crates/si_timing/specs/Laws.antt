-- (law) With the arcs that the lines name disabled, no loop is left, and none of them is named in
-- vain; a netlist has one text or one reason to have none.
use Rattle.std.specs.Prelude.{◌≡◌, ◌≢◌, ℕ, ◌⊎◌, List, Contains}
use Rattle.si_base.specs.Netlist.{Netlist}
use Rattle.si_base.specs.WellFormed.{IsNetlist}
use Rattle.si_cell.specs.Library.{Instance, IsLibrary, Library}
use Rattle.si_genlib.specs.Ports.{PortedLibrary}
use Rattle.si_loops.specs.declared.arcs.Arc.{Arc}
use Rattle.si_loops.specs.Arcs.{AreCut}
use Rattle.si_timing.specs.Arcs.{ClosesLoop, HasNoLoop}
use Rattle.si_timing.specs.Instances.{IsInput, NamedArc, Port, named}
use Rattle.si_timing.specs.Meaning.{IsOver}
use Rattle.si_timing.specs.Refusals.{IsOfCells, Shows}
use Rattle.si_timing.specs.TimingText.{IsTimingText, disabled_arcs}
use Rattle.si_timing.specs.declared.refusal.Untimed.{Untimed}
use Rattle.si_timing.specs.declared.refusal.Untimed.TheVariants.{NoMemory}

-- no loop of arcs of timing is left
abbrev pub NoLoopIsLeft : Type 0
NoLoopIsLeft = (library : PortedLibrary) (n : Netlist) (kept cut : List Arc) → IsOver library n
    → AreCut n kept cut → HasNoLoop library n (disabled_arcs library n cut)

-- each arc that is disabled closes a loop with those that are left: none is superfluous
abbrev pub DisabledCloseLoops : Type 0
DisabledCloseLoops = (library : PortedLibrary) (n : Netlist) (kept cut : List Arc) (a : NamedArc)
    → IsOver library n → AreCut n kept cut → Contains (disabled_arcs library n cut) a
    → ClosesLoop library n (disabled_arcs library n cut) a

-- names tell the arcs inside instances apart
abbrev pub NamesTellArcs : Type 0
NamesTellArcs = (library : PortedLibrary) (n : Netlist) (p q : Port) (i j : Instance)
    → IsOver library n → IsInput library.library n p i → IsInput library.library n q j
    → named library n p i ≡ named library n q j → p ≡ q

-- a netlist has one text at most
abbrev pub TextsAreOne : Type 0
TextsAreOne = (library : PortedLibrary) (n : Netlist) (text other : List ℕ)
    → IsTimingText library n text → IsTimingText library n other → text ≡ other

-- and there is one
abbrev pub TextsExist : Type 0
TextsExist = (library : PortedLibrary) (n : Netlist) → (text : List ℕ) × IsTimingText library n text

-- a netlist is refused for one reason at most, beside want of memory
abbrev pub RefusedForOneReason : Type 0
RefusedForOneReason = (library : Library) (n : Netlist) (e f : Untimed) → e ≢ NoMemory
    → f ≢ NoMemory → Shows library n e → Shows library n f → e ≡ f

-- and one of cells for none
abbrev pub NotBoth : Type 0
NotBoth = (library : Library) (n : Netlist) (e : Untimed) → IsOfCells library n
    → Shows library n e → e ≡ NoMemory

-- each netlist is of cells, or has a reason to be refused
abbrev pub HaveOutcome : Type 0
HaveOutcome = (library : Library) (n : Netlist) → IsLibrary library → IsNetlist n
    → IsOfCells library n ⊎ ((e : Untimed) × (e ≢ NoMemory) × Shows library n e)
