-- (field) Netlists whose gates are covers.
use Rattle.std.specs.Prelude.{◌≡◌, ℕ, slice_get, Some}
use Rattle.si_base.specs.Graph.{IsNonInput}
use Rattle.si_base.specs.Codes.{CodedGraph}
use Rattle.si_base.specs.Netlist.{Gate, SumGate, Gc, Cell, Netlist, gate_place}
use Rattle.si_cover.specs.declared.kind.SumKind.TheVariants.{Next, Set, Reset}
use Rattle.si_cover.specs.Demands.{demand}
use Rattle.si_cube.specs.Covers.{IsCover, IsPrimeCover}

-- each signal that the circuit drives has a gate that serves it
abbrev pub HasGates : (serves : ℕ → Gate → Type 0) → Netlist → Type 0
HasGates serves n = (z : ℕ) → IsNonInput n.signals z
    → (gate : Gate) × (slice_get n.gates (gate_place n.signals z) ≡ Some gate) × serves z gate

-- the sums of the gate of z are covers
abbrev pub IsCoverGate : CodedGraph → ℕ → Gate → Type 0
IsCoverGate c z (SumGate sum) = IsCover (demand Next c z) sum
IsCoverGate c z (Gc set reset) = IsCover (demand Set c z) set × IsCover (demand Reset c z) reset
IsCoverGate c z (Cell name literals sum) = ⊥

-- they are prime and irredundant covers
abbrev pub IsPrimeGate : CodedGraph → ℕ → Gate → Type 0
IsPrimeGate c z (SumGate sum) = IsPrimeCover (demand Next c z) sum
IsPrimeGate c z (Gc set reset) = IsPrimeCover (demand Set c z) set
    × IsPrimeCover (demand Reset c z) reset
IsPrimeGate c z (Cell name literals sum) = ⊥

abbrev pub HasCoverGates : CodedGraph → Netlist → Type 0
HasCoverGates c n = HasGates (IsCoverGate c) n

abbrev pub HasPrimeGates : CodedGraph → Netlist → Type 0
HasPrimeGates c n = HasGates (IsPrimeGate c) n
