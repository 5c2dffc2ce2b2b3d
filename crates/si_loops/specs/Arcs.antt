-- (field) The arcs of a netlist from signals to the gates that read them, and a cut of its loops.
use Rattle.std.specs.Prelude.{◌≡◌, ℕ, ◌⊎◌, ◌||◌, ◌==◌, Bool, false, List, [], ◌∷◌, ◌++◌, length}
use Rattle.std.specs.Prelude.{map, filter, flat_map, Contains, slice_get, unwrap_or, option_map}
use Rattle.std.specs.Prelude.{Option, Some, None}
use Rattle.std.specs.List.{list_any, range_with_len}
use Rattle.si_base.specs.declared.ids.Literal.{Literal}
use Rattle.si_base.specs.declared.graph.Signal.{Signal}
use Rattle.si_base.specs.Graph.{is_driven}
use Rattle.si_base.specs.Netlist.{Netlist, Gate, SumGate, Gc, Cell, gate_place}
use Rattle.si_netlist.specs.Reads.{sum_reads}
use Rattle.si_loops.specs.declared.arcs.Arc.{Arc}

-- one of the literals is of signal x
abbrev pub has_literal : List Literal → ℕ → Bool
has_literal literals x = list_any (λ l. l.sig == x) literals

-- the gate has x at a pin: a sum has its literals there, a generalised C-element those of set and
-- reset, a cell those of its instance; what the last two hold inside is no pin
abbrev pub has_pin : Gate → ℕ → Bool
has_pin (SumGate sum) x = sum_reads sum x
has_pin (Gc set reset) x = sum_reads set x || sum_reads reset x
has_pin (Cell name literals sum) x = has_literal literals x

abbrev pub has_pin_if_there : Option Gate → ℕ → Bool
has_pin_if_there None x = false
has_pin_if_there (Some gate) x = has_pin gate x

-- the gate of z has y at a pin
abbrev pub reads : Netlist → ℕ → ℕ → Bool
reads n z y = has_pin_if_there (slice_get n.gates (gate_place n.signals z)) y

abbrev pub has_gate : List Signal → ℕ → Bool
has_gate signals z = unwrap_or (option_map (λ x. is_driven x.kind) (slice_get signals z)) false

-- the signals with gates, in signal order
abbrev pub gated : List Signal → List ℕ
gated signals = filter (has_gate signals) (range_with_len 0 (length signals))

-- an arc is from one signal to another whose gate reads it
abbrev pub arc_to : ℕ → ℕ → Arc
arc_to z y = record { from = y; to = z }

-- the arcs to the gate of z, in signal order of its pins
abbrev pub arcs_into : Netlist → ℕ → List Arc
arcs_into n z = map (arc_to z) (filter (reads n z) (gated n.signals))

-- the arcs between signals with gates, in signal order of the gates
abbrev pub arcs_of : Netlist → List Arc
arcs_of n = flat_map (arcs_into n) (gated n.signals)

-- these signals, one after another, lead from y to z along arcs of the list
abbrev pub Path : List Arc → ℕ → List ℕ → ℕ → Type 0
Path arcs y [] z = y ≡ z
Path arcs y (u ∷ us) z = Contains arcs (record { from = y; to = u }) × Path arcs u us z

-- some path leads from y to z
abbrev pub Leads : List Arc → ℕ → ℕ → Type 0
Leads arcs y z = (us : List ℕ) × Path arcs y us z

-- no path comes back
abbrev pub IsAcyclic : List Arc → Type 0
IsAcyclic arcs = (y : ℕ) (us : List ℕ) → Path arcs y us y → us ≡ []

-- with the arcs of the list the arc closes a loop
abbrev pub ClosesLoop : List Arc → Arc → Type 0
ClosesLoop arcs a = Leads arcs a.to a.from

-- gone over in order, each arc is cut that closes a loop with those kept before it; and else kept
abbrev pub Splits : List Arc → List Arc → List Arc → List Arc → Type 0
Splits before [] kept cut = (kept ≡ before) × (cut ≡ [])
Splits before (a ∷ arcs) kept cut =
    (ClosesLoop before a × (rest : List Arc) × (cut ≡ a ∷ rest) × Splits before arcs kept rest)
    ⊎ ((ClosesLoop before a → ⊥) × Splits (before ++ a ∷ []) arcs kept cut)

-- the arcs that are cut of a netlist's, and those that are kept
abbrev pub AreCut : Netlist → List Arc → List Arc → Type 0
AreCut n kept cut = Splits [] (arcs_of n) kept cut
