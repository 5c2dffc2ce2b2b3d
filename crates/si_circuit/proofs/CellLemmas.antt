-- Gates of fitting instances give the next values, and are gates of the format.
use Rattle.std.proofs.Common.{◌≡◌, ℕ, ◌+◌, ◌<◌, ◌≤◌, List, length, Some, None, Option, sym, ap, ◌∙◌, subst, arith, refl}
use Rattle.std.proofs.Common.{inl, inr}
use Rattle.std.specs.Option.{IsSome}
use Rattle.std.proofs.lemmas.Bool.{false≢true}
use Rattle.std.proofs.lemmas.Bool.Decides.{eqb_tells}
use Rattle.si_base.specs.Codes.{CodedGraph, IsCoded, code, next_value}
use Rattle.si_base.specs.Graph.{IsNonInput}
use Rattle.si_base.specs.Limits.{code_width}
use Rattle.si_base.specs.Netlist.{Gate, Insertion, value_of, value_if_there}
use Rattle.si_base.specs.RightGates.{GivesNextValues}
use Rattle.si_base.specs.WellFormed.{IsGate, IsNetlist}
use Rattle.si_base.proofs.StepCodes.{signal_there}
use Rattle.si_cell.specs.Library.{Library, Instance, IsLibrary, IsInstance, no_cell}
use Rattle.si_cell.proofs.ExpandedLemmas.{expanded_value}
use Rattle.si_cell.proofs.LawLemmas.{expanded_is_sum}
use Rattle.si_match.specs.Fit.{first_fit, IsOver, Fits}
use Rattle.si_match.proofs.FitLemmas.{fit_fits}
use Rattle.si_circuit.specs.Cells.{AllFit, cell_gate, gate_if_any}
use Rattle.si_circuit.specs.Cells.{instance_gate}
use Rattle.si_circuit.specs.Gates.{netlist_of}
use Rattle.si_circuit.specs.Spelled.{AreSpelled, AreInserted}
use Rattle.si_circuit.proofs.GateLemmas.{is_netlist}
use Rattle.si_circuit.proofs.CoveredGates.{has_gates}

-- an instance that is there, as the gate of z
pub record IsGateOf (c : CodedGraph) (library : Library) (z : ℕ) (i : Instance) : Type 0 where
  pub gate : cell_gate c library z ≡ instance_gate library z i
  pub over : IsOver c library i
  pub fits : Fits c library z i

gate_when : (c : CodedGraph) (library : Library) (z : ℕ) (o : Option Instance) → first_fit c library z ≡ o → IsSome o
    → (i : Instance) × (first_fit c library z ≡ Some i)
gate_when c library z None is some = absurd (false≢true some)
gate_when c library z (Some i) is some = (i, is)

pub few_signals : (c : CodedGraph) → IsCoded c → length c.graph.signals ≤ code_width
few_signals c is = omega (is.graph_is.few_signals, arith)

pub gate_found : (c : CodedGraph) (library : Library) (z : ℕ) → IsCoded c → IsSome (first_fit c library z)
    → (i : Instance) × IsGateOf c library z i
gate_found c library z is some =
    let found = gate_when c library z (first_fit c library z) refl some in
    let held = fit_fits c library z found.0 is found.1 in
    (found.0, record { gate = ap (gate_if_any library z) found.1; over = held.0; fits = held.1 })

value_given : (c : CodedGraph) (library : Library) (z s : ℕ) → IsCoded c → IsLibrary library
    → IsNonInput c.graph.signals z
    → IsSome (first_fit c library z) → s < c.graph.states
    → value_of (cell_gate c library z) z (code c s) ≡ next_value c s z
value_given c library z s is good driven some within =
    let found = gate_found c library z is some in
    let there = signal_there c z driven in
    ap (λ (g : Gate). value_of g z (code c s)) found.1.gate
    ∙ expanded_value library found.0 z good found.1.over.instance (omega (there, few_signals c is, arith)) (code c s)
    ∙ found.1.fits s within

gate_is : (c : CodedGraph) (library : Library) (z : ℕ) → IsCoded c → IsLibrary library → IsNonInput c.graph.signals z
    → IsSome (first_fit c library z) → IsGate (length c.graph.signals) (cell_gate c library z)
gate_is c library z is good driven some =
    let found = gate_found c library z is some in
    let over = found.1.over in
    let cell = good.cells.each found.0.cell no_cell over.instance.cell in
    subst (IsGate (length c.graph.signals)) (sym found.1.gate) (
      cell.name,
      omega (over.instance.pins, cell.few_pins, arith),
      over.signals,
      expanded_is_sum (length c.graph.signals) library found.0 z good over.instance over.signals
          (signal_there c z driven),
    )

pub cells_give : (c : CodedGraph) (library : Library) (model : List ℕ) (inserts : List Insertion) → IsCoded c
    → IsLibrary library → AllFit c library → GivesNextValues c (netlist_of (cell_gate c library) model inserts c)
cells_give c library model inserts is good fit = record {
  gates = λ s z within non_input.
      (let Serves : ℕ → Gate → Type 0 = λ y gate. value_of gate y (code c s) ≡ next_value c s y in
      let found = has_gates Serves (cell_gate c library) model inserts c
      (λ y driven. value_given c library y s is good driven (fit y driven) within) z non_input in
      ap (λ (g : Option Gate). value_if_there g z (code c s)) found.1 ∙ found.2);
}

pub cells_are_netlist : (c : CodedGraph) (library : Library) (model : List ℕ) (inserts : List Insertion) → IsCoded c
    → IsLibrary library → AllFit c library → AreSpelled model c.graph.signals → AreInserted inserts c.graph.signals
    → IsNetlist (netlist_of (cell_gate c library) model inserts c)
cells_are_netlist c library model inserts is good fit spelled inserted =
    is_netlist (cell_gate c library) model inserts c is spelled inserted
    (λ z driven. gate_is c library z is good driven (fit z driven))

-- ---- one signal after another
abbrev pub FitBefore : CodedGraph → Library → ℕ → Type 0
FitBefore c library i = (y : ℕ) → y < i → IsNonInput c.graph.signals y → IsSome (first_fit c library y)

pub fit_more : (c : CodedGraph) (library : Library) (i : ℕ) → FitBefore c library i
    → (IsNonInput c.graph.signals i → IsSome (first_fit c library i)) → FitBefore c library (i + 1)
fit_more c library i before here y below driven = elim (eqb_tells y i) [
  | inl same ↦ (let now = rw same.1 at driven in rw same.1 (here now))
  | inr different ↦ (let apart = different.1 in before y (omega (arith, below, apart)) driven)
]

pub all_fit : (c : CodedGraph) (library : Library) (i : ℕ) → FitBefore c library i → length c.graph.signals ≤ i
    → AllFit c library
all_fit c library i before past z driven = before z (omega (arith, past, signal_there c z driven)) driven

pub instance_of : (c : CodedGraph) (library : Library) (z : ℕ) (i : Instance) → IsCoded c
    → first_fit c library z ≡ Some i
    → IsInstance library i
instance_of c library z i is found = (fit_fits c library z i is found).0.instance
