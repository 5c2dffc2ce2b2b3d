-- The instance that is the gate of a signal: there is one, and its names tell its ports apart.
use Rattle.std.proofs.Common.{◌≡◌, ℕ, ◌+◌, ◌<◌, ◌&&◌, Bool, true, false, List, [], ◌∷◌, ◌++◌, length, slice_get}
use Rattle.std.proofs.Common.{length-append, Option, Some, None, get_or, refl, sym, ap, subst, ◌∙◌, arith, inl, inr}
use Rattle.std.proofs.Common.{codes}
use Rattle.std.specs.Prelude.{option_map, unwrap_or}
use Rattle.std.specs.List.{list_all}
use Rattle.std.proofs.lemmas.Bool.{cases_lt, true≢false}
use Rattle.std.proofs.lemmas.List.{append_cancel_right, get_or_append_left}
use Rattle.std.proofs.lemmas.List.Folds.{list_all-append}
use Rattle.std.proofs.lemmas.Option.{get_or_from_slice_get, slice_get-get_or}
use Rattle.si_base.specs.declared.graph.Signal.{Signal}
use Rattle.si_base.specs.declared.ids.Literal.{Literal}
use Rattle.si_base.specs.Graph.{IsNonInput, name_of}
use Rattle.si_base.specs.Netlist.{Gate, SumGate, Gc, Cell as CellGate, Netlist, gate_place}
use Rattle.si_base.specs.WellFormed.{IsNetlist}
use Rattle.si_base.specs.Words.{is_name_byte}
use Rattle.si_netlist.proofs.GateLemmas.{gate_place-lt, within_signals}
use Rattle.si_cell.specs.Library.{Cell, Instance, IsLibrary, Library, cell_at, no_cell}
use Rattle.si_genlib.specs.Ports.{ArePortsOf, IsPortName, PortedLibrary, Ports, port_names}
use Rattle.si_loops.specs.Arcs.{has_literal, has_pin_if_there, reads}
use Rattle.si_structure.specs.Refusals.{HasGate, instance_gate}
use Rattle.si_structure.specs.StructureText.{feedback}
use Rattle.si_timing.specs.Meaning.{IsOver}
use Rattle.si_timing.specs.Instances.{FeedbackOf, HasInstance, IsInput, IsInputOf, NamedArc, OutputOf, PinOf, Port}
use Rattle.si_timing.specs.Instances.{gate_of, named, no_literal, no_ports, port_name, ports_at}
use Rattle.si_timing.specs.Instances.{signal_at}

-- ---- gates

pub gate_there : (n : Netlist) → IsNetlist n → (z : ℕ) → IsNonInput n.signals z → (g : Gate) × HasGate n z g
gate_there n is z non_input =
    let before = gate_place-lt n.signals z non_input in
    let count = is.gate_count in
    let within : gate_place n.signals z < length n.gates = omega arith in (
      get_or n.gates (gate_place n.signals z) (SumGate []),
      record {
        driven = non_input;
        there = slice_get-get_or n.gates (gate_place n.signals z) (SumGate []) within;
      },
    )

pub same_gate : (n : Netlist) (z : ℕ) (g h : Gate) → HasGate n z g → HasGate n z h → g ≡ h
same_gate n z g h one other =
    let first = one.there in
    let second = other.there in
    cc

pub instance_there : (library : PortedLibrary) (n : Netlist) → IsOver library n → (z : ℕ) → IsNonInput n.signals z
    → (i : Instance) × HasInstance library.library n z i
instance_there library n over z driven =
    let gate = gate_there n over.netlist z driven in
    let is = over.of_cells z gate.0 gate.1 in
    (is.0, record { gate = gate.0; has = gate.1; is = is.1 })

pub gate_read : (library : Library) (n : Netlist) (z : ℕ) (i : Instance) → HasInstance library n z i
    → slice_get n.gates (gate_place n.signals z) ≡ Some (instance_gate library z i)
gate_read library n z i has = has.has.there ∙ ap Some has.is.same

-- its gate reads the signals of its literals
pub instance_reads : (library : Library) (n : Netlist) (z : ℕ) (i : Instance) → HasInstance library n z i → (y : ℕ)
    → reads n z y ≡ has_literal i.literals y
instance_reads library n z i has y = ap (λ (o : Option Gate). has_pin_if_there o y) (gate_read library n z i has)

-- ---- one instance

abbrev literals_there : Option Gate → List Literal
literals_there None = []
literals_there (Some (SumGate sum)) = []
literals_there (Some (Gc set reset)) = []
literals_there (Some (CellGate name literals sum)) = literals

abbrev name_there : Option Gate → List ℕ
name_there None = []
name_there (Some (SumGate sum)) = []
name_there (Some (Gc set reset)) = []
name_there (Some (CellGate name literals sum)) = name

pub same_place : (library : Library) → IsLibrary library → (j k : ℕ) → j < length library.cells
    → k < length library.cells → (cell_at library j).name ≡ (cell_at library k).name → j ≡ k
same_place library good j k within also same = elim (cases_lt j k) [
  | inl before ↦ absurd (good.cells.distinct j k no_cell before also same)
  | inr after ↦ elim (cases_lt k j) [
    | inl before ↦ absurd (good.cells.distinct k j no_cell before within (sym same))
    | inr back ↦ omega (arith, after, back)
  ]
]

pub same_instance : (library : Library) (n : Netlist) (z : ℕ) (i j : Instance) → IsLibrary library
    → HasInstance library n z i → HasInstance library n z j → i ≡ j
same_instance library n z i j good one other =
    let gates = sym (gate_read library n z i one) ∙ gate_read library n z j other in
    let cell : i.cell ≡ j.cell = same_place library good i.cell j.cell one.is.instance.cell other.is.instance.cell
    (ap name_there gates) in
    let literals : i.literals ≡ j.literals = ap literals_there gates in
    λ k. record { cell = cell k; literals = literals k }

-- the signal at a port, read from the gate
abbrev pub signal_there : Netlist → Port → ℕ
signal_there n (PinOf z k) = (get_or (literals_there (slice_get n.gates (gate_place n.signals z))) k no_literal).sig
signal_there n (FeedbackOf z) = z
signal_there n (OutputOf z) = z

pub signal_is : (library : Library) (n : Netlist) (p : Port) (i : Instance) → HasInstance library n (gate_of p) i
    → signal_at i p ≡ signal_there n p
signal_is library n (PinOf z k) i has =
    ap (λ (o : Option Gate). (get_or (literals_there o) k no_literal).sig) (sym (gate_read library n z i has))
signal_is library n (FeedbackOf z) i has = refl
signal_is library n (OutputOf z) i has = refl

-- ---- names of signals

name_at : (signals : List Signal) (z : ℕ) (x : Signal) → slice_get signals z ≡ Some x → name_of signals z ≡ x.name
name_at signals z x at = ap (λ (o : Option Signal). unwrap_or (option_map (λ y. y.name) o) []) at

no_names_between : (n : Netlist) → IsNetlist n → (y z : ℕ) → y < z → IsNonInput n.signals y → IsNonInput n.signals z
    → name_of n.signals y ≡ name_of n.signals z → ⊥
no_names_between n is y z before one other same =
    let d : Signal = one.0 in
    let first : get_or n.signals y d ≡ one.0 = get_or_from_slice_get n.signals y one.0 d one.1 in
    let second : get_or n.signals z d ≡ other.0 = get_or_from_slice_get n.signals z other.0 d other.1 in
    is.distinct y z d before (within_signals n.signals z other)
    (ap (λ (x : Signal). x.name) first ∙ sym (name_at n.signals y one.0 one.1) ∙ same
    ∙ name_at n.signals z other.0 other.1 ∙ ap (λ (x : Signal). x.name) (sym second))

same_signal : (n : Netlist) → IsNetlist n → (y z : ℕ) → IsNonInput n.signals y → IsNonInput n.signals z
    → name_of n.signals y ≡ name_of n.signals z → y ≡ z
same_signal n is y z one other same = elim (cases_lt y z) [
  | inl before ↦ absurd (no_names_between n is y z before one other same)
  | inr after ↦ elim (cases_lt z y) [
    | inl before ↦ absurd (no_names_between n is z y before other one (sym same))
    | inr back ↦ omega (arith, after, back)
  ]
]

-- ---- names of ports

pub ports_of_cell : (library : PortedLibrary) (n : Netlist) → IsOver library n → (k : ℕ)
    → k < length library.library.cells → ArePortsOf (cell_at library.library k) (ports_at library k)
ports_of_cell library n over k within = over.ports.each k no_cell no_ports within

no_end : (a : Bool) → (a && false) ≡ false
no_end true = refl
no_end false = refl

no_dollar : (name : List ℕ) → list_all is_name_byte (name ++ codes "$in") ≡ false
no_dollar name = list_all-append is_name_byte name (codes "$in") ∙ no_end (list_all is_name_byte name)

bytes_of_name : (name : List ℕ) → IsPortName name → list_all is_name_byte name ≡ true
bytes_of_name [] is = refl
bytes_of_name (b ∷ bs) is = is

-- the name of a pin is no feedback port's
no_feedback : (ports : Ports) (name : List ℕ) → IsPortName name → name ≡ feedback ports → ⊥
no_feedback ports name is same = true≢false (sym (bytes_of_name name is) ∙ ap (list_all is_name_byte) same
    ∙ no_dollar ports.output)

module _ (cell : Cell) (ports : Ports) (are : ArePortsOf cell ports) where
  abbrev pin_name : ℕ → List ℕ
  pin_name k = get_or ports.pins k []

  pin_named : (k : ℕ) → k < length ports.pins → get_or (port_names ports) k [] ≡ pin_name k
  pin_named k within = get_or_append_left ports.pins (ports.output ∷ []) [] k within

  count_of_names : length (port_names ports) ≡ length ports.pins + 1
  count_of_names = length-append ports.pins (ports.output ∷ [])

  is_port : (k : ℕ) → k < length ports.pins → IsPortName (pin_name k)
  is_port k within = subst IsPortName (pin_named k within)
      (are.names k [] (omega (arith, within, count_of_names)))

  pins_apart : (j k : ℕ) → j < k → k < length ports.pins → pin_name j ≡ pin_name k → ⊥
  pins_apart j k before within same = are.distinct j k [] before (omega (arith, within, count_of_names))
      (pin_named j (omega (arith, before, within)) ∙ same ∙ sym (pin_named k within))

  same_pin : (j k : ℕ) → j < length ports.pins → k < length ports.pins → pin_name j ≡ pin_name k → j ≡ k
  same_pin j k within also same = elim (cases_lt j k) [
    | inl before ↦ absurd (pins_apart j k before also same)
    | inr after ↦ elim (cases_lt k j) [
      | inl before ↦ absurd (pins_apart k j before within (sym same))
      | inr back ↦ omega (arith, after, back)
    ]
  ]

  -- inputs of one instance that have one name are one
  pub same_input : (library : Library) (i : Instance) (p q : Port) → length i.literals ≡ length ports.pins
      → IsInputOf library i p → IsInputOf library i q → gate_of p ≡ gate_of q
      → port_name ports p ≡ port_name ports q → p ≡ q
  same_input library i (PinOf y j) (PinOf z k) count one other gate same =
      let pin = same_pin j k (omega (arith, one, count)) (omega (arith, other, count)) same in
      λ x. PinOf (gate x) (pin x)
  same_input library i (PinOf y j) (FeedbackOf z) count one other gate same =
      absurd (no_feedback ports (pin_name j) (is_port j (omega (arith, one, count))) same)
  same_input library i (PinOf y j) (OutputOf z) count one other gate same = absurd other
  same_input library i (FeedbackOf y) (PinOf z k) count one other gate same =
      absurd (no_feedback ports (pin_name k) (is_port k (omega (arith, other, count))) (sym same))
  same_input library i (FeedbackOf y) (FeedbackOf z) count one other gate same = ap (λ (x : ℕ). FeedbackOf x) gate
  same_input library i (FeedbackOf y) (OutputOf z) count one other gate same = absurd other
  same_input library i (OutputOf y) q count one other gate same = absurd one

-- ---- names of arcs

pub pins_of_instance : (library : PortedLibrary) (n : Netlist) → IsOver library n → (z : ℕ) (i : Instance)
    → HasInstance library.library n z i → length i.literals ≡ length (ports_at library i.cell).pins
pins_of_instance library n over z i has =
    has.is.instance.pins ∙ sym (ports_of_cell library n over i.cell has.is.instance.cell).count

pub names_tell_arcs : (library : PortedLibrary) (n : Netlist) (p q : Port) (i j : Instance) → IsOver library n
    → IsInput library.library n p i → IsInput library.library n q j → named library n p i ≡ named library n q j → p ≡ q
names_tell_arcs library n p q i j over one other same =
    let gates : gate_of p ≡ gate_of q = same_signal n over.netlist (gate_of p) (gate_of q) one.instance.has.driven
    other.instance.has.driven (append_cancel_right (name_of n.signals (gate_of p)) (name_of n.signals (gate_of q))
    (codes "$gate") (ap (λ (a : NamedArc). a.instance) same)) in
    let there : HasInstance library.library n (gate_of p) j =
    subst (λ (z : ℕ). HasInstance library.library n z j) (sym gates) other.instance in
    let instances : j ≡ i = same_instance library.library n (gate_of p) j i over.cells there one.instance in
    let ports : Ports = ports_at library i.cell in
    let names : port_name ports p ≡ port_name ports q =
    ap (λ (a : NamedArc). a.from) same ∙ ap (λ (x : Instance). port_name (ports_at library x.cell) q) instances in
    same_input (cell_at library.library i.cell) ports
    (ports_of_cell library n over i.cell one.instance.is.instance.cell) library.library i p q
    (pins_of_instance library n over (gate_of p) i one.instance) one.input
    (subst (λ (x : Instance). IsInputOf library.library x q) instances other.input) gates names
