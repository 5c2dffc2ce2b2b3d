-- (text) When a module is a netlist with a reset input.
use Rattle.std.specs.Prelude.{◌≡◌, ℕ, Bool, true, false, List, ◌∷◌, map, filter, bytes_eq}
use Rattle.std.specs.Prelude.{slice_get, Some, if◌then◌else◌}
use Rattle.si_base.specs.declared.graph.Signal.{Signal}
use Rattle.si_base.specs.Bits.{bit}
use Rattle.si_base.specs.Graph.{is_driven, IsNonInput}
use Rattle.si_base.specs.Netlist.{Netlist, gate_place, gate_value}
use Rattle.si_base.specs.NetlistText.{name_of}
use Rattle.si_settled.specs.Settling.{AreForced, is_among}
use Rattle.si_verilog.specs.Grammar.{Tree, Module, InputPort, tree_value}
use Rattle.si_verilog.specs.Meaning.{named_value, IsModule}
use Rattle.si_verilog.specs.ModuleText.{ports_of, wires_of}

-- a name has the value of its signal, and the reset input has this level
abbrev pub value_at : List ℕ → Bool → List Signal → ℕ → List ℕ → Bool
value_at reset level signals values name =
    if bytes_eq reset name then level else named_value signals values name

-- the value of z while the reset input is 1: its start value if it is forced, else that of its gate
abbrev pub value_in_reset : Netlist → List ℕ → ℕ → ℕ → Bool
value_in_reset n forced z values =
    if is_among forced z then bit n.start z else gate_value n z values

-- the assign of signal z, at its gate's place: for all values of the signals its expression has the
-- value of the gate while the reset input is 0, and of the gate in reset while it is 1
pub record IsResettableGate (n : Netlist) (forced reset : List ℕ) (m : Module) (z : ℕ)
    : Type 0 where
  pub tree : Tree
  pub there : slice_get m.assigns (gate_place n.signals z)
      ≡ Some (record { name = name_of n.signals z; tree = tree })
  pub free : (values : ℕ) → tree_value (value_at reset false n.signals values) tree
      ≡ gate_value n z values
  pub held : (values : ℕ) → tree_value (value_at reset true n.signals values) tree
      ≡ value_in_reset n forced z values

-- the module has the name of the model, the reset input and then the inputs and outputs as ports,
-- the other signals as wires, and for each non-input, in signal order, one assign
pub record IsResettable (n : Netlist) (forced reset : List ℕ) (m : Module) : Type 0 where
  pub named : m.name ≡ n.model
  pub ports : m.ports ≡ InputPort reset ∷ ports_of n.signals
  pub wires : m.wires ≡ wires_of n.signals
  pub assigned : map (λ a. a.name) m.assigns
      ≡ map (λ x. x.name) (filter (λ x. is_driven x.kind) n.signals)
  pub gates : (z : ℕ) → IsNonInput n.signals z → IsResettableGate n forced reset m z

-- the text is that of a module, and that module is the netlist with the reset input, which forces
-- the outputs to force
pub record MeansResettable (text : List ℕ) (n : Netlist) (reset : List ℕ) : Type 0 where
  pub forced : List ℕ
  pub are : AreForced n forced
  pub whole : Module
  pub spells : IsModule text whole
  pub is : IsResettable n forced reset whole
