-- (text) What a text of Verilog means, and when that is a netlist.
use Rattle.std.specs.Prelude.{◌≡◌, ℕ, ◌+◌, Bool, false, List, [], ◌∷◌, map, filter, bytes_eq}
use Rattle.std.specs.Prelude.{slice_get, Some, if◌then◌else◌}
use Rattle.si_base.specs.declared.graph.Signal.{Signal}
use Rattle.si_base.specs.Bits.{bit}
use Rattle.si_base.specs.Graph.{is_driven, IsNonInput}
use Rattle.si_base.specs.Netlist.{Netlist, gate_place, gate_value}
use Rattle.si_base.specs.NetlistText.{name_of}
use Rattle.si_verilog.specs.Symbols.{symbols_of}
use Rattle.si_verilog.specs.Grammar.{Tree, Module, SpellModule, tree_value}
use Rattle.si_verilog.specs.ModuleText.{ports_of, wires_of}

-- the value of the first signal with the name, from the i-th on
abbrev pub named_from : ℕ → List Signal → ℕ → List ℕ → Bool
named_from i [] values name = false
named_from i (x ∷ xs) values name =
    if bytes_eq x.name name then bit values i else named_from (i + 1) xs values name

-- a name has the value of its signal
abbrev pub named_value : List Signal → ℕ → List ℕ → Bool
named_value signals values name = named_from 0 signals values name

-- the text is that of the module
abbrev pub IsModule : List ℕ → Module → Type 0
IsModule text m = SpellModule (symbols_of text) m

-- the assign of signal z, at its gate's place: for all values of the signals its expression has the
-- value of the gate
pub record IsGateOf (n : Netlist) (m : Module) (z : ℕ) : Type 0 where
  pub tree : Tree
  pub there : slice_get m.assigns (gate_place n.signals z)
      ≡ Some (record { name = name_of n.signals z; tree = tree })
  pub value : (values : ℕ) → tree_value (named_value n.signals values) tree ≡ gate_value n z values

-- the module has the name of the model, the inputs and outputs as ports, the other signals as
-- wires, and for each non-input, in signal order, one assign, which is its gate
pub record IsOfNetlist (n : Netlist) (m : Module) : Type 0 where
  pub named : m.name ≡ n.model
  pub ports : m.ports ≡ ports_of n.signals
  pub wires : m.wires ≡ wires_of n.signals
  pub assigned : map (λ a. a.name) m.assigns
      ≡ map (λ x. x.name) (filter (λ x. is_driven x.kind) n.signals)
  pub gates : (z : ℕ) → IsNonInput n.signals z → IsGateOf n m z

-- the text is that of a module, and that module is of the netlist
abbrev pub MeansNetlist : List ℕ → Netlist → Type 0
MeansNetlist text n = (m : Module) × IsModule text m × IsOfNetlist n m
