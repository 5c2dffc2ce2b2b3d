-- (text) When a text of equations means a netlist.
use Rattle.std.specs.Prelude.{◌≡◌, ℕ, List, filter, slice_get, Some, Ok}
use Rattle.si_base.specs.declared.graph.SigKind.TheVariants.{Input, Output}
use Rattle.si_base.specs.Graph.{is_driven, names_in, IsNonInput}
use Rattle.si_base.specs.Netlist.{Netlist, gate_place, gate_value}
use Rattle.si_base.specs.NetlistText.{name_of, names_of}
use Rattle.si_equations.specs.Equations.{Equation, Equations, driven, signals, expression_value}
use Rattle.si_equations.specs.Equations.{equations_in}

-- the equation of signal z, at its gate's place: for all values of the signals its expression has
-- the value of the gate
pub record IsGateOf (n : Netlist) (e : Equations) (z : ℕ) : Type 0 where
  pub equation : Equation
  pub there : slice_get e.equations (gate_place n.signals z) ≡ Some equation
  pub named : equation.name ≡ name_of n.signals z
  pub value : (values : ℕ)
      → expression_value (signals e) values equation.tree ≡ gate_value n z values

-- the netlist's inputs and outputs, all its signals in their order, and one equation for each
-- non-input, which is its gate; inserted signals are internal ones
pub record AreOfNetlist (n : Netlist) (e : Equations) : Type 0 where
  pub inputs : e.inputs ≡ names_of Input n.signals
  pub outputs : e.outputs ≡ names_of Output n.signals
  pub signals_are : signals e ≡ names_in n.signals
  pub driven_are : driven e ≡ names_in (filter (λ x. is_driven x.kind) n.signals)
  pub gates : (z : ℕ) → IsNonInput n.signals z → IsGateOf n e z

-- the text has no fault, and its equations are of the netlist
pub record MeansNetlist (text : List ℕ) (n : Netlist) : Type 0 where
  pub equations : Equations
  pub spelled : equations_in text ≡ Ok equations
  pub of_netlist : AreOfNetlist n equations
