-- (law) What the gates of a netlist of equations are.
use Rattle.std.specs.Prelude.{◌≡◌, ℕ, List, Contains, None}
use Rattle.si_base.specs.Codes.{CodedGraph}
use Rattle.si_base.specs.Graph.{IsNonInput, name_of, names_in}
use Rattle.si_base.specs.Netlist.{Netlist, gate_value}
use Rattle.si_equations.specs.Equations.{Equation, Equations, expression_value}
use Rattle.si_from_equations.specs.Beside.{all_signals, lists_place, netlist_beside, unsummed}

-- the equation of signal z: for all values of all signals its expression has the value of the gate
pub record HasEquation (n : Netlist) (e : Equations) (z : ℕ) : Type 0 where
  pub equation : Equation
  pub there : Contains e.equations equation
  pub named : equation.name ≡ name_of n.signals z
  pub value : (values : ℕ)
      → gate_value n z values ≡ expression_value (names_in n.signals) values equation.tree

-- each gate is that of an equation
abbrev pub IsOfEquations : Netlist → Equations → Type 0
IsOfEquations n e = (z : ℕ) → IsNonInput n.signals z → HasEquation n e z

-- so it is beside a graph with the same lists, where no sum is missing
abbrev pub GatesAreEquations : Type 0
GatesAreEquations = (model : List ℕ) (c : CodedGraph) (e : Equations)
    → lists_place c.graph.signals e ≡ None → unsummed (all_signals c.graph.signals e) e ≡ None
    → IsOfEquations (netlist_beside model c e) e
