-- (field) The netlist of equations beside a graph: the graph's signals, and behind them the others
-- that have an equation, which are hidden ones.
use Rattle.std.specs.Prelude.{ℕ, ◌+◌, ◌*◌, ◌^◌, not, false, List, [], ◌∷◌, ◌++◌, length, map, filter}
use Rattle.std.specs.Prelude.{flat_map, position, bytes_eq, codes, if◌then◌else◌, Bool}
use Rattle.std.specs.Prelude.{Option, Some, None, option_map, unwrap_or}
use Rattle.std.specs.List.{list_all}
use Rattle.si_base.specs.declared.graph.Signal.{Signal}
use Rattle.si_base.specs.declared.graph.SigKind.TheVariants.{Inserted}
use Rattle.si_base.specs.Codes.{CodedGraph, code}
use Rattle.si_base.specs.Faults.{◌otherwise◌, first_in}
use Rattle.si_base.specs.GivenGraph.{signals_of}
use Rattle.si_base.specs.Graph.{is_driven, names_in}
use Rattle.si_base.specs.Netlist.{Sum, Gate, SumGate, Insertion, Netlist}
use Rattle.si_base.specs.System.{is_inserted}
use Rattle.si_words.specs.Names.{stands_in}
use Rattle.si_genlib.specs.Expression.{Tree, Constant}
use Rattle.si_equations.specs.Equations.{Equation, Equations, driven}
use Rattle.si_from_equations.specs.Sums.{sum_of}

-- ---- signals

abbrev pub has_name : List Signal → List ℕ → Bool
has_name signals name = stands_in (names_in signals) name

-- those that have an equation and aren't the graph's, in the order of their equations
abbrev pub hidden_names : List Signal → Equations → List (List ℕ)
hidden_names given e = filter (λ name. not (has_name given name)) (driven e)

abbrev pub all_signals : List Signal → Equations → List Signal
all_signals given e = given ++ signals_of Inserted (hidden_names given e)

-- ---- lists

-- an input is one of their inputs, and each other signal has an equation
abbrev pub has_signal : Equations → Signal → Bool
has_signal e x = stands_in (if is_driven x.kind then driven e else e.inputs) x.name

-- the place, from 1, of the graph's first signal that the equations don't have; behind all, of an
-- input that the graph doesn't have
abbrev pub lists_place : List Signal → Equations → Option ℕ
lists_place given e =
    option_map (λ k. k + 1) (position (λ x. not (has_signal e x)) given)
    otherwise (if list_all (has_name given) e.inputs then None else Some (length given + 1))

-- ---- gates

abbrev pub gated : List Signal → List Signal
gated signals = filter (λ x. is_driven x.kind) signals

-- the expression of the equation of this name; 0 where there is none
abbrev pub expression_of : List Equation → List ℕ → Tree
expression_of [] name = Constant false
expression_of (q ∷ more) name =
    if bytes_eq name q.name then q.tree else expression_of more name

-- the sum of the equation of a signal, over the signals with these names
abbrev pub sum_for : (names : List (List ℕ)) → Equations → Signal → Option Sum
sum_for names e x = sum_of names (expression_of e.equations x.name)

abbrev pub if_missing : List ℕ → Option Sum → Option (List ℕ)
if_missing name None = Some name
if_missing name (Some sum) = None

abbrev pub without_sum : (names : List (List ℕ)) → Equations → Signal → Option (List ℕ)
without_sum names e x = if_missing x.name (sum_for names e x)

-- the first signal with a gate whose sum is missing
abbrev pub unsummed : List Signal → Equations → Option (List ℕ)
unsummed signals e = first_in (without_sum (names_in signals) e) (gated signals)

abbrev pub gate_for : (names : List (List ℕ)) → Equations → Signal → Gate
gate_for names e x = SumGate (unwrap_or (sum_for names e x) [])

-- ---- the netlist

-- an insertion of which it isn't said where the signal rises and falls
abbrev pub unknown : List ℕ → Insertion
unknown name = record { name = name; up = codes "?" ∷ []; down = codes "?" ∷ [] }

abbrev pub unknown_of : Signal → List Insertion
unknown_of x = if is_inserted x.kind then unknown x.name ∷ [] else []

-- the graph's signals start as it does, and the hidden ones with 0
abbrev pub netlist_beside : (model : List ℕ) → CodedGraph → Equations → Netlist
netlist_beside model c e =
    let signals = all_signals c.graph.signals e in
    record {
      model = model;
      signals = signals;
      start = code c c.graph.start;
      inserts = flat_map unknown_of signals;
      gates = map (gate_for (names_in signals) e) (gated signals);
    }

-- a netlist where the signals behind so many given ones, which start with 0, start with the bits of
-- the number, and rise and fall where isn't known
abbrev pub started : (given values : ℕ) → Netlist → Netlist
started given values n = record {
  model = n.model;
  signals = n.signals;
  start = values * 2 ^ given + n.start;
  inserts = flat_map unknown_of n.signals;
  gates = n.gates;
}
