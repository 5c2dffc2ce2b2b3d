-- Signals, lists and gates of equations beside a graph, computed.
use Rattle.std.proofs.Common.{◌≡◌, ℕ, List, [], ◌∷◌, codes, Some, None, refl}
use Rattle.si_base.specs.declared.graph.SigKind.{SigKind}
use Rattle.si_base.specs.declared.graph.SigKind.TheVariants.{Input, Output, Inserted}
use Rattle.si_base.specs.declared.graph.Signal.{Signal}
use Rattle.si_genlib.specs.Expression.{Pin, Tree}
use Rattle.si_equations.specs.Equations.{Equation, Equations}
use Rattle.si_from_equations.specs.Beside.{all_signals, expression_of, hidden_names, lists_place}

abbrev signal : List ℕ → SigKind → Signal
signal name kind = record { name = name; kind = kind }

abbrev equation : List ℕ → Tree → Equation
equation name tree = record { line = 1; name = name; tree = tree }

-- `INORDER = r; OUTORDER = z; y = r; z = y;`
abbrev two : Equations
two = record {
  inputs = codes "r" ∷ [];
  outputs = codes "z" ∷ [];
  equations = equation (codes "y") (Pin (codes "r")) ∷ equation (codes "z") (Pin (codes "y")) ∷ [];
}

-- the graph has `r` and `z`
abbrev given : List Signal
given = signal (codes "r") Input ∷ signal (codes "z") Output ∷ []

lists_match : lists_place given two ≡ None
lists_match = refl

y_is_hidden : hidden_names given two ≡ codes "y" ∷ []
y_is_hidden = refl

hidden_stand_last : all_signals given two ≡ signal (codes "r") Input ∷ signal (codes "z") Output
    ∷ signal (codes "y") Inserted ∷ []
hidden_stand_last = refl

expression_by_name : expression_of two.equations (codes "z") ≡ Pin (codes "y")
expression_by_name = refl

-- an output that has no equation stands at the second place, and a further input behind both
output_without_equation : lists_place (signal (codes "r") Input ∷ signal (codes "x") Output ∷ []) two ≡ Some 2
output_without_equation = refl

further_input : lists_place (signal (codes "z") Output ∷ []) two ≡ Some 2
further_input = refl
