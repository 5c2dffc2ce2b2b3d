-- (law) What the sum of products of an expression is.
use Rattle.std.specs.Prelude.{◌≡◌, ℕ, List, length, Some}
use Rattle.si_base.specs.Netlist.{Sum, sum_value}
use Rattle.si_base.specs.WellFormed.{IsSum}
use Rattle.si_genlib.specs.Expression.{Tree}
use Rattle.si_equations.specs.Equations.{expression_value}
use Rattle.si_from_equations.specs.Sums.{sum_of}

-- for all values of all signals the sum has the value of the expression
abbrev pub HasItsValue : List (List ℕ) → Tree → Sum → Type 0
HasItsValue names tree sum =
    (values : ℕ) → sum_value values sum ≡ expression_value names values tree

abbrev pub SumsHaveTheirValues : Type 0
SumsHaveTheirValues = (names : List (List ℕ)) (tree : Tree) (sum : Sum)
    → sum_of names tree ≡ Some sum → HasItsValue names tree sum

-- its cubes have their literals in rising signal order, each of one of the signals
abbrev pub SumsAreWellFormed : Type 0
SumsAreWellFormed = (names : List (List ℕ)) (tree : Tree) (sum : Sum)
    → sum_of names tree ≡ Some sum → IsSum (length names) sum
