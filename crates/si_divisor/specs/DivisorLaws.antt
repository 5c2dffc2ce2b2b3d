-- (law) The laws of pin literals and divisors, one word each.
use Rattle.std.specs.Prelude.{◌≡◌, ◌≢◌, ◌↔◌, ℕ, ◌<◌, ◌≤◌, List, length, All, AllPairs, Contains}
use Rattle.std.specs.Prelude.{filter}
use Rattle.si_base.specs.Codes.{CodedGraph, IsCoded}
use Rattle.si_base.specs.Graph.{IsNonInput}
use Rattle.si_base.specs.Proper.{IsProper, HasNoConflict}
use Rattle.si_base.specs.declared.ids.Literal.{Literal}
use Rattle.si_cell.specs.Library.{Library, Instance}
use Rattle.si_match.specs.Fit.{IsOver, lists_of}
use Rattle.si_divisor.specs.Divisors.{ArePins, AreDivisors, are_apart, max_divisors}
use Rattle.si_divisor.specs.Divisors.{max_divisor_pins}

-- literals of the list, on distinct signals
pub record AreChosen (from literals : List Literal) : Type 0 where
  pub pins : All (λ l. Contains from l) literals
  pub apart : AllPairs (λ l m. l.sig ≢ m.sig) literals

-- an instance over the signals of the graph, of one to three pins, with pins on distinct signals
pub record IsDivisor (c : CodedGraph) (library : Library) (pins : List Literal) (i : Instance)
    : Type 0 where
  pub over : IsOver c library i
  pub some : 1 ≤ length i.literals
  pub few : length i.literals ≤ max_divisor_pins
  pub chosen : AreChosen pins i.literals

abbrev pub PinsAreUnique : Type 0
PinsAreUnique = (c : CodedGraph) (z : ℕ) (xs ys : List Literal)
    → ArePins c z xs → ArePins c z ys → xs ≡ ys

abbrev pub DivisorsAreUnique : Type 0
DivisorsAreUnique = (c : CodedGraph) (library : Library) (z : ℕ) (xs ys : List Instance)
    → AreDivisors c library z xs → AreDivisors c library z ys → xs ≡ ys

-- each non-input of a proper graph without conflicts has pin literals, and divisors by them
abbrev pub PinsExist : Type 0
PinsExist = (c : CodedGraph) (z : ℕ) → IsCoded c → IsProper c.graph → HasNoConflict c
    → IsNonInput c.graph.signals z → (pins : List Literal) × ArePins c z pins

abbrev pub DivisorsExist : Type 0
DivisorsExist = (c : CodedGraph) (library : Library) (z : ℕ) → IsCoded c → IsProper c.graph
    → HasNoConflict c → IsNonInput c.graph.signals z
    → (divisors : List Instance) × AreDivisors c library z divisors

-- the lists of n pins on distinct signals, as they are chosen, are all there are
abbrev pub ChoicesAreAll : Type 0
ChoicesAreAll = (n : ℕ) (pins literals : List Literal)
    → Contains (filter are_apart (lists_of n pins)) literals
    ↔ ((length literals ≡ n) × AreChosen pins literals)

-- each divisor is an instance over the graph's signals, by pin literals on distinct signals
abbrev pub DivisorsAreInstances : Type 0
DivisorsAreInstances = (c : CodedGraph) (library : Library) (z : ℕ) (divisors : List Instance)
    → IsCoded c → (d : AreDivisors c library z divisors)
    → All (IsDivisor c library d.pins) divisors

-- where they weren't cut, all such instances are divisors
abbrev pub DivisorsAreAll : Type 0
DivisorsAreAll = (c : CodedGraph) (library : Library) (z : ℕ) (divisors : List Instance)
    (i : Instance) → IsCoded c → (d : AreDivisors c library z divisors)
    → length divisors < max_divisors → IsDivisor c library d.pins i → Contains divisors i

-- there are no more than that
abbrev pub DivisorsAreFew : Type 0
DivisorsAreFew = (c : CodedGraph) (library : Library) (z : ℕ) (divisors : List Instance)
    → AreDivisors c library z divisors → length divisors ≤ max_divisors
