-- What stands at a place of a list of divisors.
use Rattle.std.proofs.Common.{◌≡◌, ℕ, ◌<◌, List, All, length, slice_get, Some, sym, subst, ◌∙◌}
use Rattle.std.proofs.lemmas.Option.{slice_get_within}
use Rattle.si_base.specs.Codes.{CodedGraph, IsCoded}
use Rattle.si_cell.specs.Library.{Library, Instance, IsInstance}
use Rattle.si_divisor.specs.Divisors.{AreDivisors}
use Rattle.si_divisor.proofs.DivisorChoices.{are_instances}
use Rattle.si_divisor.proofs.DivisorsExist.{one_divisors}
use Rattle.si_map.specs.Best.{IsDivisorAt}

-- the divisors are instances of the library
pub all_instances : (c : CodedGraph) (library : Library) (z : ℕ) (divisors : List Instance) → IsCoded c
    → AreDivisors c library z divisors → All (λ i. IsInstance library i) divisors
all_instances c library z divisors coded are place divisor within =
    (are_instances c library z divisors coded are place divisor within).over.instance

pub same_list : (c : CodedGraph) (library : Library) (z place : ℕ) (divisor : Instance) (divisors : List Instance)
    → AreDivisors c library z divisors → IsDivisorAt c library z place divisor
    → slice_get divisors place ≡ Some divisor
same_list c library z place divisor divisors are at =
    subst (λ (xs : List Instance). slice_get xs place ≡ Some divisor)
    (one_divisors c library z at.divisors divisors at.are are) at.there

pub one_divisor : (c : CodedGraph) (library : Library) (z place : ℕ) (x y : Instance)
    → IsDivisorAt c library z place x → IsDivisorAt c library z place y → x ≡ y
one_divisor c library z place x y a b =
    let there = same_list c library z place x b.divisors b.are a in
    let other = b.there in
    let both : Some x ≡ Some y = sym there ∙ other in
    cc

-- a divisor stands within the list
pub place_within : (c : CodedGraph) (library : Library) (z place : ℕ) (divisor : Instance) (divisors : List Instance)
    → AreDivisors c library z divisors → IsDivisorAt c library z place divisor → place < length divisors
place_within c library z place divisor divisors are at =
    slice_get_within divisors place divisor (same_list c library z place divisor divisors are at)
