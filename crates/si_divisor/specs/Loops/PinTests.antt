-- Pin literals by the support of a signal and by cubes.
use Rattle.std.specs.Prelude.{◌≡◌, ℕ, ◌||◌, Bool, List, filter, Contains}
use Rattle.std.specs.List.{list_any}
use Rattle.si_base.specs.Bits.{bit}
use Rattle.si_base.specs.Codes.{CodedGraph}
use Rattle.si_base.specs.declared.ids.Literal.{Literal}
use Rattle.si_regions.specs.declared.regions.Region.{Region}
use Rattle.si_cell.specs.Literals.{has_literal}
use Rattle.si_cover.specs.Mono.{IsLeastMono}
use Rattle.si_match.specs.Fit.{literals_of_signals}
use Rattle.si_divisor.specs.Divisors.{IsCubeOf}

-- its signal is in the support, or one of the cubes has it
abbrev pub is_pin : ℕ → List (List Literal) → Literal → Bool
is_pin support cubes l = bit support l.sig || list_any (λ cube. has_literal cube l) cubes

-- of so many signals the literals that are pins, in literal order
abbrev pub pin_literals : ℕ → ℕ → List (List Literal) → List Literal
pin_literals signals support cubes = filter (is_pin support cubes) (literals_of_signals signals)

-- least monotonous cubes of components of events of z, with the literals of all such cubes
pub record AreCubesOf (c : CodedGraph) (z : ℕ) (cubes : List (List Literal)) : Type 0 where
  pub each : (cube : List Literal) → Contains cubes cube → IsCubeOf c z cube
  pub all : (cube : List Literal) → IsCubeOf c z cube
      → (other : List Literal) × Contains cubes other
      × ((l : Literal) → Contains cube l → Contains other l)

-- the same for these regions alone
pub record AreCubesFor (c : CodedGraph) (z : ℕ) (regions : List Region)
    (cubes : List (List Literal)) : Type 0 where
  pub each : (cube : List Literal) → Contains cubes cube → IsCubeOf c z cube
  pub all : (r : Region) → Contains regions r → r.event.sig ≡ z
      → (cube : List Literal) → IsLeastMono c r.er r.qr cube
      → (other : List Literal) × Contains cubes other × IsLeastMono c r.er r.qr other
