-- (field) Pin literals of a signal, and its divisors.
use Rattle.std.specs.Prelude.{◌≡◌, ◌⊎◌, ◌↔◌, ℕ, ◌<◌, ◌==◌, ◌&&◌, not, Bool, true, List, [], ◌∷◌}
use Rattle.std.specs.Prelude.{length, filter, take, nat_le, IsTrue, Contains}
use Rattle.std.specs.List.{list_all}
use Rattle.si_base.specs.Bits.{bit}
use Rattle.si_base.specs.Codes.{CodedGraph}
use Rattle.si_base.specs.declared.ids.Literal.{Literal}
use Rattle.si_regions.specs.declared.regions.Region.{Region}
use Rattle.si_regions.specs.Regions.{IsRegion}
use Rattle.si_cell.specs.Library.{Library, Instance}
use Rattle.si_cell.specs.Literals.{has_literal}
use Rattle.si_match.specs.Fit.{literals_of_signals, instances}
use Rattle.si_match.specs.Support.{support_of}
use Rattle.si_cover.specs.Mono.{IsLeastMono}

-- ---- pin literals

-- the least monotonous cube of a component of the states that enable an event of z
pub record IsCubeOf (c : CodedGraph) (z : ℕ) (cube : List Literal) : Type 0 where
  pub region : Region
  pub is_region : IsRegion c region
  pub event : region.event.sig ≡ z
  pub least : IsLeastMono c region.er region.qr cube

-- its signal is in the support of z, or it is a literal of such a cube
abbrev pub IsPin : CodedGraph → ℕ → Literal → Type 0
IsPin c z l =
    IsTrue (bit (support_of c z) l.sig)
    ⊎ ((cube : List Literal) × IsCubeOf c z cube × Contains cube l)

-- the pin literals of z, each once, in literal order
pub record ArePins (c : CodedGraph) (z : ℕ) (pins : List Literal) : Type 0 where
  pub in_order : pins ≡ filter (has_literal pins) (literals_of_signals (length c.graph.signals))
  pub exactly : (l : Literal) → l.sig < length c.graph.signals → Contains pins l ↔ IsPin c z l

-- ---- divisors

-- the most pins of a divisor's cell
abbrev pub max_divisor_pins : ℕ
max_divisor_pins = 3

-- the most divisors of a signal
abbrev pub max_divisors : ℕ
max_divisors = 65536

-- one pin at least, and no more than that
abbrev pub has_few_pins : ℕ → Bool
has_few_pins pins = nat_le 1 pins && nat_le pins max_divisor_pins

-- no two of the literals are of one signal
abbrev pub are_apart : List Literal → Bool
are_apart [] = true
are_apart (l ∷ ls) = list_all (λ m. not (m.sig == l.sig)) ls && are_apart ls

-- one to three pins, which have pin literals of distinct signals
abbrev pub is_divisor : List Literal → Instance → Bool
is_divisor pins i =
    has_few_pins (length i.literals) && list_all (has_literal pins) i.literals
    && are_apart i.literals

-- of the library's instances over so many signals, in their order, those by these pins, as far as
-- they are allowed
unfoldable pub divisors_of : ℕ → Library → List Literal → List Instance
divisors_of signals library pins =
    take max_divisors (filter (is_divisor pins) (instances signals library))

-- the divisors of z
pub record AreDivisors (c : CodedGraph) (library : Library) (z : ℕ) (divisors : List Instance)
    : Type 0 where
  pub pins : List Literal
  pub are_pins : ArePins c z pins
  pub are : divisors ≡ divisors_of (length c.graph.signals) library pins
