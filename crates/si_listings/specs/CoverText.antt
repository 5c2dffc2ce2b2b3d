-- (text) The text of the covers and the monotonous cubes of a graph.
use Rattle.std.specs.Prelude.{◌≡◌, ℕ, ◌+◌, ◌==◌, ◌⊎◌, List, [], ◌∷◌, ◌++◌, map, Contains, codes}
use Rattle.std.specs.Prelude.{decimal, if◌then◌else◌}
use Rattle.si_base.specs.declared.graph.Signal.{Signal}
use Rattle.si_base.specs.declared.ids.Literal.{Literal}
use Rattle.si_base.specs.Codes.{CodedGraph}
use Rattle.si_base.specs.Graph.{is_driven}
use Rattle.si_base.specs.Netlist.{Sum}
use Rattle.si_base.specs.NetlistText.{name_of, cube_words, sum_words}
use Rattle.si_base.specs.Order.{IsFirst}
use Rattle.si_base.specs.Proper.{HasNoConflict, IsConflict, pair_place}
use Rattle.si_base.specs.Words.{line, text_of}
use Rattle.si_cube.specs.Literals.{InSignalOrder}
use Rattle.si_regions.specs.declared.regions.Region.{Region}
use Rattle.si_regions.specs.Regions.{AreRegions}
use Rattle.si_cover.specs.declared.kind.SumKind.TheVariants.{Next, Set, Reset}
use Rattle.si_cover.specs.Mono.{IsLeastMono, ShowsNoMono}
use Rattle.si_cover.specs.Demands.{chosen_sum}
use Rattle.si_listings.specs.ConflictText.{pair_line}
use Rattle.si_listings.specs.RegionText.{number_after}
use Rattle.si_sg.specs.CanonicalText.{state_at, event_word}

-- the cube of a region: its least monotonous one, or a state that shows that it has none
pub data RegionCube : Type 0 where
  LeastCube : List Literal → RegionCube
  NoCube : (state : ℕ) → RegionCube

-- this is told of the region; the literals of its cube stand in signal order
abbrev pub IsRegionCube : CodedGraph → Region → RegionCube → Type 0
IsRegionCube c r (LeastCube cube) = IsLeastMono c r.er r.qr cube × InSignalOrder cube
IsRegionCube c r (NoCube state) = ShowsNoMono c r.er r.qr state

-- a region with what is told of it
pub record Component : Type 0 where
  pub region : Region
  pub told : RegionCube

abbrev pub regions_of : List Component → List Region
regions_of xs = map (λ x. x.region) xs

-- all regions of c, in order, each with what is told of it
pub record AreComponents (c : CodedGraph) (xs : List Component) : Type 0 where
  pub regions : AreRegions c (regions_of xs)
  pub told : (x : Component) → Contains xs x → IsRegionCube c x.region x.told

-- ---- the lines
-- a sum: what it is for, its signal, and its words
abbrev pub sum_line : List Signal → List ℕ → ℕ → Sum → List (List ℕ)
sum_line signals word z sum = word ∷ name_of signals z ∷ sum_words signals sum

abbrev pub region_cube_words : List Signal → List (List ℕ) → RegionCube → List (List ℕ)
region_cube_words signals states (LeastCube cube) = cube_words signals cube
region_cube_words signals states (NoCube state) = codes "none" ∷ state_at states state ∷ []

-- a region: its event, the number of its component, and what is told of it
abbrev pub mono_line : List Signal → List (List ℕ) → ℕ → Region → RegionCube → List (List ℕ)
mono_line signals states number r told =
    codes "mono" ∷ event_word signals r.event ∷ decimal number
    ∷ region_cube_words signals states told

-- the line of a region of z, and none of another
abbrev pub mono_lines : List Signal → List (List ℕ) → ℕ → ℕ → Region → RegionCube
    → List (List (List ℕ))
mono_lines signals states z number r told =
    if r.event.sig == z then mono_line signals states number r told ∷ [] else []

-- the regions of z among these, one after another, behind others
abbrev pub monos_after : List Signal → List (List ℕ) → ℕ → List Component → List Component
    → List (List (List ℕ))
monos_after signals states z earlier [] = []
monos_after signals states z earlier (x ∷ xs) =
    mono_lines signals states z (number_after (regions_of earlier) x.region) x.region x.told
    ++ monos_after signals states z (earlier ++ x ∷ []) xs

-- the next-value, set and reset sum of z
abbrev pub sum_lines : CodedGraph → ℕ → List (List (List ℕ))
sum_lines c z = sum_line c.graph.signals (codes "next") z (chosen_sum Next c z)
    ∷ sum_line c.graph.signals (codes "set") z (chosen_sum Set c z)
    ∷ sum_line c.graph.signals (codes "reset") z (chosen_sum Reset c z) ∷ []

-- the sums of z, then its regions
abbrev pub signal_lines : CodedGraph → List (List ℕ) → List Component → ℕ → List (List (List ℕ))
signal_lines c states xs z = sum_lines c z ++ monos_after c.graph.signals states z [] xs

-- the non-inputs among the signals from the i-th on, one after another
abbrev pub lines_from : CodedGraph → List (List ℕ) → List Component → ℕ → List Signal
    → List (List (List ℕ))
lines_from c states xs i [] = []
lines_from c states xs i (signal ∷ signals) =
    (if is_driven signal.kind then signal_lines c states xs i else [])
    ++ lines_from c states xs (i + 1) signals

-- ---- the text
unfoldable pub covers_text : CodedGraph → List (List ℕ) → List Component → List ℕ
covers_text c states xs = text_of (lines_from c states xs 0 c.graph.signals)

-- a conflict
abbrev pub conflict_text : List (List ℕ) → ℕ × ℕ → List ℕ
conflict_text states pair = line (codes "conflict" ∷ pair_line states pair)

-- the text of the first conflict of c
pub record TellsConflict (c : CodedGraph) (states : List (List ℕ)) (text : List ℕ) : Type 0 where
  pub pair : ℕ × ℕ
  pub first : IsFirst pair_place (IsConflict c) pair
  pub text_is : text ≡ conflict_text states pair

-- c has no conflict, and it is the text of its covers and monotonous cubes
pub record TellsCovers (c : CodedGraph) (states : List (List ℕ)) (text : List ℕ) : Type 0 where
  pub distinct : HasNoConflict c
  pub components : List Component
  pub are : AreComponents c components
  pub text_is : text ≡ covers_text c states components

-- with these names of its states
abbrev pub IsCoverText : CodedGraph → List (List ℕ) → List ℕ → Type 0
IsCoverText c states text = TellsConflict c states text ⊎ TellsCovers c states text
