-- (text) The text of the regions of a graph.
use Rattle.std.specs.Prelude.{◌≡◌, ℕ, ◌+◌, ◌<◌, ◌-◌, List, [], ◌∷◌, ◌++◌, length, All, map}
use Rattle.std.specs.Prelude.{count_by, codes, decimal, slice_index_or}
use Rattle.si_base.specs.declared.graph.Signal.{Signal}
use Rattle.si_base.specs.declared.ids.Event.{Event}
use Rattle.si_base.specs.Codes.{CodedGraph}
use Rattle.si_base.specs.Graph.{same_event}
use Rattle.si_base.specs.Words.{text_of}
use Rattle.si_regions.specs.declared.regions.Region.{Region}
use Rattle.si_regions.specs.Regions.{AreRegions}
use Rattle.si_sg.specs.CanonicalText.{state_at, event_word}

-- a set of states: what it is, its event, the number of its component, and its states
abbrev pub set_line : List ℕ → List Signal → List (List ℕ) → Event → List ℕ → List ℕ
    → List (List ℕ)
set_line kind signals states e number set =
    kind ∷ event_word signals e ∷ number ∷ map (state_at states) set

-- a region: its excitation, switching and quiescent region
abbrev pub region_lines : List Signal → List (List ℕ) → ℕ → Region → List (List (List ℕ))
region_lines signals states number r = set_line (codes "er") signals states r.event (decimal number)
    r.er
    ∷ set_line (codes "sr") signals states r.event (decimal number) r.sr
    ∷ set_line (codes "qr") signals states r.event (decimal number) r.qr ∷ []

-- the components of an event are counted from 1
abbrev pub number_after : List Region → Region → ℕ
number_after earlier r = count_by (λ x. same_event x.event r.event) earlier + 1

-- regions, one after another, behind others
abbrev pub lines_after : List Signal → List (List ℕ) → List Region → List Region
    → List (List (List ℕ))
lines_after signals states earlier [] = []
lines_after signals states earlier (r ∷ rs) =
    region_lines signals states (number_after earlier r) r
    ++ lines_after signals states (earlier ++ r ∷ []) rs

unfoldable pub regions_text : List Signal → List (List ℕ) → List Region → List ℕ
regions_text signals states regions = text_of (lines_after signals states [] regions)

-- the text of all regions of c, with these names of its states
pub record IsRegionText (c : CodedGraph) (states : List (List ℕ)) (text : List ℕ) : Type 0 where
  pub regions : List Region
  pub are : AreRegions c regions
  pub text_is : text ≡ regions_text c.graph.signals states regions

-- each state of the region has a name
pub record IsWithinNames (states : List (List ℕ)) (r : Region) : Type 0 where
  pub excited : All (λ s. s < length states) r.er
  pub switched : All (λ s. s < length states) r.sr
  pub quiescent : All (λ s. s < length states) r.qr

-- the k-th region has the event of the one before it
pub record RepeatsEvent (regions : List Region) (k : ℕ) : Type 0 where
  pub later : 0 < k
  pub same : (d : Region) → (slice_index_or regions (k - 1) d).event ≡
      (slice_index_or regions k d).event
