-- What a search for the best candidate keeps.
use Rattle.std.specs.Prelude.{◌≡◌, ℕ, ◌+◌, ◌<◌, ◌≤◌, Bool, count_by, List, Option, Some, None}
use Rattle.si_base.specs.Codes.{CodedGraph}
use Rattle.si_base.specs.Graph.{StateGraph}
use Rattle.si_base.specs.Limits.{max_states}
use Rattle.si_base.specs.Sets.{IsDisjoint}
use Rattle.si_insert.specs.declared.partition.Class.{Class}
use Rattle.si_insert.specs.Accepted.{IsAccepted}
use Rattle.si_insert.specs.Loops.RowSearch.{bar}
use Rattle.si_candidates.specs.Parts.{AreClasses}
use Rattle.si_conflicts.specs.Left.{LeavesConflicts}
use Rattle.si_resolve.specs.Best.{Choice, IsChoice}
use Rattle.si_resolve.specs.Loops.Counting.{AreCounts}
use Rattle.si_resolve.specs.Loops.Search.{IsBestSoFar}
use Rattle.si_resolve.specs.declared.search.Found.{Found}
use Rattle.si_resolve.specs.declared.search.Search.{Search}

-- the partition of a candidate and the number of conflicts, without the places of the blocks
abbrev pub found_of : Choice → Found
found_of x = record { accepted = x.classes; conflicts = x.conflicts }

abbrev pub best_of : Option Choice → Option Found
best_of None = None
best_of (Some x) = Some (found_of x)

-- the search has looked at the candidates before the places j and i
pub record IsSearching (c : CodedGraph) (blocks : List (List Bool)) (j i : ℕ) (search : Search)
    : Type 0 where
  pub counts : AreCounts c blocks search.counts
  pub best : Option Choice
  pub is_best : IsBestSoFar c blocks search.given j i best
  pub found : search.best ≡ best_of best

-- ---- one candidate

-- the number of conflicts that the next candidate has to get below
abbrev pub bar_of : Search → ℕ
bar_of search = bar (λ (x : Found). x.conflicts) search.given search.best

-- the blocks share no state, and the inserted graph has no more states than a graph may have
pub record MayBeAccepted (g : StateGraph) (plus minus : List Bool) : Type 0 where
  pub disjoint : IsDisjoint plus minus
  pub room : g.states + count_by (λ b. b) plus + count_by (λ b. b) minus ≤ max_states

-- whatever classes the blocks have are accepted
abbrev pub AreAccepted : StateGraph → List Bool → List Bool → Type 0
AreAccepted g plus minus = (classes : List Class) → AreClasses g plus minus classes
    → IsAccepted g classes

-- these are the classes of the blocks, and leave so many conflicts, which are fewer than the bar
pub record LeavesBelow (c : CodedGraph) (plus minus : List Bool) (bar : ℕ) (found : Found)
    : Type 0 where
  pub are : AreClasses c.graph plus minus found.accepted
  pub leaves : LeavesConflicts c found.accepted found.conflicts
  pub fewer : found.conflicts < bar

-- whatever classes the blocks have leave no fewer
abbrev pub LeavesNoneBelow : CodedGraph → List Bool → List Bool → ℕ → Type 0
LeavesNoneBelow c plus minus bar = (classes : List Class) (n : ℕ)
    → AreClasses c.graph plus minus classes → LeavesConflicts c classes n → bar ≤ n

-- an accepted candidate at these places leaves no fewer
abbrev pub NoneIsBelow : CodedGraph → List (List Bool) → ℕ → ℕ → ℕ → Type 0
NoneIsBelow c blocks i j bar = (y : Choice) → IsChoice c blocks y → y.j ≡ j → y.i ≡ i
    → bar ≤ y.conflicts
