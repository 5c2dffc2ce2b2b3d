-- How codes change on the way from the start, and how far that has been followed.
use Rattle.std.specs.Prelude.{◌≡◌, ℕ, ◌+◌, ◌*◌, ◌<◌, ◌⊎◌, Bool, List, length, Contains, slice_index}
use Rattle.si_base.specs.declared.ids.Event.{Event}
use Rattle.si_base.specs.Codes.{parity}
use Rattle.si_base.specs.Graph.{StateGraph, Step, Walk}
use Rattle.si_base.specs.Sets.{IsIn}
use Rattle.si_graph.specs.Loops.Reach.{unmarked}

-- some walk from the start to s changes the code so
pub record IsChange (g : StateGraph) (s change : ℕ) : Type 0 where
  pub events : List Event
  pub walk : Walk g g.start events s
  pub change_is : change ≡ parity events

-- for each state such a change
pub record AreChanges (g : StateGraph) (changes : List ℕ) : Type 0 where
  pub count : length changes ≡ g.states
  pub changes_are : (s : ℕ) → s < g.states → IsChange g s (slice_index changes s)

-- s leads only to states that were reached
abbrev pub LeadsInto : StateGraph → ℕ → List Bool → Type 0
LeadsInto g s reached = (e : Event) (t : ℕ) → Step g s e t → IsIn reached t

-- the changes of the states that were reached; those whose arcs weren't followed yet are waiting
pub record AreSpread (g : StateGraph) (reached : List Bool)
    (changes waiting : List ℕ) : Type 0 where
  pub size : length reached ≡ g.states
  pub count : length changes ≡ g.states
  pub begun : IsIn reached g.start
  pub changes_are : (s : ℕ) → IsIn reached s → IsChange g s (slice_index changes s)
  pub waiting_reached : (s : ℕ) → Contains waiting s → IsIn reached s
  pub followed : (s : ℕ) → IsIn reached s → Contains waiting s ⊎ LeadsInto g s reached

-- how much is left to do: each state that wasn't reached is reached and followed, each that waits
-- is followed
abbrev pub left_to_do : List Bool → List ℕ → ℕ
left_to_do reached waiting = 2 * unmarked reached + length waiting
