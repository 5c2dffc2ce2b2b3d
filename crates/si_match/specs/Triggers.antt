-- (field) The trigger signals of a signal (the book): those whose switching changes its next value,
-- so that each of its gates has to read them.
use Rattle.std.specs.Prelude.{◌≡◌, ◌≢◌, ℕ, ◌<◌, true, false, List, All, length}
use Rattle.si_base.specs.Bits.{bit}
use Rattle.si_base.specs.Codes.{CodedGraph, next_value}
use Rattle.si_base.specs.Graph.{Step}
use Rattle.si_base.specs.declared.ids.Event.{Event}
use Rattle.si_base.specs.declared.ids.Literal.{Literal}
use Rattle.si_cell.specs.Library.{Cell}
use Rattle.si_match.specs.Fit.{fits}

-- an arc of another signal i leads between states with different next values of z
pub record IsTrigger (c : CodedGraph) (z i : ℕ) : Type 0 where
  pub from : ℕ
  pub event : Event
  pub to : ℕ
  pub step : Step c.graph from event to
  pub signal : event.sig ≡ i
  pub other : i ≢ z
  pub changes : next_value c to z ≢ next_value c from z

-- no literal is of signal i
abbrev pub IsUnread : ℕ → List Literal → Type 0
IsUnread i literals = All (λ l. l.sig ≢ i) literals

-- the set has only triggers of z
abbrev pub AreTriggers : CodedGraph → ℕ → ℕ → Type 0
AreTriggers c z signals = (i : ℕ) → bit signals i ≡ true → IsTrigger c z i

-- the cell fits z by no literals of the graph's signals of which none is of signal i
abbrev pub IsNeeded : CodedGraph → ℕ → Cell → ℕ → Type 0
IsNeeded c z cell i =
    (literals : List Literal) → length literals ≡ length cell.pins
    → All (λ l. l.sig < length c.graph.signals) literals → IsUnread i literals
    → fits c z cell literals ≡ false

-- the set has only signals that the cell needs and that no literal reads
abbrev pub AreMissing : CodedGraph → ℕ → Cell → List Literal → ℕ → Type 0
AreMissing c z cell literals missing = (i : ℕ) → bit missing i ≡ true
    → IsNeeded c z cell i × IsUnread i literals
