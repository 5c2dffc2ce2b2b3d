-- (field) Diamonds: two events that leave a state, and the one after the other.
use Rattle.std.specs.Prelude.{◌≢◌, ℕ}
use Rattle.si_base.specs.declared.ids.Event.{Event}
use Rattle.si_base.specs.Graph.{StateGraph, Step, IsNonInput}

-- s leads by lost to t and by another event to u, and u by lost to w, lost being no input's
pub record Diamond (g : StateGraph) (s : ℕ) (lost by : Event) (t u w : ℕ) : Type 0 where
  pub non_input : IsNonInput g.signals lost.sig
  pub apart : lost ≢ by
  pub first : Step g s lost t
  pub other : Step g s by u
  pub next : Step g u lost w
