-- (field) Intervals: what can happen from some states on before an event.
use Rattle.std.specs.Prelude.{◌≡◌, ◌≢◌, ℕ, Bool, List, [], ◌∷◌, length}
use Rattle.si_base.specs.declared.ids.Event.{Event}
use Rattle.si_base.specs.Graph.{StateGraph, Step}
use Rattle.si_base.specs.Sets.{IsIn}

-- the events, one step after another and none of them `stop`, lead from s to t
abbrev pub WalkWithout : StateGraph → Event → ℕ → List Event → ℕ → Type 0
WalkWithout g stop s [] t = s ≡ t
WalkWithout g stop s (e ∷ es) t =
    (u : ℕ) × (e ≢ stop) × Step g s e u × WalkWithout g stop u es t

-- a walk without `stop` leads from the set to t
pub record IsReachedBefore (g : StateGraph) (stop : Event) (from : List Bool) (t : ℕ)
    : Type 0 where
  pub begin : ℕ
  pub there : IsIn from begin
  pub events : List Event
  pub walk : WalkWithout g stop begin events t

-- the least set that has the states of `from` and, with each of its states, those to which it leads
-- by another event than `stop`: a walk leads to each of its states, so that each such set has them
pub record IsInterval (g : StateGraph) (from : List Bool) (stop : Event) (set : List Bool)
    : Type 0 where
  pub size : length set ≡ g.states
  pub has : (s : ℕ) → IsIn from s → IsIn set s
  pub closed : (s : ℕ) (e : Event) (t : ℕ) → IsIn set s → Step g s e t → e ≢ stop → IsIn set t
  pub reached : (t : ℕ) → IsIn set t → IsReachedBefore g stop from t
