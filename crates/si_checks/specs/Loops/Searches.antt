-- What the parts of a search for the first breach answer.
use Rattle.std.specs.Prelude.{◌≡◌, ◌≢◌, ℕ, ◌<◌, ◌≤◌, true, false, List, Option, Some, None}
use Rattle.si_base.specs.declared.ids.Event.{Event}
use Rattle.si_base.specs.Order.{IsFirst}
use Rattle.si_base.specs.Graph.{StateGraph, Step, enables, IsNonInput}
use Rattle.si_base.specs.Proper.{Fork, Forks, fork_place, Loss, Loses, loss_place, IsCommutative}
use Rattle.si_base.specs.Proper.{IsPersistent}
use Rattle.si_checks.specs.declared.breaches.Breach.{Breach}
use Rattle.si_checks.specs.declared.breaches.Breach.TheVariants.{Fork as AsFork, Loss as AsLoss}

-- the first that has P, in the order of places, or None where nothing has P
abbrev pub IsFirstOrNone : {A : Type 0} → (A → List ℕ) → (A → Type 0) → Option A → Type 0
IsFirstOrNone place P None = (x : _) → P x → ⊥
IsFirstOrNone place P (Some x) = IsFirst place P x

-- one that has P, or None where nothing has P
abbrev pub IsOneOrNone : {A : Type 0} → (A → Type 0) → Option A → Type 0
IsOneOrNone P None = (x : _) → P x → ⊥
IsOneOrNone P (Some x) = P x

-- t leads by c, and u by a, to two different states
pub record EndsApart (g : StateGraph) (t : ℕ) (c : Event) (u : ℕ) (a : Event)
    (ends : ℕ × ℕ) : Type 0 where
  pub one : Step g t c ends.0
  pub other : Step g u a ends.1
  pub apart : ends.0 ≢ ends.1

-- of what has P, each at a state: what is at s
pub record IsAt {A : Type 0} (state : A → ℕ) (P : A → Type 0) (s : ℕ) (b : A) : Type 0 where
  pub holds : P b
  pub at : state b ≡ s

-- and what has the event e too
pub record IsBy {A : Type 0} (state : A → ℕ) (event : A → Event) (P : A → Type 0) (s : ℕ)
    (e : Event) (b : A) : Type 0 where
  pub holds : P b
  pub at : state b ≡ s
  pub by : event b ≡ e

-- what is at one of the first n states
pub record IsBelow {A : Type 0} (state : A → ℕ) (P : A → Type 0) (n : ℕ) (b : A) : Type 0 where
  pub holds : P b
  pub below : state b < n

-- a fork at s, and one the earlier event of which is a
abbrev pub ForksAt : StateGraph → ℕ → Fork → Type 0
ForksAt g s b = IsAt (λ x. x.s) (Forks g) s b

abbrev pub ForksBy : StateGraph → ℕ → Event → Fork → Type 0
ForksBy g s a b = IsBy (λ x. x.s) (λ x. x.a) (Forks g) s a b

-- a loss at s, one of the event lost, and one at one of the first n states
abbrev pub LosesAt : StateGraph → ℕ → Loss → Type 0
LosesAt g s b = IsAt (λ x. x.s) (Loses g) s b

abbrev pub LosesOf : StateGraph → ℕ → Event → Loss → Type 0
LosesOf g s lost b = IsBy (λ x. x.s) (λ x. x.lost) (Loses g) s lost b

abbrev pub LosesBelow : StateGraph → ℕ → Loss → Type 0
LosesBelow g n b = IsBelow (λ x. x.s) (Loses g) n b

-- the first fork, or where there is none the first loss, or None where there is neither
abbrev pub IsFirstBreach : StateGraph → Option Breach → Type 0
IsFirstBreach g None = IsCommutative g × IsPersistent g
IsFirstBreach g (Some (AsFork b)) = IsFirst fork_place (Forks g) b
IsFirstBreach g (Some (AsLoss b)) = IsCommutative g × IsFirst loss_place (Loses g) b

-- p enables a non-input event that q doesn't
pub record EnablesMore (g : StateGraph) (p q : ℕ) : Type 0 where
  pub event : Event
  pub non_input : IsNonInput g.signals event.sig
  pub here : enables g p event ≡ true
  pub not_there : enables g q event ≡ false

-- p and q enable different non-input events
pub record Differ (g : StateGraph) (p q : ℕ) : Type 0 where
  pub event : Event
  pub non_input : IsNonInput g.signals event.sig
  pub differ : enables g p event ≢ enables g q event

-- of a pair that may have been found and another the one that starts earlier, the found one where
-- both start at one state
abbrev pub Keeps : Option (ℕ × ℕ) → ℕ × ℕ → ℕ × ℕ → Type 0
Keeps None pair r = r ≡ pair
Keeps (Some best) pair r = (best.0 ≤ pair.0 → r ≡ best) × (pair.0 < best.0 → r ≡ pair)
