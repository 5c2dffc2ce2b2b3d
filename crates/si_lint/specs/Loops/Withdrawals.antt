-- Events that another event disables, as they are found.
use Rattle.std.specs.Prelude.{◌≡◌, ◌≢◌, ℕ, IsTrue}
use Rattle.si_base.specs.declared.ids.Event.{Event}
use Rattle.si_base.specs.declared.graph.Edge.{Edge}
use Rattle.si_base.specs.Graph.{StateGraph, Step, enables, IsNonInput}
use Rattle.si_base.specs.Proper.{Loss}
use Rattle.si_insert.specs.Accepted.{IsInput}
use Rattle.si_lint.specs.declared.withdrawals.Kind.{Kind}
use Rattle.si_lint.specs.declared.withdrawals.Kind.TheVariants.{Choice, Disabling}

-- the event is one of those that are lost
abbrev pub IsLostOf : StateGraph → Kind → Event → Type 0
IsLostOf g Choice e = IsInput g.signals e.sig
IsLostOf g Disabling e = IsInput g.signals e.sig

-- or of those by which they are
abbrev pub IsBy : StateGraph → Kind → Event → Type 0
IsBy g Choice e = IsNonInput g.signals e.sig → ⊥
IsBy g Disabling e = IsNonInput g.signals e.sig

-- such an event is lost by such another
pub record WithdrawsBy (g : StateGraph) (kind : Kind) (b : Loss) : Type 0 where
  pub lost : IsLostOf g kind b.lost
  pub enabled : IsTrue (enables g b.s b.lost)
  pub by_another : b.lost ≢ b.by
  pub after : (t : ℕ) × Step g b.s b.by t × (IsTrue (enables g t b.lost) → ⊥)
  pub is_by : IsBy g kind b.by

-- at s
abbrev pub WithdrawsAt : StateGraph → Kind → ℕ → Loss → Type 0
WithdrawsAt g kind s b = WithdrawsBy g kind b × (b.s ≡ s)

-- and the event `lost`
abbrev pub WithdrawsOf : StateGraph → Kind → ℕ → Event → Loss → Type 0
WithdrawsOf g kind s lost b = WithdrawsAt g kind s b × (b.lost ≡ lost)

-- another event than `lost`, and such a one, leads to t, where `lost` isn't enabled
pub record Disables (g : StateGraph) (kind : Kind) (lost e : Event) (t : ℕ) : Type 0 where
  pub another : lost ≢ e
  pub is_by : IsBy g kind e
  pub gone : IsTrue (enables g t lost) → ⊥

-- the loss of these parts
abbrev pub loss_of : ℕ → Event → Event → Loss
loss_of s lost by = record { s = s; lost = lost; by = by }

-- the arc is by the event that is disabled, or by the one that disables it
abbrev pub IsOfLost : Edge → Loss → Type 0
IsOfLost a b = a.event ≡ b.lost

abbrev pub IsOfCause : Edge → Loss → Type 0
IsOfCause a b = a.event ≡ b.by
