-- The first breach of each kind is one, and a breach shows that its property fails.
use Rattle.std.proofs.Common.{◌≡◌, ℕ, refl, subst, ◌∙◌, arith, inl, inr}
use Rattle.std.proofs.lemmas.Bool.{cases_order}
use Rattle.si_base.specs.declared.ids.Event.{Event}
use Rattle.si_base.specs.Order.{IsFirst}
use Rattle.si_base.specs.Graph.{StateGraph, Step, event_place}
use Rattle.si_base.specs.Codes.{CodedGraph, IsConsistent, IsDeterministic}
use Rattle.si_base.specs.Proper.{IsCommutative, IsPersistent, IsConflict, pair_place, Split, Splits, split_place, Fork}
use Rattle.si_base.specs.Proper.{Forks, fork_place, Loss, Loses, loss_place, IsFirstWithoutValues}
use Rattle.si_graph.proofs.OrderLemmas.{event_from_place}
use Rattle.si_checks.proofs.SearchFirst.{firsts_at_one_place}

-- ---- the first is one
pub one_split : (g : StateGraph) (a b : Split) → IsFirst split_place (Splits g) a → IsFirst split_place (Splits g) b
    → a ≡ b
one_split g a b is also =
    let place : split_place a ≡ split_place b = firsts_at_one_place split_place (Splits g) a b refl is also in
    let state : a.s ≡ b.s = cc in
    let places : event_place a.e ≡ event_place b.e = cc in
    let event : a.e ≡ b.e = event_from_place a.e b.e places in
    let one : a.t ≡ b.t = cc in
    let other : a.u ≡ b.u = cc in
    λ i. record { s = state i; e = event i; t = one i; u = other i }

pub one_without_values : (g : StateGraph) (a b : ℕ) → IsFirstWithoutValues g a → IsFirstWithoutValues g b → a ≡ b
one_without_values g a b is also = elim (cases_order a b) [
  | inl same ↦ same
  | inr (inl less) ↦ absurd (is.none (also.before a less))
  | inr (inr more) ↦ absurd (also.none (is.before b more))
]

-- in a deterministic graph the two orders of two events have one end each
one_end : (g : StateGraph) (s : ℕ) (a c : Event) (w v : ℕ) → IsDeterministic g
    → (t : ℕ) × Step g s a t × Step g t c w → (t : ℕ) × Step g s a t × Step g t c v → w ≡ v
one_end g s a c w v deterministic (t, first, then_w) (u, also, then_v) =
    let middle : u ≡ t = deterministic s a u t also first in
    deterministic t c w v then_w (subst (λ (n : ℕ). Step g n c v) middle then_v)

pub one_fork : (g : StateGraph) (a b : Fork) → IsDeterministic g → IsFirst fork_place (Forks g) a
    → IsFirst fork_place (Forks g) b → a ≡ b
one_fork g a b deterministic is also =
    let place : fork_place a ≡ fork_place b = firsts_at_one_place fork_place (Forks g) a b refl is also in
    let state : a.s ≡ b.s = cc in
    let earlier : event_place a.a ≡ event_place b.a = cc in
    let later : event_place a.c ≡ event_place b.c = cc in
    let one : a.a ≡ b.a = event_from_place a.a b.a earlier in
    let other : a.c ≡ b.c = event_from_place a.c b.c later in
    let moved : Fork = record { s = b.s; a = b.a; c = b.c; w = a.w; w2 = a.w2 } in
    let same : a ≡ moved = λ i. record { s = state i; a = one i; c = other i; w = a.w; w2 = a.w2 } in
    let there : Forks g moved = subst (Forks g) same is.holds in
    let first_end : a.w ≡ b.w = one_end g b.s b.a b.c a.w b.w deterministic there.one also.holds.one in
    let second_end : a.w2 ≡ b.w2 = one_end g b.s b.c b.a a.w2 b.w2 deterministic there.other also.holds.other in
    same ∙ (λ i. record { s = b.s; a = b.a; c = b.c; w = first_end i; w2 = second_end i })

pub one_loss : (g : StateGraph) (a b : Loss) → IsFirst loss_place (Loses g) a → IsFirst loss_place (Loses g) b → a ≡ b
one_loss g a b is also =
    let place : loss_place a ≡ loss_place b = firsts_at_one_place loss_place (Loses g) a b refl is also in
    let state : a.s ≡ b.s = cc in
    let lost : event_place a.lost ≡ event_place b.lost = cc in
    let by : event_place a.by ≡ event_place b.by = cc in
    let same_lost : a.lost ≡ b.lost = event_from_place a.lost b.lost lost in
    let same_by : a.by ≡ b.by = event_from_place a.by b.by by in
    λ i. record { s = state i; lost = same_lost i; by = same_by i }

pub one_conflict : (c : CodedGraph) (a b : ℕ × ℕ) → IsFirst pair_place (IsConflict c) a
    → IsFirst pair_place (IsConflict c) b → a ≡ b
one_conflict c a b is also =
    let place : pair_place a ≡ pair_place b = firsts_at_one_place pair_place (IsConflict c) a b refl is also in
    let first : a.0 ≡ b.0 = cc in
    let second : a.1 ≡ b.1 = cc in
    λ i. (first i, second i)

-- ---- what a breach shows
pub split_breaches : (g : StateGraph) (b : Split) → Splits g b → IsDeterministic g → ⊥
split_breaches g b is deterministic =
    (let same : b.t ≡ b.u = deterministic b.s b.e b.t b.u is.one is.other in absurd (omega (arith, is.apart)))

pub no_values_breach : (g : StateGraph) (a : ℕ) → IsFirstWithoutValues g a → IsConsistent g → ⊥
no_values_breach g a is consistent = is.none (consistent a is.within)

pub fork_breaches : (g : StateGraph) (b : Fork) → Forks g b → IsCommutative g → ⊥
fork_breaches g b is commutative =
    let one = is.one in
    let other = is.other in
    is.apart (commutative b.s b.a b.c one.0 b.w other.0 b.w2 one.1 one.2 other.1 other.2)

pub loss_breaches : (g : StateGraph) (b : Loss) → Loses g b → IsPersistent g → ⊥
loss_breaches g b is persistent =
    let after = is.after in after.2 (persistent b.s b.lost b.by after.0 is.non_input is.enabled after.1 is.by_another)
