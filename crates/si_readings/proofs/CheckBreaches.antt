-- The first breach is shown in one way, and a proper graph shows none.
use Rattle.std.proofs.Common.{◌≡◌, ℕ, List, Option, Some, ap, refl, sym, ◌∙◌}
use Rattle.si_base.specs.Codes.{IsConsistent, IsDeterministic}
use Rattle.si_base.specs.Graph.{StateGraph}
use Rattle.si_base.specs.NetlistText.{name_of}
use Rattle.si_base.specs.Order.{IsFirst}
use Rattle.si_base.specs.Proper.{IsCommutative, IsProper, IsFirstWithoutValues}
use Rattle.si_base.specs.Proper.{Split, Splits, split_place, Fork, Forks, fork_place, Loss, Loses, loss_place}
use Rattle.si_checks.proofs.UniqueBreaches.{one_split, one_without_values, one_fork, one_loss}
use Rattle.si_checks.proofs.UniqueBreaches.{split_breaches, no_values_breach, fork_breaches, loss_breaches}
use Rattle.si_checks.specs.Laws.{ProperOrBreach, AllHold, HasSplit, HasNoValues, HasFork, HasLoss}
use Rattle.si_refusals.specs.declared.breach.NamedBreach.{NamedBreach}
use Rattle.si_refusals.specs.declared.breach.NamedBreach.TheVariants.{Nondeterministic, Inconsistent}
use Rattle.si_refusals.specs.declared.breach.NamedBreach.TheVariants.{Noncommutative, Nonpersistent}
use Rattle.si_sg.specs.CanonicalText.{state_at, event_word}
use Rattle.si_readings.specs.Checks.{breach_name, ShowsFirstBreach}

module _ (g : StateGraph) (states : List (List ℕ)) where
  abbrev shown : ProperOrBreach g → Option NamedBreach
  shown found = breach_name states found

  -- ---- one first breach
  abbrev split_name : Split → Option NamedBreach
  split_name b =
      Some (Nondeterministic (state_at states b.s) (event_word g.signals b.e) (state_at states b.t)
      (state_at states b.u))

  abbrev fork_name : Fork → Option NamedBreach
  fork_name b =
      Some (Noncommutative (state_at states b.s) (event_word g.signals b.a) (event_word g.signals b.c)
      (state_at states b.w) (state_at states b.w2))

  abbrev loss_name : Loss → Option NamedBreach
  loss_name b =
      Some (Nonpersistent (state_at states b.s) (event_word g.signals b.lost) (event_word g.signals b.by))

  abbrev signal_name : ℕ → Option NamedBreach
  signal_name a = Some (Inconsistent (name_of g.signals a))

  pub one_breach : (x y : ProperOrBreach g) → shown x ≡ shown y
  one_breach (AllHold p) (AllHold q) = refl
  one_breach (AllHold p) (HasSplit b first) = absurd (split_breaches g b first.holds p.deterministic)
  one_breach (AllHold p) (HasNoValues d a first) = absurd (no_values_breach g a first p.consistent)
  one_breach (AllHold p) (HasFork d v b first) = absurd (fork_breaches g b first.holds p.commutative)
  one_breach (AllHold p) (HasLoss d v q b first) = absurd (loss_breaches g b first.holds p.persistent)
  one_breach (HasSplit b first) (AllHold p) = absurd (split_breaches g b first.holds p.deterministic)
  one_breach (HasSplit b one) (HasSplit c other) = ap split_name (one_split g b c one other)
  one_breach (HasSplit b first) (HasNoValues d a also) = absurd (split_breaches g b first.holds d)
  one_breach (HasSplit b first) (HasFork d v c also) = absurd (split_breaches g b first.holds d)
  one_breach (HasSplit b first) (HasLoss d v q c also) = absurd (split_breaches g b first.holds d)
  one_breach (HasNoValues d a first) (AllHold p) = absurd (no_values_breach g a first p.consistent)
  one_breach (HasNoValues d a first) (HasSplit b also) = absurd (split_breaches g b also.holds d)
  one_breach (HasNoValues d a one) (HasNoValues e b other) = ap signal_name (one_without_values g a b one other)
  one_breach (HasNoValues d a first) (HasFork e v b also) = absurd (no_values_breach g a first v)
  one_breach (HasNoValues d a first) (HasLoss e v q b also) = absurd (no_values_breach g a first v)
  one_breach (HasFork d v b first) (AllHold p) = absurd (fork_breaches g b first.holds p.commutative)
  one_breach (HasFork d v b first) (HasSplit c also) = absurd (split_breaches g c also.holds d)
  one_breach (HasFork d v b first) (HasNoValues e a also) = absurd (no_values_breach g a also v)
  one_breach (HasFork d v b one) (HasFork e u c other) = ap fork_name (one_fork g b c d one other)
  one_breach (HasFork d v b first) (HasLoss e u q c also) = absurd (fork_breaches g b first.holds q)
  one_breach (HasLoss d v q b first) (AllHold p) = absurd (loss_breaches g b first.holds p.persistent)
  one_breach (HasLoss d v q b first) (HasSplit c also) = absurd (split_breaches g c also.holds d)
  one_breach (HasLoss d v q b first) (HasNoValues e a also) = absurd (no_values_breach g a also v)
  one_breach (HasLoss d v q b first) (HasFork e u c also) = absurd (fork_breaches g c also.holds q)
  one_breach (HasLoss d v q b one) (HasLoss e u r c other) = ap loss_name (one_loss g b c one other)

  pub breach_improper : (name : NamedBreach) → ShowsFirstBreach g states name → IsProper g → ⊥
  breach_improper name (found, is) proper = (let same = one_breach (AllHold proper) found ∙ is in cc)

  pub one_shown : (a b : NamedBreach) → ShowsFirstBreach g states a → ShowsFirstBreach g states b → a ≡ b
  one_shown a b (one, is) (other, also) = (let same = sym is ∙ one_breach one other ∙ also in cc)

  -- ---- a breach that is shown by its names
  pub split_shown : (b : Split) (s e t u : List ℕ) → IsFirst split_place (Splits g) b → s ≡ state_at states b.s
      → e ≡ event_word g.signals b.e → t ≡ state_at states b.t → u ≡ state_at states b.u
      → ShowsFirstBreach g states (Nondeterministic s e t u)
  split_shown b s e t u first source event one other = (HasSplit b first, rw (source, event, one, other) refl)

  pub values_shown : (a : ℕ) (signal : List ℕ) → IsDeterministic g → IsFirstWithoutValues g a
      → signal ≡ name_of g.signals a → ShowsFirstBreach g states (Inconsistent signal)
  values_shown a signal deterministic first name = (HasNoValues deterministic a first, rw name refl)

  pub fork_shown : (b : Fork) (s e f w v : List ℕ) → IsDeterministic g → IsConsistent g
      → IsFirst fork_place (Forks g) b → s ≡ state_at states b.s → e ≡ event_word g.signals b.a
      → f ≡ event_word g.signals b.c → w ≡ state_at states b.w → v ≡ state_at states b.w2
      → ShowsFirstBreach g states (Noncommutative s e f w v)
  fork_shown b s e f w v deterministic consistent first source one other end end2 =
      (HasFork deterministic consistent b first, rw (source, one, other, end, end2) refl)

  pub loss_shown : (b : Loss) (s e f : List ℕ) → IsDeterministic g → IsConsistent g → IsCommutative g
      → IsFirst loss_place (Loses g) b → s ≡ state_at states b.s → e ≡ event_word g.signals b.lost
      → f ≡ event_word g.signals b.by → ShowsFirstBreach g states (Nonpersistent s e f)
  loss_shown b s e f deterministic consistent commutative first source lost by =
      (HasLoss deterministic consistent commutative b first, rw (source, lost, by) refl)
