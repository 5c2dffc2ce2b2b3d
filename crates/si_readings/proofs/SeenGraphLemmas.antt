-- A graph is read in one way, proper or not.
use Rattle.std.proofs.Common.{◌≡◌, ℕ, Option, Some, ap, refl, sym, ◌∙◌, subst}
use Rattle.si_base.specs.Codes.{IsConnected, IsConsistent, IsDeterministic}
use Rattle.si_base.specs.Graph.{StateGraph, IsGraph}
use Rattle.si_base.specs.Order.{IsFirst}
use Rattle.si_base.specs.Proper.{IsProper, IsFirstWithoutValues}
use Rattle.si_base.specs.Proper.{Split, Splits, split_place, Fork, Loss}
use Rattle.si_checks.proofs.BreachesDecided.{proper_or_breach}
use Rattle.si_checks.proofs.ByCodesExist.{some_codes}
use Rattle.si_checks.proofs.UniqueBreaches.{one_split, one_without_values, one_fork, one_loss}
use Rattle.si_checks.proofs.UniqueBreaches.{split_breaches, no_values_breach, fork_breaches, loss_breaches}
use Rattle.si_checks.specs.Laws.{ProperOrBreach, AllHold, HasSplit, HasNoValues, HasFork, HasLoss}
use Rattle.si_pictures.specs.declared.seen.Breach.{Breach}
use Rattle.si_pictures.specs.declared.seen.Breach.TheVariants.{Nondeterministic, Inconsistent}
use Rattle.si_pictures.specs.declared.seen.Breach.TheVariants.{Noncommutative, Nonpersistent}
use Rattle.si_pictures.specs.declared.seen.Seen.{Seen}
use Rattle.si_pictures.specs.declared.seen.Seen.TheVariants.{Proper, Coded, Uncoded}
use Rattle.si_readings.specs.SeenGraph.{breach_of, IsFirstBreach, HasNoCodes, IsSeen}
use Rattle.si_readings.proofs.CheckLemmas.{coded_consistent, coded_unique}

module _ (g : StateGraph) where
  -- ---- one first breach
  abbrev by_split : Split → Option Breach
  by_split b = Some (Nondeterministic b.s b.e b.t b.u)

  abbrev by_fork : Fork → Option Breach
  by_fork b = Some (Noncommutative b.s b.a b.c)

  abbrev by_loss : Loss → Option Breach
  by_loss b = Some (Nonpersistent b.s b.lost b.by)

  abbrev by_signal : ℕ → Option Breach
  by_signal a = Some (Inconsistent a)

  abbrev told : ProperOrBreach g → Option Breach
  told found = breach_of found

  one_breach : (x y : ProperOrBreach g) → told x ≡ told y
  one_breach (AllHold p) (AllHold q) = refl
  one_breach (AllHold p) (HasSplit b first) = absurd (split_breaches g b first.holds p.deterministic)
  one_breach (AllHold p) (HasNoValues d a first) = absurd (no_values_breach g a first p.consistent)
  one_breach (AllHold p) (HasFork d v b first) = absurd (fork_breaches g b first.holds p.commutative)
  one_breach (AllHold p) (HasLoss d v q b first) = absurd (loss_breaches g b first.holds p.persistent)
  one_breach (HasSplit b first) (AllHold p) = absurd (split_breaches g b first.holds p.deterministic)
  one_breach (HasSplit b one) (HasSplit c other) = ap by_split (one_split g b c one other)
  one_breach (HasSplit b first) (HasNoValues d a also) = absurd (split_breaches g b first.holds d)
  one_breach (HasSplit b first) (HasFork d v c also) = absurd (split_breaches g b first.holds d)
  one_breach (HasSplit b first) (HasLoss d v q c also) = absurd (split_breaches g b first.holds d)
  one_breach (HasNoValues d a first) (AllHold p) = absurd (no_values_breach g a first p.consistent)
  one_breach (HasNoValues d a first) (HasSplit b also) = absurd (split_breaches g b also.holds d)
  one_breach (HasNoValues d a one) (HasNoValues e b other) = ap by_signal (one_without_values g a b one other)
  one_breach (HasNoValues d a first) (HasFork e v b also) = absurd (no_values_breach g a first v)
  one_breach (HasNoValues d a first) (HasLoss e v q b also) = absurd (no_values_breach g a first v)
  one_breach (HasFork d v b first) (AllHold p) = absurd (fork_breaches g b first.holds p.commutative)
  one_breach (HasFork d v b first) (HasSplit c also) = absurd (split_breaches g c also.holds d)
  one_breach (HasFork d v b first) (HasNoValues e a also) = absurd (no_values_breach g a also v)
  one_breach (HasFork d v b one) (HasFork e u c other) = ap by_fork (one_fork g b c d one other)
  one_breach (HasFork d v b first) (HasLoss e u q c also) = absurd (fork_breaches g b first.holds q)
  one_breach (HasLoss d v q b first) (AllHold p) = absurd (loss_breaches g b first.holds p.persistent)
  one_breach (HasLoss d v q b first) (HasSplit c also) = absurd (split_breaches g c also.holds d)
  one_breach (HasLoss d v q b first) (HasNoValues e a also) = absurd (no_values_breach g a also v)
  one_breach (HasLoss d v q b first) (HasFork e u c also) = absurd (fork_breaches g c also.holds q)
  one_breach (HasLoss d v q b one) (HasLoss e u r c other) = ap by_loss (one_loss g b c one other)

  same_breach : (a b : Breach) → IsFirstBreach g a → IsFirstBreach g b → a ≡ b
  same_breach a b (one, is) (other, also) = (let same = sym is ∙ one_breach one other ∙ also in cc)

  proper_or_not : (b : Breach) → IsFirstBreach g b → IsProper g → ⊥
  proper_or_not b (found, is) proper = (let same = one_breach (AllHold proper) found ∙ is in cc)

  -- ---- what shows that there are no codes
  pub split_uncoded : (b : Split) → IsFirst split_place (Splits g) b → HasNoCodes g
  split_uncoded b first c coded same =
      split_breaches g b first.holds (subst (λ (h : StateGraph). IsDeterministic h) same coded.deterministic)

  pub values_uncoded : (a : ℕ) → IsFirstWithoutValues g a → HasNoCodes g
  values_uncoded a first c coded same =
      no_values_breach g a first (subst (λ (h : StateGraph). IsConsistent h) same (coded_consistent c coded))

  -- ---- it is read in one way
  pub one_seen : (x y : Seen) → IsSeen g x → IsSeen g y → x ≡ y
  one_seen (Proper c) (Proper d) one other =
      ap Proper (coded_unique c d one.coded_is other.coded_is (one.same_graph ∙ sym other.same_graph))
  one_seen (Proper c) (Coded d b) one other = absurd (proper_or_not b other.2 one.proper)
  one_seen (Proper c) (Uncoded h b) one other = absurd (proper_or_not b other.2 one.proper)
  one_seen (Coded c b) (Proper d) one other = absurd (proper_or_not b one.2 other.proper)
  one_seen (Coded c a) (Coded d b) one other =
      rw (coded_unique c d one.0 other.0 (one.1 ∙ sym other.1), same_breach a b one.2 other.2) refl
  one_seen (Coded c a) (Uncoded h b) one other = absurd (other.0 c one.0 one.1)
  one_seen (Uncoded h b) (Proper d) one other = absurd (proper_or_not b one.2 other.proper)
  one_seen (Uncoded h b) (Coded c a) one other = absurd (one.0 c other.0 other.1)
  one_seen (Uncoded h a) (Uncoded k b) one other = rw (one.1 ∙ sym other.1, same_breach a b one.2 other.2) refl

-- ---- and in some way
pub some_seen : (g : StateGraph) → IsGraph g → IsConnected g → (x : Seen) × IsSeen g x
some_seen g graph connected = from (proper_or_breach g graph connected)
  where
    with_codes : IsDeterministic g → IsConsistent g → (found : ProperOrBreach g) → (b : Breach)
        → breach_of found ≡ Some b → (x : Seen) × IsSeen g x
    with_codes deterministic consistent found b is =
        let (c, same, coded) = some_codes g graph connected deterministic consistent in
        (Coded c b, (coded, same, (found, is)))

    from : ProperOrBreach g → (x : Seen) × IsSeen g x
    from (AllHold good) =
        let (c, same, coded) = some_codes g graph connected good.deterministic good.consistent in
        (Proper c, record { coded_is = coded; same_graph = same; proper = good })
    from (HasSplit b first) =
        (Uncoded g (Nondeterministic b.s b.e b.t b.u), (split_uncoded g b first, refl, (HasSplit b first, refl)))
    from (HasNoValues d a first) =
        (Uncoded g (Inconsistent a), (values_uncoded g a first, refl, (HasNoValues d a first, refl)))
    from (HasFork d v b first) = with_codes d v (HasFork d v b first) (Noncommutative b.s b.a b.c) refl
    from (HasLoss d v q b first) = with_codes d v (HasLoss d v q b first) (Nonpersistent b.s b.lost b.by) refl
