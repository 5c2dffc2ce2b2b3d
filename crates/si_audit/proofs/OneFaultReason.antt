-- A partition is refused for one reason.
use Rattle.std.proofs.Common.{◌≡◌, ℕ, List, refl, sym, ap, ◌∙◌, arith}
use Rattle.si_base.specs.Codes.{CodedGraph, IsCoded}
use Rattle.si_base.specs.Graph.{event_place}
use Rattle.si_base.specs.Proper.{IsProper, Loss, loss_place}
use Rattle.si_checks.proofs.SearchFirst.{firsts_at_one_place}
use Rattle.si_graph.proofs.OrderLemmas.{event_from_place}
use Rattle.si_insert.specs.declared.partition.Class.{Class}
use Rattle.si_insert.specs.declared.accept.Rejected.{Rejected}
use Rattle.si_insert.specs.declared.accept.Rejected.TheVariants.{DelaysInput, BreaksPersistency, TooLarge, NoCodeBit}
use Rattle.si_base.specs.declared.ids.Event.{Event}
use Rattle.si_base.specs.Order.{IsFirst}
use Rattle.si_insert.specs.Partition.{IsLawful}
use Rattle.si_insert.specs.Accepted.{Delay, Delays, delay_place, DelaysNoInput, LosesAtCopy, ShowsRejected, StaysProper}
use Rattle.si_insert.proofs.AcceptedByTests.{loss_refutes}
use Rattle.si_insert.proofs.AcceptedLosses.{breaks_if_loses, delay_refutes}

module _ (c : CodedGraph) (classes : List Class) (is : IsCoded c) (proper : IsProper c.graph)
    (lawful : IsLawful c.graph classes) where
  one_delay : (a b : Delay) → IsFirst delay_place (Delays c.graph classes) a
      → IsFirst delay_place (Delays c.graph classes) b → DelaysInput a.s a.e ≡ DelaysInput b.s b.e
  one_delay a b one other =
      let place : delay_place a ≡ delay_place b =
      firsts_at_one_place delay_place (Delays c.graph classes) a b refl one other in
      let state : a.s ≡ b.s = cc in
      let event : event_place a.e ≡ event_place b.e = cc in
      let same : a.e ≡ b.e = event_from_place a.e b.e event in cc

  one_loss : (a b : Loss) → IsFirst loss_place (LosesAtCopy c.graph classes) a
      → IsFirst loss_place (LosesAtCopy c.graph classes) b
      → BreaksPersistency a.s a.lost a.by ≡ BreaksPersistency b.s b.lost b.by
  one_loss a b one other =
      let place : loss_place a ≡ loss_place b =
      firsts_at_one_place loss_place (LosesAtCopy c.graph classes) a b refl one other in
      let state : a.s ≡ b.s = cc in
      let lost : event_place a.lost ≡ event_place b.lost = cc in
      let by : event_place a.by ≡ event_place b.by = cc in
      let same_lost : a.lost ≡ b.lost = event_from_place a.lost b.lost lost in
      let same_by : a.by ≡ b.by = event_from_place a.by b.by by in cc

  delayed : (s : ℕ) (e : Event) → ShowsRejected c.graph classes (DelaysInput s e) → DelaysNoInput c.graph classes → ⊥
  delayed s e shows none = delay_refutes c.graph classes (record { s = s; e = e }) shows.holds none

  lost : (s : ℕ) (e f : Event) → ShowsRejected c.graph classes (BreaksPersistency s e f)
      → StaysProper c.graph classes → ⊥
  lost s e f shows stays =
      let b : Loss = record { s = s; lost = e; by = f } in
      loss_refutes c classes b is lawful
      (breaks_if_loses c.graph classes b is.graph_is proper.persistent lawful shows.1.holds) stays

  pub one_reason : (one other : Rejected) → ShowsRejected c.graph classes one → ShowsRejected c.graph classes other
      → one ≡ other
  one_reason (DelaysInput s e) (DelaysInput t f) a b =
      one_delay (record { s = s; e = e }) (record { s = t; e = f }) a b
  one_reason (DelaysInput s e) (BreaksPersistency t f g) a b = absurd (delayed s e a b.0)
  one_reason (DelaysInput s e) (TooLarge count) a b = absurd (delayed s e a b.0)
  one_reason (DelaysInput s e) NoCodeBit a b = absurd (delayed s e a b.0)
  one_reason (BreaksPersistency s e f) (DelaysInput t g) a b = absurd (delayed t g b a.0)
  one_reason (BreaksPersistency s e f) (BreaksPersistency t g h) a b =
      one_loss (record { s = s; lost = e; by = f }) (record { s = t; lost = g; by = h }) a.1 b.1
  one_reason (BreaksPersistency s e f) (TooLarge count) a b = absurd (lost s e f a b.1)
  one_reason (BreaksPersistency s e f) NoCodeBit a b = absurd (lost s e f a b.1)
  one_reason (TooLarge count) (DelaysInput t g) a b = absurd (delayed t g b a.0)
  one_reason (TooLarge count) (BreaksPersistency t g h) a b = absurd (lost t g h b a.1)
  one_reason (TooLarge one) (TooLarge other) a b = ap (λ (n : ℕ). TooLarge n) (a.2 ∙ sym b.2)
  one_reason (TooLarge count) NoCodeBit a b = absurd (omega (arith, a.2, a.3, b.2))
  one_reason NoCodeBit (DelaysInput t g) a b = absurd (delayed t g b a.0)
  one_reason NoCodeBit (BreaksPersistency t g h) a b = absurd (lost t g h b a.1)
  one_reason NoCodeBit (TooLarge count) a b = absurd (omega (arith, b.2, b.3, a.2))
  one_reason NoCodeBit NoCodeBit a b = refl
