-- There is one accepted partition for the gate of a new signal, or one reason why there is none.
use Rattle.std.proofs.Common.{◌≡◌, ℕ, ◌<◌, ◌∙◌, Bool, List, [], ◌∷◌, ◌++◌, length, Ok, Err, refl, sym, ap, subst}
use Rattle.std.proofs.Common.{inl, inr}
use Rattle.si_audit.proofs.FaultReasonExists.{accepted_or_reason}
use Rattle.si_audit.proofs.OneFaultReason.{one_reason}
use Rattle.si_audit.specs.Loops.FaultSignals.{AreAmong}
use Rattle.si_base.specs.declared.graph.Signal.{Signal}
use Rattle.si_base.specs.Codes.{CodedGraph, IsCoded}
use Rattle.si_base.specs.Limits.{max_signals}
use Rattle.si_base.specs.Proper.{IsProper}
use Rattle.si_divisor.proofs.OnePartitionFor.{one_partition, reasons_are_unique, reasons_exclude}
use Rattle.si_divisor.proofs.PartitionExists.{partitions_exist}
use Rattle.si_divisor.proofs.PartitionLemmas.{lawful}
use Rattle.si_divisor.specs.Laws.{IsReason}
use Rattle.si_divisor.specs.PartitionFor.{IsPartitionFor}
use Rattle.si_divisor.specs.declared.fault.NoPartition.{NoPartition}
use Rattle.si_divisor.specs.declared.fault.NoPartition.TheVariants as none
use Rattle.si_insert.proofs.AcceptedByTests.{rejected_is_not}
use Rattle.si_insert.specs.Accepted.{IsAccepted, ShowsRejected}
use Rattle.si_insert.specs.Insertion.{new_signal}
use Rattle.si_insert.specs.Partition.{IsLawful}
use Rattle.si_insert.specs.declared.accept.Rejected.{Rejected as RejectedBy}
use Rattle.si_insert.specs.declared.accept.Rejected.TheVariants as why
use Rattle.si_insert.specs.declared.partition.Class.{Class}
use Rattle.si_readings.specs.Laws.{AtMostOne, HasResult}
use Rattle.si_refusals.specs.Refusal.{Rejected}
use Rattle.si_refusals.specs.declared.rejection.NamedRejection.{NamedRejection}
use Rattle.si_refusals.specs.declared.rejection.NamedRejection.TheVariants as named
use Rattle.si_sg.specs.CanonicalText.{event_word, state_at}
use Rattle.si_by_hand.proofs.ToldReasons.{told_among}
use Rattle.si_by_hand.specs.Forcing.{forced_at}
use Rattle.si_by_hand.specs.GateText.{NewGate}
use Rattle.si_by_hand.specs.Partitions.{HasNoPartition, IsAcceptedFor, IsNoneNamed, IsRefusedSo, IsUnaccepted}
use Rattle.si_by_hand.specs.Partitions.{IsUnmade, NoneThere, NotTaken, partition_for}

-- ---- a reason has one name
known_of : (states : List (List ℕ)) (shown : NoPartition) (r : NamedRejection) → IsNoneNamed states shown r
    → shown ≡ none.NoMemory → ⊥
known_of states none.NoMemory r is = absurd is
known_of states (none.Unforced s) r is = λ (e : none.Unforced s ≡ none.NoMemory). cc
known_of states (none.Contradiction s) r is = λ (e : none.Contradiction s ≡ none.NoMemory). cc
known_of states (none.LeavesForced s) r is = λ (e : none.LeavesForced s ≡ none.NoMemory). cc
known_of states none.Constant r is = λ (e : none.Constant ≡ none.NoMemory). cc

one_none_name : (states : List (List ℕ)) (shown : NoPartition) (r q : NamedRejection) → IsNoneNamed states shown r
    → IsNoneNamed states shown q → r ≡ q
one_none_name states none.NoMemory r q one other = absurd one
one_none_name states (none.Unforced s) r q one other = one ∙ sym other
one_none_name states (none.Contradiction s) r q one other = one ∙ sym other
one_none_name states (none.LeavesForced s) r q one other = one ∙ sym other
one_none_name states none.Constant r q one other = one ∙ sym other

some_none_name : (states : List (List ℕ)) (shown : NoPartition) → (shown ≡ none.NoMemory → ⊥)
    → (r : NamedRejection) × IsNoneNamed states shown r
some_none_name states none.NoMemory known = absurd (known refl)
some_none_name states (none.Unforced s) known = (named.Unforced (state_at states s), refl)
some_none_name states (none.Contradiction s) known = (named.Contrary (state_at states s), refl)
some_none_name states (none.LeavesForced s) known = (named.Leaves (state_at states s), refl)
some_none_name states none.Constant known = (named.Constant, refl)

one_refused_name : (states : List (List ℕ)) (signals : List Signal) (shown : RejectedBy) (r q : NamedRejection)
    → IsRefusedSo states signals shown r → IsRefusedSo states signals shown q → r ≡ q
one_refused_name states signals (why.DelaysInput s e) r q one other = one ∙ sym other
one_refused_name states signals (why.BreaksPersistency s e f) r q one other = one ∙ sym other
one_refused_name states signals (why.TooLarge n) r q one other = one ∙ sym other
one_refused_name states signals why.NoCodeBit r q one other = absurd one

some_refused_name : (states : List (List ℕ)) (signals : List Signal) (shown : RejectedBy) → AreAmong signals shown
    → (r : NamedRejection) × IsRefusedSo states signals shown r
some_refused_name states signals (why.DelaysInput s e) told =
    (named.Delays 1 (state_at states s) (event_word signals e), refl)
some_refused_name states signals (why.BreaksPersistency s e f) told =
    (named.Breaks 1 (state_at states s) (event_word signals e) (event_word signals f), refl)
some_refused_name states signals (why.TooLarge n) told = (named.TooLarge 1 n, refl)
some_refused_name states signals why.NoCodeBit told = absurd told

-- ---- over a proper graph
module _ (states : List (List ℕ)) (c : CodedGraph) (made : NewGate) (is : IsCoded c) (proper : IsProper c.graph) where
  abbrev forced : Bool → ℕ → Bool
  forced = forced_at made.gate c

  abbrev Unmade : NamedRejection → Type 0
  Unmade reason = IsUnmade states c made reason

  is_lawful : (classes : List Class) → IsPartitionFor c.graph forced classes → IsLawful c.graph classes
  is_lawful classes p = lawful c.graph forced classes is.graph_is p

  reason_of : (r : NamedRejection) (h : HasNoPartition states c made r) → IsReason c.graph forced h.why
  reason_of r h = record { known = known_of states h.why r h.named; shows = h.shows }

  never : (classes : List Class) (r : NamedRejection) → Unmade r → IsAcceptedFor c made.gate classes → ⊥
  never classes r (NoneThere h) ok = reasons_exclude c.graph forced classes h.why (reason_of r h) ok.partition
  never classes r (NotTaken u) ok =
      let same = one_partition c.graph forced u.classes classes u.partition ok.partition in
      rejected_is_not c u.classes u.why is proper (is_lawful u.classes u.partition) u.shows
      (subst (IsAccepted c.graph) (sym same) ok.accepted)

  both_none : (r q : NamedRejection) → HasNoPartition states c made r → HasNoPartition states c made q → r ≡ q
  both_none r q a b =
      let same = reasons_are_unique c.graph forced a.why b.why (reason_of r a) (reason_of q b) in
      one_none_name states b.why r q (subst (λ (w : NoPartition). IsNoneNamed states w r) same a.named) b.named

  both_refused : (r q : NamedRejection) → IsUnaccepted states c made r → IsUnaccepted states c made q → r ≡ q
  both_refused r q a b =
      let signals = c.graph.signals ++ new_signal made.name ∷ [] in
      let parts = one_partition c.graph forced b.classes a.classes b.partition a.partition in
      let shows = subst (λ (p : List Class). ShowsRejected c.graph p b.why) parts b.shows in
      let same = one_reason c a.classes is proper (is_lawful a.classes a.partition) a.why b.why a.shows shows in
      one_refused_name states signals b.why r q (subst (λ (w : RejectedBy). IsRefusedSo states signals w r) same
      a.named) b.named

  same_reason : (r q : NamedRejection) → Unmade r → Unmade q → r ≡ q
  same_reason r q (NoneThere a) (NoneThere b) = both_none r q a b
  same_reason r q (NoneThere a) (NotTaken b) =
      absurd (reasons_exclude c.graph forced b.classes a.why (reason_of r a) b.partition)
  same_reason r q (NotTaken a) (NoneThere b) =
      absurd (reasons_exclude c.graph forced a.classes b.why (reason_of q b) a.partition)
  same_reason r q (NotTaken a) (NotTaken b) = both_refused r q a b

  pub partition_for_one : AtMostOne (partition_for states c made)
  partition_for_one (Ok p) (Ok q) one other =
      ap Ok (one_partition c.graph forced p q one.partition other.partition)
  partition_for_one (Ok p) (Err q) one other = absurd (never p other.0 other.1 one)
  partition_for_one (Err r) (Ok q) one other = absurd (never q one.0 one.1 other)
  partition_for_one (Err r) (Err q) one other =
      ap Err (one.2 ∙ ap (λ (x : NamedRejection). Rejected x) (same_reason one.0 other.0 one.1 other.1) ∙ sym other.2)

  -- the partition is accepted, or there is a reason against it
  with_partition : length c.graph.signals < max_signals → (classes : List Class)
      → IsPartitionFor c.graph forced classes → HasResult (partition_for states c made)
  with_partition room classes p = elim (accepted_or_reason c classes is proper (is_lawful classes p)) [
    | inl accepted ↦ (Ok classes, record { partition = p; accepted = accepted })
    | inr (shown, shows) ↦ (
        let new = new_signal made.name in
        let told = told_among c.graph classes new shown is.graph_is room shows in
        let name = some_refused_name states (c.graph.signals ++ new ∷ []) shown told in
        let refused : IsUnaccepted states c made name.0 =
        record { classes = classes; partition = p; why = shown; shows = shows; named = name.1 } in
        (Err (Rejected name.0), (name.0, NotTaken refused, refl))
        )
  ]

  pub partition_for_some : length c.graph.signals < max_signals → HasResult (partition_for states c made)
  partition_for_some room = elim (partitions_exist c.graph forced is.graph_is) [
    | inl (classes, p) ↦ with_partition room classes p
    | inr (shown, reason) ↦ (
        let name = some_none_name states shown reason.known in
        let has_none : HasNoPartition states c made name.0 =
        record { why = shown; shows = reason.shows; named = name.1 } in
        (Err (Rejected name.0), (name.0, NoneThere has_none, refl))
        )
  ]
