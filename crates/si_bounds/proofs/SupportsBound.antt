-- How many signals the support of a signal that doesn't wait has at least after an insertion.
use Rattle.std.proofs.Common.{◌≡◌, ◌≢◌, ℕ, suc, ◌+◌, ◌<◌, ◌≤◌, ◌⊎◌, not, Bool, true, false, List, length, min}
use Rattle.std.proofs.Common.{if◌then◌else◌, sym, ap, subst, ◌∙◌, arith, inl, inr}
use Rattle.std.proofs.lemmas.Bool.{cases_Bool, cases_lt, true≢false}
use Rattle.std.proofs.lemmas.Bool.Decides.{eqb_tells}
use Rattle.std.proofs.lemmas.List.Elements.{All-contains}
use Rattle.std.proofs.lemmas.Option.{slice_get_within}
use Rattle.si_base.specs.Bits.{bit, flip}
use Rattle.si_base.specs.Codes.{CodedGraph, IsCoded}
use Rattle.si_base.specs.Graph.{StateGraph, IsNonInput}
use Rattle.si_base.specs.Proper.{HasNoConflict}
use Rattle.si_base.specs.declared.graph.Signal.{Signal}
use Rattle.si_base.proofs.BitFacts.{flip-same, flip-other}
use Rattle.si_insert.specs.declared.partition.Class.{Class}
use Rattle.si_insert.specs.declared.partition.Class.TheVariants.{Low, High}
use Rattle.si_insert.specs.Insertion.{Copy, IsInsertedGraph, coded}
use Rattle.si_insert.specs.Partition.{IsLawful}
use Rattle.si_insert.proofs.AcceptedLosses.{driven_after}
use Rattle.si_match.specs.Support.{determines, support_of}
use Rattle.si_match.specs.Triggers.{AreTriggers}
use Rattle.si_match.specs.Weight.{size_from, size_of_support}
use Rattle.si_match.proofs.DroppingLemmas.{kept_when_tried, triggers_in_support}
use Rattle.si_match.proofs.SupportLemmas.{support_determines}
use Rattle.si_match.proofs.UnfitLemmas.{size_le}
use Rattle.si_bounds.specs.declared.supports.Groups.{Groups}
use Rattle.si_bounds.specs.declared.supports.KnownSupport.{KnownSupport}
use Rattle.si_bounds.specs.Loops.Supports.{AreAllMixed, AreGroups, BoundsSupport, HasAll, HaveMixed, IsFurther}
use Rattle.si_bounds.specs.Loops.Supports.{IsGroup, KnowsSupport, ShowKept}
use Rattle.si_bounds.specs.Loops.Waiting.{NeverWaits}
use Rattle.si_bounds.proofs.LeastFits.{one_signal_more, smaller_or_same, trigger_old, trigger_stays}
use Rattle.si_bounds.proofs.ReadLemmas.{one_larger, others_given, size_last}
use Rattle.si_bounds.proofs.SupportsDrops.{IsThere, KeepsBeside, beside_same, earlier, needed_in, none_past}
use Rattle.si_bounds.proofs.SupportsDrops.{stays_or_reads, support_stays}
use Rattle.si_bounds.proofs.SupportsStay.{clash_told, determined_before, mixed_clash, still_determines}

module _ (c : CodedGraph) (z : ℕ) (known : KnownSupport) (knows : KnowsSupport c z known) (high low : List Bool) where
  abbrev n : ℕ
  n = length c.graph.signals

  -- the support, and the triggers
  abbrev kept : ℕ
  kept = support_of c z

  abbrev triggers : ℕ
  triggers = knows.triggers

  inside : z < n
  inside = let (x, at, driven) = knows.driven in slice_get_within c.graph.signals z x at

  are : AreTriggers c z triggers
  are i there = (knows.are_triggers i).0 there

  determined : determines c z kept ≡ true
  determined = support_determines c z knows.coded knows.distinct knows.driven

  -- where some further signal may get needless, there is one
  further_signals : (AreAllMixed high low known → ⊥) → size_from n 0 triggers + 1 ≤ size_from n 0 kept
  further_signals some = elim (smaller_or_same n 0 triggers kept (triggers_in_support c z knows.coded triggers are)) [
    | inl less ↦ less
    | inr same ↦ absurd (some (λ k default listed. (
        let (i, further, show) = knows.further.no_more k default listed in
        absurd (true≢false (sym (same i (omega arith) (below i further.in_support) further.in_support)
        ∙ further.no_trigger)))))
  ]
    where
      below : (i : ℕ) → bit kept i ≡ true → i < 0 + n
      below i there = elim (cases_lt i (0 + n)) [
        | inl low_i ↦ low_i
        | inr past ↦ absurd (true≢false (sym there ∙ none_past c z i (omega (arith, past))))
      ]

  module _ (classes : List Class) (new : Signal) (copies : List Copy) (h : StateGraph)
      (lawful : IsLawful c.graph classes) (inserted : IsInsertedGraph c.graph classes new copies h)
      (made : IsCoded (coded c copies h)) (none : HasNoConflict (coded c copies h))
      (never : NeverWaits c.graph classes z)
      (all_high : HasAll classes High high) (all_low : HasAll classes Low low) where
    abbrev d : CodedGraph
    d = coded c copies h

    one_more : length h.signals ≡ suc n
    one_more = one_signal_more c classes new copies h knows.coded lawful inserted z inside never made

    still : (few more : ℕ) → ((j : ℕ) → bit few j ≡ true → (j ≢ n) × (bit more j ≡ true))
        → determines c z few ≡ true → determines d z more ≡ true
    still = still_determines c classes new copies h knows.coded lawful inserted z inside never made

    before : (set : ℕ) → bit set n ≡ false → determines d z set ≡ true → determines c z set ≡ true
    before = determined_before c classes new copies h knows.coded lawful inserted z inside never made

    are_still : AreTriggers d z triggers
    are_still i there =
        trigger_stays c classes new copies h knows.coded lawful inserted z inside never made i (are i there)

    -- signals don't determine the next value beside the new one, where it leaves a group of theirs mixed
    untold : (signals set : ℕ) (groups : Groups) → AreGroups c z signals groups → HaveMixed high low groups
        → ((j : ℕ) → j ≢ n → bit set j ≡ true → bit signals j ≡ true) → determines d z set ≡ false
    untold signals set groups are_groups have within =
        let is_group = All-contains (IsGroup c z signals) groups.list.items have.group are_groups.each have.listed in
        let clash = mixed_clash c classes new copies h knows.coded lawful inserted z inside never made high low
        all_high all_low signals have.group is_group have.mixed in
        clash_told c classes new copies h knows.coded lawful inserted z inside never made signals set clash within

    -- ---- each further signal is still needed
    module _ (count j set : ℕ) (of_signals : j + suc count ≡ n)
        (at : IsThere c d z one_more still (suc count) j set) where
      -- what is there with the new signal has only others of j
      among_others : (groups : Groups) (show : ShowKept c z j groups) (i : ℕ) → i ≢ n
          → bit (flip (flip set n) j) i ≡ true → bit show.others i ≡ true
      among_others groups show i old there = (show.are_others i).1 (other, by_place (cases_lt i j))
        where
          without : bit (flip set j) i ≡ true
          without = sym (beside_same c d z one_more still count j set of_signals at i old) ∙ there

          other : i ≢ j
          other same = true≢false (sym without ∙ ap (bit (flip set j)) same ∙ flip-same set j
              ∙ ap not (at.later j (omega arith) (omega (arith, of_signals))))

          in_set : bit set i ≡ true
          in_set = sym (flip-other set j i other) ∙ without

          by_place : ((i < j) ⊎ (j ≤ i)) → (bit kept i ≡ true) ⊎ ((j < i) × (i < n))
          by_place (inl first) = inl (earlier c d z one_more still count j set of_signals at i first ∙ in_set)
          by_place (inr behind) = inr (
            grind (arith, behind, other),
            elim (cases_lt i n) [
              | inl below ↦ below
              | inr past ↦ absurd (true≢false (sym in_set ∙ at.none i past))
            ],
          )

      trigger_kept : bit triggers j ≡ true → determines d z (flip (flip set n) j) ≡ false
      trigger_kept trigger = kept_when_tried d z j (flip set n) made (are_still j trigger)
          (flip-other set n j (λ same. omega (arith, same, of_signals))
          ∙ at.later j (omega arith) (omega (arith, of_signals)))

      further_kept : AreAllMixed high low known → IsFurther c z triggers j
          → determines d z (flip (flip set n) j) ≡ false
      further_kept mixed further =
          let (groups, listed, show) = knows.further.each j (omega (arith, of_signals)) further in
          untold show.others (flip (flip set n) j) groups show.untold
          (All-contains (HaveMixed high low) known.further.items groups mixed listed) (among_others groups show)

    keeps : AreAllMixed high low known → KeepsBeside c d z one_more still
    keeps mixed count j set of_signals at needed = elim (cases_Bool (bit triggers j)) [
      | inl trigger ↦ trigger_kept count j set of_signals at trigger
      | inr other ↦ further_kept count j set of_signals at mixed (record {
        in_support = needed_in c d z one_more still count j set of_signals at needed;
        no_trigger = other;
      })
    ]

    -- ---- the support stays as it is
    size_is : size_of_support d z ≡ size_from (suc n) 0 (support_of d z)
    size_is = ap (λ m. size_from m 0 (support_of d z)) one_more

    same_size : support_of d z ≡ kept → size_of_support d z ≡ known.size
    same_size same =
        let counts : Bool → ℕ = λ b. if b then 1 else 0 in
        let last : counts (bit kept (0 + n)) ≡ 0 = ap counts (none_past c z (0 + n) (omega arith)) in
        let size : size_from (suc n) 0 kept ≡ size_from n 0 kept = omega (arith, size_last n 0 kept, last) in
        size_is ∙ ap (size_from (suc n) 0) same ∙ size ∙ sym knows.size

    all_needed : AreAllMixed high low known → known.size ≤ size_of_support d z
    all_needed mixed =
        let same = same_size (support_stays c d z one_more still determined (keeps mixed)) in omega (arith, same)

    -- ---- or it has the new signal
    module _ (reads : bit (support_of d z) n ≡ true) where
      no_new : bit triggers n ≡ false
      no_new = elim (cases_Bool (bit triggers n)) [
        | inl there ↦ absurd (
            let low_n = trigger_old c classes new copies h knows.coded lawful inserted z inside never made n
            (are n there) in omega (arith, low_n))
        | inr absent ↦ absent
      ]

      read_within : (j : ℕ) → bit (flip triggers n) j ≡ true → bit (support_of d z) j ≡ true
      read_within j there = elim (eqb_tells j n) [
        | inl same ↦ ap (bit (support_of d z)) same.1 ∙ reads
        | inr other ↦ triggers_in_support d z made triggers are_still j (others_given n triggers no_new j other.1 there)
      ]

      triggers_and_new : known.triggers + 1 ≤ size_of_support d z
      triggers_and_new = omega (
        arith,
        knows.count,
        one_larger n triggers no_new,
        size_le (suc n) 0 (flip triggers n) (support_of d z) read_within,
        size_is,
      )

      still_driven : IsNonInput h.signals z
      still_driven = subst (λ (xs : List Signal). IsNonInput xs z) (sym inserted.signals)
          (driven_after c.graph new z inserted.kind (inl knows.driven))

      -- and one signal more, where these don't determine the next value
      and_one_more : HaveMixed high low known.untold → known.triggers + 2 ≤ size_of_support d z
      and_one_more have = elim (smaller_or_same (suc n) 0 (flip triggers n) (support_of d z) read_within) [
        | inl less ↦ omega (arith, knows.count, one_larger n triggers no_new, less, size_is)
        | inr same ↦ absurd (true≢false (sym (support_determines d z made none still_driven)
            ∙ untold triggers (support_of d z) known.untold knows.untold have (λ j old there.
            others_given n triggers no_new j old (same j (omega arith) (below j there) there))))
      ]
        where
          below : (j : ℕ) → bit (support_of d z) j ≡ true → j < 0 + suc n
          below j there = elim (cases_lt j (0 + suc n)) [
            | inl low_j ↦ low_j
            | inr past ↦ absurd (true≢false (sym there ∙ none_past d z j (omega (arith, past, one_more))))
          ]

    stays_or_new : (support_of d z ≡ kept) ⊎ (bit (support_of d z) n ≡ true)
    stays_or_new = stays_or_reads c d z one_more still determined before

    two_more : (AreAllMixed high low known → ⊥) → HaveMixed high low known.untold
        → min known.size (known.triggers + 2) ≤ size_of_support d z
    two_more some have = elim stays_or_new [
      | inl same ↦ omega (arith, same_size same)
      | inr reads ↦ omega (arith, and_one_more reads have)
    ]

    one_at_least : (AreAllMixed high low known → ⊥) → known.triggers + 1 ≤ size_of_support d z
    one_at_least some = elim stays_or_new [
      | inl same ↦ omega (arith, same_size same, further_signals some, knows.count, knows.size)
      | inr reads ↦ triggers_and_new reads
    ]

  -- ---- in each inserted graph
  pub bound_same : AreAllMixed high low known → BoundsSupport c z high low known.size
  bound_same mixed classes new copies h lawful inserted made none never all_high all_low =
      all_needed classes new copies h lawful inserted made none never all_high all_low mixed

  pub bound_two_more : (AreAllMixed high low known → ⊥) → HaveMixed high low known.untold
      → BoundsSupport c z high low (min known.size (known.triggers + 2))
  bound_two_more some have classes new copies h lawful inserted made none never all_high all_low =
      two_more classes new copies h lawful inserted made none never all_high all_low some have

  pub bound_one_more : (AreAllMixed high low known → ⊥) → BoundsSupport c z high low (known.triggers + 1)
  bound_one_more some classes new copies h lawful inserted made none never all_high all_low =
      one_at_least classes new copies h lawful inserted made none never all_high all_low some
