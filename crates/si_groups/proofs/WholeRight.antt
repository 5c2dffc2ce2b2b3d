-- Parts that work together in groups are right together.
use Rattle.std.proofs.Common.{◌≡◌, ℕ, zero, suc, ◌<◌, List, [], ◌∷◌, length, All, Contains}
use Rattle.std.proofs.Common.{refl, sym, ap, subst, ◌∙◌, arith, inl, inr}
use Rattle.std.proofs.lemmas.Bool.{cases_Bool, cases_eq, cases_order, true≢false}
use Rattle.std.proofs.lemmas.Option.{slice_get_within}
use Rattle.si_base.specs.declared.ids.Event.{Event}
use Rattle.si_base.specs.declared.graph.Signal.{Signal}
use Rattle.si_base.specs.Codes.{CodedGraph, IsCoded}
use Rattle.si_base.specs.Graph.{StateGraph}
use Rattle.si_compose.specs.Groups.{FreeGroup}
use Rattle.si_compose.proofs.ComposedExists.{composed_exist}
use Rattle.si_compose.proofs.ComposedWalks.{groups_suffice}
use Rattle.si_compose.proofs.JoinedBehaviour.{implements}
use Rattle.si_compose.proofs.SameSignals.{some_same}
use Rattle.si_composing.specs.JoinedSignals.{graph_of, joined_signals, part}
use Rattle.si_composing.proofs.Composing.{coded_at, distinct_at}
use Rattle.si_composing.proofs.SignalLemmas.{signals_joined}
use Rattle.si_composing.proofs.TupleLemmas.{at_place, is_there, there_is}
use Rattle.si_groups.specs.Groups.{AreFreeAt, IsReachedAlone, IsRefusedBy, group_of, members, share}
use Rattle.si_groups.specs.Laws.{AreRightTogether}
use Rattle.si_groups.specs.Loops.Between.{IsGroup}
use Rattle.si_groups.specs.Together.{AddsGroups, AreFreeBelow, CanBeJoined, IsFreeWith, IsLookedAt, WorkTogether}
use Rattle.si_groups.proofs.AloneJoined.{graph_same}
use Rattle.si_groups.proofs.FreeGroups.{free_group}
use Rattle.si_groups.proofs.GroupLemmas.{SharedName, both_there, group_is, name_shared, two_group}

module _ (parts : List CodedGraph) where
  -- ---- each pair that is looked at is free in some group
  abbrev IsSettled : ℕ → ℕ → Type 0
  IsSettled i j = (n : ℕ) × AreFreeAt parts i j n

  settled_by : (i j before total : ℕ) → IsLookedAt parts i j → AddsGroups parts i j before total → IsSettled i j
  settled_by i j before total looked (inl adds) = (adds.1.0, adds.1.1)
  settled_by i j before total looked (inr none) = absurd (none.0 looked)

  pub settled_with : (i n total : ℕ) → IsFreeWith parts i n total → (j : ℕ) → j < n → IsLookedAt parts i j
      → IsSettled i j
  settled_with i zero total free j below looked = absurd (omega (arith, below))
  settled_with i (suc n) total free j below looked = elim (cases_eq j n) [
    | inl same ↦ subst (IsSettled i) (sym same) (settled_by i n free.0 total (subst (IsLookedAt parts i) same looked)
        free.2)
    | inr apart ↦ settled_with i n free.0 free.1 j (omega (arith, below, apart)) looked
  ]

  pub settled_below : (n total : ℕ) → AreFreeBelow parts n total → (i j : ℕ) → i < n → j < length parts
      → IsLookedAt parts i j → IsSettled i j
  settled_below zero total free i j below within looked = absurd (omega (arith, below))
  settled_below (suc n) total free i j below within looked = elim (cases_eq i n) [
    | inl same ↦ settled_with i (length parts) free.2.0
        (subst (λ (k : ℕ). IsFreeWith parts k (length parts) free.2.0) (sym same) free.2.1) j within looked
    | inr apart ↦ settled_below n free.0 free.1 i j (omega (arith, below, apart)) within looked
  ]

  -- ---- and so each pair, in both directions
  module _ (coded : All IsCoded parts) (joined : CanBeJoined parts) where
    abbrev Both : ℕ → ℕ → Type 0
    Both i j = FreeGroup (length parts) (graph_of parts) i j × FreeGroup (length parts) (graph_of parts) j i

    abbrev NoneIn : List ℕ → ℕ → ℕ → Type 0
    NoneIn group i j = (xs : List ℕ) (e : Event) → IsReachedAlone (members parts group) xs
        → IsRefusedBy (members parts group) group i j xs e → ⊥

    both_in : (group : List ℕ) → IsGroup parts group → (i j : ℕ) → Contains group i → Contains group j
        → NoneIn group i j → NoneIn group j i → Both i j
    both_in group is i j in_i in_j one other =
        let a = there_is group i in_i in
        let b = there_is group j in_j in
        let a_is = at_place group a.0 i 0 a.2 in
        let b_is = at_place group b.0 j 0 b.2 in (
          free_group parts group is coded joined i j a.0 b.0 a.1 b.1 a_is b_is a.2 b.2 one,
          free_group parts group is coded joined j i b.0 a.0 b.1 a.1 b_is a_is b.2 a.2 other,
        )

    -- who refuses an event shares its signal with who drives it
    refused_shares : (group : List ℕ) → IsGroup parts group → (i j : ℕ) (xs : List ℕ) (e : Event)
        → IsRefusedBy (members parts group) group i j xs e → SharedName (part parts i) (part parts j)
    refused_shares group is i j xs e r =
        let same_i : graph_of (members parts group) r.0.driving ≡ graph_of parts i =
        graph_same parts group is r.0.driving (slice_get_within group r.0.driving i r.1)
        ∙ ap (graph_of parts) (at_place group r.0.driving i 0 r.1) in
        let same_j : graph_of (members parts group) r.0.refusing ≡ graph_of parts j =
        graph_same parts group is r.0.refusing (slice_get_within group r.0.refusing j r.2)
        ∙ ap (graph_of parts) (at_place group r.0.refusing j 0 r.2) in
        let d = r.0.drives.0 in
        let names = some_same r.0.has.signal d.signal (sym r.0.has.signal_is ∙ d.signal_is) in
        record {
          one = d.own;
          one_there = subst (λ (g : StateGraph). Contains g.signals d.own) same_i
              (is_there _ d.own r.0.driver d.own_is);
          other = r.0.has.own;
          other_there = subst (λ (g : StateGraph). Contains g.signals r.0.has.own) same_j
              (is_there _ r.0.has.own r.0.other r.0.has.own_is);
          name = r.0.has.name ∙ ap (λ (x : Signal). x.name) names ∙ sym d.name;
        }

    turned : (c d : CodedGraph) → SharedName c d → SharedName d c
    turned c d s = record {
      one = s.other;
      one_there = s.other_there;
      other = s.one;
      other_there = s.one_there;
      name = sym s.name;
    }

    pair_free : (i j : ℕ) → i < j → j < length parts → (IsLookedAt parts i j → IsSettled i j) → Both i j
    pair_free i j less within settled = elim (cases_Bool (share (part parts i) (part parts j))) [
      | inl shares ↦ (
          let s = settled (less, shares) in
          let there = both_there parts i j less within shares s.0 in
          both_in (group_of parts i j s.0) (group_is parts i j less within s.0) i j there.0 there.1
          (λ xs e reached refused. s.1.free xs e reached (inl refused))
          (λ xs e reached refused. s.1.free xs e reached (inr refused)))
      | inr apart ↦ (
          let two : IsGroup parts (i ∷ j ∷ []) = two_group parts i j less within in
          let none : SharedName (part parts i) (part parts j) → ⊥ =
          λ s. true≢false (sym (name_shared (part parts i) (part parts j) s) ∙ apart) in
          both_in (i ∷ j ∷ []) two i j (0, omega arith, refl) (1, omega arith, refl)
          (λ xs e reached refused. none (refused_shares (i ∷ j ∷ []) two i j xs e refused))
          (λ xs e reached refused. none (turned (part parts j) (part parts i)
          (refused_shares (i ∷ j ∷ []) two j i xs e refused))))
    ]

    all_free : (total : ℕ) → AreFreeBelow parts (length parts) total → (i j : ℕ) → i < length parts
        → j < length parts → (i ≡ j → ⊥) → FreeGroup (length parts) (graph_of parts) i j
    all_free total free i j in_i in_j apart = elim (cases_order i j) [
      | inl same ↦ absurd (apart same)
      | inr (inl less) ↦ (pair_free i j less in_j
          (λ looked. settled_below (length parts) total free i j in_i in_j looked)).0
      | inr (inr more) ↦ (pair_free j i more in_i
          (λ looked. settled_below (length parts) total free j i in_j in_i looked)).1
    ]

  pub right_together : (signals groups : ℕ) → All IsCoded parts → WorkTogether parts signals groups
      → AreRightTogether parts
  right_together signals groups coded work =
      record {
        some = composed_exist (length parts) (graph_of parts) (joined_signals parts)
            (λ i below. (coded_at parts coded i below).graph_is)
            (signals_joined parts (distinct_at parts coded) work.joined.driven work.joined.private);
        free = λ at h composed. groups_suffice (length parts) (graph_of parts) at h composed
            (all_free coded work.joined groups work.free);
        serves = λ at h netlists m composed each joined over. implements (length parts) (graph_of parts) netlists at h m
            each composed (groups_suffice (length parts) (graph_of parts) at h composed
            (all_free coded work.joined groups work.free)) joined over;
      }
