-- The first conflict that is known to be never resolved.
use Rattle.std.proofs.Common.{◌≡◌, ℕ, ◌+◌, ◌<◌, ◌≤◌, List, length, get_or, Contains, Option, Some, None, is_some, option_map}
use Rattle.std.proofs.Common.{Bool, true, false, refl, sym, ap, subst, ◌∙◌, arith, inl, inr}
use Rattle.std.proofs.lemmas.Bool.{cases_lt, cases_eq, true≢false}
use Rattle.std.proofs.lemmas.List.{get_or-map, get_or_default, length-map}
use Rattle.si_base.specs.Codes.{CodedGraph}
use Rattle.si_base.specs.Order.{Before, IsFirst}
use Rattle.si_base.specs.Proper.{IsConflict, pair_place}
use Rattle.si_base.proofs.OrderLemmas.{before_apart, before_itself}
use Rattle.si_conflicts.specs.declared.conflicts.Pair.{Pair}
use Rattle.si_conflicts.specs.Conflicts.{AreFirstConflicts, pairs_of}
use Rattle.si_conflicts.proofs.OneConflictList.{first_unique}
use Rattle.si_graph.proofs.ListMembers.{Contains-map}
use Rattle.si_suggest.specs.Never.{HasNoNever, IsFirstNeverOrNone, IsNeverResolved, NeverIsNeverResolved, max_looked_at}
use Rattle.si_walks.specs.declared.witness.Witness.{Witness}
use Rattle.si_walks.specs.Joined.{IsJoinedConflict, IsSourceOrNone, source_of}
use Rattle.si_walks.specs.Twins.{AreTwinPairsOrNone, IsFirstTwinOrNone, max_twin_states}
use Rattle.si_walks.proofs.Joined.{never_resolved as joined_never}
use Rattle.si_walks.proofs.Twins.{never_resolved as twin_never}

-- ---- the law
pub never_resolved : NeverIsNeverResolved
never_resolved given trace v pair lineage (inl of_twins) free =
    twin_never given trace v pair lineage of_twins.twins free
never_resolved given trace v pair lineage (inr joined) free =
    joined_never given trace v pair lineage joined.joined free

-- ---- in a graph with few states
pub of_twins : (c : CodedGraph) (found : Option (ℕ × ℕ)) → c.graph.states ≤ max_twin_states
    → IsFirstTwinOrNone c found → IsFirstNeverOrNone c found
of_twins c None few none = λ pair is. elim is [
  | inl twins ↦ none few pair twins.twins
  | inr joined ↦ absurd (omega (arith, few, joined.many))
]
of_twins c (Some x) few first = record {
  holds = inl (record { few = few; twins = first.1.holds });
  none_before = λ y is before. elim is [
    | inl twins ↦ first.1.none_before y twins.twins before
    | inr joined ↦ absurd (omega (arith, few, joined.many))
  ];
}

pub of_found : (c : CodedGraph) (twins : Option (List Bool)) (found : Option (ℕ × ℕ)) → AreTwinPairsOrNone c twins
    → is_some twins ≡ true → IsFirstTwinOrNone c found → IsFirstNeverOrNone c found
of_found c None found are told first = absurd (true≢false (sym told))
of_found c (Some set) found are told first = of_twins c found are.0 first

-- ---- in a larger one
abbrev pub As : Pair → ℕ × ℕ
As x = (x.p, x.q)

-- of the pairs before the place none is joined
abbrev pub NoneJoined : CodedGraph → List Pair → ℕ → Type 0
NoneJoined c pairs k = (j : ℕ) (d : Pair) → j < k → IsJoinedConflict c (As (get_or pairs j d)) → ⊥

module _ (c : CodedGraph) (pairs : List Pair) (first : AreFirstConflicts c max_looked_at (pairs_of pairs)) where
  conflict_at : (k : ℕ) (x : Pair) → k < length pairs → x ≡ get_or pairs k x
      → Contains (pairs_of pairs) (As x) × IsConflict c (As x)
  conflict_at k x within at =
      let there : Contains (pairs_of pairs) (As x) = Contains-map As pairs x (k, within, sym at) in
      (there, first.each (As x) there)

  pub pair_states : (k : ℕ) (x : Pair) → k < length pairs → x ≡ get_or pairs k x
      → (x.p < c.graph.states) × (x.q < c.graph.states)
  pair_states k x within at =
      let is = (conflict_at k x within at).1 in (omega (arith, is.order, is.within), is.within)

  pub one_more : (k : ℕ) (x : Pair) (w : Option Witness) → k < length pairs → x ≡ get_or pairs k x
      → IsSourceOrNone c (As x) (option_map source_of w) → is_some w ≡ false → NoneJoined c pairs k
      → NoneJoined c pairs (k + 1)
  one_more k x (Some y) within at source told none j d below joined = absurd (true≢false told)
  one_more k x None within at source told none j d below joined = elim (cases_lt j k) [
    | inl before ↦ none j d before joined
    | inr past ↦ (let here : j ≡ k = omega (arith, below, past) in
        let item : get_or pairs j d ≡ x =
        ap (λ (i : ℕ). get_or pairs i d) here ∙ get_or_default pairs k d x within ∙ sym at in
        let is : IsJoinedConflict c (As x) = subst (λ (y : Pair). IsJoinedConflict c (As y)) item joined in
        source (record { state = is.source; first = is.to_first.0; second = is.to_second.0 })
        (record { to_first = is.to_first.1; to_second = is.to_second.1 }))
  ]

  -- a conflict of the list that is joined isn't before the first place at which one is
  not_before : (k : ℕ) (x : Pair) → k < length pairs → x ≡ get_or pairs k x → NoneJoined c pairs k
      → (y : ℕ × ℕ) → IsJoinedConflict c y → Contains (pairs_of pairs) y
      → Before (pair_place y) (pair_place (As x)) → ⊥
  not_before k x within at none y joined (m, inside, is) before = elim (cases_lt m k) [
    | inl earlier ↦ none m x earlier
        (subst (IsJoinedConflict c) (sym (sym (get_or-map As pairs m x (As x) m_within)
        ∙ get_or_default (pairs_of pairs) m (As x) y inside ∙ is)) joined)
    | inr past ↦ elim (cases_eq m k) [
      | inl same ↦ before_itself (pair_place (As x))
          (subst (λ (z : ℕ × ℕ). Before (pair_place z) (pair_place (As x)))
          (sym is ∙ get_or_default (pairs_of pairs) m y (As x) inside ∙ ap (λ (i : ℕ). get_or (pairs_of pairs) i (As x)) same ∙ item) before)
      | inr other ↦ before_apart (pair_place (As x)) (pair_place y) (later (omega (arith, past, other))) before
    ]
  ]
    where
      size : length (pairs_of pairs) ≡ length pairs
      size = length-map pairs As

      m_within : m < length pairs
      m_within = omega (arith, inside, size)

      item : get_or (pairs_of pairs) k (As x) ≡ As x
      item = get_or-map As pairs k x (As x) within ∙ ap As (sym at)

      later : k < m → Before (pair_place (As x)) (pair_place y)
      later more =
          subst (λ (z : ℕ × ℕ). Before (pair_place (As x)) (pair_place z))
          (get_or_default (pairs_of pairs) m (As x) y inside ∙ is)
          (subst (λ (z : ℕ × ℕ). Before (pair_place z) (pair_place (get_or (pairs_of pairs) m (As x)))) item
          (first.in_order k m (As x) more inside))

  module _ (many : max_twin_states < c.graph.states) where
    pub first_joined : (k : ℕ) (x : Pair) (w : Option Witness) → k < length pairs → x ≡ get_or pairs k x
        → IsSourceOrNone c (As x) (option_map source_of w) → is_some w ≡ true → NoneJoined c pairs k
        → IsFirst pair_place (IsNeverResolved c) (As x)
    first_joined k x None within at source told none = absurd (true≢false (sym told))
    first_joined k x (Some w) within at source told none =
        let here = conflict_at k x within at in
        let walks = source_of w in
        let joined : IsJoinedConflict c (As x) = record {
          conflict = here.1;
          source = walks.state;
          to_first = (walks.first, source.is_first.holds.to_first);
          to_second = (walks.second, source.is_first.holds.to_second);
        } in record {
          holds = inr (record {
            many = many;
            joined = joined;
            looked_at = pairs_of pairs;
            first = first;
            among = here.0;
          });
          none_before = λ y is before. elim is [
            | inl twins ↦ absurd (omega (arith, many, twins.few))
            | inr also ↦ not_before k x within at none y also.joined
                (subst (λ (l : List (ℕ × ℕ)). Contains l y)
                (first_unique c max_looked_at also.looked_at (pairs_of pairs) also.first first) also.among) before
          ];
        }

    pub none_joined : (k : ℕ) → length pairs ≤ k → NoneJoined c pairs k → HasNoNever c
    none_joined k end none y (inl twins) = absurd (omega (arith, many, twins.few))
    none_joined k end none y (inr also) = here
        (subst (λ (l : List (ℕ × ℕ)). Contains l y)
        (first_unique c max_looked_at also.looked_at (pairs_of pairs) also.first first) also.among)
      where
        here : Contains (pairs_of pairs) y → ⊥
        here (m, inside, is) =
            let size = length-map pairs As in
            let within : m < length pairs = omega (arith, inside, size) in
            let d : Pair = record { p = y.0; q = y.1 } in
            none m d (omega (arith, within, end))
            (subst (IsJoinedConflict c) (sym (sym (get_or-map As pairs m d y within) ∙ is)) also.joined)
