-- Of the first conflicts those to whose states input events alone lead from one state.
use Rattle.std.proofs.Common.{◌≡◌, ℕ, ◌<◌, ◌≤◌, List, [], ◌∷◌, ◌++◌, length, get_or, Contains, Option, Some, None}
use Rattle.std.proofs.Common.{Bool, true, false, is_some, option_map, refl, sym, ap, subst, ◌∙◌, arith, inl, inr}
use Rattle.std.proofs.lemmas.Bool.{true≢false}
use Rattle.std.proofs.lemmas.List.{get_or-map, length-map, map-append}
use Rattle.si_base.specs.Codes.{CodedGraph}
use Rattle.si_base.specs.Order.{Before}
use Rattle.si_base.specs.Proper.{IsConflict, pair_place}
use Rattle.si_conflicts.specs.declared.conflicts.Pair.{Pair}
use Rattle.si_conflicts.specs.Conflicts.{AreFirstConflicts, pairs_of}
use Rattle.si_conflicts.proofs.OneConflictList.{first_unique}
use Rattle.si_graph.proofs.ListMembers.{Contains-map, Contains-from_map}
use Rattle.si_told.specs.All.{AreAll}
use Rattle.si_lint.specs.Findings.{IsJoinedOfFirst, IsUnresolvable, max_looked_at}
use Rattle.si_told.specs.Loops.Search.{Adds}
use Rattle.si_lint.specs.Loops.Search.{IsTwinConflictOf}
use Rattle.si_told.proofs.Alls.{adds_none, adds_one, same_are}
use Rattle.si_walks.specs.declared.witness.Witness.{Witness}
use Rattle.si_walks.specs.Joined.{IsSourceOrNone, IsJoinedConflict, source_of}
use Rattle.si_walks.specs.Twins.{AreTwinPairsOrNone, IsTwinConflict, max_twin_states}

abbrev pub As : Pair → ℕ × ℕ
As x = (x.p, x.q)

abbrev pub IsOf : Pair → ℕ × ℕ → Type 0
IsOf x pair = As x ≡ pair

-- a pair that is put last
pub pushed_pair : (old new : List Pair) (x : Pair) → new ≡ old ++ x ∷ [] → pairs_of new ≡ pairs_of old ++ As x ∷ []
pushed_pair old new x is = ap pairs_of is ∙ map-append As old (x ∷ [])

module _ (c : CodedGraph) (pairs : List Pair) (first : AreFirstConflicts c max_looked_at (pairs_of pairs)) where
  pub pairs_order : (i j : ℕ) (d : Pair) → i < j → j < length pairs → (x y : ℕ × ℕ) → IsJoinedOfFirst c x
      → IsJoinedOfFirst c y → IsOf (get_or pairs i d) x → IsOf (get_or pairs j d) y
      → Before (pair_place x) (pair_place y)
  pairs_order i j d before within x y p q one other =
      let size = length-map pairs As in
      let is_x : get_or (pairs_of pairs) i (As d) ≡ x = get_or-map As pairs i d (As d) (omega arith) ∙ one in
      let is_y : get_or (pairs_of pairs) j (As d) ≡ y = get_or-map As pairs j d (As d) within ∙ other in
      let less = first.in_order i j (As d) before (omega (arith, size)) in
      subst (λ (v : ℕ × ℕ). Before (pair_place x) (pair_place v)) is_y
      (subst (λ (u : ℕ × ℕ). Before (pair_place u) (pair_place (get_or (pairs_of pairs) j (As d)))) is_x less)

  conflict_at : (k : ℕ) (x : Pair) → k < length pairs → x ≡ get_or pairs k x
      → Contains (pairs_of pairs) (As x) × IsConflict c (As x)
  conflict_at k x within at =
      let there : Contains (pairs_of pairs) (As x) = Contains-map As pairs x (k, within, sym at) in
      (there, first.each (As x) there)

  pub pair_states : (k : ℕ) (x : Pair) → k < length pairs → x ≡ get_or pairs k x
      → (x.p < c.graph.states) × (x.q < c.graph.states)
  pair_states k x within at =
      let is = (conflict_at k x within at).1 in (omega (arith, is.order, is.within), is.within)

  -- what the search for a source tells
  pub unresolvable_here : (k : ℕ) (x : Pair) (w : Option Witness) (old new : List (ℕ × ℕ)) (told : Bool)
      → k < length pairs → x ≡ get_or pairs k x → IsSourceOrNone c (As x) (option_map source_of w) → told ≡ is_some w
      → told ≡ true → new ≡ old ++ As x ∷ [] → Adds pair_place (λ pair. IsJoinedOfFirst c pair × IsOf x pair) old new
  unresolvable_here k x None old new told within at is tells yes_told pushed =
      absurd (true≢false (sym yes_told ∙ tells))
  unresolvable_here k x (Some y) old new told within at is tells yes_told pushed =
      let there = conflict_at k x within at in
      let source = source_of y in
      let joined : IsJoinedConflict c (As x) = record {
        conflict = there.1;
        source = source.state;
        to_first = (source.first, is.is_first.holds.to_first);
        to_second = (source.second, is.is_first.holds.to_second);
      } in
      adds_one pair_place (λ pair. IsJoinedOfFirst c pair × IsOf x pair) old new (As x)
      (record { joined = joined; looked_at = pairs_of pairs; first = first; among = there.0 }, refl)
      (λ pair also. also.1) pushed

  pub unresolvable_pass : (x : Pair) (w : Option Witness) (old : List (ℕ × ℕ)) (told : Bool)
      → IsSourceOrNone c (As x) (option_map source_of w) → told ≡ is_some w → told ≡ false
      → Adds pair_place (λ pair. IsJoinedOfFirst c pair × IsOf x pair) old old
  unresolvable_pass x (Some y) old told is tells not_told = absurd (true≢false (sym tells ∙ not_told))
  unresolvable_pass x None old told is tells not_told =
      adds_none pair_place (λ pair. IsJoinedOfFirst c pair × IsOf x pair) old none
    where
      none : (pair : ℕ × ℕ) → IsJoinedOfFirst c pair × IsOf x pair → ⊥
      none pair (also, at) =
          let joined : IsJoinedConflict c (As x) = subst (IsJoinedConflict c) (sym at) also.joined in
          is (record { state = joined.source; first = joined.to_first.0; second = joined.to_second.0 })
          (record { to_first = joined.to_first.1; to_second = joined.to_second.1 })

  pub unresolvable_each : (pair : ℕ × ℕ) → IsJoinedOfFirst c pair → (x : Pair) × Contains pairs x × IsOf x pair
  unresolvable_each pair is =
      let same = first_unique c max_looked_at is.looked_at (pairs_of pairs) is.first first in
      Contains-from_map As pairs pair (subst (λ (l : List (ℕ × ℕ)). Contains l pair) same is.among)

-- ---- conflicts of twins
pub few_if_some : (c : CodedGraph) (twins : Option (List Bool)) (told : Bool) → AreTwinPairsOrNone c twins
    → told ≡ is_some twins → told ≡ true → c.graph.states ≤ max_twin_states
few_if_some c None told are tells yes_told = absurd (true≢false (sym yes_told ∙ tells))
few_if_some c (Some set) told are tells yes_told = are.0

pub many_if_none : (c : CodedGraph) (twins : Option (List Bool)) (told : Bool) → AreTwinPairsOrNone c twins
    → told ≡ is_some twins → told ≡ false → max_twin_states < c.graph.states
many_if_none c None told are tells not_told = are
many_if_none c (Some set) told are tells not_told = absurd (true≢false (sym tells ∙ not_told))

same_two : (x y : ℕ × ℕ) → x.0 ≡ y.0 → x.1 ≡ y.1 → x ≡ y
same_two x y first second = λ i. (first i, second i)

module _ (c : CodedGraph) where
  pub twins_by_second : (p : ℕ) (x y : ℕ × ℕ) → IsTwinConflictOf c p x → IsTwinConflictOf c p y → x.1 < y.1
      → Before (pair_place x) (pair_place y)
  twins_by_second p x y one other less = inr (one.1 ∙ sym other.1, inl less)

  pub twins_by_first : (x y : ℕ × ℕ) → IsTwinConflict c x → IsTwinConflict c y → x.0 < y.0
      → Before (pair_place x) (pair_place y)
  twins_by_first x y one other less = inl less

  pub twin_here : (p k : ℕ) (old new : List (ℕ × ℕ)) → IsTwinConflict c (p, k) → new ≡ old ++ (p, k) ∷ []
      → Adds pair_place (λ x. IsTwinConflictOf c p x × (x.1 ≡ k)) old new
  twin_here p k old new is pushed =
      adds_one pair_place (λ x. IsTwinConflictOf c p x × (x.1 ≡ k)) old new (p, k) ((is, refl), refl)
      (λ x also. same_two (p, k) x (sym also.0.1) (sym also.1)) pushed

  pub twin_pass : (p k : ℕ) (old : List (ℕ × ℕ)) → (IsTwinConflict c (p, k) → ⊥)
      → Adds pair_place (λ x. IsTwinConflictOf c p x × (x.1 ≡ k)) old old
  twin_pass p k old none = adds_none pair_place (λ x. IsTwinConflictOf c p x × (x.1 ≡ k)) old
      (λ x also. none (subst (IsTwinConflict c) (same_two x (p, k) also.0.1 also.1) also.0.0))

  pub twins_below : (n : ℕ) → c.graph.states ≤ n → (x : ℕ × ℕ) → IsTwinConflict c x → (x.0 < n) × (x.1 < n)
  twins_below n all x is =
      let conflict = is.conflict in
      (omega (arith, conflict.order, conflict.within), omega (arith, conflict.within))

  -- as far as pairs are looked at
  pub all_unresolvable : (xs : List (ℕ × ℕ)) → c.graph.states ≤ max_twin_states
      → AreAll pair_place (IsTwinConflict c) xs → AreAll pair_place (IsUnresolvable c) xs
  all_unresolvable xs few are = same_are pair_place (IsTwinConflict c) (IsUnresolvable c) xs
      (λ x is. inl (few, is)) (λ x is. elim is [ inl twins ↦ twins.1 | inr large ↦ absurd (omega (arith, large.0)) ]) are

  pub joined_unresolvable : (xs : List (ℕ × ℕ)) → max_twin_states < c.graph.states
      → AreAll pair_place (IsJoinedOfFirst c) xs → AreAll pair_place (IsUnresolvable c) xs
  joined_unresolvable xs many are = same_are pair_place (IsJoinedOfFirst c) (IsUnresolvable c) xs
      (λ x is. inr (many, is)) (λ x is. elim is [ inl twins ↦ absurd (omega (arith, twins.0)) | inr large ↦ large.1 ]) are
