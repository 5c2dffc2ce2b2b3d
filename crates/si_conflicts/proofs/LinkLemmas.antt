-- States linked by code, and by conflict.
use Rattle.std.proofs.Common.{◌≡◌, ◌≢◌, ℕ, ◌+◌, ◌<◌, ◌≤◌, ◌==◌, Bool, true, false, not, List, length, get_or, set}
use Rattle.std.proofs.Common.{get_or-set_same, get_or-set_other, Option, Some, None, sym, ap, subst, ◌∙◌, arith, inl}
use Rattle.std.proofs.Common.{inr, eqb-true, eq-eqb}
use Rattle.std.proofs.lemmas.Bool.{cases_Bool, cases_eq, cases_order, true≢false}
use Rattle.si_base.specs.Codes.{CodedGraph, IsCoded, code}
use Rattle.si_base.specs.Proper.{IsConflict}
use Rattle.si_graph.specs.Loops.Arcs.{IsFirstPlace}
use Rattle.si_conflicts.specs.declared.keys.Key.{Key}
use Rattle.si_conflicts.specs.Loops.Keys.{IsKey}
use Rattle.si_conflicts.specs.Loops.Links.{IsFirstOfCode, IsFirstClash, HasNextClash}
use Rattle.si_conflicts.proofs.KeyLemmas.{apart_conflict, same_no_conflict}

-- ---- the first place
pub place_here : (P : ℕ → Type 0) (s n : ℕ) → s < n → P s → IsFirstPlace P s n (Some s)
place_here P s n within holds = record {
  from = omega arith;
  below = within;
  holds = holds;
  none_before = λ j low high
      _. omega (arith, low, high);
}

pub place_on : (P : ℕ → Type 0) (s n : ℕ) (o : Option ℕ) → (P s → ⊥) → IsFirstPlace P (s + 1) n o → IsFirstPlace P s n o
place_on P s n None not first = λ j low high holds. elim (cases_eq j s) [
  | inl same ↦ not (subst P same holds)
  | inr other ↦ first j (omega arith) high holds
]
place_on P s n (Some k) not first = record {
  from = (let f = first.from in omega arith);
  below = first.below;
  holds = first.holds;
  none_before = λ j low high holds. elim (cases_eq j s) [
    | inl same ↦ not (subst P same holds)
    | inr other ↦ first.none_before j (omega arith) high holds
  ];
}

-- ---- the links, from the last state to the first
pub firsts_more : (c : CodedGraph) (s : ℕ) (old new : ℕ → Option ℕ) → s < c.graph.states
    → ((k : ℕ) → IsFirstOfCode c (s + 1) k (old k)) → new (code c s) ≡ Some s → ((k : ℕ) → k ≢ code c s → new k ≡ old k)
    → (k : ℕ) → IsFirstOfCode c s k (new k)
firsts_more c s old new within firsts there others k = elim (cases_eq k (code c s)) [
  | inl same ↦ subst (λ o. IsFirstOfCode c s k o) (sym (ap new same ∙ there))
      (place_here (λ t. code c t ≡ k) s c.graph.states within (sym same))
  | inr other ↦ subst (λ o. IsFirstOfCode c s k o) (sym (others k other))
      (place_on (λ t. code c t ≡ k) s c.graph.states (old k) (λ same. other (sym same)) (firsts k))
]

pub links_more : (c : CodedGraph) (s : ℕ) (next : List (Option ℕ)) (o : Option ℕ) → s < length next
    → IsFirstOfCode c (s + 1) (code c s) o
    → ((j : ℕ) → s + 1 ≤ j → j < c.graph.states → IsFirstOfCode c (j + 1) (code c j) (get_or next j None))
    → (j : ℕ) → s ≤ j → j < c.graph.states → IsFirstOfCode c (j + 1) (code c j) (get_or (set next s o) j None)
links_more c s next o inside first links j from within = elim (cases_eq j s) [
  | inl same ↦
      (let P : ℕ → Type 0 = λ i. IsFirstOfCode c (i + 1) (code c i) (get_or (set next s o) i None) in
      subst P (sym same) (subst (λ x. IsFirstOfCode c (s + 1) (code c s) x) (sym (get_or-set_same next s o None inside))
      first))
  | inr other ↦ subst (λ x. IsFirstOfCode c (j + 1) (code c j) x) (sym (get_or-set_other next s j o None other))
      (links j (omega arith) within)
]

-- ---- what a comparison of two keys' signals tells
pub signals_apart : (r : Bool) (x y u v : Key) → r ≡ not (y.excited == x.excited) → r ≡ true → x ≡ u → y ≡ v
    → u.excited ≢ v.excited
signals_apart r x y u v is differ at_u at_v same =
    let equal : y.excited ≡ x.excited = ap (λ (k : Key). k.excited) at_v ∙ sym same ∙ ap (λ (k : Key). k.excited)
    (sym at_u) in
    true≢false (sym differ ∙ is ∙ ap not (eq-eqb y.excited x.excited equal))

pub signals_same : (r : Bool) (x y u v : Key) → r ≡ not (y.excited == x.excited) → r ≡ false → x ≡ u → y ≡ v
    → u.excited ≡ v.excited
signals_same r x y u v is none at_u at_v = elim (cases_Bool (y.excited == x.excited)) [
  | inl same ↦ ap (λ (k : Key). k.excited) (sym at_u) ∙ sym (eqb-true y.excited x.excited same) ∙ ap
      (λ (k : Key). k.excited) at_v
  | inr other ↦ absurd (true≢false (sym (is ∙ ap not other) ∙ none))
]

-- ---- the first state in conflict, by the first later state of the code
module _ (c : CodedGraph) (coded : IsCoded c) (s low : ℕ) (x : Key) (within : s < c.graph.states) (before : s < low)
    (is_x : IsKey c s x) where
  pub clash_here : (t : ℕ) (y : Key) → IsKey c t y → x.excited ≢ y.excited → IsFirstOfCode c low (code c s) (Some t)
      → IsFirstClash c s low (Some t)
  clash_here t y is_y apart first =
      let order : s < t = (let l = first.from in omega arith) in
      record {
        from = first.from;
        below = first.below;
        holds = apart_conflict c coded.values s t x y is_x is_y order first.below (sym first.holds) apart;
        none_before = λ j from below is. first.none_before j from below (sym is.same_code);
      }

  -- t enables just what s does: a later state is in conflict with the one as with the other
  module _ (t : ℕ) (y : Key) (is_y : IsKey c t y) (same : x.excited ≡ y.excited)
      (first : IsFirstOfCode c low (code c s) (Some t)) (keys : (u : ℕ) → u < c.graph.states
      → (k : Key) × IsKey c u k) where
    order : s < t
    order = (let l = first.from in omega arith)

    to_t : (u : ℕ) → t < u → IsConflict c (s, u) → IsConflict c (t, u)
    to_t u later is =
        let key = keys u is.within in
        apart_conflict c coded.values t u y key.0 is_y key.1 later is.within (first.holds ∙ is.same_code)
        (λ equal. same_no_conflict c coded.values s u x key.0 is_x key.1 (same ∙ equal) is)

    to_s : (u : ℕ) → t < u → IsConflict c (t, u) → IsConflict c (s, u)
    to_s u later is =
        let key = keys u is.within in
        apart_conflict c coded.values s u x key.0 is_x key.1 (omega (arith, order)) is.within
        (sym first.holds ∙ is.same_code)
        (λ equal. same_no_conflict c coded.values t u y key.0 is_y key.1 (sym same ∙ equal) is)

    -- no conflict of s from `low` on before one of t
    up_to : (j : ℕ) → low ≤ j → IsConflict c (s, j) → t < j
    up_to j from is = elim (cases_order j t) [
      | inl equal ↦ absurd (same_no_conflict c coded.values s t x y is_x is_y same
          (subst (λ u. IsConflict c (s, u)) equal is))
      | inr (inl less) ↦ absurd (first.none_before j from less (sym is.same_code))
      | inr (inr more) ↦ more
    ]

    pub clash_behind : (o : Option ℕ) → IsFirstClash c t (t + 1) o → IsFirstClash c s low o
    clash_behind None none = λ j from below is.
        (let later = up_to j from is in none j (omega arith) below (to_t j later is))
    clash_behind (Some u) found = record {
      from = (let l = found.from in let m = first.from in omega arith);
      below = found.below;
      holds = to_s u (let l = found.from in omega arith) found.holds;
      none_before = λ j from below is. (let later = up_to j from is in found.none_before j (omega arith) below
          (to_t j later is));
    }

-- ---- links of conflicts, from the last state to the first
pub clash_links_more : (c : CodedGraph) (s : ℕ) (next : List (Option ℕ)) (o : Option ℕ) → s < length next
    → IsFirstClash c s (s + 1) o → ((j : ℕ) → s + 1 ≤ j → j < c.graph.states → HasNextClash c next j)
    → (j : ℕ) → s ≤ j → j < c.graph.states → HasNextClash c (set next s o) j
clash_links_more c s next o inside first links j from within = elim (cases_eq j s) [
  | inl same ↦ (
      let P : ℕ → Type 0 = λ i. IsFirstClash c i (i + 1) (get_or (set next s o) i None) in
      subst P (sym same)
      (subst (λ v. IsFirstClash c s (s + 1) v) (sym (get_or-set_same next s o None inside)) first))
  | inr other ↦
      subst (λ v. IsFirstClash c j (j + 1) v) (sym (get_or-set_other next s j o None other))
      (links j (omega arith) within)
]
