-- Rings and members, state by state.
use Rattle.std.proofs.Common.{◌≡◌, ℕ, zero, suc, ◌+◌, ◌<◌, ◌≤◌, Bool, true, false, cond, List, [], ◌∷◌, ◌++◌}
use Rattle.std.proofs.Common.{append-nil, length, map, filter, get_or, Option, Some, None, refl, sym, ap, subst, ◌∙◌}
use Rattle.std.proofs.Common.{arith, inl, inr}
use Rattle.std.proofs.lemmas.Bool.{cases_eq}
use Rattle.std.proofs.lemmas.List.{get_or_push, get_or_append_left, length-map, map-append}
use Rattle.std.proofs.lemmas.List.Elements.{filter-append}
use Rattle.std.proofs.lemmas.List.FromFn.{length-range_with_len}
use Rattle.std.proofs.lemmas.List.Sorted.{length_permutation}
use Rattle.std.proofs.lemmas.List.Sums.{length-filter, count_by-le-length}
use Rattle.std.specs.List.{range_with_len}
use Rattle.si_base.specs.Limits.{max_states}
use Rattle.si_base.specs.Codes.{CodedGraph, IsCoded, code}
use Rattle.si_conflicts.specs.declared.members.Member.{Member}
use Rattle.si_conflicts.specs.Loops.Links.{IsFirstOfCode}
use Rattle.si_conflicts.specs.Loops.Chains.{IsNextInRing, has_equal, with_equals, AreMembers}

pub next_is : (c : CodedGraph) (s : ℕ) (later first : Option ℕ) (t : ℕ) → s < c.graph.states
    → IsFirstOfCode c (s + 1) (code c s) later → IsFirstOfCode c 0 (code c s) first
    → ((u : ℕ) → later ≡ Some u → t ≡ u) → ((u : ℕ) → later ≡ None → first ≡ Some u → t ≡ u) → IsNextInRing c s t
next_is c s (Some u) first t within is_later is_first one other =
    inl (subst (λ v. IsFirstOfCode c (s + 1) (code c s) (Some v)) (sym (one u refl)) is_later)
next_is c s None (Some u) t within is_later is_first one other =
    inr (is_later, subst (λ v. IsFirstOfCode c 0 (code c s) (Some v)) (sym (other u refl refl)) is_first)
next_is c s None None t within is_later is_first one other = absurd (is_first s (omega arith) within refl)

pub rings_more : (c : CodedGraph) (n : ℕ) (next : List ℕ) (t : ℕ) → length next ≡ n
    → ((s : ℕ) → s < n → IsNextInRing c s (get_or next s 0)) → IsNextInRing c n t → (s : ℕ) → s < n + 1
    → IsNextInRing c s (get_or (next ++ t ∷ []) s 0)
rings_more c n next t count each is s below = elim (cases_eq s n) [
  | inl same ↦ (
      let last : get_or (next ++ t ∷ []) s 0 ≡ t =
      ap (λ i. get_or (next ++ t ∷ []) i 0) (same ∙ sym count) ∙ get_or_push next t 0 (length next) refl in
      subst (λ k. IsNextInRing c s k) (sym last) (subst (λ i. IsNextInRing c i t) (sym same) is))
  | inr other ↦ (
      let before : get_or (next ++ t ∷ []) s 0 ≡ get_or next s 0 =
      get_or_append_left next (t ∷ []) 0 s (omega (arith, count)) in
      subst (λ k. IsNextInRing c s k) (sym before) (each s (omega arith)))
]

-- ---- members
range_more : (i n : ℕ) → range_with_len i (n + 1) ≡ range_with_len i n ++ (i + n) ∷ []
range_more i zero = ap (λ k. k ∷ []) (omega arith)
range_more i (suc n) =
    let same : i + 1 + n ≡ i + suc n = omega arith in
    let long : suc n + 1 ≡ suc (n + 1) = omega arith in
    ap (range_with_len i) long
    ∙ ap (λ xs. i ∷ xs) (range_more (i + 1) n)
    ∙ ap (λ k. i ∷ (range_with_len (i + 1) n ++ k ∷ [])) same

module _ (next : List ℕ) (k : ℕ) where
  one_more : (b : Bool) → has_equal next k ≡ b
      → with_equals next (k + 1) ≡ with_equals next k ++ cond b (k ∷ []) []
  one_more b is =
      ap (filter (has_equal next)) (range_more 0 k ∙ ap (λ n. range_with_len 0 k ++ n ∷ []) zero_plus)
      ∙ filter-append (has_equal next) (range_with_len 0 k) (k ∷ [])
      ∙ ap (λ w. with_equals next k ++ cond w (k ∷ []) []) is
    where
      zero_plus : 0 + k ≡ k
      zero_plus = omega arith

  pub states_more : (ms : List Member) (m : Member) → map (λ x. x.state) ms ≡ with_equals next k → m.state ≡ k
      → has_equal next k ≡ true → map (λ x. x.state) (ms ++ m ∷ []) ≡ with_equals next (k + 1)
  states_more ms m are here is =
      map-append (λ (x : Member). x.state) ms (m ∷ [])
      ∙ ap (λ xs. xs ++ m.state ∷ []) are
      ∙ ap (λ n. with_equals next k ++ n ∷ []) here
      ∙ sym (one_more true is)

  pub states_same : (ms : List Member) → map (λ x. x.state) ms ≡ with_equals next k → has_equal next k ≡ false
      → map (λ x. x.state) ms ≡ with_equals next (k + 1)
  states_same ms are is = are ∙ sym (append-nil (with_equals next k)) ∙ sym (one_more false is)

pub few_members : (c : CodedGraph) (next : List ℕ) (members : List Member) → AreMembers c next members
    → length members ≤ c.graph.states
few_members c next members are =
    let size = length_permutation (with_equals next c.graph.states) (map (λ (m : Member). m.state) members)
    are.states in
    let mapped = length-map members (λ (m : Member). m.state) in
    let kept = length-filter (has_equal next) (range_with_len 0 c.graph.states) in
    let few = count_by-le-length (has_equal next) (range_with_len 0 c.graph.states) in
    let all = length-range_with_len 0 c.graph.states in
    omega (arith, size, mapped, kept, few, all)

-- the same where the parts are known by equations
pub few_given : (c d : CodedGraph) (next : List ℕ) (members ms : List Member) → AreMembers c next members → d ≡ c
    → IsCoded d → ms ≡ members → length ms ≤ max_states
few_given c d next members ms are d_is coded ms_is =
    let few = few_members c next members are in
    let size = ap (λ (xs : List Member). length xs) ms_is in
    let states = ap (λ (x : CodedGraph). x.graph.states) d_is in
    omega (arith, few, size, states, coded.graph_is.few_states)
