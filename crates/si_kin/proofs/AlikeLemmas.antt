-- The first states of each class and code, state by state.
use Rattle.std.proofs.Common.{◌≡◌, ◌≢◌, ◌⊎◌, ℕ, ◌+◌, ◌<◌, ◌≤◌, false, List, [], ◌∷◌, ◌++◌, length, get_or}
use Rattle.std.proofs.Common.{Option, None, Some, unwrap_or, refl, sym, ap, subst, ◌∙◌, arith, inl, inr, eqb-true}
use Rattle.std.specs.Ordering.{nat_cmp, is_eq}
use Rattle.std.proofs.lemmas.Bool.{cases_eq, cases_Bool, and_parts}
use Rattle.std.proofs.lemmas.List.{length_push, get_or_push, get_or_append_left}
use Rattle.std.proofs.lemmas.Option.{same_Some}
use Rattle.si_base.specs.Codes.{CodedGraph}
use Rattle.si_graph.proofs.ArcFacts.{is_eq-then, is_eq-nat}
use Rattle.si_kin.specs.declared.alike.Likeness.{Likeness}
use Rattle.si_kin.specs.Loops.Alike.{AreFirstAlike, likeness_cmp, likeness_of}

-- ---- likenesses
pub other_likeness : (k q : Likeness) → q ≢ k → is_eq (likeness_cmp k q) ≡ false
other_likeness k q apart = elim (cases_Bool (is_eq (likeness_cmp k q))) [
  | inr differs ↦ differs
  | inl same ↦ absurd (
      let parts = and_parts (is_eq (nat_cmp k.class q.class)) (is_eq (nat_cmp k.code q.code))
      (sym (is_eq-then (nat_cmp k.class q.class) (nat_cmp k.code q.code)) ∙ same) in
      let class : k.class ≡ q.class = eqb-true k.class q.class (sym (is_eq-nat k.class q.class) ∙ parts.0) in
      let code : k.code ≡ q.code = eqb-true k.code q.code (sym (is_eq-nat k.code q.code) ∙ parts.1) in
      let whole : k ≡ q = λ i. record { class = class i; code = code i } in
      apart (sym whole))
]

cases_likeness : (k q : Likeness) → (k ≡ q) ⊎ (k ≢ q)
cases_likeness k q = elim (cases_eq k.class q.class) [
  | inr apart ↦ inr (λ same. apart (ap (λ (x : Likeness). x.class) same))
  | inl class ↦ elim (cases_eq k.code q.code) [
    | inr apart ↦ inr (λ same. apart (ap (λ (x : Likeness). x.code) same))
    | inl code ↦ inl (λ i. record { class = class i; code = code i })
  ]
]

-- ---- the first n states
-- firsts has for each of them the first that is alike, which stands at the likeness of both
pub record AreKnown (c : CodedGraph) (classes : List ℕ) (n : ℕ) (firsts : List ℕ) (known : Likeness → Option ℕ)
    : Type 0 where
  pub count : length firsts ≡ n
  pub all : (s : ℕ) → s < n → known (likeness_of c classes s) ≡ Some (get_or firsts s 0)
  pub stand : (q : Likeness) (t : ℕ) → known q ≡ Some t
      → (t < n) × (likeness_of c classes t ≡ q) × (get_or firsts t 0 ≡ t)
  pub up_to : (s : ℕ) → s < n → get_or firsts s 0 ≤ s

module _ (c : CodedGraph) (classes : List ℕ) (n first : ℕ) (key : Likeness) (firsts new_firsts : List ℕ)
    (old new : Likeness → Option ℕ) (are : AreKnown c classes n firsts old) (key_is : key ≡ likeness_of c classes n)
    (found : first ≡ unwrap_or (old key) n) (there : new key ≡ Some first)
    (others : (q : Likeness) → q ≢ key → new q ≡ old q) (pushed : new_firsts ≡ firsts ++ first ∷ []) where
  first_before : (s : ℕ) → s < n → get_or new_firsts s 0 ≡ get_or firsts s 0
  first_before s below = ap (λ (xs : List ℕ). get_or xs s 0) pushed
      ∙ get_or_append_left firsts (first ∷ []) 0 s (omega (arith, below, are.count))

  first_now : get_or new_firsts n 0 ≡ first
  first_now = ap (λ (xs : List ℕ). get_or xs n 0) pushed ∙ get_or_push firsts first 0 n are.count

  -- what the first state is: one that was known, or n itself
  cases_first : ((first < n) × (likeness_of c classes first ≡ key) × (get_or firsts first 0 ≡ first)
      × (old key ≡ Some first)) ⊎ ((first ≡ n) × (old key ≡ None))
  cases_first = by (old key) refl
    where
      by : (o : Option ℕ) → old key ≡ o → ((first < n) × (likeness_of c classes first ≡ key)
          × (get_or firsts first 0 ≡ first) × (old key ≡ Some first)) ⊎ ((first ≡ n) × (old key ≡ None))
      by None is = inr (found ∙ ap (λ o. unwrap_or o n) is, is)
      by (Some t) is =
          let own : first ≡ t = found ∙ ap (λ o. unwrap_or o n) is in
          let at : old key ≡ Some first = is ∙ ap Some (sym own) in
          let stand = are.stand key first at in
          inl (stand.0, stand.1, stand.2, at)

  all_more : (s : ℕ) → s < n + 1 → new (likeness_of c classes s) ≡ Some (get_or new_firsts s 0)
  all_more s below = elim (cases_eq s n) [
    | inl last ↦ ap (λ (t : ℕ). new (likeness_of c classes t)) last ∙ ap new (sym key_is) ∙ there
        ∙ ap Some (sym first_now ∙ ap (λ (t : ℕ). get_or new_firsts t 0) (sym last))
    | inr earlier ↦ (
        let before : s < n = omega (arith, below, earlier) in
        let was = are.all s before in
        elim (cases_likeness (likeness_of c classes s) key) [
          | inr apart ↦ others (likeness_of c classes s) apart ∙ was ∙ ap Some (sym (first_before s before))
          | inl same ↦ (
              let at : old key ≡ Some (get_or firsts s 0) = ap old (sym same) ∙ was in
              let own : first ≡ get_or firsts s 0 = found ∙ ap (λ o. unwrap_or o n) at in
              ap new same ∙ there ∙ ap Some (own ∙ sym (first_before s before)))
        ])
  ]

  stand_first : (first < n + 1) × (likeness_of c classes first ≡ key) × (get_or new_firsts first 0 ≡ first)
  stand_first = elim cases_first [
    | inl was ↦ (omega (arith, was.0), was.1, first_before first was.0 ∙ was.2)
    | inr is ↦ (
      omega (arith, is.0),
      ap (likeness_of c classes) is.0 ∙ sym key_is,
      ap (λ (t : ℕ). get_or new_firsts t 0) is.0 ∙ first_now,
    )
  ]

  stand_more : (q : Likeness) (t : ℕ) → new q ≡ Some t
      → (t < n + 1) × (likeness_of c classes t ≡ q) × (get_or new_firsts t 0 ≡ t)
  stand_more q t is = elim (cases_likeness q key) [
    | inr other ↦ (
        let was = are.stand q t (sym (others q other) ∙ is) in
        (omega (arith, was.0), was.1, first_before t was.0 ∙ was.2))
    | inl same ↦ (
        let own : first ≡ t = same_Some first t (sym there ∙ ap new (sym same) ∙ is) in
        subst (λ (x : ℕ). (x < n + 1) × (likeness_of c classes x ≡ q) × (get_or new_firsts x 0 ≡ x)) own
        (stand_first.0, stand_first.1 ∙ sym same, stand_first.2))
  ]

  up_to_more : (s : ℕ) → s < n + 1 → get_or new_firsts s 0 ≤ s
  up_to_more s below = elim (cases_eq s n) [
    | inl last ↦ (
        let at = ap (λ (t : ℕ). get_or new_firsts t 0) last ∙ first_now in
        omega (arith, at, stand_first.0, last))
    | inr earlier ↦ (
        let before : s < n = omega (arith, below, earlier) in
        let was = are.up_to s before in omega (arith, was, first_before s before))
  ]

  pub one_more_known : AreKnown c classes (n + 1) new_firsts new
  one_more_known = record {
    count = ap (λ (xs : List ℕ). length xs) pushed ∙ length_push firsts first ∙ ap (λ (k : ℕ). k + 1) are.count;
    all = all_more;
    stand = stand_more;
    up_to = up_to_more;
  }

-- all states
pub all_known : (c : CodedGraph) (classes firsts : List ℕ) (known : Likeness → Option ℕ)
    → AreKnown c classes c.graph.states firsts known → AreFirstAlike c classes firsts
all_known c classes firsts known are = record {
  count = are.count;
  up_to = are.up_to;
  own = λ s below. (are.stand (likeness_of c classes s) (get_or firsts s 0) (are.all s below)).2;
  exactly = λ s t one other. (
    λ same. sym (are.stand (likeness_of c classes s) (get_or firsts s 0) (are.all s one)).1
        ∙ ap (likeness_of c classes) same
        ∙ (are.stand (likeness_of c classes t) (get_or firsts t 0) (are.all t other)).1,
    λ alike. same_Some (get_or firsts s 0) (get_or firsts t 0)
        (sym (are.all s one) ∙ ap known alike ∙ are.all t other),
  );
}
