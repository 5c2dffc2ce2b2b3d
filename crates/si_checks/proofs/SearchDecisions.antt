-- What can be decided of finite lists, and the first of finitely many candidates.
use Rattle.std.proofs.Common.{◌≡◌, ℕ, zero, suc, ◌<◌, ◌⊎◌, Bool, true, false, List, [], ◌∷◌, ◌++◌, map, length, get_or}
use Rattle.std.proofs.Common.{Contains, Option, Some, slice_get, refl, sym, ap, subst, ◌∙◌, arith, inl, inr}
use Rattle.std.proofs.lemmas.Bool.{cases_Bool, cases_lt, cases_order, true≢false}
use Rattle.std.proofs.lemmas.List.Elements.{Contains-append_left, Contains-append_right, Contains-append_cases}
use Rattle.std.proofs.lemmas.Option.{slice_get-get_or, slice_get_within, same_Some}
use Rattle.si_base.specs.declared.ids.Event.{Event}
use Rattle.si_base.specs.declared.graph.Signal.{Signal}
use Rattle.si_base.specs.declared.graph.SigKind.TheVariants.{Input}
use Rattle.si_base.specs.Graph.{IsNonInput, is_driven, same_event}
use Rattle.si_base.proofs.GraphSteps.{same_event-true, same_event-refl}
use Rattle.si_checks.specs.Loops.Searches.{IsFirstOrNone}
use Rattle.si_checks.proofs.SearchFirst.{first_or_none}
use Rattle.si_graph.proofs.ListMembers.{Contains-cons_cases, Contains-here, Contains-there, Contains-nil, Contains-map}
use Rattle.si_graph.proofs.ListMembers.{Contains-from_map}

-- P holds or it doesn't
abbrev pub Decided : Type 0 → Type 0
Decided P = P ⊎ (P → ⊥)

pub both : {P Q : Type 0} → Decided P → Decided Q → Decided (P × Q)
both (inl p) (inl q) = inl (p, q)
both (inl p) (inr not_q) = inr (λ pair. not_q pair.1)
both (inr not_p) q = inr (λ pair. not_p pair.0)

pub not : {P : Type 0} → Decided P → Decided (P → ⊥)
not (inl p) = inr (λ none. none p)
not (inr not_p) = inl not_p

pub same_value : (a b : Bool) → Decided (a ≡ b)
same_value true true = inl refl
same_value true false = inr (λ same. true≢false same)
same_value false true = inr (λ same. true≢false (sym same))
same_value false false = inl refl

pub less : (m n : ℕ) → Decided (m < n)
less m n = elim (cases_lt m n) [ inl below ↦ inl below | inr above ↦ inr (λ below. absurd (omega arith)) ]

pub equal_events : (e f : Event) → Decided (e ≡ f)
equal_events e f = elim (cases_Bool (same_event e f)) [
  | inl same ↦ inl (same_event-true e f same)
  | inr other ↦ inr (λ same. true≢false (sym (same_event-refl e) ∙ ap (same_event e) same ∙ other))
]

pub driven : (signals : List Signal) (z : ℕ) → Decided (IsNonInput signals z)
driven signals z = elim (cases_lt z (length signals)) [
  | inl within ↦ (
      let x : Signal = get_or signals z (record { name = []; kind = Input }) in
      let at : slice_get signals z ≡ Some x = slice_get-get_or signals z (record { name = []; kind = Input }) within in
      elim (cases_Bool (is_driven x.kind)) [
        | inl is ↦ inl (x, at, is)
        | inr is_not ↦ inr (λ (y, also, is).
            true≢false (sym is ∙ ap (λ (w : Signal). is_driven w.kind) (same_Some y x (sym also ∙ at)) ∙ is_not))
      ])
  | inr past ↦ inr (λ (y, at, is). absurd (omega (arith, slice_get_within signals z y at)))
]

-- ---- lists
pub some_of : {A : Type 0} (R : A → Type 0) → ((x : A) → Decided (R x)) → (xs : List A)
    → Decided ((x : A) × Contains xs x × R x)
some_of R decided [] = inr (λ (x, there, is). Contains-nil x there)
some_of R decided (x ∷ xs) = elim (decided x) [
  | inl is ↦ inl (x, Contains-here x xs, is)
  | inr is_not ↦ elim (some_of R decided xs) [
    | inl found ↦ inl (found.0, Contains-there x xs found.0 found.1, found.2)
    | inr none ↦ inr (λ (y, there, is). elim (Contains-cons_cases x xs y there) [
      | inl same ↦ is_not (subst R (sym same) is)
      | inr later ↦ none (y, later, is)
    ])
  ]
]

pub all_of : {A : Type 0} (R : A → Type 0) → ((x : A) → Decided (R x)) → (xs : List A)
    → Decided ((x : A) → Contains xs x → R x)
all_of R decided [] = inl (λ x there. absurd (Contains-nil x there))
all_of R decided (x ∷ xs) = elim (decided x) [
  | inr is_not ↦ inr (λ all. is_not (all x (Contains-here x xs)))
  | inl is ↦ elim (all_of R decided xs) [
    | inr not_all ↦ inr (λ all. not_all (λ y there. all y (Contains-there x xs y there)))
    | inl all ↦ inl (λ y there. elim (Contains-cons_cases x xs y there) [
      | inl same ↦ subst R same is
      | inr later ↦ all y later
    ])
  ]
]

pub all_below : (R : ℕ → Type 0) → ((k : ℕ) → Decided (R k)) → (n : ℕ) → Decided ((k : ℕ) → k < n → R k)
all_below R decided zero = inl (λ k below. absurd (omega arith))
all_below R decided (suc n) = elim (decided n) [
  | inr is_not ↦ inr (λ all. is_not (all n (omega arith)))
  | inl is ↦ elim (all_below R decided n) [
    | inr not_all ↦ inr (λ all. not_all (λ k below. all k (omega arith)))
    | inl all ↦ inl (λ k below. elim (cases_order k n) [
      | inl same ↦ subst R (sym same) is
      | inr (inl before) ↦ all k before
      | inr (inr after) ↦ absurd (omega arith)
    ])
  ]
]

-- each of the one list with each of the other
abbrev pub pairs : {A B : Type 0} → List A → List B → List (A × B)
pairs [] ys = []
pairs (x ∷ xs) ys = map (λ y. (x, y)) ys ++ pairs xs ys

pub in_pairs : {A B : Type 0} (xs : List A) (ys : List B) (x : A) (y : B) → Contains xs x → Contains ys y
    → Contains (pairs xs ys) (x, y)
in_pairs [] ys x y one other = absurd (Contains-nil x one)
in_pairs {A} {B} (z ∷ xs) ys x y one other =
    let with_z : B → A × B = λ w. (z, w) in
    elim (Contains-cons_cases z xs x one) [
      | inl same ↦ Contains-append_left (map with_z ys) (pairs xs ys) (x, y)
          (subst (λ (v : A). Contains (map with_z ys) (v, y)) same (Contains-map with_z ys y other))
      | inr later ↦ Contains-append_right (map with_z ys) (pairs xs ys) (x, y) (in_pairs xs ys x y later other)
    ]

pub of_pairs : {A B : Type 0} (xs : List A) (ys : List B) (p : A × B) → Contains (pairs xs ys) p
    → Contains xs p.0 × Contains ys p.1
of_pairs [] ys p there = absurd (Contains-nil p there)
of_pairs {A} {B} (z ∷ xs) ys p there =
    let with_z : B → A × B = λ w. (z, w) in
    elim (Contains-append_cases (map with_z ys) (pairs xs ys) p there) [
      | inl first ↦ (
          let r = Contains-from_map with_z ys p first in
          subst (λ (q : A × B). Contains (z ∷ xs) q.0 × Contains ys q.1) r.2 (Contains-here z xs, r.1))
      | inr later ↦ let r = of_pairs xs ys p later in (Contains-there z xs p.0 r.0, r.1)
    ]

-- ---- candidates
module _ {K A : Type 0} (place : A → List ℕ) (P : A → Type 0) (f : K → A) (Q : K → Type 0)
    (decided : (k : K) → Decided (Q k)) where
  -- what the candidates of the list come to
  record AreFound (ks : List K) (xs : List A) : Type 0 where
    sound : (x : A) → Contains xs x → (k : K) × Contains ks k × Q k × (f k ≡ x)
    whole : (k : K) → Contains ks k → Q k → Contains xs (f k)

  found_by : (ks : List K) → (xs : List A) × AreFound ks xs
  found_by [] = (
    [],
    record {
      sound = λ x there. absurd (Contains-nil x there);
      whole = λ k there is. absurd (Contains-nil k there);
    },
  )
  found_by (k ∷ ks) =
      let rest = found_by ks in
      let are = rest.1 in
      elim (decided k) [
        | inl is ↦ (
          f k ∷ rest.0,
          record {
            sound = λ x there. elim (Contains-cons_cases (f k) rest.0 x there) [
              | inl same ↦ (k, Contains-here k ks, is, same)
              | inr later ↦ let r = are.sound x later in (r.0, Contains-there k ks r.0 r.1, r.2, r.3)
            ];
            whole = λ j there also. elim (Contains-cons_cases k ks j there) [
              | inl same ↦ subst (λ (i : K). Contains (f k ∷ rest.0) (f i)) same (Contains-here (f k) rest.0)
              | inr later ↦ Contains-there (f k) rest.0 (f j) (are.whole j later also)
            ];
          },
        )
        | inr is_not ↦ (
          rest.0,
          record {
            sound = λ x there. let r = are.sound x there in (r.0, Contains-there k ks r.0 r.1, r.2, r.3);
            whole = λ j there also. elim (Contains-cons_cases k ks j there) [
              | inl same ↦ absurd (is_not (subst Q (sym same) also))
              | inr later ↦ are.whole j later also
            ];
          },
        )
      ]

  -- the first that has P, where each that does is one of the candidates
  pub first_candidate : (ks : List K) → ((k : K) → Contains ks k → Q k → P (f k))
      → ((x : A) → P x → (k : K) × Contains ks k × Q k × (f k ≡ x)) → (found : Option A) × IsFirstOrNone place P found
  first_candidate ks sound whole =
      let r = found_by ks in
      let are = r.1 in
      first_or_none place P r.0
      (λ x there. let c = are.sound x there in subst P c.3 (sound c.0 c.1 c.2))
      (λ x is. let c = whole x is in subst (λ (y : A). Contains r.0 y) c.3 (are.whole c.0 c.1 c.2))
