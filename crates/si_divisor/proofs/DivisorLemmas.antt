-- Divisors by their pins are the divisors.
use Rattle.std.proofs.Common.{◌≡◌, ℕ, zero, suc, ◌+◌, ◌<◌, ◌≤◌, ◌&&◌, Bool, true, false, List, [], ◌∷◌, ◌++◌, length, map, filter}
use Rattle.std.proofs.Common.{take, get_or, if◌then◌else◌, All, refl, sym, ap, ◌∙◌, arith, inl, inr}
use Rattle.std.specs.Prelude.{flat_map}
use Rattle.std.specs.List.{enumerate_from, list_all}
use Rattle.std.proofs.lemmas.Bool.{cases_Bool}
use Rattle.std.proofs.lemmas.List.{append-nil, take_all}
use Rattle.std.proofs.lemmas.List.Elements.{filter-append, filter_more}
use Rattle.si_base.specs.declared.ids.Literal.{Literal}
use Rattle.si_cell.specs.Library.{Cell, Library, Instance, admits}
use Rattle.si_cell.specs.declared.pins.Pins.{Pins}
use Rattle.si_cell.specs.Literals.{has_literal}
use Rattle.si_match.specs.Fit.{lists_of, literals_of_signals, literals_for, instances_of}
use Rattle.si_match.proofs.SearchLemmas.{have_length}
use Rattle.si_divisor.specs.Divisors.{are_apart, has_few_pins, is_divisor, max_divisors, divisors_of}
use Rattle.si_divisor.specs.Loops.Completions.{of_cell, of_cells}

-- ---- filters
filter_flat : {A B : Type 0} (p : B → Bool) (f : A → List B) (xs : List A)
    → filter p (flat_map f xs) ≡ flat_map (λ x. filter p (f x)) xs
filter_flat p f [] = refl
filter_flat p f (x ∷ xs) = filter-append p (f x) (flat_map f xs)
    ∙ ap (λ (ys : List _). filter p (f x) ++ ys) (filter_flat p f xs)

filter_mapped : {A B : Type 0} (p : B → Bool) (f : A → B) (xs : List A)
    → filter p (map f xs) ≡ map f (filter (λ x. p (f x)) xs)
filter_mapped p f [] = refl
filter_mapped p f (x ∷ xs) = elim (cases_Bool (p (f x))) [
  | inl on ↦ rw (on, filter_mapped p f xs) refl
  | inr off ↦ rw (off, filter_mapped p f xs) refl
]

filter_none : {A : Type 0} (p : A → Bool) (xs : List A) → ((x : A) → p x ≡ false) → filter p xs ≡ []
filter_none p [] none = refl
filter_none p (x ∷ xs) none = rw (none x, filter_none p xs none) refl

filter_both : {A : Type 0} (p q : A → Bool) (xs : List A)
    → filter (λ x. p x && q x) xs ≡ filter q (filter p xs)
filter_both p q [] = refl
filter_both p q (x ∷ xs) = elim (cases_Bool (p x)) [
  | inr off ↦ rw (off, filter_both p q xs) refl
  | inl on ↦ elim (cases_Bool (q x)) [
    | inl also ↦ rw (on, also, filter_both p q xs) refl
    | inr other ↦ rw (on, other, filter_both p q xs) refl
  ]
]

-- the order of two filters makes no difference
filters_swap : {A : Type 0} (p q : A → Bool) (xs : List A) → filter p (filter q xs) ≡ filter q (filter p xs)
filters_swap p q [] = refl
filters_swap p q (x ∷ xs) = elim (cases_Bool (p x)) [
  | inl on ↦ elim (cases_Bool (q x)) [
    | inl also ↦ rw (on, also, on, filters_swap p q xs) refl
    | inr other ↦ rw (on, other, filters_swap p q xs) refl
  ]
  | inr off ↦ elim (cases_Bool (q x)) [
    | inl also ↦ rw (off, also, off, filters_swap p q xs) refl
    | inr other ↦ rw (off, other, filters_swap p q xs) refl
  ]
]

same_flat : {A B : Type 0} (f g : A → List B) (xs : List A) → ((x : A) → f x ≡ g x) → flat_map f xs ≡ flat_map g xs
same_flat f g [] same = refl
same_flat f g (x ∷ xs) same = rw (same x, same_flat f g xs same) refl

-- one item more
module _ (p : Literal → Bool) (xs now : List Literal) (i : ℕ) (l : Literal) (inside : i < length xs)
    (at : l ≡ get_or xs i l) (before : now ≡ filter p (take i xs)) where
  pub also_kept : p l ≡ true → (new : List Literal) → new ≡ now ++ l ∷ [] → new ≡ filter p (take (i + 1) xs)
  also_kept on new put = put ∙ ap (λ (ls : List Literal). ls ++ l ∷ []) before
      ∙ sym (filter_more p xs i l inside ∙ rw (← at, on) refl)

  pub left_out : p l ≡ false → now ≡ filter p (take (i + 1) xs)
  left_out off = before ∙ sym (filter_more p xs i l inside ∙ rw (← at, off) (append-nil _))

pub all_kept : (p : Literal → Bool) (xs now : List Literal) (i : ℕ) → length xs ≤ i → now ≡ filter p (take i xs)
    → now ≡ filter p xs
all_kept p xs now i past is = is ∙ ap (filter p) (take_all i xs past)

-- ---- lists of literals that pass a test are the lists of those that pass it
module _ (p : Literal → Bool) (all : List Literal) where
  abbrev led_by : ℕ → Literal → List (List Literal)
  led_by n l = map (λ ls. l ∷ ls) (lists_of n all)

  passing_led : (n : ℕ) (l : Literal) → p l ≡ true
      → filter (list_all p) (led_by n l) ≡ map (λ ls. l ∷ ls) (filter (list_all p) (lists_of n all))
  passing_led n l on = go (lists_of n all)
    where
      go : (lists : List (List Literal)) → filter (list_all p) (map (λ ls. l ∷ ls) lists)
          ≡ map (λ ls. l ∷ ls) (filter (list_all p) lists)
      go [] = refl
      go (ls ∷ lists) = elim (cases_Bool (list_all p ls)) [
        | inl also ↦ rw (on, also, go lists) refl
        | inr other ↦ rw (on, other, go lists) refl
      ]

  failing_led : (n : ℕ) (l : Literal) → p l ≡ false → filter (list_all p) (led_by n l) ≡ []
  failing_led n l off = go (lists_of n all)
    where
      go : (lists : List (List Literal)) → filter (list_all p) (map (λ ls. l ∷ ls) lists) ≡ []
      go [] = refl
      go (ls ∷ lists) = rw (off, go lists) refl

  passing_next : (n : ℕ) (literals : List Literal)
      → filter (list_all p) (lists_of n all) ≡ lists_of n (filter p all)
      → filter (list_all p) (flat_map (led_by n) literals)
      ≡ flat_map (λ l. map (λ ls. l ∷ ls) (lists_of n (filter p all))) (filter p literals)
  passing_next n [] less = refl
  passing_next n (l ∷ ls) less =
      filter-append (list_all p) (led_by n l) (flat_map (led_by n) ls) ∙ elim (cases_Bool (p l)) [
        | inl on ↦ rw (on, passing_led n l on, passing_next n ls less, less) refl
        | inr off ↦ rw (off, failing_led n l off, passing_next n ls less) refl
      ]

  pub passing : (n : ℕ) → filter (list_all p) (lists_of n all) ≡ lists_of n (filter p all)
  passing zero = refl
  passing (suc n) = passing_next n all (passing n)

-- ---- the divisors of a cell
filter_same : {A : Type 0} (p q : A → Bool) (xs : List A) → All (λ x. p x ≡ q x) xs → filter p xs ≡ filter q xs
filter_same p q [] same = refl
filter_same p q (x ∷ xs) same =
    let here : p x ≡ q x = same 0 x (omega arith) in
    let later = filter_same p q xs (λ k d inside. same (suc k) d (omega (arith, inside))) in
    elim (cases_Bool (q x)) [
      | inl on ↦ (let also : p x ≡ true = here ∙ on in rw (on, also, later) refl)
      | inr off ↦ (let also : p x ≡ false = here ∙ off in rw (off, also, later) refl)
    ]

-- all lists have so many literals, so a test of their number is one test
lengths : (n : ℕ) (literals : List Literal) (q : ℕ → Bool) (p : List Literal → Bool)
    → filter (λ ls. q (length ls) && p ls) (lists_of n literals)
    ≡ (if q n then filter p (lists_of n literals) else [])
lengths n literals q p =
    filter_same (λ ls. q (length ls) && p ls) (λ ls. q n && p ls) (lists_of n literals)
    (λ k d inside. ap (λ m. q m && p (get_or (lists_of n literals) k d)) (have_length n literals k d inside))
    ∙ elim (cases_Bool (q n)) [
      | inl on ↦ rw on refl
      | inr off ↦ rw off (filter_none (λ (ls : List Literal). false) (lists_of n literals) (λ ls. refl))
    ]

-- the pins that are allowed are those of the allowed literals that are pins
allowed_pins : (allowed : Pins) (signals : ℕ) (pins : List Literal)
    → pins ≡ filter (has_literal pins) (literals_of_signals signals)
    → filter (has_literal pins) (literals_for allowed signals) ≡ filter (admits allowed) pins
allowed_pins allowed signals pins in_order =
    filters_swap (has_literal pins) (admits allowed) (literals_of_signals signals)
    ∙ ap (filter (admits allowed)) (sym in_order)

of_cell_is : (allowed : Pins) (signals : ℕ) (pins : List Literal) (place : ℕ × Cell)
    → pins ≡ filter (has_literal pins) (literals_of_signals signals)
    → filter (is_divisor pins) (instances_of allowed signals place) ≡ of_cell (filter (admits allowed) pins) place
of_cell_is allowed signals pins place in_order =
    let count : ℕ = length place.1.pins in
    let all : List Literal = literals_for allowed signals in
    let make : List Literal → Instance = λ ls. record { cell = place.0; literals = ls } in
    let are : List Literal → Bool = list_all (has_literal pins) in
    filter_mapped (is_divisor pins) make (lists_of count all)
    ∙ ap (map make) (filter_both (λ ls. has_few_pins (length ls) && are ls) are_apart (lists_of count all)
    ∙ ap (filter are_apart) (lengths count all has_few_pins are))
    ∙ elim (cases_Bool (has_few_pins count)) [
      | inl few ↦ rw few (
          ap (λ lists. map make (filter are_apart lists)) (passing (has_literal pins) all count
          ∙ ap (lists_of count) (allowed_pins allowed signals pins in_order))
          ∙ sym (filter_mapped (λ (i : Instance). are_apart i.literals) make
          (lists_of count (filter (admits allowed) pins))))
      | inr many ↦ rw many refl
    ]

pub divisors_are : (signals : ℕ) (library : Library) (pins : List Literal)
    → pins ≡ filter (has_literal pins) (literals_of_signals signals)
    → take max_divisors (of_cells (filter (admits library.pins) pins) library.cells) ≡ divisors_of signals library pins
unfolding divisors_of
divisors_are signals library pins in_order =
    ap (take max_divisors) (sym (filter_flat (is_divisor pins) (instances_of library.pins signals)
    (enumerate_from 0 library.cells)
    ∙ same_flat _ (of_cell (filter (admits library.pins) pins)) (enumerate_from 0 library.cells)
    (λ place. of_cell_is library.pins signals pins place in_order)))
