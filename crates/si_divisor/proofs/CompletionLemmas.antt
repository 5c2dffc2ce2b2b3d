-- Divisors by their pins, one pin after another.
use Rattle.std.proofs.Common.{◌≡◌, ℕ, zero, suc, ◌+◌, ◌-◌, ◌<◌, ◌≤◌, ◌==◌, not, Bool, true, false, List, [], ◌∷◌}
use Rattle.std.proofs.Common.{◌++◌, length, map, filter, take, get_or, All, refl, sym, ap, ◌∙◌, arith, inl, inr}
use Rattle.std.proofs.Common.{append_assoc}
use Rattle.std.specs.Prelude.{flat_map}
use Rattle.std.specs.List.{enumerate_from, list_all}
use Rattle.std.proofs.lemmas.Bool.Decides.{eqb_tells}
use Rattle.std.proofs.lemmas.Grind.{flat_map-append}
use Rattle.std.proofs.lemmas.List.{append-nil, take_at, take_more, take_all, map-append, length-take, length_push}
use Rattle.std.proofs.lemmas.List.Elements.{All-nil, All-cons, filter-append}
use Rattle.std.proofs.lemmas.List.Folds.{list_all-append}
use Rattle.std.proofs.lemmas.List.FromFn.{length-enumerate_from, get_or-enumerate_from}
use Rattle.std.proofs.lemmas.Bool.{and_from, and_right, and_parts}
use Rattle.si_base.specs.declared.ids.Literal.{Literal}
use Rattle.si_cell.specs.Library.{Cell, Library, Instance, cell_at, no_cell}
use Rattle.si_match.specs.Fit.{lists_of}
use Rattle.si_divisor.specs.Divisors.{are_apart, has_few_pins, max_divisors}
use Rattle.si_divisor.specs.Loops.Completions.{completions, of_cell, of_cells}

-- ---- literals on distinct signals
-- none of them is of the signal
abbrev pub AreOther : ℕ → List Literal → Type 0
AreOther sig ls = All (λ l. l.sig ≡ sig → ⊥) ls

meets : (sig : ℕ) (ms : List Literal) (l : Literal) (rest : List Literal) → (l.sig == sig) ≡ true
    → list_all (λ x. not (x.sig == sig)) ((ms ++ l ∷ []) ++ rest) ≡ false
meets sig [] l rest same = rw same refl
meets sig (m ∷ ms) l rest same = and_right (not (m.sig == sig)) _ (meets sig ms l rest same)

torn : (ls : List Literal) (l : Literal) (rest : List Literal) → (AreOther l.sig ls → ⊥)
    → are_apart ((ls ++ l ∷ []) ++ rest) ≡ false
torn [] l rest clash = absurd (clash (All-nil (λ (m : Literal). m.sig ≡ l.sig → ⊥)))
torn (m ∷ ms) l rest clash = elim (eqb_tells l.sig m.sig) [
  | inl same ↦ (let off = meets m.sig ms l rest same.0 in rw off refl)
  | inr other ↦ (
      let later = torn ms l rest (λ all. clash (All-cons (λ (x : Literal). x.sig ≡ l.sig → ⊥) m ms
      (λ same. other.1 (sym same)) all)) in
      and_right (list_all (λ x. not (x.sig == m.sig)) ((ms ++ l ∷ []) ++ rest)) _ later)
]

pub apart_on : (ls : List Literal) (l : Literal) → are_apart ls ≡ true → AreOther l.sig ls
    → are_apart (ls ++ l ∷ []) ≡ true
apart_on [] l apart others = refl
apart_on (m ∷ ms) l apart others =
    let parts = and_parts (list_all (λ x. not (x.sig == m.sig)) ms) (are_apart ms) apart in
    let later = apart_on ms l parts.1 (λ k d inside. others (suc k) d (omega (arith, inside))) in
    elim (eqb_tells l.sig m.sig) [
      | inl same ↦ absurd (others 0 m (omega arith) (sym same.1))
      | inr other ↦ (
          let here : list_all (λ (x : Literal). not (x.sig == m.sig)) (l ∷ []) ≡ true = rw (other.0) refl in
          let all = list_all-append (λ (x : Literal). not (x.sig == m.sig)) ms (l ∷ []) ∙ and_from _ _ parts.0 here in
          and_from _ _ all later)
    ]

-- ---- completions by one more pin
abbrev with_literals : ℕ → List Literal → List Literal → Instance
with_literals cell literals ls = record { cell = cell; literals = literals ++ ls }

abbrev apart : Instance → Bool
apart i = are_apart i.literals

moved : (cell : ℕ) (literals : List Literal) (l : Literal) (lists : List (List Literal))
    → map (with_literals cell literals) (map (λ ls. l ∷ ls) lists)
    ≡ map (with_literals cell (literals ++ l ∷ [])) lists
moved cell literals l [] = refl
moved cell literals l (ls ∷ lists) = rw (moved cell literals l lists, append_assoc literals (l ∷ []) ls) refl

module _ (pins : List Literal) (cell : ℕ) (literals : List Literal) (more : ℕ) where
  -- those with that literal at the next pin
  abbrev pub with_next : Literal → List Instance
  with_next l = completions pins cell (literals ++ l ∷ []) more

  abbrev led_by : Literal → List (List Literal)
  led_by l = map (λ ls. l ∷ ls) (lists_of more pins)

  by_next : (ls : List Literal) → filter apart (map (with_literals cell literals) (flat_map led_by ls))
      ≡ flat_map with_next ls
  by_next [] = refl
  by_next (l ∷ ls) =
      ap (filter apart) (map-append (with_literals cell literals) (led_by l) (flat_map led_by ls))
      ∙ filter-append apart (map (with_literals cell literals) (led_by l))
      (map (with_literals cell literals) (flat_map led_by ls))
      ∙ ap (λ (is : List Instance). filter apart is ++ filter apart (map (with_literals cell literals)
      (flat_map led_by ls))) (moved cell literals l (lists_of more pins))
      ∙ ap (λ (is : List Instance). with_next l ++ is) (by_next ls)

  -- one more pin
  pub split : completions pins cell literals (suc more) ≡ flat_map with_next pins
  split = by_next pins

  none_torn : (l : Literal) (lists : List (List Literal)) → (AreOther l.sig literals → ⊥)
      → filter apart (map (with_literals cell (literals ++ l ∷ [])) lists) ≡ []
  none_torn l [] clash = refl
  none_torn l (ls ∷ lists) clash = let off = torn literals l ls clash in rw off (none_torn l lists clash)

  -- a literal on a signal that is there already leads to none
  pub none_with : (l : Literal) → (AreOther l.sig literals → ⊥) → with_next l ≡ []
  none_with l clash = none_torn l (lists_of more pins) clash

-- no more pins: the instance itself
pub ends : (pins : List Literal) (cell : ℕ) (literals : List Literal) → are_apart literals ≡ true
    → completions pins cell literals 0 ≡ record { cell = cell; literals = literals } ∷ []
ends pins cell literals on = rw append-nil (rw on refl)

-- ---- as many as are allowed
take_on : {A : Type 0} (n : ℕ) (xs ys : List A) → take n (take n xs ++ ys) ≡ take n (xs ++ ys)
take_on zero xs ys = refl
take_on (suc n) [] ys = refl
take_on (suc n) (x ∷ xs) ys = ap (λ (zs : List _). x ∷ zs) (take_on n xs ys)

module _ {A B : Type 0} (n : ℕ) (f : A → List B) (before : List B) (xs : List A) (i : ℕ) (x d : A)
    (inside : i < length xs) (at : get_or xs i d ≡ x) (now : List B)
    (is : now ≡ take n (before ++ flat_map f (take i xs))) where
  next_items : flat_map f (take (i + 1) xs) ≡ flat_map f (take i xs) ++ f x
  next_items = ap (flat_map f) (take_more xs i d inside) ∙ flat_map-append f (take i xs) (get_or xs i d ∷ [])
      ∙ rw (at, append-nil) refl

  -- what the next item gives is put last
  pub taken_on : (new : List B) → new ≡ take n (now ++ f x) → new ≡ take n (before ++ flat_map f (take (i + 1) xs))
  taken_on new e = e ∙ ap (λ (ys : List B). take n (ys ++ f x)) is ∙ take_on n (before
      ++ flat_map f (take i xs)) (f x)
      ∙ ap (take n) (append_assoc before (flat_map f (take i xs)) (f x))
      ∙ ap (λ (ys : List B). take n (before ++ ys)) (sym next_items)

  -- the next item gives nothing
  pub passed_on : f x ≡ [] → now ≡ take n (before ++ flat_map f (take (i + 1) xs))
  passed_on none = is ∙ ap (λ (ys : List B). take n (before ++ ys)) (sym (next_items ∙ rw (none, append-nil) refl))

-- ---- the loop over the pins
-- no more are allowed
pub stays_full : {A : Type 0} (n : ℕ) (xs ys : List A) → length xs ≡ n → xs ≡ take n (xs ++ ys)
stays_full n xs ys full = sym (take_at xs ys n full)

-- nothing is put last
pub starts_with : {A : Type 0} (n : ℕ) (xs : List A) → length xs ≤ n → xs ≡ take n (xs ++ [])
starts_with n xs few = rw append-nil (sym (take_all n xs few))

pub stays_few : {A : Type 0} (n : ℕ) (xs ys : List A) → xs ≡ take n ys → length xs ≤ n
stays_few n xs ys is = rw (is, length-take) (omega arith)

module _ (pins : List Literal) (cell : ℕ) (literals : List Literal) (before : List Instance) where
  -- there is no pin left, and room
  pub puts_it : (same : List Literal) (new : List Instance) → same ≡ literals → are_apart literals ≡ true
      → length before ≤ max_divisors → (length before ≡ max_divisors → ⊥)
      → new ≡ before ++ record { cell = cell; literals = same } ∷ []
      → new ≡ take max_divisors (before ++ completions pins cell literals 0)
  puts_it same new is on few room put =
      let one : List Instance = record { cell = cell; literals = literals } ∷ [] in
      let fits : length (before ++ one) ≤ max_divisors = rw length_push (omega (arith, few, room)) in
      put ∙ ap (λ (ls : List Literal). before ++ record { cell = cell; literals = ls } ∷ []) is
      ∙ sym (take_all max_divisors (before ++ one) fits)
      ∙ ap (λ (is : List Instance). take max_divisors (before ++ is)) (sym (ends pins cell literals on))

  -- all literals at the next pin are passed
  pub pins_done : (more i : ℕ) (now : List Instance) → (more ≡ 0 → ⊥) → length pins ≤ i
      → now ≡ take max_divisors (before ++ flat_map (with_next pins cell literals (more - 1)) (take i pins))
      → now ≡ take max_divisors (before ++ completions pins cell literals more)
  pins_done zero i now some past is = absurd (some refl)
  pins_done (suc more) i now some past is =
      let less : suc more - 1 ≡ more = omega arith in
      let all : take i pins ≡ pins = take_all i pins past in
      rw split (rw (less, all) at is)

  module _ (more i : ℕ) (pin : Literal) (inside : i < length pins) (at : pin ≡ get_or pins i pin)
      (now : List Instance)
      (is : now ≡ take max_divisors (before ++ flat_map (with_next pins cell literals more) (take i pins))) where
    -- one that is of another signal is put at the next pin
    pub pin_put : (pushed : List Literal) (new : List Instance) → pushed ≡ literals ++ pin ∷ []
        → new ≡ take max_divisors (now ++ completions pins cell pushed more)
        → new ≡ take max_divisors (before ++ flat_map (with_next pins cell literals more) (take (i + 1) pins))
    pin_put pushed new with_it e = taken_on max_divisors (with_next pins cell literals more) before pins i pin pin
        inside (sym at) now is new
        (e ∙ ap (λ (ls : List Literal). take max_divisors (now ++ completions pins cell ls more)) with_it)

    -- another is passed
    pub pin_passed : (AreOther pin.sig literals → ⊥)
        → now ≡ take max_divisors (before ++ flat_map (with_next pins cell literals more) (take (i + 1) pins))
    pin_passed clash = passed_on max_divisors (with_next pins cell literals more) before pins i pin pin inside (sym at)
        now is (none_with pins cell literals more pin clash)

-- ---- the loop over the cells
module _ (pins : List Literal) (library : Library) (k : ℕ) (within : k < length library.cells)
    (now : List Instance)
    (is : now ≡ take max_divisors (flat_map (of_cell pins) (take k (enumerate_from 0 library.cells)))) where
  abbrev here : ℕ × Cell
  here = (k, cell_at library k)

  at_place : get_or (enumerate_from 0 library.cells) k (k, no_cell) ≡ here
  at_place =
      let pair : ℕ → ℕ × Cell = λ n. (n, cell_at library k) in
      let e : 0 + k ≡ k = omega arith in
      get_or-enumerate_from 0 library.cells k (k, no_cell) within ∙ ap pair e

  inside : k < length (enumerate_from 0 library.cells)
  inside = rw length-enumerate_from within

  module _ (cell : Cell) (count : ℕ) (is_cell : cell ≡ cell_at library k) (counted : count ≡ length cell.pins) where
    pins_of : count ≡ length (cell_at library k).pins
    pins_of = counted ∙ ap (λ (x : Cell). length x.pins) is_cell

    -- the cell has few pins: its instances are put last
    pub cell_put : (start : List Literal) (new : List Instance) → has_few_pins count ≡ true → start ≡ []
        → new ≡ take max_divisors (now ++ completions pins k start count)
        → new ≡ take max_divisors (flat_map (of_cell pins) (take (k + 1) (enumerate_from 0 library.cells)))
    cell_put start new few none e =
        let on : has_few_pins (length (cell_at library k).pins) ≡ true = ap has_few_pins (sym pins_of) ∙ few in
        let all : of_cell pins here ≡ completions pins k [] (length (cell_at library k).pins) = rw on refl in
        let same : completions pins k start count ≡ of_cell pins here =
        ap (λ (ls : List Literal). completions pins k ls count) none ∙ ap (completions pins k []) pins_of ∙ sym all in
        taken_on max_divisors (of_cell pins) [] (enumerate_from 0 library.cells) k here (k, no_cell) inside at_place
        now is new (e ∙ ap (λ (is : List Instance). take max_divisors (now ++ is)) same)

    -- it has not
    pub cell_passed : has_few_pins count ≡ false
        → now ≡ take max_divisors (flat_map (of_cell pins) (take (k + 1) (enumerate_from 0 library.cells)))
    cell_passed few = passed_on max_divisors (of_cell pins) [] (enumerate_from 0 library.cells) k here (k, no_cell)
        inside at_place now is (rw (ap has_few_pins (sym pins_of) ∙ few) refl)

pub cells_done : (pins : List Literal) (cells : List Cell) (k : ℕ) (now : List Instance) → length cells ≤ k
    → now ≡ take max_divisors (flat_map (of_cell pins) (take k (enumerate_from 0 cells)))
    → now ≡ take max_divisors (of_cells pins cells)
cells_done pins cells k now past is =
    let all : take k (enumerate_from 0 cells) ≡ enumerate_from 0 cells =
    take_all k (enumerate_from 0 cells) (rw length-enumerate_from past) in
    is ∙ ap (λ (ps : List (ℕ × Cell)). take max_divisors (flat_map (of_cell pins) ps)) all
