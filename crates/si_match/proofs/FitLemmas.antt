-- The first fitting instance fits, and without one none fits.
use Rattle.std.proofs.Common.{◌≡◌, ℕ, zero, suc, ◌⊎◌, ◌+◌, ◌<◌, ◌≤◌, Bool, true, false, List, [], ◌∷◌, ◌++◌, length}
use Rattle.std.proofs.Common.{map, filter, get_or, Some, None, All, refl, sym, ap, ◌∙◌, arith, inl, inr, subst}
use Rattle.std.specs.Prelude.{flat_map}
use Rattle.std.specs.List.{enumerate_from}
use Rattle.std.proofs.lemmas.Bool.{true≢false, cases_Bool}
use Rattle.std.proofs.lemmas.List.Concat.{flat_map-cons}
use Rattle.std.proofs.lemmas.List.Elements.{All-cons}
use Rattle.std.proofs.lemmas.List.Sums.{AllPass-from_list_all}
use Rattle.std.proofs.lemmas.Bool.Decides.{eqb_tells}
use Rattle.si_base.proofs.OrderAscending.{In}
use Rattle.si_base.proofs.GraphSteps.{beq-refl, beq-true}
use Rattle.si_base.specs.Codes.{CodedGraph, IsCoded, code, next_value}
use Rattle.si_base.specs.Limits.{code_width}
use Rattle.si_base.specs.declared.ids.Literal.{Literal}
use Rattle.si_cell.specs.Library.{Cell, Library, Instance, IsInstance, admits, cell_at, no_cell}
use Rattle.si_cell.specs.Literals.{both_from}
use Rattle.si_cell.specs.declared.pins.Pins.{Pins}
use Rattle.si_match.specs.Fit.{fits, suits, states_of, first_that, lists_of, literals_of_signals, literals_for}
use Rattle.si_match.specs.Fit.{instances_of}
use Rattle.si_match.specs.Fit.{instances, first_fit, IsOver, Fits}
use Rattle.si_match.proofs.CodeLemmas.{all_from}
use Rattle.si_match.proofs.StateLemmas.{state_at, states_are}

-- ---- members of lists
in_left : {A : Type 0} (x : A) (xs ys : List A) → In x xs → In x (xs ++ ys)
in_left x [] ys here = absurd here
in_left x (z ∷ xs) ys (inl same) = inl same
in_left x (z ∷ xs) ys (inr later) = inr (in_left x xs ys later)

in_right : {A : Type 0} (x : A) (xs ys : List A) → In x ys → In x (xs ++ ys)
in_right x [] ys here = here
in_right x (z ∷ xs) ys here = inr (in_right x xs ys here)

in_append : {A : Type 0} (x : A) (xs ys : List A) → In x (xs ++ ys) → In x xs ⊎ In x ys
in_append x [] ys here = inr here
in_append x (z ∷ xs) ys (inl same) = inl (inl same)
in_append x (z ∷ xs) ys (inr later) = elim (in_append x xs ys later) [ inl one ↦ inl (inr one) | inr other ↦ inr other ]

pub in_map : {A B : Type 0} (f : A → B) (x : A) (xs : List A) → In x xs → In (f x) (map f xs)
in_map f x [] here = absurd here
in_map f x (z ∷ xs) (inl same) = inl (ap f same)
in_map f x (z ∷ xs) (inr later) = inr (in_map f x xs later)

pub from_map : {A B : Type 0} (f : A → B) (y : B) (xs : List A) → In y (map f xs) → (x : A) × In x xs × (y ≡ f x)
from_map f y [] here = absurd here
from_map f y (x ∷ xs) (inl same) = (x, inl refl, same)
from_map f y (x ∷ xs) (inr later) = let (z, there, same) = from_map f y xs later in (z, inr there, same)

pub in_flat : {A B : Type 0} (f : A → List B) (x : A) (y : B) (xs : List A) → In x xs → In y (f x)
    → In y (flat_map f xs)
in_flat f x y [] here there = absurd here
in_flat f x y (z ∷ xs) (inl same) there = rw flat_map-cons (in_left y (f z) (flat_map f xs) (subst (λ w. In y
    (f w)) same there))
in_flat f x y (z ∷ xs) (inr later) there = rw flat_map-cons (in_right y (f z) (flat_map f xs)
    (in_flat f x y xs later there))

pub from_flat : {A B : Type 0} (f : A → List B) (y : B) (xs : List A) → In y (flat_map f xs) → (x : A) × In x xs
    × In y (f x)
from_flat f y [] here = absurd here
from_flat f y (x ∷ xs) here = elim (in_append y (f x) (flat_map f xs) (rw flat_map-cons at here)) [
  | inl one ↦ (x, inl refl, one)
  | inr other ↦ (let (z, there, at) = from_flat f y xs other in (z, inr there, at))
]

in_filter : {A : Type 0} (p : A → Bool) (x : A) (xs : List A) → In x xs → p x ≡ true → In x (filter p xs)
in_filter p x [] here passes = absurd here
in_filter p x (z ∷ xs) (inl same) passes = rw (ap p (sym same) ∙ passes) (inl same)
in_filter p x (z ∷ xs) (inr later) passes = elim (cases_Bool (p z)) [
  | inl kept ↦ rw kept (inr (in_filter p x xs later passes))
  | inr dropped ↦ rw dropped (in_filter p x xs later passes)
]

from_filter : {A : Type 0} (p : A → Bool) (x : A) (xs : List A) → In x (filter p xs) → In x xs × (p x ≡ true)
from_filter p x [] here = absurd here
from_filter p x (z ∷ xs) here = elim (cases_Bool (p z)) [
  | inl kept ↦ by_place kept (from_filter p x xs) (rw kept at here)
  | inr dropped ↦ (let (there, passes) = from_filter p x xs (rw dropped at here) in (inr there, passes))
]
  where
    by_place : p z ≡ true → (In x (filter p xs) → In x xs × (p x ≡ true)) → In x (z ∷ filter p xs)
        → In x (z ∷ xs) × (p x ≡ true)
    by_place kept behind (inl same) = (inl same, ap p same ∙ kept)
    by_place kept behind (inr later) = let (there, passes) = behind later in (inr there, passes)

-- ---- the first that passes
first_passes : {A : Type 0} (test : A → Bool) (xs : List A) (x : A) → first_that test xs ≡ Some x → In x xs
    × (test x ≡ true)
first_passes test [] x found = absurd cc
first_passes test (y ∷ ys) x found = elim (cases_Bool (test y)) [
  | inl passes ↦ (let same : y ≡ x = some_same (rw passes at found) in (inl (sym same), ap test (sym same) ∙ passes))
  | inr fails ↦ (let (there, passes) = first_passes test ys x (rw fails at found) in (inr there, passes))
]
  where
    some_same : Some y ≡ Some x → y ≡ x
    some_same e = cc

none_passes : {A : Type 0} (test : A → Bool) (xs : List A) (x : A) → first_that test xs ≡ None → In x xs
    → test x ≡ true → ⊥
none_passes test [] x none here passes = absurd here
none_passes test (y ∷ ys) x none here passes = elim (cases_Bool (test y)) [
  | inl good ↦ no_some (rw good at none)
  | inr fails ↦ by_place here (none_passes test ys x (rw fails at none)) fails
]
  where
    no_some : Some y ≡ None → ⊥
    no_some e = cc

    by_place : In x (y ∷ ys) → (In x ys → test x ≡ true → ⊥) → test y ≡ false → ⊥
    by_place (inl same) later fails = true≢false (sym passes ∙ ap test same ∙ fails)
    by_place (inr there) later fails = later there passes

-- ---- which instances there are
pub literal_in : (n i : ℕ) (l : Literal) → i ≤ l.sig → l.sig < i + n → In l (both_from n i)
literal_in zero i l low high = absurd (omega arith)
literal_in (suc n) i l low high = elim (eqb_tells l.sig i) [
  | inl same ↦ by_sign l same.1
  | inr other ↦ (let not_i = other.1 in inr (inr (literal_in n (i + 1) l (omega arith) (omega arith))))
]
  where
    by_sign : (l : Literal) → l.sig ≡ i → In l (both_from (suc n) i)
    by_sign l same = signs l.plain refl
      where
        signs : (b : Bool) → l.plain ≡ b → In l (both_from (suc n) i)
        signs true e = inl (let make : ℕ → Bool → Literal = λ s v. record { sig = s; plain = v } in ap
            (λ s. make s l.plain) same ∙ ap (λ v. make i v) e)
        signs false e = inr (inl (let make : ℕ → Bool → Literal = λ s v. record { sig = s; plain = v } in ap
            (λ s. make s l.plain) same ∙ ap (λ v. make i v) e))

pub literal_small : (n i : ℕ) (l : Literal) → In l (both_from n i) → l.sig < i + n
literal_small zero i l here = absurd here
literal_small (suc n) i l (inl same) = let e : l.sig ≡ i = ap (λ (m : Literal). m.sig) same in omega (arith, e)
literal_small (suc n) i l (inr (inl same)) = let e : l.sig ≡ i = ap (λ (m : Literal). m.sig) same in omega (arith, e)
literal_small (suc n) i l (inr (inr later)) = let small = literal_small n (i + 1) l later in omega (arith, small)

module _ (allowed : Pins) (n : ℕ) where
  abbrev Admitted : Literal → Type 0
  Admitted l = admits allowed l ≡ true

  list_in : (ls : List Literal) → All (λ (l : Literal). l.sig < n) ls → All Admitted ls
      → In ls (lists_of (length ls) (literals_for allowed n))
  list_in [] small admitted = inl refl
  list_in (l ∷ ls) small admitted =
      let listed = literal_in n 0 l (omega arith) (let here = small 0 l (omega arith) in omega (arith, here)) in
      in_flat (λ m. map (λ ms. m ∷ ms) (lists_of (length ls) (literals_for allowed n))) l (l ∷ ls)
      (literals_for allowed n)
      (in_filter (admits allowed) l (literals_of_signals n) listed (admitted 0 l (omega arith)))
      (in_map (λ ms. l ∷ ms) ls (lists_of (length ls) (literals_for allowed n)) (list_in ls
      (λ k d inside. small (suc k) d (omega (arith, inside)))
      (λ k d inside. admitted (suc k) d (omega (arith, inside)))))

  list_small : (pins : ℕ) (ls : List Literal) → In ls (lists_of pins (literals_for allowed n))
      → (length ls ≡ pins) × All (λ (l : Literal). l.sig < n) ls × All Admitted ls
  list_small zero ls (inl same) =
      rw same (refl, λ k d inside. absurd (omega arith), λ k d inside. absurd (omega arith))
  list_small zero ls (inr never) = absurd never
  list_small (suc pins) ls here =
      let (l, there, at) = from_flat (λ m. map (λ ms. m ∷ ms) (lists_of pins (literals_for allowed n))) ls
      (literals_for allowed n) here in
      let (rest, rest_in, same) = from_map (λ ms. l ∷ ms) ls (lists_of pins (literals_for allowed n)) at in
      let (count, small, admitted) = list_small pins rest rest_in in
      let (listed, passes) = from_filter (admits allowed) l (literals_of_signals n) there in
      rw same (
        ap suc count,
        All-cons (λ (m : Literal). m.sig < n) l rest (let low = literal_small n 0 l listed in omega
            (arith, low)) small,
        All-cons Admitted l rest passes admitted,
      )

cell_in : (from : ℕ) (cells : List Cell) (k : ℕ) → k < length cells
    → In (from + k, get_or cells k no_cell) (enumerate_from from cells)
cell_in from [] k inside = absurd (omega arith)
cell_in from (x ∷ cells) zero inside = inl (let pair : ℕ → ℕ
    × Cell = λ n. (n, x) in let e : from + 0 ≡ from = omega arith in ap pair e)
cell_in from (x ∷ cells) (suc k) inside =
    let e : from + 1 + k ≡ from + suc k = omega arith in
    inr (subst (λ n. In (n, get_or cells k no_cell) (enumerate_from (from + 1) cells)) e (cell_in (from + 1) cells k
    (omega (arith, inside))))

from_cells : (from : ℕ) (cells : List Cell) (p : ℕ × Cell) → In p (enumerate_from from cells) → (k : ℕ)
    × (k < length cells) × (p ≡ (from + k, get_or cells k no_cell))
from_cells from [] p here = absurd here
from_cells from (x ∷ cells) p (inl same) = (
  0,
  omega arith,
  same ∙ (let pair : ℕ → ℕ × Cell = λ n. (n, x) in let e : from
      ≡ from + 0 = omega arith in ap pair e),
)
from_cells from (x ∷ cells) p (inr later) =
    let (k, inside, same) = from_cells (from + 1) cells p later in
    let e : from + 1 + k ≡ from + suc k = omega arith in
    (suc k, omega (arith, inside), same ∙ (let pair : ℕ → ℕ × Cell = λ n. (n, get_or cells k no_cell) in ap pair e))

module _ (n : ℕ) (library : Library) (i : Instance) where
  pub listed_in : IsInstance library i → All (λ (l : Literal). l.sig < n) i.literals
      → All (λ (l : Literal). admits library.pins l ≡ true) i.literals → In i (instances n library)
  listed_in instance signals admitted =
      let here : In (i.cell, cell_at library i.cell) (enumerate_from 0 library.cells) =
      (let e : 0 + i.cell ≡ i.cell = omega arith in
      subst (λ k. In (k, cell_at library i.cell) (enumerate_from 0 library.cells)) e
      (cell_in 0 library.cells i.cell instance.cell)) in
      let listed : In i.literals (lists_of (length (cell_at library i.cell).pins) (literals_for library.pins n)) =
      subst (λ k. In i.literals (lists_of k (literals_for library.pins n))) instance.pins
      (list_in library.pins n i.literals signals admitted) in
      in_flat (instances_of library.pins n) (i.cell, cell_at library i.cell) i (enumerate_from 0 library.cells) here
      (in_map (λ ls. record { cell = i.cell; literals = ls }) i.literals _ listed)

  pub from_listed : n ≤ code_width → In i (instances n library)
      → IsInstance library i × All (λ (l : Literal). l.sig < n) i.literals
      × All (λ (l : Literal). admits library.pins l ≡ true) i.literals
  from_listed width here =
      let (p, p_in, i_in) = from_flat (instances_of library.pins n) i (enumerate_from 0 library.cells) here in
      let (k, inside, is_p) = from_cells 0 library.cells p p_in in
      let (ls, ls_in, is_i) = from_map (λ ms. record { cell = p.0; literals = ms }) i
      (lists_of (length p.1.pins) (literals_for library.pins n)) i_in in
      let (count, small, admitted) = list_small library.pins n (length p.1.pins) ls ls_in in
      let place : 0 + k ≡ k = omega arith in
      let at_cell : i.cell ≡ k = ap (λ (j : Instance). j.cell) is_i ∙ ap (λ (q : ℕ × Cell). q.0) is_p ∙ place in
      let pins : length p.1.pins ≡ length (cell_at library i.cell).pins =
      ap (λ (q : ℕ × Cell). length q.1.pins) is_p ∙ ap (λ (m : ℕ). length (cell_at library m).pins) (sym at_cell) in
      let literals_are : i.literals ≡ ls = ap (λ (j : Instance). j.literals) is_i in (
        record {
          cell = rw at_cell inside;
          pins = ap length literals_are ∙ count ∙ pins;
          signals = rw literals_are (λ j d within. (let low = small j d within in omega (arith, low, width)));
        },
        rw literals_are small,
        rw literals_are admitted,
      )

pub instance_in : (c : CodedGraph) (library : Library) (i : Instance) → IsOver c library i
    → In i (instances (length c.graph.signals) library)
instance_in c library i over =
    listed_in (length c.graph.signals) library i over.instance over.signals over.admitted

pub instance_over : (c : CodedGraph) (library : Library) (i : Instance) → length c.graph.signals ≤ code_width
    → In i (instances (length c.graph.signals) library) → IsOver c library i
instance_over c library i width here =
    let (instance, signals, admitted) = from_listed (length c.graph.signals) library i width here in
    record { instance = instance; signals = signals; admitted = admitted }

-- ---- what the test tells
module _ (c : CodedGraph) (library : Library) (z : ℕ) (i : Instance) (coded : IsCoded c) where
  pub tells : fits c z (cell_at library i.cell) i.literals ≡ true → Fits c library z i
  tells all s within =
      let inside : s < length c.codes = omega (arith, within, coded.count) in
      let here = AllPass-from_list_all (suits c z (cell_at library i.cell) i.literals) (states_of c) all s
      (s, code c s) (rw states_are inside) in
      let at : suits c z (cell_at library i.cell) i.literals (s, code c s) ≡ true = ap (suits c z
      (cell_at library i.cell) i.literals) (sym (state_at c s (s, code c s) inside)) ∙ here in
      beq-true _ _ at

  pub told : Fits c library z i → fits c z (cell_at library i.cell) i.literals ≡ true
  told each = all_from c (suits c z (cell_at library i.cell) i.literals)
      (λ s inside. (let same = each s (omega (arith, inside, coded.count)) in rw same (beq-refl (next_value c s z))))

pub fit_fits : (c : CodedGraph) (library : Library) (z : ℕ) (i : Instance) → IsCoded c
    → first_fit c library z ≡ Some i → IsOver c library i × Fits c library z i
unfolding first_fit
fit_fits c library z i coded found =
    let (there, passes) = first_passes (λ j. fits c z (cell_at library j.cell) j.literals) (instances
    (length c.graph.signals) library) i found in
    (instance_over c library i coded.graph_is.few_signals there, tells c library z i coded passes)

pub none_fits : (c : CodedGraph) (library : Library) (z : ℕ) (i : Instance) → IsCoded c → first_fit c library z ≡ None
    → IsOver c library i → Fits c library z i → ⊥
unfolding first_fit
none_fits c library z i coded none over fit =
    none_passes (λ j. fits c z (cell_at library j.cell) j.literals) (instances
    (length c.graph.signals) library) i none (instance_in c library i over)
    (told c library z i coded fit)
