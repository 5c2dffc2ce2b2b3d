-- Pin literals by the support and by cubes, and that there is one list of them.
use Rattle.std.proofs.Common.{◌≡◌, ℕ, zero, suc, ◌+◌, ◌<◌, ◌≤◌, ◌*◌, ◌/◌, ◌%◌, ◌==◌, ◌&&◌, Bool, true, false}
use Rattle.std.proofs.Common.{List, [], ◌∷◌, ◌++◌, length, filter, take, get_or, Contains, refl, sym, ap, subst, ◌∙◌}
use Rattle.std.proofs.Common.{arith, inl, inr}
use Rattle.std.proofs.lemmas.Bool.{cases_Bool, or_right}
use Rattle.std.proofs.lemmas.Bool.Decides.{eqb_tells}
use Rattle.std.proofs.lemmas.List.{append-nil, take_all}
use Rattle.std.proofs.lemmas.List.Elements.{filter_more}
use Rattle.std.proofs.Math.Bool.{or-false}
use mathlib.Core.Bool.{beq}
use Rattle.si_base.specs.Bits.{bit}
use Rattle.si_base.specs.Limits.{code_width}
use Rattle.si_base.specs.Codes.{CodedGraph}
use Rattle.si_base.specs.declared.ids.Literal.{Literal}
use Rattle.si_base.proofs.OrderAscending.{In}
use Rattle.si_base.proofs.OrderLemmas.{in_contains}
use Rattle.si_base.proofs.GivenGraphUnique.{contains_from_in}
use Rattle.si_base.proofs.Booleans.{same_if, beq_swap}
use Rattle.si_cube.specs.Literals.{literals_from, literals_of}
use Rattle.si_cube.proofs.NeededLemmas.{in_kept, any_from_in, any_in}
use Rattle.si_cell.specs.Literals.{same_literal, has_literal}
use Rattle.si_cell.proofs.CubeLemmas.{same_is, same_self}
use Rattle.si_match.specs.Fit.{literals_of_signals}
use Rattle.si_match.specs.Support.{support_of}
use Rattle.si_match.proofs.FitLemmas.{literal_in, literal_small}
use Rattle.si_match.proofs.SearchLemmas.{literals_count, literal_of_place}
use Rattle.si_divisor.specs.Divisors.{IsPin, ArePins}
use Rattle.si_divisor.specs.Loops.PinTests.{is_pin, pin_literals, AreCubesOf}

-- ---- the literals of a cube
-- a literal of an earlier signal isn't among them
earlier : (n i care value : ℕ) (l : Literal) → l.sig < i → has_literal (literals_from n i care value) l ≡ false
earlier zero i care value l below = refl
earlier (suc n) i care value l below =
    let later = earlier n (i + 1) care value l (omega (arith, below)) in
    elim (cases_Bool (bit care i)) [
      | inr off ↦ rw off later
      | inl on ↦ elim (eqb_tells l.sig i) [
        | inl same ↦ (let e = same.1 in absurd (omega (arith, below, e)))
        | inr other ↦ (let no = other.0 in rw (on, no) later)
      ]
    ]

has_from : (n i care value s : ℕ) (v : Bool) → i ≤ s → s < i + n
    → has_literal (literals_from n i care value) (record { sig = s; plain = v })
    ≡ (bit care s && beq v (bit value s))
has_from zero i care value s v low high = absurd (omega (arith, low, high))
has_from (suc n) i care value s v low high = elim (eqb_tells s i) [
  | inr other ↦ (
      let no = other.0 in
      let differs = other.1 in
      let later = has_from n (i + 1) care value s v (omega (arith, low, differs)) (omega (arith, high)) in
      elim (cases_Bool (bit care i)) [
        | inl on ↦ rw (on, no) later
        | inr off ↦ rw off later
      ])
  | inl same ↦ (
      let e = same.1 in
      let yes_it_is = same.0 in
      let none = earlier n (i + 1) care value (record { sig = s; plain = v }) (omega (arith, e)) in
      let at : bit value i ≡ bit value s = ap (bit value) (sym e) in
      elim (cases_Bool (bit care i)) [
        | inl on ↦ (
            let here : bit care s ≡ true = ap (bit care) e ∙ on in
            rw (on, yes_it_is, none, here, at) (or-false (beq v (bit value s))))
        | inr off ↦ (
            let here : bit care s ≡ false = ap (bit care) e ∙ off in
            rw (off, here) none)
      ])
]

pub cube_has : (care value : ℕ) (l : Literal) → l.sig < code_width
    → has_literal (literals_of care value) l ≡ (bit care l.sig && beq l.plain (bit value l.sig))
unfolding literals_of
cube_has care value l small = has_from code_width 0 care value l.sig l.plain (omega arith) (omega (arith, small))

module _ (care value : ℕ) (cube : List Literal) (l : Literal) (small : l.sig < code_width)
    (shown : literals_of care value ≡ cube) where
  held_is : (bit care l.sig && beq l.plain (bit value l.sig)) ≡ has_literal cube l
  held_is = sym (cube_has care value l small) ∙ ap (λ (ls : List Literal). has_literal ls l) shown

  pub cared_for : (cares v : Bool) → cares ≡ bit care l.sig → cares ≡ true → v ≡ bit value l.sig
      → beq v l.plain ≡ has_literal cube l
  cared_for cares v is on value_is =
      let care_on : bit care l.sig ≡ true = sym is ∙ on in
      beq_swap v l.plain ∙ ap (beq l.plain) value_is ∙ sym (rw care_on refl) ∙ held_is

  pub not_cared_for : (cares : Bool) → cares ≡ bit care l.sig → cares ≡ false → cares ≡ has_literal cube l
  not_cared_for cares is off =
      let care_off : bit care l.sig ≡ false = sym is ∙ off in
      off ∙ sym (rw care_off refl) ∙ held_is

-- ---- tests of lists
pub has_in : (ls : List Literal) (l : Literal) → has_literal ls l ≡ true → Contains ls l
has_in ls l on =
    let (m, there, same) = any_in (same_literal l) ls on in
    contains_from_in ls l (subst (λ (x : Literal). In x ls) (sym (same_is l m same)) there)

pub in_has : (ls : List Literal) (l : Literal) → Contains ls l → has_literal ls l ≡ true
in_has ls l there = any_from_in (same_literal l) ls l (in_contains ls l there) (same_self l)

-- ---- filters
from_kept : (p : Literal → Bool) (xs : List Literal) (l : Literal) → In l (filter p xs) → In l xs × (p l ≡ true)
from_kept p [] l there = absurd there
from_kept p (x ∷ xs) l there = elim (cases_Bool (p x)) [
  | inr off ↦ (let (later, passes) = from_kept p xs l (rw off at there) in (inr later, passes))
  | inl on ↦ here (from_kept p xs l) on (rw on at there)
]
  where
    here : (In l (filter p xs) → In l xs × (p l ≡ true)) → p x ≡ true → In l (x ∷ filter p xs)
        → In l (x ∷ xs) × (p l ≡ true)
    here rest on (inl same) = (inl same, ap p same ∙ on)
    here rest on (inr later) = (let (there, passes) = rest later in (inr there, passes))

-- the same literals are kept by tests that agree on them
kept_alike : (p q : Literal → Bool) (xs : List Literal) → ((l : Literal) → In l xs → p l ≡ q l)
    → filter p xs ≡ filter q xs
kept_alike p q [] alike = refl
kept_alike p q (x ∷ xs) alike =
    let here : p x ≡ q x = alike x (inl refl) in
    let later = kept_alike p q xs (λ l there. alike l (inr there)) in
    elim (cases_Bool (q x)) [
      | inl on ↦ (let also : p x ≡ true = here ∙ on in rw (on, also, later) refl)
      | inr off ↦ (let also : p x ≡ false = here ∙ off in rw (off, also, later) refl)
    ]

-- ---- the loop over all literals
module _ (support : ℕ) (cubes : List (List Literal)) (n place : ℕ) (l : Literal) (within : place < 2 * n)
    (is : l ≡ record { sig = place / 2; plain = place % 2 == 0 }) (now : List Literal)
    (before : now ≡ filter (is_pin support cubes) (take place (literals_of_signals n))) where
  inside : place < length (literals_of_signals n)
  inside = rw literals_count within

  at : get_or (literals_of_signals n) place l ≡ l
  at = literal_of_place n place l within ∙ sym is

  pub put_last : is_pin support cubes l ≡ true → (new : List Literal) → new ≡ now ++ l ∷ []
      → new ≡ filter (is_pin support cubes) (take (place + 1) (literals_of_signals n))
  put_last on new put = put ∙ ap (λ (ls : List Literal). ls ++ l ∷ []) before
      ∙ sym (filter_more (is_pin support cubes) (literals_of_signals n) place l inside ∙ rw (at, on) refl)

  pub left_out : is_pin support cubes l ≡ false
      → now ≡ filter (is_pin support cubes) (take (place + 1) (literals_of_signals n))
  left_out off = before
      ∙ sym (filter_more (is_pin support cubes) (literals_of_signals n) place l inside ∙ rw (at, off) (append-nil _))

pub all_passed : (support : ℕ) (cubes : List (List Literal)) (n place : ℕ) (now : List Literal) → 2 * n ≤ place
    → now ≡ filter (is_pin support cubes) (take place (literals_of_signals n)) → now ≡ pin_literals n support cubes
all_passed support cubes n place now past is =
    let all : take place (literals_of_signals n) ≡ literals_of_signals n =
    take_all place (literals_of_signals n) (rw literals_count past) in
    is ∙ ap (filter (is_pin support cubes)) all

-- ---- one list of pins
pub one_list : (c : CodedGraph) (z : ℕ) (xs ys : List Literal) → ArePins c z xs → ArePins c z ys → xs ≡ ys
one_list c z xs ys a b =
    let n = length c.graph.signals in
    let other : (ks ms : List Literal) → ArePins c z ks → ArePins c z ms → (l : Literal) → l.sig < n
    → has_literal ks l ≡ true → has_literal ms l ≡ true = λ ks ms p q l small on.
    in_has ms l ((q.exactly l small).1 ((p.exactly l small).0 (has_in ks l on))) in
    a.in_order
    ∙ kept_alike (has_literal xs) (has_literal ys) (literals_of_signals n) (λ l there.
    (let small = literal_small n 0 l there in
    let inside : l.sig < n = omega (arith, small) in
    same_if (has_literal xs l) (has_literal ys l) (other xs ys a b l inside) (other ys xs b a l inside)))
    ∙ sym b.in_order

-- ---- the pins by the support and the cubes
module _ (c : CodedGraph) (z : ℕ) (cubes : List (List Literal)) (are : AreCubesOf c z cubes) where
  abbrev test : Literal → Bool
  test = is_pin (support_of c z) cubes

  abbrev pub pins : List Literal
  pins = pin_literals (length c.graph.signals) (support_of c z) cubes

  pin_from : (l : Literal) → test l ≡ true → IsPin c z l
  pin_from l on = elim (cases_Bool (bit (support_of c z) l.sig)) [
    | inl held ↦ inl held
    | inr none ↦ (
        let (cube, there, has) = any_in (λ cube. has_literal cube l) cubes (rw none at on) in
        inr (cube, are.each cube (contains_from_in cubes cube there), has_in cube l has))
  ]

  from_pin : (l : Literal) → IsPin c z l → test l ≡ true
  from_pin l (inl held) = rw held refl
  from_pin l (inr (cube, is, has)) =
      let (other, there, more) = are.all cube is in
      or_right (bit (support_of c z) l.sig) _
      (any_from_in (λ x. has_literal x l) cubes other (in_contains cubes other there) (in_has other l (more l has)))

  pub are_pins : ArePins c z pins
  are_pins = record {
    in_order = kept_alike test (has_literal pins) (literals_of_signals (length c.graph.signals)) (λ l there.
        same_if (test l) (has_literal pins l)
        (λ on. in_has pins l (contains_from_in pins l (in_kept test _ l there on)))
        (λ on. (from_kept test _ l (in_contains pins l (has_in pins l on))).1));
    exactly = λ l small. (
      (λ there. pin_from l (from_kept test _ l (in_contains pins l there)).1),
      (λ is. contains_from_in pins l (in_kept test _ l (literal_in (length c.graph.signals) 0 l
          (omega arith) (omega (arith, small))) (from_pin l is))),
    );
  }
