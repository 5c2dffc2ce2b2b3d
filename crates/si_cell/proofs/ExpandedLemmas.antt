-- An instance's sum has its value.
use Rattle.std.proofs.Common.{◌≡◌, ℕ, zero, suc, ◌⊎◌, ◌+◌, ◌<◌, ◌≤◌, ◌==◌, ◌&&◌, ◌||◌, not, Bool, true}
use Rattle.std.proofs.Common.{false, List, [], ◌∷◌, ◌++◌, length, map, filter, get_or, if◌then◌else◌, All, refl, sym}
use Rattle.std.proofs.Common.{ap, ◌∙◌, arith, inl, inr}
use Rattle.std.specs.List.{list_all}
use Rattle.std.proofs.lemmas.Bool.{true≢false, cases_Bool, false_from_ne_true}
use Rattle.std.proofs.lemmas.List.{length_push, map_push, get_or-map}
use Rattle.std.proofs.lemmas.Bool.Decides.{eqb_tells}
use Rattle.std.proofs.lemmas.List.Elements.{All-map, All-push}
use Rattle.std.proofs.lemmas.Nat.Bits.{bit_at_lowest, bit_at-suc, bit_at-zero}
use Rattle.std.specs.Int.{bit_at}
use mathlib.Core.Bool.{beq}
use Rattle.si_base.specs.Bits.{bit}
use Rattle.si_base.specs.Limits.{code_width}
use Rattle.si_base.specs.Netlist.{Sum, literal_value, sum_value}
use Rattle.si_base.specs.declared.ids.Literal.{Literal}
use Rattle.si_base.proofs.Booleans.{same_if}
use Rattle.si_base.proofs.BitFacts.{lowest_bit, without_lowest}
use Rattle.si_cell.specs.Expanded.{placed, placed_sum, plain, sources, expanded}
use Rattle.si_cell.specs.Library.{Library, Instance, IsLibrary, IsInstance, cell_at, no_cell, code_of, pin_values}
use Rattle.si_cell.specs.Library.{instance_value}
use Rattle.si_cell.specs.Literals.{same_literal, has_literal, complement, both_from, clashes, in_literal_order}
use Rattle.si_cell.proofs.CubeLemmas.{found, same_is, same_self, and_first, and_second}

-- ---- the bits of a code of values
pub bit_of : (values : List Bool) (k : ℕ) → bit (code_of values) k ≡ get_or values k false
bit_of [] k = rw (bit_at-zero k) refl
bit_of (v ∷ vs) zero = ap (λ (x : ℕ). x == 1) (bit_at_lowest (code_of (v ∷ vs))) ∙ lowest_bit v (code_of vs)
bit_of (v ∷ vs) (suc k) = ap (λ (n : ℕ). n == 1) (bit_at-suc (code_of (v ∷ vs)) k
    ∙ ap (λ (n : ℕ). bit_at n k) (without_lowest v (code_of vs))) ∙ bit_of vs k

-- ---- literals
value_complement : (code : ℕ) (m : Literal) → literal_value code (complement m) ≡ not (literal_value code m)
value_complement code m = by_bits (bit code m.sig) m.plain
  where
    by_bits : (a b : Bool) → beq a (not b) ≡ not (beq a b)
    by_bits true true = refl
    by_bits true false = refl
    by_bits false true = refl
    by_bits false false = refl

-- the value of a literal of the cell's sum, and that of what stands for it
literal_placed : (code z : ℕ) (literals : List Literal) (l : Literal) → l.sig < length (sources literals z)
    → literal_value code (placed (sources literals z) l) ≡ literal_value (pin_values literals code (bit code z)) l
literal_placed code z literals l inside = rw value_is (by_sign l.plain)
  where
    standing : Literal
    standing = get_or (sources literals z) l.sig (plain 0)

    values_are : map (literal_value code) literals ++ bit code z ∷ [] ≡ map (literal_value code) (sources literals z)
    values_are = ap (λ (b : Bool). map (literal_value code) literals ++ b ∷ []) (sym (true_is (bit code z)))
        ∙ sym (map_push (literal_value code) literals (plain z))
      where
        true_is : (b : Bool) → beq b true ≡ b
        true_is true = refl
        true_is false = refl

    value_is : bit (pin_values literals code (bit code z)) l.sig ≡ literal_value code standing
    value_is = bit_of (map (literal_value code) literals ++ bit code z ∷ []) l.sig
        ∙ ap (λ (vs : List Bool). get_or vs l.sig false) values_are
        ∙ get_or-map (literal_value code) (sources literals z) l.sig (plain 0) false inside

    by_sign : (b : Bool) → literal_value code (if b then standing else complement standing) ≡ beq
        (literal_value code standing) b
    by_sign true = plainly (literal_value code standing)
      where
        plainly : (b : Bool) → b ≡ beq b true
        plainly true = refl
        plainly false = refl
    by_sign false = value_complement code standing ∙ turned (literal_value code standing)
      where
        turned : (b : Bool) → not b ≡ beq b false
        turned true = refl
        turned false = refl

-- ---- cubes
cube_placed : (code z : ℕ) (literals cube : List Literal)
    → All (λ (l : Literal). l.sig < length (sources literals z)) cube
    → list_all (literal_value code) (map (placed (sources literals z)) cube) ≡ list_all (literal_value
    (pin_values literals code (bit code z))) cube
cube_placed code z literals [] inside = refl
cube_placed code z literals (l ∷ ls) inside =
    rw (
      literal_placed code z literals l (inside 0 l (omega arith)),
      cube_placed code z literals ls
          (λ k d within. inside (suc k) d (omega (arith, within))),
    ) refl

-- a cube with a literal and its complement has the value 0
clash_zero : (code : ℕ) (cube : List Literal) → clashes cube ≡ true → list_all (literal_value code) cube ≡ false
clash_zero code cube meets =
    let (l, other, all, some) = found (λ l. has_literal cube (complement l)) cube meets in
    let (m, same, every, any) = found (same_literal (complement l)) cube other in
    false_from_ne_true _ (λ both.
    let one = all (literal_value code) both in
    let two : literal_value code (complement l) ≡ true = ap (literal_value code) (same_is (complement l) m same)
    ∙ every (literal_value code) both in
    true≢false (sym two ∙ value_complement code l ∙ ap not one))

-- literals in literal order have the same value
module _ (p : Literal → Bool) (cube : List Literal) where
  kept : (xs : List Literal) → list_all p cube ≡ true → list_all p (filter (has_literal cube) xs) ≡ true
  kept [] all = refl
  kept (x ∷ xs) all = elim (cases_Bool (has_literal cube x)) [
    | inl there ↦
        let (m, same, every, any) = found (same_literal x) cube there in
        let here : p x ≡ true = ap p (same_is x m same) ∙ every p all in
        rw (there, here) (kept xs all)
    | inr absent ↦ rw absent (kept xs all)
  ]

  at_literal : (xs : List Literal) (l : Literal) → has_literal xs l ≡ true → has_literal cube l ≡ true
      → list_all p (filter (has_literal cube) xs) ≡ true → p l ≡ true
  at_literal [] l here there all = absurd (true≢false (sym here))
  at_literal (x ∷ xs) l here there all = elim (cases_Bool (same_literal l x)) [
    | inl same ↦
        let e = same_is l x same in
        let kept_x : has_literal cube x ≡ true = ap (has_literal cube) (sym e) ∙ there in
        ap p e ∙ and_first (p x) _ (rw kept_x at all)
    | inr other ↦ at_literal xs l (rw other at here) there (later (cases_Bool (has_literal cube x)) all)
  ]
    where
      later : (has_literal cube x ≡ true) ⊎ (has_literal cube x ≡ false)
          → list_all p (filter (has_literal cube) (x ∷ xs)) ≡ true → list_all p (filter (has_literal cube) xs) ≡ true
      later (inl there) all = and_second (p x) _ (rw there at all)
      later (inr absent) all = rw absent at all

  everyone : (ls : List Literal) → ((l : Literal) → has_literal ls l ≡ true → p l ≡ true) → list_all p ls ≡ true
  everyone [] each = refl
  everyone (l ∷ ls) each = rw (
    each l (rw (same_self l) refl),
    everyone ls (λ m there. each m (or_second
        (same_literal m l) _ there)),
  ) refl
    where
      or_second : (a b : Bool) → b ≡ true → (a || b) ≡ true
      or_second true b e = refl
      or_second false b e = e

both_there : (n i : ℕ) (l : Literal) → i ≤ l.sig → l.sig < i + n → has_literal (both_from n i) l ≡ true
both_there zero i l low high = absurd (omega arith)
both_there (suc n) i l low high = elim (eqb_tells l.sig i) [
  | inl same ↦ rw same.0 (by_sign l.plain (has_literal (both_from n (i + 1)) l))
  | inr other ↦ (let not_i = other.1 in rw (other.0, both_there n (i + 1) l (omega arith) (omega arith)) refl)
]
  where
    by_sign : (b rest : Bool) → ((true && beq b true) || ((true && beq b false) || rest)) ≡ true
    by_sign true rest = refl
    by_sign false rest = refl

-- a literal that is one of small ones
pub all_small : (n : ℕ) (cube : List Literal) → All (λ (l : Literal). l.sig < n) cube → (l : Literal)
    → has_literal cube l ≡ true → l.sig < n
all_small n cube small l there =
    let (k, inside, same) = any_at cube l there in
    let e = same_is l (get_or cube k l) same in
    rw e (small k l inside)
  where
    any_at : (cube : List Literal) (l : Literal) → has_literal cube l ≡ true → (k : ℕ) × (k < length cube)
        × (same_literal l (get_or cube k l) ≡ true)
    any_at [] l there = absurd (true≢false (sym there))
    any_at (m ∷ ms) l there = elim (cases_Bool (same_literal l m)) [
      | inl same ↦ (0, omega arith, same)
      | inr other ↦ (let (k, inside, same) = any_at ms l (rw other at there) in (suc k, omega (arith, inside), same))
    ]

pub order_value : (code : ℕ) (cube : List Literal) → All (λ (l : Literal). l.sig < code_width) cube
    → list_all (literal_value code) (in_literal_order cube) ≡ list_all (literal_value code) cube
unfolding in_literal_order
order_value code cube small =
    same_if _ _ (λ all. everyone (literal_value code) cube cube (λ l there.
    at_literal (literal_value code) cube (both_from code_width 0) l (both_there code_width 0 l (omega arith) (omega
    (arith, all_small code_width cube small l there))) there all))
    (λ all. kept (literal_value code) cube (both_from code_width 0) all)

-- ---- sums
pub placed_small : (n : ℕ) (at_pins : List Literal) (cube : List Literal) → All (λ (l : Literal). l.sig < n) at_pins
    → All (λ (l : Literal). l.sig < length at_pins) cube
    → All (λ (l : Literal). l.sig < n) (map (placed at_pins) cube)
placed_small n at_pins cube small inside = All-map (λ (l : Literal). l.sig < n) (placed at_pins) cube
    (λ k d within. by_sign (get_or cube k d) (inside k d within))
  where
    by_sign : (l : Literal) → l.sig < length at_pins → (placed at_pins l).sig < n
    by_sign l within = signs l.plain (small l.sig (plain 0) within)
      where
        signs : (b : Bool) → (get_or at_pins l.sig (plain 0)).sig < n
            → (if b then get_or at_pins l.sig (plain 0) else complement (get_or at_pins l.sig (plain 0))).sig < n
        signs true e = e
        signs false e = e

module _ (code z : ℕ) (literals : List Literal) (small : All (λ (l : Literal). l.sig < code_width)
    (sources literals z)) where
  pub sum_placed : (sum : Sum) → All (All (λ (l : Literal). l.sig < length (sources literals z))) sum
      → sum_value code (placed_sum (sources literals z) sum) ≡ sum_value (pin_values literals code (bit code z)) sum
  sum_placed [] inside = refl
  sum_placed (cube ∷ cubes) inside =
      let within : All (λ (l : Literal). l.sig < length (sources literals z)) cube = inside 0 cube (omega arith) in
      let same = cube_placed code z literals cube within in
      let later = sum_placed cubes (λ k d below. inside (suc k) d (omega (arith, below))) in
      elim (cases_Bool (clashes (map (placed (sources literals z)) cube))) [
        | inl meets ↦ rw (meets, sym same ∙ clash_zero code (map (placed (sources literals z)) cube) meets) later
        | inr apart ↦ rw (
          apart,
          order_value code (map (placed (sources literals z)) cube) (placed_small code_width
              (sources literals z) cube small within),
          same,
          later,
        ) refl
      ]

-- the literals of an instance's cell stand at its pins and at its own output
pub sum_inside : (library : Library) (i : Instance) (z : ℕ) → IsLibrary library → IsInstance library i
    → All (All (λ (l : Literal). l.sig < length (sources i.literals z))) (cell_at library i.cell).sum
sum_inside library i z good is = λ k d inside. λ j l within. (
    let there = ((good.cells.each i.cell no_cell is.cell).sum k d inside).there j l within in
    omega (arith, there, is.pins, length_push i.literals (plain z)))

pub expanded_value : (library : Library) (i : Instance) (z : ℕ) → IsLibrary library → IsInstance library i
    → z < code_width
    → (code : ℕ) → sum_value code (expanded library i z) ≡ instance_value library i code (bit code z)
unfolding expanded
expanded_value library i z good is small code =
    sum_placed code z i.literals (All-push (λ (l : Literal). l.sig < code_width) i.literals
    (plain z) is.signals small) (cell_at library i.cell).sum
    (sum_inside library i z good is)
