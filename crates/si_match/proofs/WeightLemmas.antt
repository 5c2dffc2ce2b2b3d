-- Sizes of sets of signals, and weights, signal after signal.
use Rattle.std.proofs.Common.{◌≡◌, ℕ, zero, suc, ◌+◌, ◌-◌, ◌*◌, ◌%◌, ◌^◌, ◌<◌, ◌≤◌, ◌==◌, ◌&&◌, List, ◌∷◌, length, drop}
use Rattle.std.proofs.Common.{get_or, slice_get, count_ones, bit_and, mod-lt, Some, is_none, add-one, Bool, true, false}
use Rattle.std.proofs.Common.{if◌then◌else◌, refl, sym, ap, ◌∙◌, arith, inl, inr}
use Rattle.std.proofs.Math.Seq.{drop-cons}
use Rattle.std.proofs.lemmas.Nat.{and_mask, mod-pow-add, ones_cat, pow_pos}
use Rattle.std.proofs.lemmas.Nat.Bits.{bit_at-lt}
use Rattle.std.proofs.lemmas.Option.{slice_get-get_or}
use Rattle.std.specs.Int.{bit_at}
use Rattle.si_base.proofs.BitFacts.{below_two}
use Rattle.si_base.specs.Bits.{bit, ones}
use Rattle.si_base.specs.Codes.{CodedGraph}
use Rattle.si_base.specs.Graph.{is_driven, IsNonInput}
use Rattle.si_base.specs.declared.graph.Signal.{Signal}
use Rattle.si_cell.specs.Library.{Library}
use Rattle.si_match.specs.Fit.{first_fit}
use Rattle.si_match.specs.Weight.{added_weight, size_from, size_of_support, weight_from, weight_of}

module _ (count i signals : ℕ) (within : i < count) where
  left : count - i ≡ suc (count - (i + 1))
  left = omega arith

  pub not_there : (size whole : ℕ) → bit signals i ≡ false → size + size_from (count - i) i signals ≡ whole
      → size + size_from (count - (i + 1)) (i + 1) signals ≡ whole
  not_there size whole absent told =
      let same : size + (0 + size_from (count - (i + 1)) (i + 1) signals) ≡ whole = rw (left, absent) at told in omega
      (arith, same)

  pub one_there : (size whole : ℕ) → bit signals i ≡ true → size + size_from (count - i) i signals ≡ whole
      → size + 1 + size_from (count - (i + 1)) (i + 1) signals ≡ whole
  one_there size whole there told =
      let more : size + (1 + size_from (count - (i + 1)) (i + 1) signals) ≡ whole = rw (left, there) at told in omega
      (arith, more)

-- ---- how many of the first signals, by the bits that a mask leaves
abbrev one_if : Bool → ℕ
one_if v = if v then 1 else 0

size_more : (count i signals : ℕ)
    → size_from (suc count) i signals ≡ size_from count i signals + one_if (bit signals (i + count))
size_more zero i signals =
    let here : i + 0 ≡ i = omega arith in
    omega (arith, ap (λ (j : ℕ). one_if (bit signals j)) here)
size_more (suc count) i signals =
    let last : i + 1 + count ≡ i + suc count = omega arith in
    omega (arith, size_more count (i + 1) signals, ap (λ (j : ℕ). one_if (bit signals j)) last)

one_bit : (b : ℕ) → b < 2 → count_ones b ≡ one_if (b == 1)
unfolding lib.Count.ones
one_bit b low = elim (below_two b low) [ inl is0 ↦ rw is0 refl | inr is1 ↦ rw is1 refl ]

ones_of_first : (signals count : ℕ) → count_ones (signals % 2 ^ count) ≡ size_from count 0 signals
unfolding lib.Count.ones
ones_of_first signals zero = let none : signals % 2 ^ 0 ≡ 0 = omega arith in rw none refl
ones_of_first signals (suc k) =
    let next : suc k ≡ 1 + k = omega arith in
    let first : 0 + k ≡ k = omega arith in
    let split : signals % 2 ^ (1 + k) ≡ bit_at signals k * 2 ^ k + signals % 2 ^ k = mod-pow-add signals 1 k in
    let ones_are : count_ones (signals % 2 ^ suc k) ≡ count_ones (bit_at signals k) + count_ones (signals % 2 ^ k) =
    ap (λ (j : ℕ). count_ones (signals % 2 ^ j)) next ∙ ap count_ones split
    ∙ ones_cat k (bit_at signals k) (signals % 2 ^ k) (mod-lt signals (pow_pos k)) in
    omega (
      arith,
      ones_are,
      one_bit (bit_at signals k) (bit_at-lt signals k),
      ones_of_first signals k,
      size_more k 0 signals,
      ap (λ (j : ℕ). one_if (bit signals j)) first,
    )

pub masked_size : (signals count : ℕ) → count_ones (bit_and signals (ones count)) ≡ size_from count 0 signals
masked_size signals count = ap count_ones (and_mask signals count) ∙ ones_of_first signals count

pub size_within : (count i signals : ℕ) → size_from count i signals ≤ count
size_within zero i signals = omega arith
size_within (suc count) i signals =
    let later = size_within count (i + 1) signals in
    omega (arith, later, one_at_most (bit signals i))
  where
    one_at_most : (v : Bool) → one_if v ≤ 1
    one_at_most true = omega arith
    one_at_most false = omega arith

-- ---- signal after signal
module _ (c : CodedGraph) (library : Library) where
  pub begins : weight_from c library 0 (drop 0 c.graph.signals) ≡ weight_of c library
  unfolding weight_of
  begins = refl

  module _ (i : ℕ) (x : Signal) (weight : ℕ) (inside : i < length c.graph.signals) (is : x ≡ get_or c.graph.signals i x)
      (told : weight + weight_from c library i (drop i c.graph.signals) ≡ weight_of c library) where
    split : weight_from c library i (drop i c.graph.signals) ≡ (if is_driven x.kind
        && is_none (first_fit c library i) then 1 + size_of_support c i else 0)
        + weight_from c library (i + 1) (drop (i + 1) c.graph.signals)
    split =
        let next : drop i c.graph.signals ≡ x ∷ drop (i + 1) c.graph.signals = rw
        (drop-cons c.graph.signals i x inside, ← is, add-one) refl in
        ap (weight_from c library i) next

    pub input : is_driven x.kind ≡ false → weight + weight_from c library (i + 1) (drop (i + 1) c.graph.signals)
        ≡ weight_of c library
    input no_driver =
        let same : weight + (0 + weight_from c library (i + 1) (drop (i + 1) c.graph.signals))
        ≡ weight_of c library = rw (split, no_driver) at told in
        omega (arith, same)

    pub driven : (more : ℕ) → is_driven x.kind ≡ true → more ≡ added_weight c library i
        → weight + more + weight_from c library (i + 1) (drop (i + 1) c.graph.signals) ≡ weight_of c library
    driven more drives added =
        let same : weight + (added_weight c library i + weight_from c library (i + 1) (drop (i + 1) c.graph.signals))
        ≡ weight_of c library = rw (split, drives) at told in
        omega (arith, same, added)

pub is_non_input : (all signals : List Signal) (i : ℕ) (x : Signal) (drives : Bool) → signals ≡ all
    → i < length signals → x ≡ get_or signals i x
    → drives ≡ is_driven x.kind → drives ≡ true → IsNonInput all i
is_non_input all signals i x drives same inside is driven_is yes_it = (
  x,
  ap (λ xs. slice_get xs i) (sym same) ∙ slice_get-get_or signals i x inside ∙ ap Some (sym is),
  sym driven_is
      ∙ yes_it,
)
