-- The support determines the next value.
use Rattle.std.proofs.Common.{◌≡◌, ℕ, zero, suc, ◌+◌, ◌<◌, ◌^◌, ◌≤◌, ◌&&◌, ◌||◌, not, Bool, true, false, bit_and}
use Rattle.std.proofs.Common.{nat_lt, length, refl, sym, ap, ◌∙◌, arith, inl, inr}
use Rattle.std.proofs.lemmas.Bool.{cases_Bool, true≢false}
use Rattle.std.proofs.lemmas.Bool.Decides.{eqb_tells, leb_tells}
use Rattle.std.proofs.lemmas.Nat.Bits.{bit_at_above}
use mathlib.Core.Bool.{beq}
use Rattle.si_base.proofs.BitFacts.{same_codes, bit-and}
use Rattle.si_base.proofs.GraphSteps.{beq-refl}
use Rattle.si_base.specs.Bits.{bit, flip, ones}
use Rattle.si_base.specs.Codes.{CodedGraph, IsCoded, code, next_value}
use Rattle.si_base.specs.Graph.{IsNonInput}
use Rattle.si_base.specs.Proper.{HasNoConflict}
use Rattle.si_cube.proofs.LiteralLemmas.{bit-ones}
use Rattle.si_checks.proofs.ConflictFree.{same_next}
use Rattle.si_match.specs.Support.{agree, determines, support_by_drops, support_of}
use Rattle.si_match.proofs.CodeLemmas.{all_from}

-- ---- all signals
whole_code : (n k : ℕ) → k < 2 ^ n → bit_and k (ones n) ≡ k
whole_code n k small = same_codes _ _ (λ i. bit-and k (ones n) i ∙ ap (λ b. bit k i && b) (bit-ones n i) ∙ by_place i)
  where
    by_place : (i : ℕ) → (bit k i && nat_lt i n) ≡ bit k i
    by_place i = elim (leb_tells (suc i) n) [
      | inl low ↦ rw low.0 (and_true (bit k i))
      | inr up ↦ (let above : bit k i ≡ false = absent i (let past = up.1 in omega (arith, past)) in rw
          (up.0, above) refl)
    ]
      where
        and_true : (b : Bool) → (b && true) ≡ b
        and_true true = refl
        and_true false = refl

        absent : (i : ℕ) → n ≤ i → bit k i ≡ false
        absent i past = rw (bit_at_above k n i small past) refl

all_determine : (c : CodedGraph) (z : ℕ) → IsCoded c → HasNoConflict c → IsNonInput c.graph.signals z
    → determines c z (ones (length c.graph.signals)) ≡ true
all_determine c z coded none non_input =
    all_from c _ (λ s inside_s. all_from c _ (λ t inside_t. by_agree s t inside_s inside_t (agree (ones
    (length c.graph.signals)) (code c s) (code c t)) refl))
  where
    same_code : (s t : ℕ) → s < length c.codes → t < length c.codes
        → agree (ones (length c.graph.signals)) (code c s) (code c t) ≡ true → code c s ≡ code c t
    same_code s t inside_s inside_t agrees =
        sym (whole_code (length c.graph.signals) (code c s) (coded.no_more s 0 inside_s))
        ∙ elim (eqb_tells (bit_and (code c s) (ones (length c.graph.signals))) (bit_and (code c t) (ones
        (length c.graph.signals)))) [
          | inl same ↦ same.1
          | inr other ↦ absurd (true≢false (sym agrees ∙ other.0))
        ]
        ∙ whole_code (length c.graph.signals) (code c t) (coded.no_more t 0 inside_t)

    by_agree : (s t : ℕ) → s < length c.codes → t < length c.codes → (b : Bool)
        → agree (ones (length c.graph.signals)) (code c s) (code c t) ≡ b
        → (not b || beq (next_value c s z) (next_value c t z)) ≡ true
    by_agree s t inside_s inside_t false e = refl
    by_agree s t inside_s inside_t true e =
        let same = same_next c s t z none (omega (arith, inside_s, coded.count)) (omega
        (arith, inside_t, coded.count)) (same_code s t inside_s inside_t e) non_input in
        rw same (beq-refl (next_value c t z))

-- ---- signals that are dropped
still : (c : CodedGraph) (z count i signals : ℕ) → determines c z signals ≡ true
    → determines c z (support_by_drops c z count i signals) ≡ true
still c z zero i signals so_far = so_far
still c z (suc count) i signals so_far = elim (cases_Bool (determines c z (flip signals i))) [
  | inl needless ↦ rw needless (still c z count (i + 1) (flip signals i) needless)
  | inr needed ↦ rw needed (still c z count (i + 1) signals so_far)
]

pub support_determines : (c : CodedGraph) (z : ℕ) → IsCoded c → HasNoConflict c → IsNonInput c.graph.signals z
    → determines c z (support_of c z) ≡ true
unfolding support_of
support_determines c z coded none non_input = still c z (length c.graph.signals) 0 (ones (length c.graph.signals))
    (all_determine c z coded none non_input)
