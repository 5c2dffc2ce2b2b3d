-- The literals of a cube that are true at a code make the least cube above both.
use Rattle.std.proofs.Common.{◌≡◌, ℕ, ◌<◌, ◌^◌, bit_and, bit_xor, not, Bool, true, false, List, [], ◌∷◌, filter, refl}
use Rattle.std.proofs.Common.{sym, ap, ◌∙◌, arith, subst}
use Rattle.std.specs.List.{list_all}
use Rattle.std.specs.Int.{w128, bit_not}
use Rattle.std.proofs.lemmas.Bool.{true≢false, and_from, and_parts}
use Rattle.std.proofs.lemmas.List.Elements.{filter_passes, All-filter}
use Rattle.std.proofs.lemmas.List.Sums.{AllPass-from_list_all, list_all-from_AllPass}
use mathlib.Core.Bool.{beq}
use Rattle.si_base.specs.declared.ids.Literal.{Literal}
use Rattle.si_base.specs.Bits.{bit, flip}
use Rattle.si_base.specs.Netlist.{literal_value}
use Rattle.si_base.proofs.BitFacts.{flip-same, flip-other, bit-and}
use Rattle.si_base.proofs.GraphSteps.{beq-refl, beq-true}
use Rattle.si_base.specs.Limits.{code_width}
use Rattle.si_cube.specs.Literals.{literals_of}
use Rattle.si_cube.specs.Cubes.{Covers, IsLeastAbove}
use Rattle.si_cube.proofs.LiteralLemmas.{bit-agree, and_same, below_width}
use Rattle.si_cube.proofs.LiteralLemmas.{values_from_literals, literals_from_values, supercube_is}

pub covers-filter_itself : (p : Literal → Bool) (cube : List Literal) → list_all p (filter p cube) ≡ true
covers-filter_itself p cube = list_all-from_AllPass p (filter p cube) (filter_passes p cube)

covers-filter : (p q : Literal → Bool) (cube : List Literal) → list_all q cube ≡ true
    → list_all q (filter p cube) ≡ true
covers-filter p q cube h = list_all-from_AllPass q (filter p cube)
    (All-filter p (λ l. q l ≡ true) cube (AllPass-from_list_all q cube h))

not_both : (b plain : Bool) → beq (not b) plain ≡ true → beq b plain ≡ true → ⊥
not_both true true h k = true≢false (sym h)
not_both true false h k = true≢false (sym k)
not_both false true h k = true≢false (sym k)
not_both false false h k = true≢false (sym h)

-- the cube has a literal of that signal, since it covers codes with both values otherwise
has_literal : (care value : ℕ) (l : Literal) → literal_value value l ≡ true
    → (bit care l.sig ≡ false → literal_value (flip value l.sig) l ≡ true)
    → bit care l.sig ≡ true
has_literal care value l here flipped = cases (bit care l.sig) refl
  where
    cases : (b : Bool) → bit care l.sig ≡ b → b ≡ true
    cases true e = refl
    cases false e =
        absurd (not_both (bit value l.sig) l.plain
        (subst (λ b. beq b l.plain ≡ true) (flip-same value l.sig) (flipped e)) here)

kept_literal : (care value code : ℕ) → care < 2 ^ code_width → value < 2 ^ code_width → code < 2 ^ code_width
    → (l : Literal)
    → literal_value code l ≡ true → literal_value value l ≡ true → bit care l.sig ≡ true
    → (c : ℕ) → Covers (literals_of (bit_and care (bit_not w128 (bit_xor value code))) (bit_and value code)) c
    → literal_value c l ≡ true
unfolding literals_of
kept_literal care value code small_care small_value small_code l at_code at_value there c covers =
    let within : l.sig < code_width = below_width care l.sig small_care there in
    let code_bit = beq-true (bit code l.sig) l.plain at_code in
    let value_bit = beq-true (bit value l.sig) l.plain at_value in
    let agree : beq (bit value l.sig) (bit code l.sig) ≡ true = rw (value_bit, code_bit) (beq-refl l.plain) in
    let kept : bit (bit_and care (bit_not w128 (bit_xor value code))) l.sig ≡ true =
    bit-and care (bit_not w128 (bit_xor value code)) l.sig
    ∙ and_from _ _ there (bit-agree value code l.sig small_value small_code within ∙ agree) in
    let same : bit c l.sig ≡ l.plain =
    values_from_literals code_width 0 (bit_and care (bit_not w128 (bit_xor value code))) (bit_and value code) c covers
    l.sig (omega arith) within kept
    ∙ bit-and value code l.sig ∙ and_same _ _ (value_bit ∙ sym code_bit) ∙ value_bit in
    subst (λ b. beq b l.plain ≡ true) (sym same) (beq-refl l.plain)

kept_literals : (care value code : ℕ) → care < 2 ^ code_width → value < 2 ^ code_width → code < 2 ^ code_width
    → (other : List Literal)
    → Covers other code → Covers other value → ((s : ℕ) → bit care s ≡ false → Covers other (flip value s))
    → (c : ℕ) → Covers (literals_of (bit_and care (bit_not w128 (bit_xor value code))) (bit_and value code)) c
    → Covers other c
kept_literals care value code small_care small_value small_code [] at_code at_value flipped c covers = refl
kept_literals care value code small_care small_value small_code (l ∷ ls) at_code at_value flipped c covers =
    let code_parts = and_parts _ _ at_code in
    let value_parts = and_parts _ _ at_value in
    let there = has_literal care value l value_parts.0 (λ e. (and_parts _ _ (flipped l.sig e)).0) in
    and_from _ _
    (kept_literal care value code small_care small_value small_code l code_parts.0 value_parts.0 there c covers)
    (kept_literals care value code small_care small_value small_code ls code_parts.1 value_parts.1
    (λ s e. (and_parts _ _ (flipped s e)).1) c covers)

covers_flipped : (care value s : ℕ) → bit care s ≡ false → Covers (literals_of care value) (flip value s)
unfolding literals_of
covers_flipped care value s e =
    literals_from_values code_width 0 care value (flip value s)
    (λ k there. flip-other value s k (λ same. true≢false (sym there ∙ ap (bit care) same ∙ e)))

covers_value : (care value : ℕ) → Covers (literals_of care value) value
unfolding literals_of
covers_value care value = literals_from_values code_width 0 care value value (λ k there. refl)

pub supercube_least : (care value code : ℕ) → care < 2 ^ code_width → value < 2 ^ code_width → code < 2 ^ code_width
    → IsLeastAbove (literals_of care value) code
    (literals_of (bit_and care (bit_not w128 (bit_xor value code))) (bit_and value code))
supercube_least care value code small_care small_value small_code =
    let is = supercube_is care value code small_care small_value small_code in
    record {
      above = record {
        covers = subst (λ cube. Covers cube code) (sym is)
            (covers-filter_itself (literal_value code) (literals_of care value));
        keeps = λ c h. subst (λ cube. Covers cube c) (sym is)
            (covers-filter (literal_value code) (literal_value c) (literals_of care value) h);
      };
      least = λ other above c h. kept_literals care value code small_care small_value small_code other above.covers
          (above.keeps value (covers_value care value))
          (λ s e. above.keeps (flip value s) (covers_flipped care value s e)) c h;
    }
