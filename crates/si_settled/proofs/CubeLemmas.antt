-- The literals of a cube that are known, where a code has a 1 for each signal that is.
use Rattle.std.proofs.Common.{◌≡◌, ℕ, zero, suc, ◌+◌, ◌<◌, ◌^◌, ◌&&◌, ◌||◌, ◌==◌, not, Bool, true, false, List, [], ◌∷◌}
use Rattle.std.proofs.Common.{refl, sym, ap, ap₂, ◌∙◌, filter, bit_and}
use Rattle.std.specs.List.{list_all, list_any}
use mathlib.Core.Bool.{beq}
use Rattle.si_base.specs.declared.ids.Literal.{Literal}
use Rattle.si_base.specs.Bits.{bit}
use Rattle.si_base.specs.Limits.{code_width}
use Rattle.si_base.specs.Netlist.{literal_value}
use Rattle.si_cube.specs.Literals.{literals_from, literals_of}
use Rattle.si_base.proofs.BitFacts.{bit-and}
use Rattle.si_cube.proofs.LiteralLemmas.{covers_is, literals_from-filter}
use Rattle.std.proofs.lemmas.Bool.{and_parts}

-- the literal's signal is known
abbrev pub is_known : ℕ → Literal → Bool
is_known known l = bit known l.sig

beq_true : (a : Bool) → beq a true ≡ a
beq_true true = refl
beq_true false = refl

plain_step : (n i care value known : ℕ) (b : Bool) → bit care i ≡ b
    → list_all (literal_value known) (literals_from n (i + 1) care care)
    ≡ list_all (is_known known) (literals_from n (i + 1) care value)
    → list_all (literal_value known) (literals_from (suc n) i care care)
    ≡ list_all (is_known known) (literals_from (suc n) i care value)
plain_step n i care value known true is rest =
    rw is (ap₂ (λ (a b : Bool). a && b) (beq_true (bit known i)) rest)
plain_step n i care value known false is rest = rw is rest

plain_known : (n i care value known : ℕ) → list_all (literal_value known) (literals_from n i care care)
    ≡ list_all (is_known known) (literals_from n i care value)
plain_known zero i care value known = refl
plain_known (suc n) i care value known =
    plain_step n i care value known (bit care i) refl (plain_known n (i + 1) care value known)

pub all_known : (care value known : ℕ) → care < 2 ^ code_width
    → (bit_and known care == care) ≡ list_all (is_known known) (literals_of care value)
unfolding literals_of
all_known care value known small =
    covers_is care care known small (λ i there. there) ∙ plain_known code_width 0 care value known

pub known_literals : (care value known : ℕ)
    → literals_of (bit_and care known) (bit_and value known) ≡ filter (is_known known) (literals_of care value)
unfolding literals_of
known_literals care value known =
    literals_from-filter (is_known known) code_width 0 care value (bit_and care known) (bit_and value known)
    (λ k low high. bit-and care known k)
    (λ k there.
    let parts = and_parts (bit care k) (bit known k) (sym (bit-and care known k) ∙ there) in
    bit-and value known k ∙ ap (λ (b : Bool). bit value k && b) parts.1 ∙ and_true (bit value k))
  where
    and_true : (a : Bool) → (a && true) ≡ a
    and_true true = refl
    and_true false = refl

pub both_hold : (p q : Literal → Bool) (cube : List Literal)
    → (list_all p cube && list_all q cube) ≡ list_all (λ l. p l && q l) cube
both_hold p q [] = refl
both_hold p q (l ∷ cube) = by_tests (p l) (q l) (list_all p cube) (list_all q cube)
    ∙ ap (λ (b : Bool). (p l && q l) && b) (both_hold p q cube)
  where
    by_tests : (a b c d : Bool) → ((a && c) && (b && d)) ≡ ((a && b) && (c && d))
    by_tests true true c d = refl
    by_tests true false true d = refl
    by_tests true false false d = refl
    by_tests false b c d = refl

not_and : (a b : Bool) → not (a && b) ≡ (not a || not b)
not_and true b = refl
not_and false b = refl

fails_step : (p q : Literal → Bool) (l : Literal) (cube : List Literal) (b : Bool) → p l ≡ b
    → not (list_all q (filter p cube)) ≡ list_any (λ k. p k && not (q k)) cube
    → not (list_all q (filter p (l ∷ cube))) ≡ list_any (λ k. p k && not (q k)) (l ∷ cube)
fails_step p q l cube true is rest =
    rw is (not_and (q l) (list_all q (filter p cube)) ∙ ap (λ (b : Bool). not (q l) || b) rest)
fails_step p q l cube false is rest = rw is rest

pub one_fails : (p q : Literal → Bool) (cube : List Literal)
    → not (list_all q (filter p cube)) ≡ list_any (λ l. p l && not (q l)) cube
one_fails p q [] = refl
one_fails p q (l ∷ cube) = fails_step p q l cube (p l) refl (one_fails p q cube)
