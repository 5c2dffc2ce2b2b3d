-- Cubes, one literal after the other.
use Rattle.std.proofs.Common.{◌≡◌, ℕ, zero, suc, ◌+◌, ◌≤◌, ◌<◌, Bool, true, false, List, [], ◌∷◌, ◌++◌, refl, ap, ◌∙◌}
use Rattle.std.proofs.Common.{arith, inl, inr, ◌⊎◌}
use Rattle.std.proofs.lemmas.Nat.Bits.{bit_at-zero}
use Rattle.std.proofs.lemmas.Bool.{cases_Bool, false_from_ne_true}
use Rattle.si_base.specs.Limits.{code_width}
use Rattle.si_base.specs.declared.ids.Literal.{Literal}
use Rattle.si_base.specs.Bits.{bit, IsSet}
use Rattle.si_cube.specs.Literals.{literals_from, literals_of}
use Rattle.si_cube.proofs.LiteralLemmas.{literals_from-none}

abbrev lit : ℕ → Bool → Literal
lit k v = record { sig = k; plain = v }

last_literal : (count k care value care2 value2 : ℕ) (v : Bool) → IsSet care k true care2
    → IsSet value k v value2 → ((j : ℕ) → bit care j ≡ true → j < k)
    → literals_from (suc count) k care2 value2 ≡ literals_from (suc count) k care value ++ lit k v ∷ []
last_literal count k care value care2 value2 v s t below =
    let off : (j : ℕ) → k ≤ j → bit care j ≡ false =
    λ j le. false_from_ne_true _ (λ on. absurd (omega (arith, below j on))) in
    let off2 : (j : ℕ) → k + 1 ≤ j → bit care2 j ≡ false =
    λ j le. s.others j (λ (e : j ≡ k). omega arith) ∙ off j (omega arith) in
    let tail2 = literals_from-none count (k + 1) care2 value2 off2 in
    let tail1 = literals_from-none count (k + 1) care value (λ j le. off j (omega arith)) in
    rw (s.there, t.there, off k (omega arith), tail2, tail1) refl

more_literals : (count i k care value care2 value2 : ℕ) (v : Bool) → i ≤ k → k < i + count
    → IsSet care k true care2 → IsSet value k v value2 → ((j : ℕ) → bit care j ≡ true → j < k)
    → literals_from count i care2 value2 ≡ literals_from count i care value ++ lit k v ∷ []
more_literals zero i k care value care2 value2 v from to s t below = absurd (omega arith)
more_literals (suc count) i k care value care2 value2 v from to s t below = elim (here_or_later i k from) [
  | inl e ↦ rw e (last_literal count k care value care2 value2 v s t below)
  | inr less ↦
      let ne : i ≡ k → ⊥ = λ e. omega arith in
      let later = more_literals count (i + 1) k care value care2 value2 v (omega arith) (omega arith) s t below in
      elim (cases_Bool (bit care i)) [
        | inl on ↦ rw (s.others i ne, t.others i ne, on) (ap (λ (l : List Literal). lit i (bit value i) ∷ l) later)
        | inr off ↦ rw (s.others i ne, off) later
      ]
]
  where
    here_or_later : (a b : ℕ) → a ≤ b → (a ≡ b) ⊎ (a < b)
    here_or_later a b le = grind arith

pub none_of : literals_of 0 0 ≡ []
unfolding literals_of
none_of = literals_from-none code_width 0 0 0 (λ j le. rw (bit_at-zero j) refl)

pub pushed : (k care value care2 value2 : ℕ) (v : Bool) → k < code_width
    → IsSet care k true care2 → IsSet value k v value2 → ((j : ℕ) → bit care j ≡ true → j < k)
    → literals_of care2 value2 ≡ literals_of care value ++ lit k v ∷ []
unfolding literals_of
pushed k care value care2 value2 v small s t below =
    more_literals code_width 0 k care value care2 value2 v (omega arith) (omega arith) s t below
