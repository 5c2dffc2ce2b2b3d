-- Truth values that are equal, or not.
use Rattle.std.proofs.Common.{◌≡◌, ◌≢◌, ◌⊎◌, ℕ, not, cond, Bool, true, false, refl, sym, inl, inr}
use Rattle.std.proofs.lemmas.Bool.{true≢false}
use mathlib.Core.Bool.{beq}

abbrev pub one_if : Bool → ℕ
one_if b = cond b 1 0

pub at_each : (P : Bool → Type 0) → P false → P true → (b : Bool) → P b
at_each P low high true = high
at_each P low high false = low

pub same_or_not : (a b : Bool) → (a ≡ b) ⊎ (a ≢ b)
same_or_not true true = inl refl
same_or_not true false = inr true≢false
same_or_not false true = inr (λ same. true≢false (sym same))
same_or_not false false = inl refl

pub same_if : (a b : Bool) → (a ≡ true → b ≡ true) → (b ≡ true → a ≡ true) → a ≡ b
same_if true b there back = sym (there refl)
same_if false true there back = back refl
same_if false false there back = refl

pub not_itself : (b : Bool) → b ≡ not b → ⊥
not_itself true h = true≢false h
not_itself false h = true≢false (sym h)

pub twice_not : (b : Bool) → b ≡ not (not b)
twice_not true = refl
twice_not false = refl

pub same_not : (a b : Bool) → not a ≡ not b → a ≡ b
same_not true true same = refl
same_not true false same = sym same
same_not false true same = sym same
same_not false false same = refl

pub equals_true : (b : Bool) → b ≡ beq b true
equals_true true = refl
equals_true false = refl

pub equals_false : (b : Bool) → not b ≡ beq b false
equals_false true = refl
equals_false false = refl

pub beq_swap : (a b : Bool) → beq a b ≡ beq b a
beq_swap true true = refl
beq_swap true false = refl
beq_swap false true = refl
beq_swap false false = refl
