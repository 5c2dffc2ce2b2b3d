-- When two copies at one value are a conflict, by their roles, the keys of their states and what stays excited.
use Rattle.std.proofs.Common.{◌≡◌, ◌≢◌, ℕ, ◌+◌, ◌<◌, ◌==◌, ◌&&◌, Bool, true, false, not, cond, length, refl, sym, ap}
use Rattle.std.proofs.Common.{ap₂, subst, ◌∙◌, arith, inl, inr, eqb-true, eq-eqb, ne_eqb}
use Rattle.std.proofs.lemmas.Bool.{cases_eq, true≢false, and_right}
use Rattle.si_base.specs.Bits.{bit, flip}
use Rattle.si_base.specs.Codes.{CodedGraph, IsCoded, code}
use Rattle.si_base.proofs.BitFacts.{flip-same, flip-other, same_codes}
use Rattle.si_base.proofs.StepCodes.{code_fits, no_bit}
use Rattle.si_base.proofs.Booleans.{same_if}
use Rattle.si_insert.specs.Insertion.{copy_code}
use Rattle.si_insert.proofs.InsertionCopies.{copy}
use Rattle.si_insert.proofs.InsertionProper.{old_bit, new_bit}
use Rattle.si_conflicts.specs.declared.keys.Key.{Key}
use Rattle.si_conflicts.specs.declared.tally.Role.{Role}
use Rattle.si_conflicts.specs.declared.tally.Role.TheVariants.{Absent, Plain, Switching}
use Rattle.si_conflicts.specs.Loops.Keys.{clashes}
use Rattle.si_conflicts.specs.Loops.Apart.{is_switching, are_apart}
use Rattle.si_conflicts.proofs.CountLemmas.{eq_back, clash_back}
use Rattle.si_conflicts.proofs.CopyKeys.{excited_there}

-- a key of a state with what stays excited in place of what is
abbrev pub staying_key : Key → ℕ → Key
staying_key x staying = record { code = x.code; excited = staying }

-- two copies at one value are a conflict
abbrev pub meets : Role → Key → ℕ → Role → Key → ℕ → Bool
meets Absent x m s y n = false
meets Plain x m Absent y n = false
meets Plain x m Plain y n = clashes x y
meets Plain x m Switching y n = x.code == y.code
meets Switching x m Absent y n = false
meets Switching x m Plain y n = x.code == y.code
meets Switching x m Switching y n = clashes (staying_key x m) (staying_key y n)

pub itself : (n : ℕ) → (n == n) ≡ true
itself n = eq-eqb n n refl

pub clashes_itself : (x : Key) → clashes x x ≡ false
clashes_itself x = and_right (x.code == x.code) (not (x.excited == x.excited)) (ap not (itself x.excited))

pub clashes_other : (x y : Key) → (x.code == y.code) ≡ false → clashes x y ≡ false
clashes_other x y other = ap (λ b. b && not (x.excited == y.excited)) other

pub meets_itself : (r : Role) (x : Key) (m : ℕ) → meets r x m r x m ≡ false
meets_itself Absent x m = refl
meets_itself Plain x m = clashes_itself x
meets_itself Switching x m = clashes_itself (staying_key x m)

pub meets_back : (r s : Role) (x y : Key) (m n : ℕ) → meets r x m s y n ≡ meets s y n r x m
meets_back Absent Absent x y m n = refl
meets_back Absent Plain x y m n = refl
meets_back Absent Switching x y m n = refl
meets_back Plain Absent x y m n = refl
meets_back Plain Plain x y m n = clash_back x y
meets_back Plain Switching x y m n = eq_back x.code y.code
meets_back Switching Absent x y m n = refl
meets_back Switching Plain x y m n = eq_back x.code y.code
meets_back Switching Switching x y m n = clash_back (staying_key x m) (staying_key y n)

pub meets_other : (r s : Role) (x y : Key) (m n : ℕ) → (x.code == y.code) ≡ false → meets r x m s y n ≡ false
meets_other Absent s x y m n other = refl
meets_other Plain Absent x y m n other = refl
meets_other Plain Plain x y m n other = clashes_other x y other
meets_other Plain Switching x y m n other = other
meets_other Switching Absent x y m n other = refl
meets_other Switching Plain x y m n other = other
meets_other Switching Switching x y m n other = clashes_other (staying_key x m) (staying_key y n) other

pub meets_absent : (r s : Role) (x y : Key) (m n : ℕ) → s ≡ Absent → meets r x m s y n ≡ false
meets_absent r s x y m n is = subst (λ q. meets r x m q y n ≡ false) (sym is) (at r)
  where
    at : (r : Role) → meets r x m Absent y n ≡ false
    at Absent = refl
    at Plain = refl
    at Switching = refl

-- what the pass counts, and what it leaves
pub meets_parts : (r s : Role) (x y : Key) (m n : ℕ)
    → cond (meets r x m s y n) 1 0
    ≡ cond (are_apart (r, x) (s, y)) 1 0
    + cond (is_switching r && is_switching s) (cond (clashes (staying_key x m) (staying_key y n)) 1 0) 0
meets_parts Absent Absent x y m n = refl
meets_parts Absent Plain x y m n = refl
meets_parts Absent Switching x y m n = refl
meets_parts Plain Absent x y m n = refl
meets_parts Plain Plain x y m n = omega arith
meets_parts Plain Switching x y m n = omega arith
meets_parts Switching Absent x y m n = refl
meets_parts Switching Plain x y m n = omega arith
meets_parts Switching Switching x y m n = omega arith

-- ---- numbers with and without the new bit
bits_apart : (k m i : ℕ) → bit k i ≡ false → bit m i ≡ true → (k == m) ≡ false
bits_apart k m i off on = ne_eqb k m (λ same. true≢false (sym on ∙ sym (ap (λ n. bit n i) same) ∙ off))

flip_back : (k m i : ℕ) → bit k i ≡ false → bit m i ≡ false → flip k i ≡ flip m i → k ≡ m
flip_back k m i k_off m_off same = same_codes k m (λ z. elim (cases_eq z i) [
  | inl here ↦ ap (λ y. bit k y) here ∙ k_off ∙ sym m_off ∙ sym (ap (λ y. bit m y) here)
  | inr other ↦ sym (flip-other k i z other) ∙ ap (λ n. bit n z) same ∙ flip-other m i z other
])

flip_equal : (k m i : ℕ) → bit k i ≡ false → bit m i ≡ false → (flip k i == flip m i) ≡ (k == m)
flip_equal k m i k_off m_off = same_if (flip k i == flip m i) (k == m)
    (λ is. eq-eqb k m (flip_back k m i k_off m_off (eqb-true (flip k i) (flip m i) is)))
    (λ is. eq-eqb (flip k i) (flip m i) (ap (λ n. flip n i) (eqb-true k m is)))

new_on : (k i : ℕ) → bit k i ≡ false → bit (flip k i) i ≡ true
new_on k i off = flip-same k i ∙ ap not off

and_true : (a b : Bool) → b ≡ false → (a && not b) ≡ a
and_true true b is = ap not is
and_true false b is = refl

-- keys of copies with equal codes of copies just where the codes of the states are
pub copy_clash : (r s : Role) (x y : Key) (m n i : ℕ) (same : Bool) → same ≡ (x.code == y.code)
    → bit x.excited i ≡ false → bit y.excited i ≡ false → bit m i ≡ false → bit n i ≡ false
    → r ≢ Absent → s ≢ Absent
    → (same && not (excited_there r x.excited m i == excited_there s y.excited n i)) ≡ meets r x m s y n
copy_clash Absent s x y m n i same is xo yo mo no_ there also = absurd (there refl)
copy_clash Plain Absent x y m n i same is xo yo mo no_ there also = absurd (also refl)
copy_clash Plain Plain x y m n i same is xo yo mo no_ there also = ap (λ b. b && not (x.excited == y.excited)) is
copy_clash Plain Switching x y m n i same is xo yo mo no_ there also =
    and_true same (x.excited == flip n i) (bits_apart x.excited (flip n i) i xo (new_on n i no_)) ∙ is
copy_clash Switching Absent x y m n i same is xo yo mo no_ there also = absurd (also refl)
copy_clash Switching Plain x y m n i same is xo yo mo no_ there also =
    and_true same (flip m i == y.excited)
    (eq_back (flip m i) y.excited ∙ bits_apart y.excited (flip m i) i yo (new_on m i mo)) ∙ is
copy_clash Switching Switching x y m n i same is xo yo mo no_ there also =
    ap₂ (λ a b. a && not b) is (flip_equal m n i mo no_)

-- ---- codes of copies
module _ (c : CodedGraph) (is : IsCoded c) (s t : ℕ) (s_in : s < c.graph.states) (t_in : t < c.graph.states) where
  abbrev last : ℕ
  last = length c.graph.signals

  same_state_code : (a b : Bool) → copy_code c (copy s a) ≡ copy_code c (copy t b) → code c s ≡ code c t
  same_state_code a b same = same_codes (code c s) (code c t) (λ z. elim (cases_eq z last) [
    | inl at ↦
        no_bit (code c s) last z (code_fits c s is s_in) (omega arith)
        ∙ sym (no_bit (code c t) last z (code_fits c t is t_in) (omega arith))
    | inr other ↦
        sym (old_bit c (copy s a) z other) ∙ ap (λ k. bit k z) same ∙ old_bit c (copy t b) z other
  ])

  same_copy_code : (b : Bool) → code c s ≡ code c t → copy_code c (copy s b) ≡ copy_code c (copy t b)
  same_copy_code true same = ap (λ k. flip k last) same
  same_copy_code false same = same

  pub copies_equal : (b : Bool) → (copy_code c (copy s b) == copy_code c (copy t b)) ≡ (code c s == code c t)
  copies_equal b = same_if (copy_code c (copy s b) == copy_code c (copy t b)) (code c s == code c t)
      (λ e. eq-eqb (code c s) (code c t)
      (same_state_code b b (eqb-true (copy_code c (copy s b)) (copy_code c (copy t b)) e)))
      (λ e. eq-eqb (copy_code c (copy s b)) (copy_code c (copy t b))
      (same_copy_code b (eqb-true (code c s) (code c t) e)))

  -- copies at two values have other codes
  pub copies_apart : (a b : Bool) → a ≢ b → (copy_code c (copy s a) == copy_code c (copy t b)) ≡ false
  copies_apart a b apart = ne_eqb (copy_code c (copy s a)) (copy_code c (copy t b)) (λ same. apart
      (sym (new_bit c (copy s a) is s_in) ∙ ap (λ k. bit k last) same ∙ new_bit c (copy t b) is t_in))
