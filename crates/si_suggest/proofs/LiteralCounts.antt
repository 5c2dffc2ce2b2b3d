-- Literals, counted one after another.
use Rattle.std.proofs.Common.{◌≡◌, ℕ, suc, ◌+◌, ◌-◌, ◌<◌, true, false}
use Rattle.std.proofs.Common.{length, refl, arith}
use Rattle.si_base.specs.Bits.{bit}
use Rattle.si_base.specs.Limits.{code_width}
use Rattle.si_cube.specs.Literals.{literals_from, literals_of}

-- how many literals a cube has from signal i on
pub left : (care value i : ℕ) → ℕ
left care value i = length (literals_from (code_width - i) i care value)

pub left_all : (care value : ℕ) → left care value 0 ≡ length (literals_of care value)
unfolding left literals_of
left_all care value = refl

pub left_none : (care value : ℕ) → left care value code_width ≡ 0
unfolding left
left_none care value = refl

pub left_skip : (care value i : ℕ) → i < code_width → bit care i ≡ false → left care value (i + 1) ≡ left care value i
unfolding left
left_skip care value i within absent =
    let more : code_width - i ≡ suc (code_width - (i + 1)) = omega arith in
    rw more (rw absent refl)

pub left_more : (care value i : ℕ) → i < code_width → bit care i ≡ true
    → left care value (i + 1) + 1 ≡ left care value i
unfolding left
left_more care value i within here =
    let more : code_width - i ≡ suc (code_width - (i + 1)) = omega arith in
    rw more (rw here (omega arith))
