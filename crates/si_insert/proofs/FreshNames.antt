-- A signal name with a number behind it is a signal name.
use Rattle.std.proofs.Common.{◌≡◌, ℕ, ◌^◌, ◌<◌, ◌≤◌, true, List, [], ◌∷◌, ◌++◌, length, IsTrue}
use Rattle.std.proofs.Common.{decimal, refl, sym, ap, subst, arith}
use Rattle.std.proofs.lemmas.Bool.{and_parts, and_from, true≢false}
use Rattle.std.proofs.lemmas.Fmt.{decimal_is_IsNumeral}
use Rattle.std.proofs.lemmas.Str.Parse.{digit_from_value}
use Rattle.std.specs.List.{list_all}
use Rattle.std.specs.Str.Parse.{AllDigits}
use Rattle.si_base.specs.declared.graph.Signal.{Signal}
use Rattle.si_base.specs.Limits.{max_signals}
use Rattle.si_base.specs.Words.{is_signal_name, is_name_byte, is_letter}
use Rattle.si_base.proofs.NumberedNames.{digit_is_name_byte}

all_name_bytes : (ds : List ℕ) → AllDigits 10 ds → list_all is_name_byte ds ≡ true
all_name_bytes [] digits = refl
all_name_bytes (d ∷ ds) digits =
    let range = digit_from_value d digits.0 in
    and_from _ _ (digit_is_name_byte d range.0 range.1) (all_name_bytes ds digits.1)

all_append : (xs ys : List ℕ) → list_all is_name_byte xs ≡ true → list_all is_name_byte ys ≡ true
    → list_all is_name_byte (xs ++ ys) ≡ true
all_append [] ys first rest = rest
all_append (x ∷ xs) ys first rest =
    let parts = and_parts (is_name_byte x) (list_all is_name_byte xs) first in
    and_from _ _ parts.0 (all_append xs ys parts.1 rest)

numbered : (stem : List ℕ) (k : ℕ) → k < 2 ^ 64 → IsTrue (is_signal_name stem)
    → IsTrue (is_signal_name (stem ++ decimal k))
numbered [] k small is = absurd (true≢false (sym is))
numbered (b ∷ stem) k small is =
    let parts = and_parts (is_letter b) (list_all is_name_byte stem) is in
    and_from _ _ parts.0 (all_append stem (decimal k) parts.1
    (all_name_bytes (decimal k) (decimal_is_IsNumeral k small).0.1))

-- the stem with a number no higher than the number of signals
pub stays_signal_name : (names signals : List Signal) (stem name : List ℕ) (k : ℕ) → names ≡ signals
    → length signals ≤ max_signals → k ≤ length names → name ≡ stem ++ decimal k → IsTrue (is_signal_name stem)
    → IsTrue (is_signal_name name)
stays_signal_name names signals stem name k same few small name_is is =
    let P : List ℕ → Type 0 = λ w. IsTrue (is_signal_name w) in
    let size : length names ≡ length signals = ap (length {A = Signal}) same in
    subst P (sym name_is) (numbered stem k (omega (arith, few, small, size)) is)
