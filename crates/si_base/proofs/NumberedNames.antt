-- Names that end with a number in decimal.
use Rattle.std.proofs.Common.{◌≡◌, ℕ, ◌^◌, ◌<◌, ◌≤◌, ◌||◌, ◌==◌, Bool, true, List, ◌++◌, decimal, sym, ap, ◌∙◌}
use Rattle.std.specs.Str.Parse.{digits_value}
use Rattle.std.proofs.lemmas.Bool.{and_from, or_right, le-leb}
use Rattle.std.proofs.lemmas.List.{append_cancel_left}
use Rattle.std.proofs.lemmas.Fmt.{decimal_is_IsNumeral}
use Rattle.si_base.specs.Bytes.{digit_zero, digit_nine, dot, opening_bracket, closing_bracket, less_sign, greater_sign}
use Rattle.si_base.specs.Words.{is_between, is_letter, is_name_byte}

pub numbers_differ : (stem : List ℕ) (i j : ℕ) → i < 2 ^ 64 → j < 2 ^ 64 → stem ++ decimal i ≡ stem ++ decimal j
    → i ≡ j
numbers_differ stem i j small also same =
    sym (decimal_is_IsNumeral i small).1 ∙ ap (digits_value 10) (append_cancel_left stem (decimal i) (decimal j) same)
    ∙ (decimal_is_IsNumeral j also).1

pub digit_is_name_byte : (c : ℕ) → digit_zero ≤ c → c ≤ digit_nine → is_name_byte c ≡ true
digit_is_name_byte c low high =
    let digit : is_between digit_zero digit_nine c ≡ true =
    and_from _ _ (le-leb digit_zero c low) (le-leb c digit_nine high) in
    let early : (is_letter c || is_between digit_zero digit_nine c) ≡ true = or_right (is_letter c) _ digit in
    let others : Bool → Bool =
    λ b. b || (c == dot) || (c == opening_bracket) || (c == closing_bracket) || (c == less_sign)
    || (c == greater_sign) in
    ap others early
