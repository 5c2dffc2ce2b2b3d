-- (text) Event words: a signal name, then `+` or `-`, then nothing or `/` with one to nine digits.
use Rattle.std.specs.Prelude.{ℕ, ◌==◌, Bool, true, false, not, ◌&&◌, ◌||◌, List, [], ◌∷◌, length}
use Rattle.std.specs.Prelude.{take, drop, position, bytes_eq, unwrap_or, Option}
use Rattle.std.specs.List.{list_all, prefix_len}
use Rattle.si_base.specs.Bytes.{plus, minus, slash, digit_zero, digit_nine, tilde}
use Rattle.si_base.specs.Words.{is_between, is_name_byte, is_signal_name}
use Rattle.si_base.specs.declared.ids.Event.{Event}
use Rattle.si_base.specs.declared.fault.TextKind.{TextKind}
use Rattle.si_base.specs.declared.fault.TextKind.TheVariants.{Toggle, BadEvent, Undeclared}
use Rattle.si_base.specs.Faults.{when, ◌otherwise◌}
use Rattle.si_words.specs.Names.{stands_in}

-- an event word is a name and what stands after it
abbrev pub event_name : List ℕ → List ℕ
event_name word = take (prefix_len is_name_byte word) word

abbrev pub event_sign : List ℕ → List ℕ
event_sign word = drop (prefix_len is_name_byte word) word

-- nothing, or `/` with one to nine digits
abbrev pub is_ending : List ℕ → Bool
is_ending [] = true
is_ending (b ∷ digits) = (b == slash) && list_all (is_between digit_zero digit_nine) digits
    && is_between 1 9 (length digits)

-- the byte, and an ending after it
abbrev pub is_sign : (ℕ → Bool) → List ℕ → Bool
is_sign which [] = false
is_sign which (b ∷ bs) = which b && is_ending bs

abbrev pub is_direction : ℕ → Bool
is_direction b = (b == plus) || (b == minus)

-- upward where the sign is `+`
abbrev pub is_up : List ℕ → Bool
is_up [] = false
is_up (b ∷ bs) = b == plus

-- `~` in place of a direction, or what is no direction
abbrev pub sign_fault : List ℕ → Option TextKind
sign_fault sign = when (is_sign (λ b. b == tilde) sign) Toggle
    otherwise when (not (is_sign is_direction sign)) BadEvent

-- an event word where these names are declared
abbrev pub event_fault : List (List ℕ) → List ℕ → Option TextKind
event_fault declared word =
    when (not (is_signal_name (event_name word))) BadEvent
    otherwise sign_fault (event_sign word)
    otherwise when (not (stands_in declared (event_name word))) Undeclared

-- the event of the signal whose name stands first in the word
abbrev pub event_of : List (List ℕ) → List ℕ → Event
event_of names word =
    record {
      sig = unwrap_or (position (λ n. bytes_eq (event_name word) n) names) 0;
      up =
          is_up (event_sign word);
    }
