-- (text) The code of a state as it is printed, and the events that a state enables.
use Rattle.std.specs.Prelude.{ℕ, ◌||◌, Bool, List, [], ◌∷◌, ◌++◌, length, flat_map}
use Rattle.std.specs.Prelude.{if◌then◌else◌}
use Rattle.std.specs.List.{range_with_len}
use Rattle.si_base.specs.declared.ids.Event.{Event}
use Rattle.si_base.specs.Bits.{bit}
use Rattle.si_base.specs.Bytes.{digit_zero, digit_one, asterisk}
use Rattle.si_base.specs.Codes.{CodedGraph, code}
use Rattle.si_base.specs.Graph.{StateGraph, enables, rise, fall}

-- signal z is excited at s: s enables an event of it (the book's excited signal)
abbrev pub is_excited : StateGraph → ℕ → ℕ → Bool
is_excited g s z = enables g s (rise z) || enables g s (fall z)

-- the digit of a value, with `*` behind it where the signal is excited
abbrev pub marked_digit : Bool → Bool → List ℕ
marked_digit value excited =
    (if value then digit_one else digit_zero) ∷ (if excited then asterisk ∷ [] else [])

-- the places of n signals or states
abbrev pub first : ℕ → List ℕ
first n = range_with_len 0 n

-- the digits of all signals at s, in signal order
unfoldable pub code_word : CodedGraph → ℕ → List ℕ
code_word c s = flat_map (λ z. marked_digit (bit (code c s) z) (is_excited c.graph s z))
    (first (length c.graph.signals))

-- the events of z that s enables, + before -
abbrev pub enabled_of : StateGraph → ℕ → ℕ → List Event
enabled_of g s z = (if enables g s (rise z) then rise z ∷ [] else [])
    ++ (if enables g s (fall z) then fall z ∷ [] else [])

-- the events that s enables, in event order
abbrev pub enabled_events : StateGraph → ℕ → List Event
enabled_events g s = flat_map (enabled_of g s) (first (length g.signals))
