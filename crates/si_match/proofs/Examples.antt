-- The two-input C-element: its first fitting instance, its support and its weight; and a signal that repeats another:
-- its trigger, and what is known of its fits.
use Rattle.std.proofs.Common.{◌≡◌, ◌≢◌, ℕ, Bool, true, false, List, [], ◌∷◌, refl, Some, None, codes}
use Rattle.std.proofs.Common.{zero, suc, ◌<◌, ◌≤◌, ◌==◌, ◌^◌, ◌∙◌, sym, ap, subst, arith, lit<, get_or, Contains}
use Rattle.std.proofs.Common.{bit_and, bit_xor}
use Rattle.std.proofs.lemmas.Bool.{true≢false}
use Rattle.std.proofs.lemmas.List.Elements.{recursion_from_All}
use Rattle.std.proofs.lemmas.Nat.Bits.{bit_at_above}
use Rattle.si_base.proofs.BitFacts.{flip-other, bit-zero}
use Rattle.si_base.specs.Bits.{bit}
use Rattle.si_base.specs.Codes.{CodedGraph, code, next_value}
use Rattle.si_base.specs.Graph.{arc, rise, fall, is_driven, IsNonInput}
use Rattle.si_base.specs.Netlist.{Sum, sum_value}
use Rattle.si_base.specs.declared.graph.Signal.{Signal}
use Rattle.si_base.specs.declared.graph.SigKind.TheVariants.{Input, Output}
use Rattle.si_base.specs.declared.ids.Literal.{Literal}
use Rattle.si_cell.specs.Library.{Cell, Library, instance_value, with_pins}
use Rattle.si_cell.specs.declared.pins.Pins.TheVariants.{Any, Plain}
use Rattle.si_match.specs.Loops.Choices.{AreAmong, AreOwed, Ascends, NoneFitsOver}
use Rattle.si_match.specs.Loops.Columns.{AreColumns, first_pin_values}
use Rattle.si_match.specs.Loops.Differences.{AreDifferences, any_without}
use Rattle.si_match.specs.Loops.Dropping.{AreTried}
use Rattle.si_match.specs.Fit.{first_fit, literals_for}
use Rattle.si_match.specs.Functions.{AreFunctions, function_table, function_tables, value_at}
use Rattle.si_match.specs.Loops.Known.{AreKnown, FitsByReading}
use Rattle.si_match.specs.Loops.Places.{Agrees, AgreesAt, AreSeen, Differs, placed_code}
use Rattle.si_match.specs.Loops.Rows.{AreSignals}
use Rattle.si_match.specs.Support.{determines, support_of}
use Rattle.si_match.specs.Triggers.{IsTrigger}
use Rattle.si_match.specs.Weight.{added_weight, weight_of}
use Rattle.si_match.proofs.ColumnLemmas.{same_at_codes}
use Rattle.si_match.proofs.TriggerLemmas.{same_values}

-- the inputs a and b are signals 0 and 1, the output c is signal 2
abbrev c_element : CodedGraph
c_element = record {
  graph = record {
    signals = record { name = codes "a"; kind = Input } ∷ record { name = codes "b"; kind = Input }
        ∷ record { name = codes "c"; kind = Output } ∷ [];
    states = 8;
    edges = arc 0 (rise 0) 1 ∷ arc 0 (rise 1) 2 ∷ arc 1 (rise 1) 3 ∷ arc 2 (rise 0) 3 ∷ arc 3 (rise 2) 4
        ∷ arc 4 (fall 0) 5 ∷ arc 4 (fall 1) 6 ∷ arc 5 (fall 1) 7 ∷ arc 6 (fall 0) 7 ∷ arc 7 (fall 2) 0 ∷ [];
    start = 0;
  };
  codes = 0 ∷ 1 ∷ 2 ∷ 3 ∷ 7 ∷ 6 ∷ 5 ∷ 4 ∷ [];
}

abbrev lit : ℕ → Bool → Literal
lit s v = record { sig = s; plain = v }

abbrev buffer : Cell
buffer = record { name = codes "BUF"; pins = codes "a" ∷ []; sum = (lit 0 true ∷ []) ∷ [] }

-- a' b' + a' q + b' q
abbrev inverting : Cell
inverting = record {
  name = codes "INV2";
  pins = codes "a" ∷ codes "b" ∷ [];
  sum = (lit 0 false ∷ lit 1 false ∷ []) ∷ (lit 0 false ∷ lit 2 true ∷ []) ∷ (lit 1 false ∷ lit 2 true ∷ []) ∷ [];
}

-- a number below 2 ^ k has no bit from k on
above : (n k i : ℕ) → n < 2 ^ k → k ≤ i → bit n i ≡ false
above n k i small from_k = ap (λ (b : ℕ). b == 1) (bit_at_above n k i small from_k)

abbrev library : List Cell → Library
library cells = record { name = codes "l"; cells = cells; pins = Any }

none : first_fit c_element (library (buffer ∷ [])) 2 ≡ None
unfolding first_fit
none = refl

first : first_fit c_element (library (buffer ∷ inverting ∷ [])) 2
    ≡ Some (record { cell = 1; literals = lit 0 false ∷ lit 1 false ∷ [] })
unfolding first_fit
first = refl

-- with plain pins it doesn't: the C-element's own cell is wanted
none_plain : first_fit c_element (with_pins Plain (library (buffer ∷ inverting ∷ []))) 2 ≡ None
unfolding first_fit
none_plain = refl

-- the plain literals of two signals, and all of them
plain_literals : literals_for Plain 2 ≡ lit 0 true ∷ lit 1 true ∷ []
plain_literals = refl

any_literals : literals_for Any 2 ≡ lit 0 true ∷ lit 0 false ∷ lit 1 true ∷ lit 1 false ∷ []
any_literals = refl

support : support_of c_element 2 ≡ 7
unfolding support_of
support = refl

weight : weight_of c_element (library (buffer ∷ [])) ≡ 4
unfolding weight_of first_fit support_of
weight = refl

no_weight : weight_of c_element (library (inverting ∷ [])) ≡ 0
unfolding weight_of first_fit support_of
no_weight = refl

-- ---- triggers and the support
-- the triggers a and b of the C-element don't determine its next value: it is in its support itself
triggers_alone : determines c_element 2 3 ≡ false
triggers_alone = refl

with_itself : determines c_element 2 7 ≡ true
with_itself = refl

-- once all three signals have been tried, none is left to drop
all_tried : AreTried c_element 2 3 7
unfolding support_of
all_tried = record { told = refl; later = λ j low high. absurd (omega (arith, low, high)) }

-- where it fits no cell, it adds 4 to the weight
adds : added_weight c_element (library (buffer ∷ [])) 2 ≡ 4
unfolding first_fit support_of
adds = refl

-- the output b, signal 1, repeats the input a, signal 0
abbrev repeater : CodedGraph
repeater = record {
  graph = record {
    signals = record { name = codes "a"; kind = Input } ∷ record { name = codes "b"; kind = Output } ∷ [];
    states = 4;
    edges = arc 0 (rise 0) 1 ∷ arc 1 (rise 1) 2 ∷ arc 2 (fall 0) 3 ∷ arc 3 (fall 1) 0 ∷ [];
    start = 0;
  };
  codes = 0 ∷ 1 ∷ 3 ∷ 2 ∷ [];
}

-- its trigger a determines the next value of b, and is its support
trigger : IsTrigger repeater 1 0
trigger = record {
  from = 0;
  event = rise 0;
  to = 1;
  step = (0, lit< tt, refl);
  signal = refl;
  other = λ e. omega (arith, e);
  changes = true≢false;
}

trigger_alone : determines repeater 1 1 ≡ true
trigger_alone = refl

support_is_trigger : support_of repeater 1 ≡ 1
unfolding support_of
support_is_trigger = refl

-- ---- differences of codes
-- of the codes with the next value 1 of b and those with 0, those that differ not at b differ at a
at_a_alone : AreDifferences repeater 1 3 2 (1 ∷ [])
at_a_alone d = (has d, λ (s, t, inside_s, inside_t, on, off, is, clear). from s t inside_s inside_t on off is clear)
  where
    has : (d : ℕ) → Contains (1 ∷ []) d → (s : ℕ) × (t : ℕ) × (s < 4) × (t < 4)
        × (next_value repeater s 1 ≡ true) × (next_value repeater t 1 ≡ false)
        × (bit_xor (bit_and (code repeater s) 3) (bit_and (code repeater t) 3) ≡ d) × (bit_and d 2 ≡ 0)
    has d (zero, within, at) =
        (1, 0, lit< tt, lit< tt, refl, refl, at, subst (λ n. bit_and n 2 ≡ 0) at refl)
    has d (suc k, within, at) = absurd (omega (arith, within))

    at_b : {d : ℕ} → 3 ≡ d → bit_and d 2 ≡ 0 → ⊥
    at_b is clear = (let none : 2 ≡ 0 = subst (λ n. bit_and n 2 ≡ 0) (sym is) clear in omega (arith, none))

    from : {d : ℕ} (s t : ℕ) → s < 4 → t < 4 → next_value repeater s 1 ≡ true → next_value repeater t 1 ≡ false
        → bit_xor (bit_and (code repeater s) 3) (bit_and (code repeater t) 3) ≡ d → bit_and d 2 ≡ 0
        → Contains (1 ∷ []) d
    from zero t inside_s inside_t on off is clear = absurd (true≢false (sym on))
    from (suc zero) zero inside_s inside_t on off is clear = (0, lit< tt, is)
    from (suc zero) (suc zero) inside_s inside_t on off is clear = absurd (true≢false off)
    from (suc zero) (suc (suc zero)) inside_s inside_t on off is clear = absurd (true≢false off)
    from (suc zero) (suc (suc (suc zero))) inside_s inside_t on off is clear = absurd (at_b is clear)
    from (suc zero) (suc (suc (suc (suc t)))) inside_s inside_t on off is clear = absurd (omega (arith, inside_t))
    from (suc (suc zero)) zero inside_s inside_t on off is clear = absurd (at_b is clear)
    from (suc (suc zero)) (suc zero) inside_s inside_t on off is clear = absurd (true≢false off)
    from (suc (suc zero)) (suc (suc zero)) inside_s inside_t on off is clear = absurd (true≢false off)
    from (suc (suc zero)) (suc (suc (suc zero))) inside_s inside_t on off is clear = (0, lit< tt, is)
    from (suc (suc zero)) (suc (suc (suc (suc t)))) inside_s inside_t on off is clear =
        absurd (omega (arith, inside_t))
    from (suc (suc (suc zero))) t inside_s inside_t on off is clear = absurd (true≢false (sym on))
    from (suc (suc (suc (suc s)))) t inside_s inside_t on off is clear = absurd (omega (arith, inside_s))

-- so a is needed: without it this difference holds none of the signals that are left
a_needed : any_without (1 ∷ []) 2 ≡ true
a_needed = refl

a_enough : any_without (1 ∷ []) 1 ≡ false
a_enough = refl

-- ---- what is known of fits
-- each instance that fits b reads a: at the first two states, which differ at a alone, b has other next values
reads : FitsByReading repeater (library (buffer ∷ [])) 0 1
reads i over fit unread = true≢false (sym (fit 1 (lit< tt)) ∙ same ∙ fit 0 (lit< tt))
  where
    same : instance_value (library (buffer ∷ [])) i 1 false ≡ instance_value (library (buffer ∷ [])) i 0 false
    same = rw (same_values 0 1 0 (flip-other 0 0) i.literals (recursion_from_All (λ
        (l : Literal). l.sig ≢ 0) i.literals unread)) refl

driven_is_b : (z : ℕ) → IsNonInput repeater.graph.signals z → z ≡ 1
driven_is_b zero (x, at, driven) =
    let is_a : record { name = codes "a"; kind = Input } ≡ x = cc in
    absurd (true≢false (sym driven ∙ ap (λ (y : Signal). is_driven y.kind) (sym is_a)))
driven_is_b (suc zero) b = refl
driven_is_b (suc (suc z)) (x, at, driven) = cc

one_isnt_zero : suc zero ≡ zero → ⊥
one_isnt_zero e = omega (arith, e)

abbrev b_alone : List ℕ
b_alone = 1 ∷ []

-- so no instance fits b that reads b alone
none_reads_b_alone : NoneFitsOver repeater (library (buffer ∷ [])) 1 b_alone
none_reads_b_alone i over fit among =
    reads i over fit (λ k d within. unread (get_or i.literals k d) (among k d within))
  where
    unread : (l : Literal) → Contains (1 ∷ b_alone) l.sig → l.sig ≢ 0
    unread l (zero, within, at) e = one_isnt_zero (at ∙ e)
    unread l (suc zero, within, at) e = one_isnt_zero (at ∙ e)
    unread l (suc (suc k), within, at) e = absurd (omega (arith, within))

-- and where no signal is chosen yet, a is owed
owed : AreOwed repeater (library (buffer ∷ [])) 1 [] 1
owed zero there = (reads, not_chosen)
  where
    not_chosen : Contains b_alone 0 → ⊥
    not_chosen (zero, within, at) = one_isnt_zero at
    not_chosen (suc k, within, at) = absurd (omega (arith, within))
owed (suc y) there = absurd (true≢false (sym there ∙ above 1 1 (suc y) (lit< tt) (omega arith)))

-- so this much is known: no signal is unknown, and what fits one that isn't told to fit reads a
known : AreKnown repeater (library (buffer ∷ [])) (record { unknown = 0; fitted = 0; read = 0 })
known = record {
  fitted = λ z driven sure told. absurd (true≢false (sym told ∙ bit-zero z));
  others = λ z driven sure told. subst (FitsByReading repeater (library (buffer ∷ [])) 0) (sym (driven_is_b z driven))
      reads;
}

-- ---- truth tables over places
-- the buffer whose input stands at the second place has the value of that place, bit 1 of each code
table : function_table buffer (lit 1 true ∷ []) ≡ 3435973836
table = refl

second_place : value_at buffer (lit 1 true ∷ []) 2 ≡ true
second_place = refl

-- cells without a pin: always 1, or always 0
abbrev always : ℕ → Sum → Cell
always name sum = record { name = name ∷ []; pins = []; sum = sum }

abbrev constants : Library
constants = library (always 120 ([] ∷ []) ∷ always 121 [] ∷ always 122 ([] ∷ []) ∷ [])

three_tables : function_tables constants ≡ 4294967295 ∷ 0 ∷ 4294967295 ∷ []
three_tables = refl

-- two of the three compute the same, which stands once
two_functions : AreFunctions constants (0 ∷ 4294967295 ∷ [])
two_functions t = (has, from)
  where
    has : Contains (0 ∷ 4294967295 ∷ []) t → Contains (4294967295 ∷ 0 ∷ 4294967295 ∷ []) t
    has (zero, within, at) = (1, lit< tt, at)
    has (suc zero, within, at) = (0, lit< tt, at)
    has (suc (suc k), within, at) = absurd (omega (arith, within))

    from : Contains (4294967295 ∷ 0 ∷ 4294967295 ∷ []) t → Contains (0 ∷ 4294967295 ∷ []) t
    from (zero, within, at) = (1, lit< tt, at)
    from (suc zero, within, at) = (0, lit< tt, at)
    from (suc (suc zero), within, at) = (1, lit< tt, at)
    from (suc (suc (suc k)), within, at) = absurd (omega (arith, within))

-- at the code 1 the first pin has the value of the first place, the second the complement of the
-- second place's; and the third, from the code behind them, 1
first_pins : first_pin_values (lit 0 true ∷ lit 1 false ∷ []) 1 1 ≡ 7
first_pins = refl

-- whatever the own output is, the buffer has the value of the second place
abbrev buffer_value : ℕ → ℕ → Bool
buffer_value own k = sum_value (first_pin_values (lit 1 true ∷ []) k own) buffer.sum

columns : AreColumns buffer (lit 1 true ∷ []) (3435973836 ∷ 3435973836 ∷ [])
columns zero m within below = same_at_codes (bit 3435973836) (buffer_value 0) refl m below
columns (suc zero) m within below = same_at_codes (bit 3435973836) (buffer_value 1) refl m below
columns (suc (suc rest)) m within below = absurd (omega (arith, within))

-- signal 1 stands first, then signal 0: at the state where a alone is 1 the second place is 1
places_at : placed_code (1 ∷ 0 ∷ []) 1 ≡ 2
places_at = refl

-- of the first three signals, 0 and 2 are in the set 5
in_set : AreSignals 5 3 (0 ∷ 2 ∷ [])
in_set y = (has y, from y)
  where
    has : (y : ℕ) → Contains (0 ∷ 2 ∷ []) y → (y < 3) × (bit 5 y ≡ true)
    has y (zero, within, at) = subst (λ n. (n < 3) × (bit 5 n ≡ true)) at (lit< tt, refl)
    has y (suc zero, within, at) = subst (λ n. (n < 3) × (bit 5 n ≡ true)) at (lit< tt, refl)
    has y (suc (suc k), within, at) = absurd (omega (arith, within))

    from : (y : ℕ) → (y < 3) × (bit 5 y ≡ true) → Contains (0 ∷ 2 ∷ []) y
    from zero (below, there) = (0, lit< tt, refl)
    from (suc zero) (below, there) = absurd (true≢false (sym there))
    from (suc (suc zero)) (below, there) = (1, lit< tt, refl)
    from (suc (suc (suc y))) (below, there) = absurd (omega (arith, below))

-- the next value of b is 1 there; a table with 1 at the code 2 agrees with that, one without doesn't
agrees_there : AgreesAt repeater 1 (0 ∷ []) 4 1
agrees_there = refl

disagrees_there : AgreesAt repeater 1 (0 ∷ []) 1 1 → ⊥
disagrees_there same = true≢false (sym same)

-- at the first two states the next value 0 is seen at the code 0, and 1 at the code 2
seen : AreSeen repeater 1 (0 ∷ []) (record { on = 4; off = 1 })
seen = record { on = on; off = off }
  where
    on : (m : ℕ) → bit 4 m ≡ true → (s : ℕ) × (s < 4)
        × (placed_code (1 ∷ 0 ∷ []) (code repeater s) ≡ m) × (next_value repeater s 1 ≡ true)
    on zero there = absurd (true≢false (sym there))
    on (suc zero) there = absurd (true≢false (sym there))
    on (suc (suc zero)) there = (1, lit< tt, refl, refl)
    on (suc (suc (suc m))) there =
        absurd (true≢false (sym there ∙ above 4 3 (suc (suc (suc m))) (lit< tt) (omega arith)))

    off : (m : ℕ) → bit 1 m ≡ true → (s : ℕ) × (s < 4)
        × (placed_code (1 ∷ 0 ∷ []) (code repeater s) ≡ m) × (next_value repeater s 1 ≡ false)
    off zero there = (0, lit< tt, refl, refl)
    off (suc m) there = absurd (true≢false (sym there ∙ above 1 1 (suc m) (lit< tt) (omega arith)))

-- so the table has the next value of b, where a is chosen for each place
agrees : Agrees repeater 1 (0 ∷ 0 ∷ 0 ∷ 0 ∷ []) 3435973836
agrees zero within = refl
agrees (suc zero) within = refl
agrees (suc (suc zero)) within = refl
agrees (suc (suc (suc zero))) within = refl
agrees (suc (suc (suc (suc s)))) within = absurd (omega (arith, within))

-- where b itself is chosen it hasn't, as at the state 1
differs : Differs repeater 1 (1 ∷ 1 ∷ 1 ∷ 1 ∷ []) 3435973836
differs = (1, lit< tt, λ same. true≢false (sym same))

-- signals in signal order, some of them again
in_order : Ascends 3 0 (0 ∷ 2 ∷ 2 ∷ [])
in_order = (omega arith, omega arith, (omega arith, omega arith, (omega arith, omega arith, tt)))

among : AreAmong (1 ∷ 0 ∷ []) (lit 0 true ∷ [])
among zero d within = (1, lit< tt, refl)
among (suc k) d within = absurd (omega (arith, within))
