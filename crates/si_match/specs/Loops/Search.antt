-- The search for literals, pin after pin.
use Rattle.std.specs.Prelude.{◌≡◌, ℕ, ◌*◌, ◌/◌, ◌%◌, ◌==◌, ◌<◌, ◌≤◌, ◌++◌, true, false, List}
use Rattle.std.specs.Prelude.{Option, length, All}
use Rattle.si_base.specs.Bits.{bit}
use Rattle.si_base.specs.Codes.{CodedGraph}
use Rattle.si_base.specs.declared.ids.Literal.{Literal}
use Rattle.si_cell.specs.Library.{Cell}
use Rattle.si_cell.specs.declared.pins.Pins.{Pins}
use Rattle.si_cell.specs.declared.pins.Pins.TheVariants.{Any, Plain}
use Rattle.si_match.specs.Fit.{suits, fits, first_that, lists_of, literals_for}

-- how many literals of so many signals such pins may have
abbrev pub literal_count : Pins → ℕ → ℕ
literal_count Any signals = 2 * signals
literal_count Plain signals = signals

-- the one at a place among them
abbrev pub literal_at : Pins → ℕ → Literal
literal_at Any place = record { sig = place / 2; plain = place % 2 == 0 }
literal_at Plain place = record { sig = place; plain = true }

-- of the literals at the first pins, the first completion that fits z by so many more that such
-- pins may have
abbrev pub first_completion : Pins → CodedGraph → ℕ → Cell → List Literal → ℕ
    → Option (List Literal)
first_completion allowed c z cell literals more =
    first_that (λ rest. fits c z cell (literals ++ rest))
    (lists_of more (literals_for allowed (length c.graph.signals)))

-- at the state no completion by so many more has the next value of z
abbrev pub IsRefutedAt : CodedGraph → ℕ → Cell → List Literal → ℕ → ℕ × ℕ → Type 0
IsRefutedAt c z cell literals more s =
    (rest : List Literal) → length rest ≡ more → suits c z cell (literals ++ rest) s ≡ false

-- no completion by so many more literals of the graph's signals fits z
abbrev pub IsRefuted : CodedGraph → ℕ → Cell → List Literal → ℕ → Type 0
IsRefuted c z cell literals more =
    (rest : List Literal) → length rest ≡ more → All (λ l. l.sig < length c.graph.signals) rest
    → fits c z cell (literals ++ rest) ≡ false

-- the codes have the same value for each signal, but for those from the first of these on, up to
-- the second
abbrev pub AgreeOutside : ℕ → ℕ → ℕ → ℕ → Type 0
AgreeOutside from to code other = (j : ℕ) → (from ≤ j → j < to → ⊥) → bit other j ≡ bit code j
