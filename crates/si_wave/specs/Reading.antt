-- (text) What a reader of a text sees: the dump that its words spell, and the value of a wire at a
-- time.
use Rattle.std.specs.Prelude.{◌≡◌, ℕ, ◌<◌, ◌≤◌, ◌==◌, ◌^◌, Bool, false, List, [], ◌∷◌, ◌++◌}
use Rattle.std.specs.Prelude.{All, length, take, filter, flat_map, bytes_eq, nat_le, nat_lt}
use Rattle.std.specs.Prelude.{if◌then◌else◌}
use Rattle.std.specs.List.{slice_split}
use Rattle.si_base.specs.declared.ids.Event.{Event}
use Rattle.si_base.specs.Bits.{bit}
use Rattle.si_base.specs.Bytes.{line_feed, space}
use Rattle.si_base.specs.Graph.{StateGraph}
use Rattle.si_base.specs.Netlist.{Netlist}
use Rattle.si_base.specs.System.{State, Runs, start}
use Rattle.si_wave.specs.Dump.{Change, Dump, dump_lines}
use Rattle.si_wave.specs.Wave.{wave_of, wire_code}

-- the words of a text: what stands between blanks and line ends
abbrev pub words_of : List ℕ → List (List ℕ)
words_of text = filter (λ w. nat_lt 0 (length w)) (flat_map (slice_split (λ b. b == space))
    (slice_split (λ b. b == line_feed) text))

-- the words of the text are those of the dump, in whatever lines they stand
abbrev pub Spells : List ℕ → Dump → Type 0
Spells text d = words_of text ≡ flat_map (λ words. words) (dump_lines d)

-- its times are numbers of 64 bits
abbrev pub HasShortTimes : Dump → Type 0
HasShortTimes d = All (λ m. m.time < 2 ^ 64) d.moments

-- ---- values

-- the value that the wire with the code has after changes
abbrev pub value_after : (code : List ℕ) → Bool → List Change → Bool
value_after code value [] = value
value_after code value (c ∷ cs) =
    value_after code (if bytes_eq c.code code then c.value else value) cs

-- what changes up to a time, that included
abbrev pub changes_until : ℕ → Dump → List Change
changes_until time d =
    d.starts ++ flat_map (λ m. m.changes) (filter (λ m. nat_le m.time time) d.moments)

-- the value that is shown of the wire with the code at a time
abbrev pub shown_value : Dump → (time : ℕ) → (code : List ℕ) → Bool
shown_value d time code = value_after code false (changes_until time d)

-- at each time up to the last event, each signal is shown with the value that it has after so many
-- events of a run from the start
abbrev pub ShowsRuns : Netlist → List Event → Type 0
ShowsRuns n events = (g : StateGraph) (time : ℕ) (x : State) → time ≤ length events
    → Runs g n (start g n) (take time events) x
    → (sig : ℕ) → sig < length n.signals
    → shown_value (wave_of n events) time (wire_code sig) ≡ bit x.values sig
