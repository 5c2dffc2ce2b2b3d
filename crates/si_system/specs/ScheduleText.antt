-- (text) The text of a schedule: its first fault, and the events that it spells.
use Rattle.std.specs.Prelude.{ℕ, false, List, map, flat_map, Option}
use Rattle.si_base.specs.declared.ids.Event.{Event}
use Rattle.si_base.specs.declared.fault.TextKind.{TextKind}
use Rattle.si_base.specs.declared.fault.TextKind.TheVariants.{BadByte}
use Rattle.si_base.specs.Faults.{when, ◌otherwise◌, first_in, at_line}
use Rattle.si_base.specs.Lines.{Line, numbered, words_in, before_comment, has_bad_byte}
use Rattle.si_words.specs.Events.{event_fault, event_of}

abbrev pub words : Line → List (List ℕ)
words line = words_in false (before_comment line.1)

abbrev pub line_fault : List (List ℕ) → Line → Option (ℕ × TextKind)
line_fault names line = at_line line.0
    (when (has_bad_byte line.1) BadByte otherwise first_in (event_fault names) (words line))

-- the first fault, where these are the names of the netlist's signals
abbrev pub schedule_fault : List (List ℕ) → List ℕ → Option (ℕ × TextKind)
schedule_fault names text = first_in (line_fault names) (numbered text)

-- the events of a text without fault
abbrev pub schedule_of : List (List ℕ) → List ℕ → List Event
schedule_of names text = map (event_of names) (flat_map words (numbered text))
