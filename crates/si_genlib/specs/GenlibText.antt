-- (text) The text of a genlib library: its first fault, and the library that a text without one
-- spells, with the names that the text gives to the ports of its cells.
use Rattle.std.specs.Prelude.{ℕ, suc, List, codes, Option, Some, None, Result, Ok, Err}
use Rattle.si_base.specs.Lines.{numbered}
use Rattle.si_base.specs.declared.fault.TextKind.{TextKind}
use Rattle.si_base.specs.declared.fault.TextKind.TheVariants.{BadByte, NoEnd}
use Rattle.si_cell.specs.Library.{Library}
use Rattle.si_cell.specs.declared.pins.Pins.TheVariants.{Any}
use Rattle.si_words.specs.Ends.{after_last}
use Rattle.si_tokens.specs.declared.fault.Stop.{Stop}
use Rattle.si_tokens.specs.declared.fault.Stop.TheVariants.{Cut, Fault}
use Rattle.si_tokens.specs.Unread.{Unread, unread, size, bad_line}
use Rattle.si_genlib.specs.Ports.{PortedLibrary}
use Rattle.si_genlib.specs.Statements.{Progress, nothing_yet, kept_from}

-- each statement takes at least one byte
unfoldable pub all_kept : Progress → Unread → Result Progress Stop
all_kept old u = kept_from (suc (size u)) old u

-- where the lines without a bad byte end, the next line, which has one, is a fault; at the end of
-- the text a statement that isn't whole is one
abbrev pub end_fault : ℕ → Option ℕ → Result Progress Stop → Option (ℕ × TextKind)
end_fault last bad (Err (Fault line kind)) = Some (line, kind)
end_fault last (Some line) _ = Some (line, BadByte)
end_fault last None (Err Cut) = Some (last, NoEnd)
end_fault last None (Ok kept) = None

-- the first fault of the text
unfoldable pub genlib_fault : List ℕ → Option (ℕ × TextKind)
genlib_fault text =
    end_fault (after_last text) (bad_line (numbered text)) (all_kept nothing_yet (unread text))

abbrev pub kept_or_nothing : Result Progress Stop → Progress
kept_or_nothing (Ok kept) = kept
kept_or_nothing (Err stop) = nothing_yet

-- what is kept of a text without fault
abbrev pub kept_of : List ℕ → Progress
kept_of text = kept_or_nothing (all_kept nothing_yet (unread text))

-- the library that a text without fault spells
unfoldable pub library_of : List ℕ → Library
library_of text = record {
  name = codes "genlib";
  cells = (kept_of text).cells;
  pins = Any;
}

-- that library, with the names that the text gives to the ports of its cells
unfoldable pub ported_of : List ℕ → PortedLibrary
ported_of text = record { library = library_of text; ports = (kept_of text).ports }
