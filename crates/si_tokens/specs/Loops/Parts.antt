-- What is left of a text, parts of it, and what readers answer, as the definitions see it.
use Rattle.std.specs.Prelude.{◌≡◌, Result, Ok, Err}
use Rattle.si_tokens.specs.declared.fault.ReadFault.{ReadFault}
use Rattle.si_tokens.specs.declared.fault.ReadFault.TheVariants as faults
use Rattle.si_tokens.specs.declared.fault.Stop.{Stop}
use Rattle.si_tokens.specs.declared.source.Part.{Part}
use Rattle.si_tokens.specs.declared.source.Source.{Source}
use Rattle.si_tokens.specs.Unread.{Unread, Piece, clean}

abbrev pub left : Source → Unread
left s = record { number = s.number; here = s.here.now; lines = clean s.lines }

-- the part, with what is left behind it
abbrev pub piece : Part → Unread → Piece
piece p rest = record { line = p.line; bytes = p.bytes.now; rest = rest }

-- it is this stop, or `NoMemory`
abbrev pub Shows : {Y : Type 0} → ReadFault → Result Y Stop → Type 0
Shows faults.NoMemory read = Unit {0}
Shows (faults.Stop stop) read = read ≡ Err stop

-- what is read, seen so, or why reading stops; either may want memory
abbrev pub Reads : {X Y : Type 0} → (X → Y) → Result X ReadFault → Result Y Stop → Type 0
Reads view (Ok x) read = read ≡ Ok (view x)
Reads view (Err e) read = Shows e read
