use Rattle.std.proofs.Common.{sym}
use Rattle.si_verilog_reader.proofs.PlacedLemmas.{bare_taken}
use Rattle.si_verilog_reader.proofs.source.piece_here.Goals as goal

pub returns-then-is_bare_byte-clause-piece : goal.returns-then-is_bare_byte-clause-piece
returns-then-is_bare_byte-clause-piece c = λ n. bare_taken n _ _ _ _ _ c.requires.here (sym c.if-is_bare_byte.ensures)
    c.bare_here.ensures.piece c.bare_here.ensures.rest
