-- The pieces of a text, as the symbols that they are.
use Rattle.si_verilog.specs.Symbols.{Symbol, Name, Mark, bare_symbol}
use Rattle.si_verilog_reader.specs.Placed.{Placed}
use Rattle.si_verilog_reader.specs.declared.source.Piece.{Piece}
use Rattle.si_verilog_reader.specs.declared.source.Piece.TheVariants as held
use Rattle.si_verilog_reader.specs.declared.source.PlacedPiece.{PlacedPiece}

abbrev pub piece_now : Piece → Symbol
piece_now (held.Bare word) = bare_symbol word.now
piece_now (held.Escaped name) = Name name.now
piece_now (held.Mark byte) = Mark byte

abbrev pub placed_piece_now : PlacedPiece → Placed
placed_piece_now p = record { line = p.line; symbol = piece_now p.piece }
