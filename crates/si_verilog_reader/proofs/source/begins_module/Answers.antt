use Rattle.std.proofs.Common.{◌∙◌, ap, sym, bytes_eq, codes}
use Rattle.si_verilog.specs.Symbols.{Word}
use Rattle.si_verilog_reader.specs.Loops.Pieces.{piece_now}
use Rattle.si_verilog_reader.specs.Parts.{same_symbol}
use Rattle.si_verilog_reader.specs.declared.source.Piece.{Piece}
use Rattle.si_verilog_reader.proofs.PieceLemmas.{module_alone}
use Rattle.si_verilog_reader.proofs.source.begins_module.Goals as goal

pub returns-in-Bare : goal.returns-in-Bare
returns-in-Bare c =
    let word = c.in-Bare.word.now in
    let compared = c.eq.ensures ∙ ap (λ bytes. bytes_eq bytes word) c.as_slice.ensures in
    let same = ap (λ (piece : Piece). same_symbol (Word (codes "module")) (piece_now piece)) c.in-Bare.is in
    compared ∙ module_alone word ∙ sym same
