use Rattle.std.proofs.Common.{◌∙◌, ap, not, if◌then◌else◌}
use Rattle.si_verilog.specs.Symbols.{Mark, escaped_symbol}
use Rattle.si_verilog_reader.proofs.PlacedLemmas.{escaped_taken}
use Rattle.si_verilog_reader.proofs.source.escaped_here.Goals as goal

pub returns-clause-piece : goal.returns-clause-piece
returns-clause-piece c =
    let piece = c.escaped_piece.ensures
    ∙ ap (λ b. if not b then escaped_symbol c.split_at.result.0.now else Mark 92) c.is_empty.ensures in
    λ n. escaped_taken n _ _ _ _ _ c.dark_len.ensures.len c.split_at.ensures.front c.split_at.ensures.back piece
