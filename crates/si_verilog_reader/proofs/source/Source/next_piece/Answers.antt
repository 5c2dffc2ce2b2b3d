use Rattle.std.proofs.Common.{◌≡◌, ◌+◌, [], sym, ap, ◌∙◌, arith}
use Rattle.std.proofs.lemmas.List.{nil_from_length}
use Rattle.si_verilog.specs.Symbols.{Between}
use Rattle.si_verilog_reader.specs.Placed.{placed_from}
use Rattle.si_verilog_reader.proofs.PlacedLemmas.{behind_blanks, dark_first}
use Rattle.si_verilog_reader.proofs.source.Source.next_piece.Goals as goal

pub returns-in_default : goal.returns-in_default
returns-in_default c =
    let line = c.self.inside.line + c.line_feeds.result in
    let none : c.split_at.result.1.now ≡ [] = nil_from_length _ (omega (arith, c.in_default.len_below)) in
    let nothing = ap (placed_from line Between) none in (
      sym c.self.view_is ∙ behind_blanks _ _ _ _ _ _ c.blank_len.ensures.len c.split_at.ensures.front
          c.split_at.ensures.back c.line_feeds.ensures.count ∙ nothing,
      nothing,
    )

pub piece_here-taken-requires-clause-dark : goal.piece_here-taken-requires-clause-dark
piece_here-taken-requires-clause-dark c = dark_first _ _ _ c.blank_len.ensures.len c.split_at.ensures.back
    c.in-len1-up.len_at_least

pub returns : goal.returns
returns c = sym c.self.view_is ∙ behind_blanks _ _ _ _ _ _ c.blank_len.ensures.len c.split_at.ensures.front
    c.split_at.ensures.back c.line_feeds.ensures.count
    ∙ c.piece_here-taken.ensures.piece (c.self.inside.line + c.line_feeds.result)
