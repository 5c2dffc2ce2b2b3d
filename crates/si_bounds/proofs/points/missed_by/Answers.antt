use Rattle.std.proofs.Common.{◌∙◌, ap, sym, ◌&&◌, ◌++◌, ◌∷◌, []}
use Rattle.si_base.specs.Bits.{bit}
use Rattle.si_base.proofs.BitFacts.{bit-and}
use Rattle.si_cell.proofs.CubeLemmas.{and_first}
use Rattle.si_cell.specs.Library.{code_of}
use Rattle.si_bounds.proofs.points.missed_by.Goals as goal

pub returns : goal.returns
returns c = record {
  at_zero = λ values next four. bit-and c.args.seen c.missed_where.result (code_of (values ++ next ∷ []))
      ∙ ap (λ b. bit c.args.seen (code_of (values ++ next ∷ [])) && b) (c.missed_where.ensures values next four);
  at_one = λ values next four. bit-and c.args.seen c.missed_where-2.result (code_of (values ++ next ∷ []))
      ∙ ap (λ b. bit c.args.seen (code_of (values ++ next ∷ [])) && b) (c.missed_where-2.ensures values next four);
  zero_seen = λ m there. and_first (bit c.args.seen m) (bit c.missed_where.result m)
      (sym (bit-and c.args.seen c.missed_where.result m) ∙ there);
}
