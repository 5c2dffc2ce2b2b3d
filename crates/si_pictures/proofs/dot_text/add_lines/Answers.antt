use Rattle.std.proofs.Common.{◌∙◌, ◌++◌, List, ℕ, ap, sym}
use Rattle.si_conflicts.specs.declared.conflicts.Pair.{Pair}
use Rattle.si_conflicts.specs.Conflicts.{pairs_of}
use Rattle.si_pictures.specs.Picture.{conflict_line}
use Rattle.si_pictures.specs.Writing.{statement_text}
use Rattle.si_pictures.proofs.PictureLemmas.{red_line_at}
use Rattle.si_pictures.proofs.WritingParts.{item_more, items_done, mapped_parts}
use Rattle.si_pictures.proofs.dot_text.add_lines.Goals as goal

pub loop-pair-preserved : goal.loop-pair-preserved
loop-pair-preserved c =
    item_more red_line_at c.args.pairs.now c.loop-pair.pair-index c.pair-item.result _ c.loop-pair.text
    c.add_conflict_line.new.text c.loop-pair-test.true c.pair-item.is c.loop-pair.invariant
    c.in_ok-add_conflict_line.ensures

pub returns : goal.returns
returns c =
    items_done red_line_at c.args.pairs.now c.loop-pair.pair-index c.loop-pair.text c.args.text.now
    c.loop-pair-test.false c.loop-pair.invariant
    ∙ ap (λ (t : List ℕ). c.args.text.now ++ t)
    (sym (mapped_parts statement_text conflict_line (pairs_of c.args.pairs.now)
    ∙ mapped_parts (λ p. statement_text (conflict_line p)) (λ (x : Pair). (x.p, x.q)) c.args.pairs.now))
