use Rattle.std.proofs.Common.{◌∙◌, ◌++◌, ◌∷◌, [], List, ℕ, ap, codes}
use Rattle.si_base.specs.Words.{line}
use Rattle.si_lint.specs.LintText.{unused_line}
use Rattle.si_told.proofs.LineLemmas.{lines_none, lines_more, lines_all}
use Rattle.si_lint.proofs.lines.add_unused.Goals as goal

pub loop-a-init : goal.loop-a-init
loop-a-init c = lines_none (unused_line c.args.signals.now) c.printed-first.result.now c.args.text.now

pub loop-a-preserved : goal.loop-a-preserved
loop-a-preserved c = lines_more (unused_line c.args.signals.now) c.printed-first.result.now c.loop-a.a-index
    c.a-item.result c.args.text.now c.loop-a.text _ c.loop-a-test.true c.a-item.is c.loop-a.invariant
    (c.in_ok-add_line.ensures ∙ ap (λ (name : List ℕ). c.loop-a.text ++ line (codes "unused" ∷ name ∷ []))
    c.signal_name.ensures)

pub returns : goal.returns
returns c = lines_all (unused_line c.args.signals.now) c.printed-first.result.now c.loop-a.a-index c.args.found.now
    c.args.text.now c.loop-a.text c.loop-a-test.false c.printed-first.ensures c.loop-a.invariant
