use Rattle.std.proofs.Common.{ℕ, ◌∙◌, ◌++◌, ◌∷◌, [], List, length, ap₂}
use Rattle.si_base.specs.Words.{line}
use Rattle.si_conflicts.specs.declared.conflicts.Pair.{Pair}
use Rattle.si_lint.specs.LintText.{pair_line}
use Rattle.si_told.proofs.LineLemmas.{lines_none, lines_more, lines_all}
use Rattle.si_lint.proofs.LineLemmas.{lines_of_named, pair_at}
use Rattle.si_lint.proofs.lines.add_pairs.Goals as goal

abbrev line_of : List ℕ → List (List ℕ) → Pair → List (List ℕ)
line_of word states x = pair_line word states (x.p, x.q)

pub loop-pair-init : goal.loop-pair-init
loop-pair-init c =
    lines_none (line_of c.args.word.now c.args.states.now) c.printed-first.result.now c.args.text.now

pub name_at-p-requires : goal.name_at-p-requires
name_at-p-requires c = (pair_at (length c.args.states.now) c.args.found.now c.printed-first.result.now
    c.loop-pair.pair-index c.pair-item.result c.requires c.printed-first.ensures c.loop-pair-test.true c.pair-item.is).0

pub name_at-q-requires : goal.name_at-q-requires
name_at-q-requires c = (pair_at (length c.args.states.now) c.args.found.now c.printed-first.result.now
    c.loop-pair.pair-index c.pair-item.result c.requires c.printed-first.ensures c.loop-pair-test.true c.pair-item.is).1

pub loop-pair-preserved : goal.loop-pair-preserved
loop-pair-preserved c =
    lines_more (line_of c.args.word.now c.args.states.now) c.printed-first.result.now c.loop-pair.pair-index
    c.pair-item.result c.args.text.now c.loop-pair.text _ c.loop-pair-test.true c.pair-item.is c.loop-pair.invariant
    (c.in_ok-add_line.ensures ∙ ap₂ (λ (p q : List ℕ). c.loop-pair.text ++ line (c.args.word.now ∷ p ∷ q ∷ []))
    c.name_at-p.ensures c.name_at-q.ensures)

pub returns : goal.returns
returns c =
    lines_of_named (λ (x : Pair). (x.p, x.q)) (pair_line c.args.word.now c.args.states.now) c.args.found.now
    c.args.text.now c.loop-pair.text
    (lines_all (line_of c.args.word.now c.args.states.now) c.printed-first.result.now c.loop-pair.pair-index
    c.args.found.now c.args.text.now c.loop-pair.text c.loop-pair-test.false c.printed-first.ensures
    c.loop-pair.invariant)
