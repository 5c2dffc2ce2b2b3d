use Rattle.std.proofs.Common.{[], sym, ◌∙◌}
use Rattle.si_cell.proofs.WordLemmas.{at_mark, at_end}
use Rattle.si_cell.proofs.words.take_before.Goals as goal

pub returns-then-eq-clause-cut : goal.returns-then-eq-clause-cut
returns-then-eq-clause-cut c = (at_mark c.args.mark.now c.loop-word.before.items c.loop-word.words c.args.words.now
    c.loop-word.invariant c.in-Some.word.now c.next_word.new.self c.in-Some.ensures
    (sym c.eq.ensures ∙ c.if-eq.true)).0

pub returns-then-eq-clause-parts : goal.returns-then-eq-clause-parts
returns-then-eq-clause-parts c = (at_mark c.args.mark.now c.loop-word.before.items c.loop-word.words c.args.words.now
    c.loop-word.invariant c.in-Some.word.now c.next_word.new.self c.in-Some.ensures
    (sym c.eq.ensures ∙ c.if-eq.true)).1

pub returns-clause-cut : goal.returns-clause-cut
returns-clause-cut c = (at_end c.args.mark.now c.loop-word.before.items c.loop-word.words c.args.words.now
    c.loop-word.invariant [] c.in_default.ensures.0).0

pub returns-clause-parts : goal.returns-clause-parts
returns-clause-parts c = (at_end c.args.mark.now c.loop-word.before.items c.loop-word.words c.args.words.now
    c.loop-word.invariant [] c.in_default.ensures.0).1
