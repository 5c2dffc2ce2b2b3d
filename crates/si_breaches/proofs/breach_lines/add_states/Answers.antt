use Rattle.std.proofs.Common.{◌<◌, ◌∙◌, ◌++◌, ℕ, List, map, length, ap, sym, subst}
use Rattle.std.proofs.lemmas.List.{append-nil, take_all}
use Rattle.si_breaches.proofs.BreachLines.{state_more}
use Rattle.si_sg.specs.CanonicalText.{state_at}
use Rattle.si_words.specs.Loops.Writing.{spaced}
use Rattle.si_breaches.proofs.breach_lines.add_states.Goals as goal

pub loop-t-init : goal.loop-t-init
loop-t-init c = sym (append-nil c.args.text.now)

pub name_at-requires : goal.name_at-requires
name_at-requires c = subst (λ (u : ℕ). u < length c.args.states.now) (sym c.t-item.is)
    (c.requires c.loop-t.t-index c.t-item.result c.loop-t-test.true)

pub loop-t-preserved : goal.loop-t-preserved
loop-t-preserved c = state_more c.args.states.now c.args.ends.now c.loop-t.t-index c.t-item.result
    c.name_at.result.now c.args.text.now c.loop-t.text _ c.loop-t-test.true c.t-item.is c.name_at.ensures
    c.loop-t.invariant c.in_ok-add_word.ensures

pub returns : goal.returns
returns c = c.loop-t.invariant ∙ ap (λ (l : List ℕ). c.args.text.now ++ spaced (map (state_at c.args.states.now) l))
    (take_all c.loop-t.t-index c.args.ends.now c.loop-t-test.false)
