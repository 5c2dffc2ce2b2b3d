use Rattle.std.proofs.Common.{◌∙◌, sym, inl, inr}
use Rattle.std.proofs.lemmas.Bool.{true≢false}
use Rattle.si_closures.proofs.SignalKinds.{input_or_not}
use Rattle.si_insert.specs.Accepted.{IsInput}
use Rattle.si_divisor.proofs.SwitchTurns.{nothing_more, by_input, by_exit}
use Rattle.si_divisor.proofs.switching.follow_arc.Goals as goal

pub returns-then-more-eq0 : goal.returns-then-more-eq0
returns-then-more-eq0 c =
    nothing_more c.args.graph.now c.args.highs.now c.args.work.now c.args.arc.now c.args.sets c.those_out_of-more.result
    c.sets_of.result c.ranges.sets.fits c.sets_of.ensures c.those_out_of-more.ensures c.if-more-eq0.true

pub returns-then-not-is_driven : goal.returns-then-not-is_driven
returns-then-not-is_driven c =
    let g = c.args.graph.now in
    let arc = c.args.arc.now in
    let input : IsInput g.signals arc.event.sig = elim (input_or_not g.signals arc.event.sig c.requires.sig) [
      | inl input ↦ input
      | inr driven ↦ absurd (true≢false (sym (c.is_driven.ensures.1 driven) ∙ c.if-not-is_driven.true))
    ] in
    by_input g c.args.highs.now c.args.work.now arc c.args.sets c.those_out_of-more.result c.sets_of.result
    c.ranges.sets.fits c.sets_of.ensures c.those_out_of-more.ensures c.reach.new.self.words c.reach.new.self.work input
    c.reach.ensures

pub returns : goal.returns
returns c =
    by_exit c.args.graph.now c.args.highs.now c.args.work.now c.args.arc.now c.args.sets c.those_out_of-more.result
    c.sets_of.result c.ranges.sets.fits c.sets_of.ensures c.those_out_of-more.ensures c.those_with_exit-exits.result
    c.reach-2.new.self.words c.reach-2.new.self.work (c.is_driven.ensures.0 c.if-not-is_driven.false)
    (rw c.words.ensures at c.those_with_exit-exits.ensures) c.reach-2.ensures
