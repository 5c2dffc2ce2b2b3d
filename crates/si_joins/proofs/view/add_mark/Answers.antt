use Rattle.std.proofs.Common.{◌/◌, ◌^◌, ◌∙◌, sym, arith}
use Rattle.si_circuit.proofs.SpellingWords.{digit_more, marked}
use Rattle.si_insert.proofs.LineageGrowth.{later_bit}
use Rattle.si_joins.proofs.view.add_mark.Goals as goal

pub loop-i-preserved : goal.loop-i-preserved
loop-i-preserved c =
    digit_more (c.args.bits / 2 ^ c.args.before) c.loop-i.i c.digit.result c.get.result c.add.new.self c.loop-i.word
    c.add-in-loop-i.new.self c.loop-i.invariant
    (c.get.ensures ∙ sym (later_bit c.args.bits c.args.before c.loop-i.i)) c.digit.ensures c.in_ok-add-2.ensures.added

pub returns : goal.returns
returns c =
    marked (c.args.bits / 2 ^ c.args.before) c.args.k c.loop-i.i c.args.word.now c.add.new.self c.loop-i.word
    (omega (arith, c.if-k-eq0.false)) c.loop-i-test.false c.loop-i.auto.i-end c.in_ok-add.ensures.added
    c.loop-i.invariant
