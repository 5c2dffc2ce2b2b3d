use Rattle.std.proofs.Common.{arith}
use Rattle.si_circuit.proofs.SpellingWords.{digit_more, marked}
use Rattle.si_circuit.proofs.spelling.add_mark.Goals as goal

pub loop-i-preserved : goal.loop-i-preserved
loop-i-preserved c =
    digit_more c.args.bits c.loop-i.i c.digit.result c.get.result c.push.new.self.items c.loop-i.word.items
    c.push-in-loop-i.new.self.items c.loop-i.invariant c.get.ensures c.digit.ensures c.in_ok-push-2.ensures.items

pub returns : goal.returns
returns c =
    marked c.args.bits c.args.k c.loop-i.i c.args.word.now.items c.push.new.self.items c.loop-i.word.items
    (omega (arith, c.if-k-eq0.false)) c.loop-i-test.false c.loop-i.auto.i-end c.in_ok-push.ensures.items
    c.loop-i.invariant
