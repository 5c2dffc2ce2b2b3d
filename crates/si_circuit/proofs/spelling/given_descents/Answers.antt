use Rattle.si_circuit.proofs.SpellingWords.{given_more}
use Rattle.si_circuit.proofs.spelling.given_descents.Goals as goal

pub loop-s-preserved : goal.loop-s-preserved
loop-s-preserved c =
    given_more c.loop-s.s c.loop-s.descents.items c.push.new.self.items c.loop-s.invariant c.in_ok-push.ensures.items
