use Rattle.std.proofs.lemmas.List.Edits.{map_over_more}
use Rattle.si_loops.specs.Loops.Paths.{led_on}
use Rattle.si_loops.proofs.paths.lead_on.Goals as goal

pub loop-s-preserved : goal.loop-s-preserved
loop-s-preserved c = rw c.led_on.ensures
    (map_over_more (led_on c.args.from c.index-words-to.result) c.args.words.now c.loop-s.words c.loop-s.s
    c.index-words-s.result c.loop-s-test.true c.loop-s.invariant c.index-words-s.is)
