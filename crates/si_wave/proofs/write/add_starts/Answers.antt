use Rattle.std.proofs.Common.{ℕ, Bool, List, ◌++◌, ap, ◌∙◌}
use Rattle.si_base.specs.Words.{line}
use Rattle.si_wave.specs.Dump.{change_line}
use Rattle.si_wave.specs.Wave.{change_of}
use Rattle.si_wave.proofs.WriteLemmas.{starts_more}
use Rattle.si_wave.proofs.write.add_starts.Goals as goal

pub loop-i-preserved : goal.loop-i-preserved
loop-i-preserved c =
    let i = c.loop-i.i in
    let with_value : Bool → List ℕ = λ value. c.loop-i.text ++ line (change_line (change_of i value)) in
    starts_more c.args.signals.now c.args.values i c.args.text.now c.loop-i.text c.add_change.new.text
    c.loop-i-test.true c.loop-i.invariant (c.in_ok-add_change.ensures ∙ ap with_value c.get.ensures)
