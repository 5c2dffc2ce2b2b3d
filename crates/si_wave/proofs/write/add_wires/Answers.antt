use Rattle.std.proofs.Common.{ℕ, List, ◌++◌, ap, ◌∙◌}
use Rattle.si_base.specs.Words.{line}
use Rattle.si_wave.specs.Dump.{wire_line}
use Rattle.si_wave.specs.Wave.{wire_code}
use Rattle.si_wave.proofs.WriteLemmas.{wires_more}
use Rattle.si_wave.proofs.write.add_wires.Goals as goal

pub loop-i-preserved : goal.loop-i-preserved
loop-i-preserved c =
    let i = c.loop-i.i in
    let with_name : List ℕ → List ℕ =
    λ name. c.loop-i.text ++ line (wire_line (record { code = wire_code i; name = name })) in
    wires_more c.args.signals.now i c.index-signals-i.result c.args.text.now c.loop-i.text c.add_wire.new.text
    c.loop-i-test.true c.loop-i.invariant (c.in_ok-add_wire.ensures ∙ ap with_name c.bytes.ensures)
