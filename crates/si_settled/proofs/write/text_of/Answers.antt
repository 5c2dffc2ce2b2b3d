use Rattle.std.proofs.Common.{◌≡◌, ◌∙◌, ap, length, sym}
use Rattle.std.proofs.lemmas.List.{length-map}
use Rattle.si_netlist.specs.Loops.Parts.{gate_seen}
use Rattle.si_settled.proofs.TextLemmas.{reset_by_calls}
use Rattle.si_settled.proofs.write.text_of.Goals as goal

pub returns : goal.returns
returns c =
    let n = c.args.netlist.now in
    let gates = c.gates.result.now in
    let count : length gates ≡ length n.gates = sym (length-map gates gate_seen) ∙ ap length c.gates.ensures in
    reset_by_calls n c.args.settling.now c.args.forced.now (length gates) c.signals-signals.result.now c.start.result
    _ _ _ _ count c.signals-signals.ensures.signals c.start.ensures c.in_ok-text.ensures c.in_ok-add_number.ensures
    c.in_ok-add_signals.ensures c.in_ok-add_forces.ensures
