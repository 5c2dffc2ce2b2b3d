use Rattle.std.proofs.Common.{◌≡◌, ◌∙◌, List, ℕ, ap}
use Rattle.std.proofs.lemmas.Result.{IfOk-weaker}
use Rattle.si_base.specs.Netlist.{Netlist}
use Rattle.si_base.specs.NetlistText.{netlist_text}
use Rattle.si_circuit.specs.Circuits.{circuit_of}
use Rattle.si_stages.proofs.synth.gates_text.Goals as goal

pub returns : goal.returns
returns c =
    let a = c.args in
    let netlist : c.netlist.result.now ≡ circuit_of a.style a.model.now a.states.now a.resolved =
    c.netlist.ensures.same ∙ c.in-Ok.ensures.netlist in
    IfOk-weaker c.write_netlist.result
    (λ (text : List ℕ). text ≡ netlist_text c.netlist.result.now)
    (λ (text : List ℕ). text ≡ netlist_text (circuit_of a.style a.model.now a.states.now a.resolved))
    (λ text is. is ∙ ap (λ (n : Netlist). netlist_text n) netlist)
    c.write_netlist.ensures
