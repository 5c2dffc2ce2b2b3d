use Rattle.std.proofs.Common.{◌≡◌, ◌<◌, length, sym, ap, ◌∙◌, arith}
use Rattle.std.proofs.lemmas.Option.{slice_get_within}
use Rattle.si_base.specs.declared.graph.Signal.{Signal}
use Rattle.si_base.specs.Graph.{StateGraph}
use Rattle.si_audit.proofs.LastBuilt.{gives_if_none}
use Rattle.si_finder.proofs.unbuilt.first_wrong.Goals as goal

pub returns : goal.returns
returns c =
    gives_if_none c.args.coded.now c.args.netlist.now (λ x wrong. c.loop-z.invariant x (
    let graph : c.graph-graph.result.now.signals ≡ c.args.coded.now.graph.signals =
    ap (λ (g : StateGraph). g.signals) c.graph-graph.ensures.same in
    let size : length c.signals-z-end.result.now ≡ length c.args.netlist.now.signals =
    ap (length {A = Signal}) (c.signals-z-end.ensures ∙ graph ∙ sym c.requires) in
    let within : x.sig < length c.args.netlist.now.signals =
    slice_get_within c.args.netlist.now.signals x.sig wrong.gate.0 wrong.gate.1 in
    omega (arith, within, size, c.loop-z-test.false)) wrong)
