use Rattle.std.proofs.Common.{◌∙◌}
use Rattle.std.proofs.lemmas.Result.{IfOk-weaker}
use Rattle.si_settled.proofs.ForcedLemmas.{settling_by}
use Rattle.si_settled.proofs.forced.settling.Goals as goal

pub returns : goal.returns
returns c = IfOk-weaker c.those_of.result _ _
    (λ v are. settling_by c.args.netlist.now c.as_slice.result.now c.as_slice-2.result.now v.items c.marks.result
    c.in_ok-known.known (c.as_slice.ensures.value ∙ c.in_ok-inputs.ensures.inputs) c.marks.ensures c.in_ok-known.ensures
    (c.as_slice-2.ensures.value ∙ c.in_ok-gates.ensures.signals) are)
    c.those_of.ensures
