use Rattle.si_settled.proofs.ForcedLemmas.{enough}
use Rattle.si_settled.proofs.known.suffices.Goals as goal

pub returns : goal.returns
returns c signals marks =
    let e = enough c.args.netlist.now signals c.in_ok-known.known (c.in_ok-known.ensures signals marks) in
    let all = rw c.signals.ensures.signals at c.has_all.ensures in
    ((λ holds. e.0 (all.0 holds)), (λ suffices. all.1 (e.1 suffices)))
