use Rattle.std.proofs.Common.{arith, ap}
use Rattle.si_base.specs.Codes.{CodedGraph}
use Rattle.si_base.specs.Graph.{StateGraph}
use Rattle.si_resolve.proofs.search.copies.Goals as goal

pub returns : goal.returns
returns c =
    let same = ap (λ (g : StateGraph). g.states) c.graph.ensures.same in
    let given = ap (λ (d : CodedGraph). d.graph.states) c.coded.ensures.same in
    omega (arith, c.count.ensures, c.count-2.ensures, same, given)
