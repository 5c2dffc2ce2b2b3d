use Rattle.std.proofs.Common.{◌∙◌, ap, arith, sym}
use Rattle.std.proofs.lemmas.Grind.{same_number_lists}
use Rattle.si_base.specs.Graph.{StateGraph}
use Rattle.si_base.proofs.CodesUnique.{code_unique}
use Rattle.si_graph.proofs.laws.codes_are_unique.Goals as goal

pub returns : goal.returns
returns _ c d is also same = same_number_lists c.codes d.codes
    (is.count ∙ ap (λ (g : StateGraph). g.states) same ∙ sym also.count)
    (λ s within. code_unique c d s is also same (omega (arith, is.count)))
