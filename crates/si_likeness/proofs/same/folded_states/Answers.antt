use Rattle.std.proofs.Common.{◌∙◌, ap}
use Rattle.si_base.specs.Codes.{CodedGraph}
use Rattle.si_base.specs.Graph.{StateGraph}
use Rattle.si_likeness.proofs.same.folded_states.Goals as goal

pub returns : goal.returns
returns c =
    let folded = c.in_ok-folded.folded in
    record {
      kept = folded.kept.items;
      class = folded.class.items;
      folded = folded.graph;
      is = c.in_ok-folded.ensures;
      count_is = c.states.ensures ∙ ap (λ (g : StateGraph). g.states) c.graph.ensures.same
          ∙ ap (λ (d : CodedGraph). d.graph.states) c.coded.ensures.same;
    }
