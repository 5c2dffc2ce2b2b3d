use Rattle.std.proofs.Common.{◌≡◌, ◌∙◌, ℕ, ap, ap₂}
use Rattle.si_base.specs.Codes.{CodedGraph}
use Rattle.si_base.specs.Graph.{StateGraph}
use Rattle.std.proofs.lemmas.Result.{IfOk-weaker}
use Rattle.si_likeness.specs.Same.{TellsSame, same_text}
use Rattle.si_likeness.proofs.SameLemmas.{other_size}
use Rattle.si_likeness.proofs.same.sizes_of.Goals as goal

pub returns : goal.returns
returns c =
    let folded = c.in_ok-folded in
    let one_is = c.states-one_states.ensures ∙ ap (λ (g : StateGraph). g.states) c.graph.ensures.same
    ∙ ap (λ (d : CodedGraph). d.graph.states) c.coded.ensures.same in
    let other_is = c.states-other_states.ensures ∙ ap (λ (g : StateGraph). g.states) c.graph-2.ensures.same
    ∙ ap (λ (d : CodedGraph). d.graph.states) c.coded-2.ensures.same in
    let one_coded = rw c.coded.ensures.same at c.graph.ensures.coded in
    let other_coded = rw c.coded-2.ensures.same at c.graph-2.ensures.coded in
    IfOk-weaker c.same_text.result
    (λ text. text ≡ same_text c.states-one_states.result folded.folded c.states-other_states.result folded.folded)
    (λ text. TellsSame c.args.one.now c.args.other.now text)
    (λ text is. record {
      alike = c.requires.alike;
      one_folded = folded.folded;
      other_folded = folded.folded;
      one = folded.ensures;
      other = other_size c.args.one.now c.args.other.now folded.folded one_coded other_coded c.requires folded.ensures;
      output_is = is
          ∙ ap₂ (λ (m n : ℕ). same_text m folded.folded n folded.folded) one_is other_is;
    })
    c.same_text.ensures
