use Rattle.std.proofs.Common.{ℕ, List, map, arith, ap, ◌∙◌, ◌++◌}
use Rattle.std.proofs.lemmas.List.{length-map}
use Rattle.si_base.specs.GivenGraph.{Sg}
use Rattle.si_sg.specs.GivenGraph.{sg_now}
use Rattle.si_systems.specs.Loops.Parts.{sgs_now}
use Rattle.si_systems.proofs.ListSteps.{joined_more, mapped_at}
use Rattle.si_systems.proofs.names.joined_model.Goals as goal

pub loop-k-preserved : goal.loop-k-preserved
loop-k-preserved c =
    let k = c.loop-k.k in
    let model : Sg → List ℕ = λ g. g.model in
    let sgs = sgs_now c.args.given.now in
    let many = length-map c.args.given.now sg_now in
    let models = length-map sgs model in
    let sg = c.index-given-k.result in
    let at = mapped_at model sgs k (sg_now sg) (omega (arith, many, c.loop-k-test.true))
    (mapped_at sg_now c.args.given.now k sg c.loop-k-test.true c.index-given-k.is) in
    joined_more (map model sgs) k sg.model _ _ _ (omega (arith, many, models, c.loop-k-test.true)) at c.loop-k.invariant
    c.in_ok-add_bar.ensures.first c.in_ok-add_bar.ensures.later
    (c.in_ok-add.ensures.added ∙ ap (λ (w : List ℕ). c.add_bar.new.text ++ w) c.bytes.ensures)
