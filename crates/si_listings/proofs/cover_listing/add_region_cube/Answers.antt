use Rattle.std.proofs.Common.{◌≡◌, ◌∙◌, ap}
use Rattle.std.proofs.lemmas.Result.{on_ok_weaker}
use Rattle.si_base.specs.Codes.{CodedGraph}
use Rattle.si_base.specs.Graph.{StateGraph}
use Rattle.si_checks.specs.Loops.Lent.{coded_of}
use Rattle.si_listings.specs.CoverText.{LeastCube, NoCube}
use Rattle.si_listings.proofs.CoverLemmas.{told_by_call}
use Rattle.si_listings.proofs.cover_listing.add_region_cube.Goals as goal

pub returns-in-Ok : goal.returns-in-Ok
returns-in-Ok c =
    let k = coded_of c.args.graph in
    let signals : c.signals-signals.result.now ≡ k.graph.signals =
    c.signals-signals.ensures ∙ ap (λ (g : StateGraph). g.signals) (c.graph.ensures.same
    ∙ ap (λ (d : CodedGraph). d.graph) (c.coded.ensures.same ∙ c.proper.ensures.same)) in
    on_ok_weaker c.add_least.result (λ left told is. told_by_call k c.args.region.now c.args.states.now
    c.signals-signals.result.now (LeastCube c.in-Ok.cube) told c.args.text.now c.add_least.new.text c.requires.region
    signals (c.in-Ok.ensures.cube, c.add_least.ensures.in_order) is left) c.add_least.ensures.words

pub returns-in-Err : goal.returns-in-Err
returns-in-Err c =
    let k = coded_of c.args.graph in
    let signals : c.signals-signals.result.now ≡ k.graph.signals =
    c.signals-signals.ensures ∙ ap (λ (g : StateGraph). g.signals) (c.graph.ensures.same
    ∙ ap (λ (d : CodedGraph). d.graph) (c.coded.ensures.same ∙ c.proper.ensures.same)) in
    on_ok_weaker c.add_none.result (λ left told is. told_by_call k c.args.region.now c.args.states.now
    c.signals-signals.result.now (NoCube c.in-Err.none.state) told c.args.text.now c.add_none.new.text c.requires.region
    signals c.in-Err.ensures.none is left) c.add_none.ensures
