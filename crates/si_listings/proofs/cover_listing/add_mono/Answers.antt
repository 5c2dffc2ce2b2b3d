use Rattle.std.proofs.Common.{◌≡◌, ◌<◌, ◌∙◌, List, length, ap, sym, subst}
use Rattle.std.proofs.lemmas.Result.{on_ok_weaker}
use Rattle.si_base.specs.declared.graph.Signal.{Signal}
use Rattle.si_base.specs.Codes.{CodedGraph, IsCoded}
use Rattle.si_base.specs.Graph.{StateGraph}
use Rattle.si_checks.specs.Loops.Lent.{coded_of}
use Rattle.si_listings.proofs.CoverLemmas.{mono_by_calls}
use Rattle.si_listings.proofs.NumberLemmas.{event_within}
use Rattle.si_listings.proofs.cover_listing.add_mono.Goals as goal

pub add_event-requires : goal.add_event-requires
add_event-requires c =
    let k = coded_of c.args.graph in
    let coded_is = c.coded.ensures.same ∙ c.proper.ensures.same in
    let signals : c.signals-signals.result.now ≡ k.graph.signals =
    c.signals-signals.ensures ∙ ap (λ (g : StateGraph). g.signals) (c.graph.ensures.same
    ∙ ap (λ (d : CodedGraph). d.graph) coded_is) in
    let coded : IsCoded k = subst IsCoded coded_is c.graph.ensures.coded in
    subst (λ (l : List Signal). c.args.region.now.event.sig < length l) (sym signals)
    (event_within k c.args.region.now coded c.requires.region)

pub returns : goal.returns
returns c =
    let k = coded_of c.args.graph in
    let signals : c.signals-signals.result.now ≡ k.graph.signals =
    c.signals-signals.ensures ∙ ap (λ (g : StateGraph). g.signals) (c.graph.ensures.same
    ∙ ap (λ (d : CodedGraph). d.graph) (c.coded.ensures.same ∙ c.proper.ensures.same)) in
    let event = rw signals at c.in_ok-add_event.ensures in
    on_ok_weaker c.add-2.result
    (λ last told is. mono_by_calls c.args.text.now k.graph.signals c.args.states.now c.args.number
    c.args.region.now told c.as_bytes.result.now _ _ _ _ _ (c.as_bytes.ensures.value ∙ c.in-Ok.ensures.ok)
    c.in_ok-add.ensures.added event c.in_ok-add_word.ensures (c.in_ok-add_region_cube.ensures told is) last)
    c.add-2.ensures.added
