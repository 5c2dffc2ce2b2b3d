use Rattle.std.proofs.Common.{subst}
use Rattle.si_regions.specs.Regions.{IsSetOf, IsEntered}
use Rattle.si_regions.specs.declared.regions.Component.{Component}
use Rattle.si_regions.proofs.ComponentLemmas.{entered_within}
use Rattle.si_regions.proofs.RegionComponents.{with_rests}
use Rattle.si_regions.proofs.StateLists.{all_below}
use Rattle.si_regions.proofs.regions.region_of.Goals as goal

pub reached-requires-clause-seeds : goal.reached-requires-clause-seeds
reached-requires-clause-seeds c =
    let g = c.args.coded.now.graph in
    let x = c.args.component in
    let (r, is, same) = c.requires.component in
    let switched = subst (λ (y : Component). IsSetOf (IsEntered g y.er y.event) y.sr) same is.switched in
    rw c.graph-g.ensures.same (all_below c.as_slice.result.now x.sr g.states c.as_slice.ensures.states
    (λ t there. entered_within g x.er x.event x.sr t c.graph-g.ensures.coded.graph_is switched there))

pub returns-clause-region : goal.returns-clause-region
returns-clause-region c =
    let x = c.args.component in
    let reached = rw (c.graph-g.ensures.same, c.as_slice.ensures.states) at c.in_ok-qr.ensures.reached in
    with_rests c.args.coded.now x c.args.rests.now.states c.in_ok-qr.qr c.graph-g.ensures.coded.graph_is
    c.requires.component c.requires.rests reached
