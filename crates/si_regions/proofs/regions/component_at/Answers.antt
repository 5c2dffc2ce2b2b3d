use Rattle.si_regions.proofs.ComponentLemmas.{is_component, er_has}
use Rattle.si_regions.proofs.RegionsExist.{some_rest}
use Rattle.std.proofs.Common.{refl}
use Rattle.si_regions.proofs.regions.component_at.Goals as goal

pub returns-clause-component : goal.returns-clause-component
returns-clause-component c =
    let d = c.args.coded.now in
    let e = c.args.e.now in
    let reached = rw c.graph-g.ensures.same at c.in_ok-er.ensures.reached in
    let entered = rw c.as_slice.ensures.states at c.in_ok-sr.ensures in
    let excited = is_component d.graph e c.args.enabling.now c.args.s c.in_ok-er.er c.requires.enabling
    c.requires.here reached in
    let rest = some_rest d c.graph-g.ensures.coded e c.in_ok-er.er c.in_ok-sr.sr excited entered in
    (record { event = e; er = c.in_ok-er.er; sr = c.in_ok-sr.sr; qr = rest.0 }, rest.1, refl)

pub returns-clause-has : goal.returns-clause-has
returns-clause-has c =
    let reached = rw c.graph-g.ensures.same at c.in_ok-er.ensures.reached in
    er_has c.args.coded.now.graph c.args.e.now c.args.enabling.now c.args.s c.in_ok-er.er c.requires.enabling
    c.requires.here reached
