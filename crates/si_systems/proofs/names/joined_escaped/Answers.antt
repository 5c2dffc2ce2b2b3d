use Rattle.std.proofs.Common.{◌<◌, map, arith, length, sym}
use Rattle.std.proofs.lemmas.List.{length-map}
use Rattle.std.proofs.lemmas.Option.{get_or_from_slice_get}
use Rattle.si_systems.specs.Names.{escaped}
use Rattle.si_systems.proofs.ListSteps.{joined_more, mapped_at}
use Rattle.si_systems.proofs.names.joined_escaped.Goals as goal

pub loop-k-preserved : goal.loop-k-preserved
loop-k-preserved c =
    let k = c.loop-k.k in
    let names = c.args.names.now in
    let name = c.get.result.now in
    let many = length-map names escaped in
    let below : k < length names = omega (arith, c.loop-k-test.true, c.len-k-end.ensures) in
    let at = mapped_at escaped names k name below (sym (get_or_from_slice_get names k name name c.get.ensures)) in
    joined_more (map escaped names) k (escaped name) _ _ _ (omega (arith, many, below)) at
    c.loop-k.invariant c.in_ok-add_bar.ensures.first c.in_ok-add_bar.ensures.later c.in_ok-add_escaped.ensures
