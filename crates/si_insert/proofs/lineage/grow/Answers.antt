use Rattle.std.proofs.Common.{◌∙◌}
use Rattle.si_insert.proofs.LineageGrowth.{have_origins, inserts}
use Rattle.si_insert.proofs.lineage.grow.Goals as goal

pub origins_of-requires : goal.origins_of-requires
origins_of-requires c =
    have_origins c.args.graph.now.graph c.args.accepted.now c.as_slice.result.now c.args.origins.now
    c.requires.accepted.lawful (c.as_slice.ensures.value ∙ c.in_ok-graph.ensures.copies) c.requires.count

pub returns : goal.returns
returns c =
    inserts (record { coded = c.args.graph.now; origins = c.args.origins.now }) c.args.name.now c.args.accepted.now
    c.in_ok-graph.field-0.graph c.in_ok-origins.origins.items c.as_slice.result.now c.requires.accepted
    c.in_ok-graph.ensures.graph c.in_ok-origins.ensures (c.as_slice.ensures.value ∙ c.in_ok-graph.ensures.copies)
