use Rattle.std.proofs.Common.{sym, subst, ◌∙◌}
use Rattle.si_systems.specs.Loops.Parts.{sgs_now}
use Rattle.si_systems.specs.Names as meaning
use Rattle.si_systems.specs.Names.{IsTupleOf}
use Rattle.si_systems.proofs.ListSteps.{distinct_more}
use Rattle.si_systems.proofs.TupleNames.{names_apart, tuple_at}
use Rattle.si_systems.proofs.names.tuple_names.Goals as goal

pub tuple_name-requires : goal.tuple_name-requires
tuple_name-requires c =
    let sgs = sgs_now c.args.given.now in
    subst (IsTupleOf sgs) (sym c.tuple-item.is)
    (tuple_at sgs c.args.tuples.now c.loop-tuple.tuple-index c.tuple-item.result c.requires.tuples
    c.loop-tuple-test.true)

pub loop-tuple-preserved : goal.loop-tuple-preserved
loop-tuple-preserved c =
    let sgs = sgs_now c.args.given.now in
    let tuples = c.args.tuples.now in
    distinct_more (meaning.tuple_name sgs) tuples c.loop-tuple.tuple-index c.tuple-item.result c.bytes.result.now _ _
    (names_apart sgs tuples c.requires.given c.requires.tuples c.requires.distinct) c.loop-tuple-test.true
    c.tuple-item.is (c.bytes.ensures ∙ c.in_ok-name.ensures) c.loop-tuple.invariant c.in-Ok.ensures.new
