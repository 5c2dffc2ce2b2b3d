use Rattle.std.proofs.Common.{ap, arith, length}
use Rattle.si_insert.specs.declared.lineage.TraceStep.{TraceStep}
use Rattle.si_circuit.proofs.SpellingWord.{few_insertions}
use Rattle.si_certify.proofs.reasons.turn.Goals as goal

pub overflow_cast-result : goal.overflow_cast-result
overflow_cast-result c =
    let l = c.args.lineage.now in
    let few = few_insertions l c.trace.ensures.made in
    omega (arith, few, ap (length {A = TraceStep}) c.trace.ensures.same)

pub overflow_add-result : goal.overflow_add-result
overflow_add-result c =
    let l = c.args.lineage.now in
    let few = few_insertions l c.trace.ensures.made in
    omega (arith, few, ap (length {A = TraceStep}) c.trace.ensures.same)
