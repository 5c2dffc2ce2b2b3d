use Rattle.std.proofs.Common.{length, ap, arith}
use Rattle.si_circuit.proofs.SpellingWord.{few_insertions}
use Rattle.si_insert.specs.declared.lineage.TraceStep.{TraceStep}
use Rattle.si_joins.proofs.refused.next_number.Goals as goal

pub overflow_cast-result : goal.overflow_cast-result
overflow_cast-result c =
    let few = few_insertions c.args.lineage.now c.trace-inserted.ensures.made in
    let same = ap (length {A = TraceStep}) c.trace-inserted.ensures.same in
    omega (arith, few, same)

pub overflow_add-result : goal.overflow_add-result
overflow_add-result c =
    let few = few_insertions c.args.lineage.now c.trace-inserted.ensures.made in
    let same = ap (length {A = TraceStep}) c.trace-inserted.ensures.same in
    omega (arith, few, same)
