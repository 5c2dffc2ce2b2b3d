use Rattle.si_genlib.specs.Loops.Tables.{table_value}
use Rattle.si_genlib.proofs.DemandLemmas.{code_fits, one_required, one_forbidden}
use Rattle.si_genlib.proofs.demand.demand_of.Goals as goal
use Rattle.si_genlib.proofs.demand.demand_of.Goals.{then-value+in_ok-push, else-value+in_ok-push-2}

pub value-requires-clause-fits : goal.value-requires-clause-fits
value-requires-clause-fits c = code_fits c.args.bits c.args.count c.loop-code.code c.requires.few
    c.requires.width c.loop-code-test.true

pub loop-code-preserved : goal.loop-code-preserved
loop-code-preserved c = elim c.if-value.branch [
  | then-value+in_ok-push w ↦
      rw (w.required-is, w.forbidden-is, w.in_ok-push.ensures.items, w.from.ensures)
      (one_required
      (table_value c.args.count c.args.table) c.loop-code.code c.loop-code.required.items c.loop-code.forbidden.items
      c.loop-code.invariant w.if-value.ensures)
  | else-value+in_ok-push-2 w ↦
      rw (w.required-is, w.forbidden-is, w.in_ok-push-2.ensures.items, w.from-else-value.ensures)
      (one_forbidden
      (table_value c.args.count c.args.table) c.loop-code.code c.loop-code.required.items c.loop-code.forbidden.items
      c.loop-code.invariant w.if-value.ensures)
]
