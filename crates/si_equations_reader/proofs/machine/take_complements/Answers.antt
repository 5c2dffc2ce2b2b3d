use Rattle.std.proofs.Common.{List, [], reverse, sym, ap, ◌∙◌}
use Rattle.si_genlib.specs.Expression.{begins_complement}
use Rattle.si_equations_reader.specs.Loops.Machine.{operators_now}
use Rattle.si_equations_reader.specs.declared.machine.Operator.{Operator}
use Rattle.si_equations_reader.proofs.MachineLemmas.{one_taken, popped_complement, all_taken}
use Rattle.si_equations_reader.proofs.machine.take_complements.Goals as goal

pub loop-unfinished-preserved : goal.loop-unfinished-preserved
loop-unfinished-preserved c =
    let begins = ap (λ (ops : List Operator). begins_complement (operators_now [] (reverse ops)))
    (sym c.deref.ensures.value) ∙ sym c.ends_in_complement.ensures ∙ c.loop-unfinished-test.true in
    let first = popped_complement (reverse c.loop-unfinished.unfinished.items)
    (reverse c.pop-last.new.unfinished.items) c.pop-last.result begins c.pop-last.ensures in
    one_taken c.args.steps.now.items c.loop-unfinished.steps.items c.emit.new.steps.items
    (reverse c.args.unfinished.now.items) (reverse c.loop-unfinished.unfinished.items)
    (reverse c.pop-last.new.unfinished.items) c.loop-unfinished.invariant first c.in_ok-emit.ensures

pub returns : goal.returns
returns c =
    let none = ap (λ (ops : List Operator). begins_complement (operators_now [] (reverse ops)))
    (sym c.deref.ensures.value) ∙ sym c.ends_in_complement.ensures ∙ c.loop-unfinished-test.false in
    let all = all_taken c.args.steps.now.items c.loop-unfinished.steps.items (reverse c.args.unfinished.now.items)
    (reverse c.loop-unfinished.unfinished.items) c.loop-unfinished.invariant none in
    record {
      last = λ ts. (all ts).0;
      before = c.loop-unfinished.invariant.same_before;
      rest = λ ts. (all ts).1;
    }
