use Rattle.std.proofs.Common.{◌+◌, List, sym, subst}
use Rattle.si_cell.specs.Library.{IsInstance}
use Rattle.si_divisor.specs.declared.function.Function.{Function}
use Rattle.si_map.specs.Loops.Functions.{AreFunctions}
use Rattle.si_map.proofs.DivisorFunctions.{one_function}
use Rattle.si_map.proofs.functions.functions_of.Goals as goal

pub loop-divisor-preserved : goal.loop-divisor-preserved
loop-divisor-preserved c =
    let library = c.args.library.now in
    let divisors = c.args.divisors.now in
    let count = c.loop-divisor.divisor-index in
    let divisor = c.divisor-item.result in
    let instance = subst (IsInstance library) (sym c.divisor-item.is)
    (c.requires count divisor c.loop-divisor-test.true) in
    subst (λ (fs : List Function). AreFunctions library divisors (count + 1) fs) (sym c.in_ok-push.ensures.items)
    (one_function library divisors count divisor c.function_of.result c.loop-divisor.functions.items
    c.loop-divisor-test.true c.divisor-item.is instance c.function_of.ensures c.loop-divisor.invariant)
