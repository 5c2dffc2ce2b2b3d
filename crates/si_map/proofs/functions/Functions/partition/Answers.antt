use Rattle.std.proofs.Common.{sym, subst}
use Rattle.si_divisor.specs.Functions.{Computes}
use Rattle.si_map.proofs.functions.Functions.partition.Goals as goal

pub returns-clause-answer : goal.returns-clause-answer
returns-clause-answer c value computes =
    let f = c.args.function.now in
    c.in_ok-found.ensures f value (subst (λ g. Computes g value) (sym (c.in_ok-place.ensures.function f)) computes)
