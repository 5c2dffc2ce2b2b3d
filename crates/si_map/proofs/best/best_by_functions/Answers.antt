use Rattle.std.proofs.Common.{subst, sym}
use Rattle.si_map.specs.Best.{IsBestPartition}
use Rattle.si_bounds.specs.Loops.Fitted.{AreFitted}
use Rattle.si_map.proofs.best.best_by_functions.Goals as goal

pub find_best-requires : goal.find_best-requires
find_best-requires c =
    subst (λ d. AreFitted d c.args.library.now c.args.fitted) (sym c.distinct-graph.ensures) c.requires

pub returns : goal.returns
returns c =
    subst (λ d. IsBestPartition d c.args.library.now c.in_ok-best.best) c.distinct-graph.ensures c.in_ok-best.ensures
