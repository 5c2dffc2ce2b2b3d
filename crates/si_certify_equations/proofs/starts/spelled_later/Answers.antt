use Rattle.std.proofs.Common.{arith}
use Rattle.si_certify_equations.proofs.StartsLemmas.{none_after, refused}
use Rattle.si_certify_equations.proofs.starts.spelled_later.Goals as goal

-- ---- nor with one number more
pub loop-values-preserved : goal.loop-values-preserved
loop-values-preserved c =
    let unfit = refused c.in_ok-text.field-0 c.in-Err.field-0 c.in-Err.is c.in_ok-text.ensures.unfit in
    record {
      some = omega (arith, c.loop-values.invariant.some);
      none = none_after c.args.graph.now c.args.netlist.now c.loop-values.values c.loop-values.invariant.none unfit;
    }
