use Rattle.std.proofs.Common.{List, ℕ, subst, sym}
use Rattle.si_match.specs.Loops.Differences.{AreDifferences}
use Rattle.si_match.proofs.support.kept_signals.Goals as goal

pub kept_by_differences-requires-clause-differences : goal.kept_by_differences-requires-clause-differences
kept_by_differences-requires-clause-differences c =
    subst (λ (ds : List ℕ). AreDifferences c.args.coded.now c.args.z c.args.all c.args.triggers ds)
    (sym c.deref.ensures.value) c.in_ok-differences.ensures
