-- Where the best candidate leaves no fewer conflicts, the graph is stuck at its first one.
use Rattle.std.proofs.Common.{◌≡◌, ℕ, subst}
use Rattle.si_base.specs.Codes.{CodedGraph}
use Rattle.si_checks.specs.declared.distinct.NotDistinct.{NotDistinct}
use Rattle.si_checks.specs.declared.distinct.NotDistinct.TheVariants.{Conflict}
use Rattle.si_checks.specs.Faults.{ShowsConflict}
use Rattle.si_resolve.specs.Best.{NoneImproves, IsStuck}
use Rattle.si_resolve.proofs.OneBest.{none_improves_is_stuck}

pub stuck_at : (c : CodedGraph) (fault : NotDistinct) (p q : ℕ) → fault ≡ Conflict p q → ShowsConflict c fault
    → NoneImproves c → IsStuck c (p, q)
stuck_at c fault p q is shows none = record {
  conflict = subst (ShowsConflict c) is shows;
  no_better = λ x n best counted. none_improves_is_stuck c x n none best counted;
}
