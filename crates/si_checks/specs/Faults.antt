-- (field) What the faults of the checks show of a coded graph.
use Rattle.si_base.specs.Graph.{StateGraph}
use Rattle.si_base.specs.Order.{IsFirst}
use Rattle.si_base.specs.Codes.{CodedGraph}
use Rattle.si_base.specs.Proper.{Forks, fork_place, Loses, loss_place, IsCommutative, IsConflict}
use Rattle.si_base.specs.Proper.{pair_place}
use Rattle.si_checks.specs.declared.breaches.Breach.{Breach}
use Rattle.si_checks.specs.declared.breaches.Breach.TheVariants.{Fork as AsFork, Loss as AsLoss}
use Rattle.si_checks.specs.declared.proper.Improper.{Improper}
use Rattle.si_checks.specs.declared.proper.Improper.TheVariants.{NoMemory as NoProper}
use Rattle.si_checks.specs.declared.proper.Improper.TheVariants.{Noncommutative, Nonpersistent}
use Rattle.si_checks.specs.declared.distinct.NotDistinct.{NotDistinct}
use Rattle.si_checks.specs.declared.distinct.NotDistinct.TheVariants.{NoMemory as NoDistinct}
use Rattle.si_checks.specs.declared.distinct.NotDistinct.TheVariants.{Conflict}

-- what is told of a breach
abbrev pub told_breach : Breach → Improper
told_breach (AsFork b) = Noncommutative b.s b.a b.c b.w b.w2
told_breach (AsLoss b) = Nonpersistent b.s b.lost b.by

abbrev pub ShowsImproper : StateGraph → Improper → Type 0
ShowsImproper g NoProper = Unit {0}
ShowsImproper g (Noncommutative s a c w w2) =
    IsFirst fork_place (Forks g) (record { s = s; a = a; c = c; w = w; w2 = w2 })
ShowsImproper g (Nonpersistent s lost by) =
    IsCommutative g × IsFirst loss_place (Loses g) (record { s = s; lost = lost; by = by })

abbrev pub ShowsConflict : CodedGraph → NotDistinct → Type 0
ShowsConflict c NoDistinct = Unit {0}
ShowsConflict c (Conflict p q) = IsFirst pair_place (IsConflict c) (p, q)
