-- A fault of a check contradicts what the check asks for.
use Rattle.std.proofs.Common.{◌≡◌, refl, arith}
use Rattle.si_base.specs.Graph.{StateGraph}
use Rattle.si_base.specs.Codes.{CodedGraph}
use Rattle.si_base.specs.Proper.{IsProper, HasNoConflict}
use Rattle.si_graph.specs.declared.coded.CodeFault.{CodeFault}
use Rattle.si_graph.specs.declared.coded.CodeFault.TheVariants.{NoMemory, Nondeterministic, Inconsistent}
use Rattle.si_graph.specs.Faults.{ShowsUncoded}
use Rattle.si_checks.specs.declared.proper.Improper.{Improper}
use Rattle.si_checks.specs.declared.proper.Improper.TheVariants.{NoMemory as NoProper, Noncommutative, Nonpersistent}
use Rattle.si_checks.specs.declared.distinct.NotDistinct.{NotDistinct}
use Rattle.si_checks.specs.declared.distinct.NotDistinct.TheVariants.{NoMemory as NoDistinct, Conflict}
use Rattle.si_checks.specs.Faults.{ShowsImproper, ShowsConflict}

pub never_uncoded : (g : StateGraph) (fault : CodeFault) → IsProper g → ShowsUncoded g fault → fault ≡ NoMemory
never_uncoded g NoMemory is shown = refl
never_uncoded g (Nondeterministic s e t u) is shown =
    let same : t ≡ u = is.deterministic s e t u shown.holds.one shown.holds.other in
    absurd (omega (arith, shown.holds.apart, same))
never_uncoded g (Inconsistent a) is shown = absurd (shown.1.none (is.consistent a shown.1.within))

pub never_improper : (g : StateGraph) (fault : Improper) → IsProper g → ShowsImproper g fault → fault ≡ NoProper
never_improper g NoProper is shown = refl
never_improper g (Noncommutative s a c w w2) is shown =
    let one = shown.holds.one in
    let other = shown.holds.other in
    absurd (shown.holds.apart (is.commutative s a c one.0 w other.0 w2 one.1 one.2 other.1 other.2))
never_improper g (Nonpersistent s lost by) is shown =
    let loss = shown.1.holds in
    let after = loss.after in
    absurd (after.2 (is.persistent s lost by after.0 loss.non_input loss.enabled after.1 loss.by_another))

pub never_in_conflict : (c : CodedGraph) (fault : NotDistinct) → HasNoConflict c → ShowsConflict c fault
    → fault ≡ NoDistinct
never_in_conflict c NoDistinct none shown = refl
never_in_conflict c (Conflict p q) none shown = absurd (none (p, q) shown.holds)
