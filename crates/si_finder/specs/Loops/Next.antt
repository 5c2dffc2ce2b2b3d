-- What becomes of the next hidden signal.
use Rattle.std.specs.Prelude.{◌≡◌, ℕ, Bool, List}
use Rattle.si_base.specs.Graph.{StateGraph}
use Rattle.si_base.specs.Netlist.{Netlist}
use Rattle.si_insert.specs.declared.accept.Rejected.{Rejected}
use Rattle.si_insert.specs.declared.partition.Class.{Class}
use Rattle.si_insert.specs.Accepted.{IsAccepted, ShowsRejected}
use Rattle.si_insert.specs.Lineage.{Current}
use Rattle.si_candidates.specs.declared.classes.ClassFault.{ClassFault}
use Rattle.si_candidates.specs.declared.classes.ClassFault.TheVariants.{NoClasses}
use Rattle.si_candidates.specs.Parts.{AreClasses}
use Rattle.si_certified.specs.Sets.{AreSwitchSets}
use Rattle.si_finder.specs.declared.next.Next.{Next}
use Rattle.si_finder.specs.declared.next.Next.TheVariants.{Found, Stopped}
use Rattle.si_finder.specs.declared.not_found.Obstacle.TheVariants.{Classes, Refused}
use Rattle.si_finder.specs.NotFound.{Hinders, IsObstacle}

-- the classes are accepted, or refused
abbrev pub IsJudged : StateGraph → List Class → Next → Type 0
IsJudged g classes (Found accepted) = (accepted ≡ classes) × IsAccepted g accepted
IsJudged g classes (Stopped why) =
    (reason : Rejected) × (why ≡ Refused reason) × ShowsRejected g classes reason

-- it is told of which state the part is both High and Low
abbrev pub IsTorn : ClassFault → Next → Type 0
IsTorn fault next = (s : ℕ) × (fault ≡ NoClasses s) × (next ≡ Stopped (Classes s))

-- the sets have accepted classes, or there is an obstacle
abbrev pub IsDecided : StateGraph → (plus minus : List Bool) → Next → Type 0
IsDecided g plus minus (Found classes) = AreClasses g plus minus classes × IsAccepted g classes
IsDecided g plus minus (Stopped why) = IsObstacle g plus minus why

-- accepted classes, which the gate tells
pub record TellsClasses (g : StateGraph) (n : Netlist) (v : Current) (classes : List Class)
    : Type 0 where
  pub plus : List Bool
  pub minus : List Bool
  pub sets : AreSwitchSets g n v plus minus
  pub parted : AreClasses v.coded.graph plus minus classes
  pub accepted : IsAccepted v.coded.graph classes

abbrev pub IsNextFor : StateGraph → Netlist → Current → Next → Type 0
IsNextFor g n v (Found classes) = TellsClasses g n v classes
IsNextFor g n v (Stopped why) = Hinders g n v why
