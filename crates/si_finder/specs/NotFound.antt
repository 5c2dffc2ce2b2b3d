-- (field) Why no lineage fits a netlist, as its gates tell: the first reason that applies.
use Rattle.std.specs.Prelude.{◌≡◌, ℕ, ◌<◌, Bool, List, [], ◌∷◌, length}
use Rattle.si_base.specs.Codes.{CodedGraph, code}
use Rattle.si_base.specs.Graph.{StateGraph}
use Rattle.si_base.specs.Netlist.{Netlist}
use Rattle.si_base.specs.Order.{IsFirst}
use Rattle.si_base.specs.Sets.{IsDisjoint, IsIn}
use Rattle.si_insert.specs.declared.partition.Class.{Class}
use Rattle.si_insert.specs.Accepted.{ShowsRejected}
use Rattle.si_insert.specs.Lineage.{Current, History}
use Rattle.si_candidates.specs.Parts.{AreClasses, IsFirstWithBothLevels}
use Rattle.si_audit.specs.Faults.{IsWrong, StartsOtherwise, signal_place, spot_place}
use Rattle.si_found.specs.Found.{IsFoundTrace}
use Rattle.si_certified.specs.Sets.{AreSwitchSets}
use Rattle.si_reached.specs.Laws.{AreTold}
use Rattle.si_reached.specs.Reached.{IsFirstAstray, ReachesMany}
use Rattle.si_reached.specs.declared.state.Reached.{Reached}
use Rattle.si_finder.specs.declared.not_found.Difference.{Difference}
use Rattle.si_finder.specs.declared.not_found.Difference.TheVariants.{Start, Gate}
use Rattle.si_finder.specs.declared.not_found.NotFound.{NotFound}
use Rattle.si_finder.specs.declared.not_found.NotFound.TheVariants.{NoMemory, TooMany, Astray}
use Rattle.si_finder.specs.declared.not_found.NotFound.TheVariants.{Hindered, Unbuilt}
use Rattle.si_finder.specs.declared.not_found.Obstacle.{Obstacle}
use Rattle.si_finder.specs.declared.not_found.Obstacle.TheVariants.{NeverUp, NeverDown, Both}
use Rattle.si_finder.specs.declared.not_found.Obstacle.TheVariants.{Classes, Refused}

-- ---- one insertion
-- a signal with these sets rises somewhere, falls somewhere, and nowhere both
pub record SwitchesBothWays (plus minus : List Bool) : Type 0 where
  pub rises : (s : ℕ) × IsIn plus s
  pub falls : (s : ℕ) × IsIn minus s
  pub apart : IsDisjoint plus minus

-- why a signal that rises and falls over these sets can't be inserted; the reasons stand in their
-- order
abbrev pub IsObstacle : StateGraph → (plus minus : List Bool) → Obstacle → Type 0
IsObstacle g plus minus NeverUp = (s : ℕ) → IsIn plus s → ⊥
IsObstacle g plus minus NeverDown = ((s : ℕ) × IsIn plus s) × ((s : ℕ) → IsIn minus s → ⊥)
IsObstacle g plus minus (Both s) = ((t : ℕ) × IsIn plus t) × ((t : ℕ) × IsIn minus t)
    × IsFirst (λ t. t ∷ []) (λ t. IsIn plus t × IsIn minus t) s
IsObstacle g plus minus (Classes s) =
    SwitchesBothWays plus minus × IsFirstWithBothLevels g plus minus s
IsObstacle g plus minus (Refused why) = SwitchesBothWays plus minus
    × ((classes : List Class) × AreClasses g plus minus classes × ShowsRejected g classes why)

-- the gate of the next hidden signal tells sets by which it can't be inserted into v
pub record Hinders (g : StateGraph) (n : Netlist) (v : Current) (why : Obstacle) : Type 0 where
  pub plus : List Bool
  pub minus : List Bool
  pub sets : AreSwitchSets g n v plus minus
  pub shows : IsObstacle v.coded.graph plus minus why

-- ---- all insertions
-- l begins with c, and its insertions are told by the gates
pub record IsFound (c : CodedGraph) (n : Netlist) (l : History) : Type 0 where
  pub given_is : l.given ≡ c
  pub trace : IsFoundTrace c n l.trace l.current

-- the insertions of l are found, and one of the next hidden signal isn't
pub record IsHindered (c : CodedGraph) (n : Netlist) (l : History) (why : Obstacle) : Type 0 where
  pub found : IsFound c n l
  pub next : length l.current.coded.graph.signals < length n.signals
  pub hinders : Hinders c.graph n l.current why

-- the insertions of l are found, those of all hidden signals
pub record FindsAll (c : CodedGraph) (n : Netlist) (l : History) : Type 0 where
  pub found : IsFound c n l
  pub signals : n.signals ≡ l.current.coded.graph.signals

-- the first difference from the last graph
abbrev pub IsFirstDifference : History → Netlist → Difference → Type 0
IsFirstDifference l n (Start sig) =
    IsFirst signal_place (StartsOtherwise l.given l.current n) sig
IsFirstDifference l n (Gate sig state) =
    (n.start ≡ code l.current.coded l.current.coded.graph.start)
    × IsFirst spot_place (IsWrong l.current.coded n) (record { sig = sig; state = state })

-- ---- why none fits
-- what a refusal shows where the insertions alone are looked at
abbrev pub ShowsUninserted : CodedGraph → Netlist → NotFound → Type 0
ShowsUninserted c n NoMemory = Unit {0}
ShowsUninserted c n TooMany = ⊥
ShowsUninserted c n (Astray at sig) = ⊥
ShowsUninserted c n (Hindered l why) = IsHindered c n l why
ShowsUninserted c n (Unbuilt l why) = ⊥

-- the states that the circuit reaches can be told
abbrev pub CanBeTold : StateGraph → Netlist → Type 0
CanBeTold g n = (xs : List Reached) × AreTold g n xs

-- what a refusal shows
abbrev pub ShowsNotFound : CodedGraph → Netlist → NotFound → Type 0
ShowsNotFound c n NoMemory = Unit {0}
ShowsNotFound c n TooMany = ReachesMany c.graph n
ShowsNotFound c n (Astray at sig) =
    (ReachesMany c.graph n → ⊥) × IsFirstAstray c.graph n at sig
ShowsNotFound c n (Hindered l why) = CanBeTold c.graph n × IsHindered c n l why
ShowsNotFound c n (Unbuilt l why) =
    CanBeTold c.graph n × FindsAll c n l × IsFirstDifference l n why
