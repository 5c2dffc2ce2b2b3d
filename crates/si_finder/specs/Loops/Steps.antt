-- One insertion after another.
use Rattle.std.specs.Prelude.{◌≡◌, ℕ, ◌++◌, List, length, map}
use Rattle.si_base.specs.Codes.{CodedGraph}
use Rattle.si_base.specs.Netlist.{Insertion, Netlist}
use Rattle.si_insert.specs.declared.lineage.TraceStep.{TraceStep}
use Rattle.si_insert.specs.Insertion.{new_signal}
use Rattle.si_insert.specs.Lineage.{Extends, History}
use Rattle.si_found.specs.Found.{IsTold}
use Rattle.si_finder.specs.declared.not_found.NotFound.{NotFound}
use Rattle.si_finder.specs.declared.not_found.NotFound.TheVariants.{NoMemory, TooMany, Astray}
use Rattle.si_finder.specs.declared.not_found.NotFound.TheVariants.{Hindered, Unbuilt}
use Rattle.si_finder.specs.NotFound.{Hinders, IsFound}

-- m is l with one more insertion, which the gates tell
pub record FindsNext (n : Netlist) (l m : History) : Type 0 where
  pub step : TraceStep
  pub extends : Extends l step m
  pub told : IsTold l.given.graph n l.current step

abbrev pub StopsNext : Netlist → History → NotFound → Type 0
StopsNext n l NoMemory = Unit {0}
StopsNext n l TooMany = ⊥
StopsNext n l (Astray at sig) = ⊥
StopsNext n l (Hindered m why) = (m ≡ l) × Hinders l.given.graph n l.current why
StopsNext n l (Unbuilt m why) = ⊥

-- the insertions of the hidden signals before signal z are found
pub record IsFoundTo (c : CodedGraph) (n : Netlist) (z : ℕ) (l : History) : Type 0 where
  pub found : IsFound c n l
  pub count : z ≡ length l.current.coded.graph.signals
  pub later : List Insertion
  pub signals : n.signals
      ≡ l.current.coded.graph.signals ++ map (λ i. new_signal i.name) later
