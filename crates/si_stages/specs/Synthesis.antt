-- (command) The netlist of a graph.
use Rattle.std.specs.Prelude.{◌≡◌, ℕ, List, []}
use Rattle.si_base.specs.GivenGraph.{Sg}
use Rattle.si_base.specs.Proper.{HasNoConflict}
use Rattle.si_circuit.specs.declared.style.Style.{Style}
use Rattle.si_circuit.specs.Circuits.{circuit_of}
use Rattle.si_circuit.specs.Covered.{HasPrimeGates}
use Rattle.si_insert.specs.Lineage.{History}
use Rattle.si_refusals.specs.Refusal.{TextRefusal}
use Rattle.si_refusals.specs.Stages.{Stage, shows}
use Rattle.si_stages.specs.Written.{IsWritten}

-- the output is the text of a netlist that is written for the given graph: of the chosen gates of
-- that style for the current graph of the lineage, each a prime and irredundant cover, and with the
-- insertions of its trace; where the given graph has no conflict, there is none
pub record IsSynthesis (style : Style) (given : Sg) (l : History) (output : List ℕ)
    : Type 0 where
  pub written : IsWritten given l output
  pub gates_are : written.netlist ≡ circuit_of style given.model given.states l
  pub prime : HasPrimeGates l.current.coded written.netlist
  pub none_inserted : HasNoConflict l.given → written.netlist.inserts ≡ []

-- the text of that netlist, and no refusal
abbrev pub synthesis : Style → Sg → History → Stage TextRefusal (List ℕ)
synthesis style given l = shows (IsSynthesis style given l)
