-- (law) The laws of current graphs as given ones, one word each.
use Rattle.std.specs.Prelude.{◌≡◌, ◌≢◌, ℕ, ◌≤◌, List, length, AllPairs}
use Rattle.si_base.specs.Codes.{CodedGraph, IsCoded}
use Rattle.si_base.specs.Limits.{max_arcs_read}
use Rattle.si_base.specs.Netlist.{Insertion}
use Rattle.si_base.specs.Proper.{HasNoConflict, IsProper}
use Rattle.si_circuit.specs.Circuits.{AreStateNames}
use Rattle.si_circuit.specs.Gates.{chosen_netlist, gate_of, netlist_of}
use Rattle.si_circuit.specs.Spelled.{AreSpelled}
use Rattle.si_circuit.specs.declared.style.Style.{Style}
use Rattle.si_insert.specs.Lineage.{History, IsLineage}
use Rattle.si_inserted.specs.Current.{current_sg, internal_coded, internal_graph, internal_netlist}
use Rattle.si_sg.specs.CanonicalText.{sg_text}
use Rattle.si_sg.specs.GivenGraph.{IsGivenBy}

-- a lineage of a graph with this model and these distinct names of its states, all in the forms of
-- a text; its current graph has no more arcs than are read
pub record CanBeGiven (model : List ℕ) (states : List (List ℕ)) (l : History) : Type 0 where
  pub line : IsLineage l.given l.trace l.current
  pub spelled : AreSpelled model l.current.coded.graph.signals
  pub names : AreStateNames l.given.graph states
  pub apart : AllPairs (λ x y. x ≢ y) states
  pub few_arcs : length l.current.coded.graph.edges ≤ max_arcs_read

-- its text is read back as its current graph
abbrev pub CurrentTextsReadBack : Type 0
CurrentTextsReadBack = (model : List ℕ) (states : List (List ℕ)) (l : History)
    → CanBeGiven model states l
    → IsGivenBy (sg_text (current_sg model states l)) (current_sg model states l)

-- a graph keeps its codes, and stays proper, where its inserted signals become internal ones
abbrev pub InternalAreProper : Type 0
InternalAreProper = (c : CodedGraph) → IsCoded c → IsProper c.graph
    → IsCoded (internal_coded c) × IsProper (internal_graph c.graph)

-- it gets no conflict
abbrev pub InternalAreDistinct : Type 0
InternalAreDistinct = (c : CodedGraph) → HasNoConflict c → HasNoConflict (internal_coded c)

-- and the same gates are chosen for it, in each style
abbrev pub InternalHaveSameGates : Type 0
InternalHaveSameGates = (style : Style) (model : List ℕ) (inserts : List Insertion)
    (c : CodedGraph)
    → chosen_netlist style model (internal_coded c)
    ≡ internal_netlist (netlist_of (gate_of style c) model inserts c)
