-- The netlist of gates that give the next values of a lineage's current graph is a circuit of the lineage.
use Rattle.std.proofs.Common.{◌≡◌, ℕ, List, map, refl, sym, ap, subst, subst₂, ◌∙◌}
use Rattle.si_base.specs.Codes.{CodedGraph, IsCoded}
use Rattle.si_base.specs.Netlist.{Gate, Insertion, Netlist}
use Rattle.si_base.specs.Proper.{HasNoConflict}
use Rattle.si_base.specs.RightGates.{GivesNextValues}
use Rattle.si_insert.specs.Built.{IsBuilt}
use Rattle.si_insert.specs.Lineage.{History, IsLineage}
use Rattle.si_insert.proofs.LineageChain.{implements}
use Rattle.si_insert.proofs.InsertionKeeps.{keeps}
use Rattle.si_circuit.specs.declared.style.Style.{Style}
use Rattle.si_circuit.specs.Circuits.{AreStateNames, IsCircuit}
use Rattle.si_circuit.specs.Gates.{gate_of, netlist_of}
use Rattle.si_circuit.specs.Spelled.{AreInserted}
use Rattle.si_circuit.specs.Spelling.{insertions_of}
use Rattle.si_circuit.proofs.SpelledInsertions.{are_inserted, insertion_names}
use Rattle.si_circuit.proofs.CoveredGates.{chosen_give}

built : (gate : ℕ → Gate) (model : List ℕ) (states : List (List ℕ)) (l : History)
    → GivesNextValues l.current.coded (netlist_of gate model (insertions_of states l) l.current.coded)
    → IsBuilt l.current (netlist_of gate model (insertions_of states l) l.current.coded)
unfolding netlist_of
built gate model states l gives = record { signals = refl; start = refl; gives = gives }

inserted : (gate : ℕ → Gate) (model : List ℕ) (states : List (List ℕ)) (l : History)
    → (netlist_of gate model (insertions_of states l) l.current.coded).inserts ≡ insertions_of states l
unfolding netlist_of
inserted gate model states l = refl

pub gates_circuit : (gate : ℕ → Gate) (model : List ℕ) (states : List (List ℕ)) (l : History)
    → IsLineage l.given l.trace l.current
    → GivesNextValues l.current.coded (netlist_of gate model (insertions_of states l) l.current.coded)
    → IsCircuit l (netlist_of gate model (insertions_of states l) l.current.coded)
gates_circuit gate model states l lineage gives = record {
  built = built gate model states l gives;
  inserted = ap (map (λ i. i.name)) (inserted gate model states l) ∙ insertion_names states l;
  implements = implements l.given l.trace l.current (netlist_of gate model (insertions_of states l) l.current.coded)
      lineage
      (built gate model states l gives);
}

-- the same over what the calls hand out, for any gates that give the next values
pub circuit_with : (gate : CodedGraph → ℕ → Gate) (model read : List ℕ) (states : List (List ℕ)) (l seen : History)
    (k : CodedGraph) (inserts : List Insertion) (n : Netlist) → seen ≡ l → IsLineage seen.given seen.trace seen.current
    → k ≡ l.current.coded → read ≡ model → inserts ≡ insertions_of states seen
    → n ≡ netlist_of (gate k) read inserts k → GivesNextValues k n → IsCircuit l n
circuit_with gate model read states l seen k inserts n same lineage graph_is read_is inserts_are n_is gives =
    let L : History → Type 0 = λ h. IsLineage h.given h.trace h.current in
    let c = l.current.coded in
    let is : n ≡ netlist_of (gate c) model (insertions_of states l) c =
    n_is ∙ ap (λ (g : CodedGraph). netlist_of (gate g) read inserts g) graph_is
    ∙ ap (λ (w : List ℕ). netlist_of (gate c) w inserts c) read_is
    ∙ ap (λ (xs : List Insertion). netlist_of (gate c) model xs c)
    (inserts_are ∙ ap (insertions_of states) same) in
    subst (IsCircuit l) (sym is) (gates_circuit (gate c) model states l (subst L same lineage)
    (subst₂ (λ (g : CodedGraph) (m : Netlist). GivesNextValues g m) graph_is is gives))

pub circuit_made : (style : Style) (model read : List ℕ) (states : List (List ℕ)) (l seen : History) (k : CodedGraph)
    (inserts : List Insertion) (n : Netlist) → seen ≡ l → IsLineage seen.given seen.trace seen.current
    → HasNoConflict l.current.coded → k ≡ l.current.coded → read ≡ model → inserts ≡ insertions_of states seen
    → n ≡ netlist_of (gate_of style k) read inserts k → IsCircuit l n
circuit_made style model read states l seen k inserts n same lineage none graph_is read_is inserts_are n_is =
    let coded : IsCoded k =
    subst IsCoded (ap (λ (h : History). h.current.coded) same ∙ sym graph_is)
    (keeps seen.given seen.trace seen.current lineage).coded in
    circuit_with (gate_of style) model read states l seen k inserts n same lineage graph_is read_is inserts_are n_is
    (subst (GivesNextValues k) (sym n_is)
    (chosen_give style k read inserts coded (subst HasNoConflict (sym graph_is) none)))

pub inserted_made : (states : List (List ℕ)) (l seen : History) (k : CodedGraph) (inserts : List Insertion) → seen ≡ l
    → IsLineage seen.given seen.trace seen.current → AreStateNames l.given.graph states → k ≡ l.current.coded
    → inserts ≡ insertions_of states seen → AreInserted inserts k.graph.signals
inserted_made states l seen k inserts same lineage names graph_is inserts_are =
    let L : History → Type 0 = λ h. IsLineage h.given h.trace h.current in
    let P : List Insertion → CodedGraph → Type 0 = λ xs g. AreInserted xs g.graph.signals in
    subst₂ P (sym (inserts_are ∙ ap (insertions_of states) same)) (sym graph_is)
    (are_inserted states l (subst L same lineage) names)
