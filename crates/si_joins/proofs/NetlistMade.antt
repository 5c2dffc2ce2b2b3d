-- The joined netlist is a netlist, and what the code makes.
use Rattle.std.proofs.Common.{◌≡◌, ℕ, List, length, ap, ap₂, ◌∙◌}
use Rattle.si_base.specs.declared.graph.Signal.{Signal}
use Rattle.si_base.specs.Codes.{CodedGraph, code}
use Rattle.si_base.specs.Graph.{StateGraph}
use Rattle.si_base.specs.Netlist.{Gate, Insertion, Netlist}
use Rattle.si_base.specs.WellFormed.{IsNetlist}
use Rattle.si_circuit.specs.Circuits.{AreStateNames}
use Rattle.si_circuit.specs.Gates.{gates_from, netlist_of}
use Rattle.si_circuit.specs.Spelled.{AreSpelled}
use Rattle.si_circuit.specs.Spelling.{insertions_of}
use Rattle.si_circuit.proofs.GateLemmas.{is_netlist, made, of_parts}
use Rattle.si_circuit.proofs.SpelledInsertions.{are_inserted}
use Rattle.si_insert.specs.Lineage.{History, IsLineage, Keeps}
use Rattle.si_joins.specs.Gates.{all_places, joined_gate, joined_netlist}
use Rattle.si_joins.specs.Loops.Parts.{AreNetlists}
use Rattle.si_joins.proofs.GateForms.{joined_is_gate}

module _ (model : List ℕ) (states : List (List ℕ)) (parts : List Netlist) (l : History) where
  abbrev c : CodedGraph
  c = l.current.coded

  abbrev tos_of : StateGraph → List (List ℕ)
  tos_of g = all_places g.signals (length l.given.graph.signals) parts

  abbrev gate : ℕ → Gate
  gate k = joined_gate (length c.graph.signals) parts (tos_of c.graph) k

  pub joined_is_netlist : IsLineage l.given l.trace l.current → Keeps l.given l.current
      → AreSpelled model l.current.coded.graph.signals → AreStateNames l.given.graph states → AreNetlists parts
      → IsNetlist (joined_netlist model states parts l)
  joined_is_netlist lineage kept spelled names netlists =
      is_netlist gate model (insertions_of states l) c kept.coded spelled (are_inserted states l lineage names)
      (λ z driven. joined_is_gate (length c.graph.signals) parts (tos_of c.graph) z netlists)

  pub made_joined : (handed : CodedGraph) (graph : StateGraph) (signals seen given : List Signal) (s start : ℕ)
      (read : List ℕ) (inserts : List Insertion) (gates : List Gate) (tos slice : List (List ℕ))
      → handed ≡ l.current.coded → graph ≡ handed.graph → signals ≡ graph.signals → seen ≡ graph.signals
      → given ≡ l.given.graph.signals → s ≡ graph.start → start ≡ code handed s → read ≡ model
      → inserts ≡ insertions_of states l → tos ≡ all_places seen (length given) parts → slice ≡ tos
      → gates ≡ gates_from (joined_gate (length graph.signals) parts slice) 0 graph.signals
      → of_parts read signals start inserts gates ≡ joined_netlist model states parts l
  made_joined handed graph signals seen given s start read inserts gates tos slice handed_is graph_is signals_are seen_is
      given_is s_is start_is read_is inserts_are tos_are slice_is gates_are =
      let whole = graph_is ∙ ap (λ (d : CodedGraph). d.graph) handed_is in
      let placed = slice_is ∙ tos_are ∙ ap₂ (λ (xs ys : List Signal). all_places xs (length ys) parts) seen_is given_is
      ∙ ap tos_of whole in
      let all = gates_are
      ∙ ap (λ (ts : List (List ℕ)). gates_from (joined_gate (length graph.signals) parts ts) 0 graph.signals) placed
      ∙ ap (λ (g : StateGraph). gates_from (joined_gate (length g.signals) parts (tos_of c.graph)) 0 g.signals) whole in
      made (λ d. gate) read c handed graph signals s start inserts gates handed_is graph_is signals_are s_is start_is all
      ∙ ap₂ (λ (m : List ℕ) (is : List Insertion). netlist_of gate m is c) read_is inserts_are
