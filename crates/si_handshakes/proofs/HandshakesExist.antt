-- There is a graph of handshakes for each number that is asked for.
use Rattle.std.proofs.Common.{ℕ, ◌*◌, ◌^◌, ◌<◌, ◌≤◌, List, length, get_or, All, codes, refl, arith}
use Rattle.std.proofs.lemmas.Nat.{mul-le}
use Rattle.std.proofs.lemmas.List.Elements.{All-contains, Contains-get_or}
use Rattle.si_base.specs.declared.graph.Edge.{Edge}
use Rattle.si_base.specs.GivenGraph.{Sg}
use Rattle.si_base.specs.Graph.{StateGraph, IsGraph, IsMadeOf}
use Rattle.si_graph.proofs.ArcsInOrder.{arcs_in_order}
use Rattle.si_handshakes.specs.Handshakes.{numbered, IsHandshakes, max_handshakes}
use Rattle.si_handshakes.proofs.DigitLemmas.{at_most, power_pos}
use Rattle.si_handshakes.proofs.ArcsMade.{made, length-made}
use Rattle.si_handshakes.proofs.HandshakeGraph.{in_range, made_handshakes}
use Rattle.si_handshakes.proofs.NamesNumbered.{both_kinds, kinds_in_order, names_differ, twice_as_many}

module _ (n : ℕ) (few : n ≤ max_handshakes) where
  -- the arcs as they are made, and in order
  abbrev arcs : List Edge
  arcs = made n (n * 4 ^ n)

  abbrev ordered : List Edge
  ordered = (arcs_in_order arcs).0

  abbrev graph : StateGraph
  graph = record { signals = both_kinds n; states = 4 ^ n; edges = ordered; start = 0 }

  is_graph : IsGraph graph
  is_graph =
      let once = (arcs_in_order arcs).1 in
      let Inside : Edge → Type 0 =
      λ a. (a.from < 4 ^ n) × (a.event.sig < length (both_kinds n)) × (a.to < 4 ^ n) in
      let inside : All Inside arcs = in_range n (4 ^ n) (both_kinds n) arcs refl refl refl in
      let most = mul-le n (4 ^ n) 8 65536 few (at_most n few) in
      record {
        few_states = omega (arith, at_most n few);
        few_signals = omega (arith, twice_as_many n, few);
        few_edges = omega (arith, once.no_longer, length-made n (n * 4 ^ n), most);
        within = λ k d within. All-contains Inside arcs (get_or ordered k d) inside
            ((once.same (get_or ordered k d)).0 (Contains-get_or ordered k d within));
        starts = power_pos n;
        kinds = kinds_in_order n;
        names = names_differ n (omega (arith, few));
        ordered = once.sorted;
      }

  made_of : IsMadeOf (both_kinds n) (4 ^ n) arcs 0 graph
  made_of = record {
    signals_are = refl;
    states_are = refl;
    start_is = refl;
    graph = is_graph;
    arcs = (arcs_in_order arcs).1.same;
  }

  pub some_handshakes : (sg : Sg) × IsHandshakes n sg
  some_handshakes =
      let names = numbered (codes "s") (4 ^ n) in (
        record { model = codes "exercise"; graph = graph; states = names },
        made_handshakes n (4 ^ n) (codes "exercise") (both_kinds n) arcs graph graph names refl refl refl refl made_of
            refl refl,
      )
