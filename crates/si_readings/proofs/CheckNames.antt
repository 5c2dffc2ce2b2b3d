-- The names of the states of a given graph.
use Rattle.std.proofs.Common.{◌≡◌, ℕ, List, length, sym, ap, ◌∙◌}
use Rattle.std.proofs.lemmas.List.{length-map}
use Rattle.si_base.specs.GivenGraph.{Sg}
use Rattle.si_graph.proofs.CutLemmas.{cut_connected}
use Rattle.si_readings.specs.Checks.{IsNamed}
use Rattle.si_sg.specs.GivenGraph.{IsGivenBy}

-- there is a name for each state of the given graph
pub as_many_names : (text : List ℕ) (given : Sg) → IsGivenBy text given → length given.states ≡ given.graph.states
as_many_names text given is =
    ap length is.is.given.states_are ∙ length-map is.is.given.kept _ ∙ sym is.is.given.cut.count

-- each state of the given graph is reachable, and has a name
pub given_named_states : (text : List ℕ) (given : Sg) → IsGivenBy text given → IsNamed given.graph given.states
given_named_states text given is = record {
  is_graph = is.is.given.cut.graph;
  connected = cut_connected is.is.whole is.is.given.kept given.graph is.is.given.cut;
  names = as_many_names text given is;
}
