-- (text) The graph that a text gives, whichever form the text has.
use Rattle.std.specs.Prelude.{◌≡◌, ℕ, List, [], map, slice_index_or}
use Rattle.si_base.specs.declared.graph.Signal.{Signal}
use Rattle.si_base.specs.declared.graph.SigKind.{SigKind}
use Rattle.si_base.specs.Graph.{StateGraph, IsCut}

-- signals of one kind with these names
abbrev pub signals_of : SigKind → List (List ℕ) → List Signal
signals_of kind names = map (λ n. record { name = n; kind = kind }) names

-- a graph with a model name and a name for each state
pub record Sg : Type 0 where
  pub model : List ℕ
  pub graph : StateGraph
  pub states : List (List ℕ)

-- sg has this model name, and is the whole graph, with these names of its states, cut to the
-- reachable states
pub record IsGivenGraph (model : List ℕ) (whole : StateGraph) (names : List (List ℕ))
    (sg : Sg) : Type 0 where
  pub kept : List ℕ
  pub cut : IsCut whole kept sg.graph
  pub model_is : sg.model ≡ model
  pub states_are : sg.states ≡ map (λ s. slice_index_or names s []) kept
