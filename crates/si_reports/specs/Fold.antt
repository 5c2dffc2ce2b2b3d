-- (command) The folded graph of a given graph, and its text.
use Rattle.std.specs.Prelude.{◌≡◌, ℕ, List, map}
use Rattle.si_base.specs.Codes.{CodedGraph}
use Rattle.si_base.specs.GivenGraph.{Sg}
use Rattle.si_fold.specs.Folded.{IsFolded}
use Rattle.si_sg.specs.CanonicalText.{sg_text, state_at}

-- a graph with one state for each class of alike states, under the name of the least of them, and
-- with this model
pub record IsFoldedGraph (model : List ℕ) (states : List (List ℕ)) (coded : CodedGraph)
    (folded : Sg) : Type 0 where
  pub kept : List ℕ
  pub class : List ℕ
  pub codes : List ℕ
  pub is_folded : IsFolded coded kept class (record { graph = folded.graph; codes = codes })
  pub model_is : folded.model ≡ model
  pub states_are : folded.states ≡ map (state_at states) kept

-- its canonical text
pub record IsFoldText (model : List ℕ) (states : List (List ℕ)) (coded : CodedGraph)
    (output : List ℕ) : Type 0 where
  pub folded : Sg
  pub is : IsFoldedGraph model states coded folded
  pub output_is : output ≡ sg_text folded
