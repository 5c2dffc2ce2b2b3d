-- (command) The texts of the picture and of the states of a graph, proper or not.
use Rattle.std.specs.Prelude.{ℕ, List}
use Rattle.si_base.specs.Graph.{StateGraph}
use Rattle.si_pictures.specs.Picture.{IsDotText}
use Rattle.si_pictures.specs.StatesText.{states_text}
use Rattle.si_readings.specs.SeenGraph.{IsSeen}
use Rattle.si_refusals.specs.Refusal.{TextRefusal}
use Rattle.si_refusals.specs.Stages.{Stage, ◌>>=◌, gives, shows}

-- the picture of a graph with this model and these names of its states
abbrev pub drawn : (model : List ℕ) → (states : List (List ℕ)) → StateGraph
    → Stage TextRefusal (List ℕ)
drawn model states graph = do
  seen ← shows (IsSeen graph)
  shows (IsDotText model states seen)

-- the list of the states of a graph
abbrev pub listed : (states : List (List ℕ)) → StateGraph → Stage TextRefusal (List ℕ)
listed states graph = do
  seen ← shows (IsSeen graph)
  gives (states_text seen states)
