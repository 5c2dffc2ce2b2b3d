-- What is known of the parts of a product before it is made.
use Rattle.std.specs.Prelude.{◌≡◌, List, [], ◌∷◌}
use Rattle.si_base.specs.Codes.{IsDeterministic}
use Rattle.si_base.specs.GivenGraph.{Sg}
use Rattle.si_base.specs.Graph.{StateGraph}

-- the parts are the graphs, each of which is deterministic
abbrev pub AreParts : List Sg → List StateGraph → Type 0
AreParts [] [] = Unit {0}
AreParts (g ∷ gs) (p ∷ ps) = (IsDeterministic g.graph × (p ≡ g.graph)) × AreParts gs ps
AreParts [] (p ∷ ps) = ⊥
AreParts (g ∷ gs) [] = ⊥
