-- (command) Why netlists that are right each for its graph can't be joined, though the graphs have
-- a
-- composed graph.
use Rattle.std.specs.Prelude.{ℕ, List}
use Rattle.si_refusals.specs.Refusal.{TextRefusal}
use Rattle.si_refusals.specs.Refusal as answer

-- an inserted signal of a part doesn't switch in the composed graph, or there is no room for it
pub data IsOfInsertion : TextRefusal → Type 0 where
  OfUse : (signal : List ℕ) → IsOfInsertion (answer.Unused signal)
  OfRoom : (signal : List ℕ) (states : ℕ) → IsOfInsertion (answer.JoinedTooLarge signal states)
