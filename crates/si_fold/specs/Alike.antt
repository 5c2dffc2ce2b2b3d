-- (field) States that nothing tells apart.
use Rattle.std.specs.Prelude.{◌≡◌, ℕ, ◌<◌, ◌≤◌, Bool, IsTrue}
use Rattle.si_base.specs.declared.ids.Event.{Event}
use Rattle.si_base.specs.Graph.{StateGraph, Step, enables}
use Rattle.si_base.specs.Codes.{CodedGraph, code}

-- related states enable the same events, and lead by each of these to related states
pub record KeepsSteps (g : StateGraph) (related : ℕ → ℕ → Bool) : Type 0 where
  pub events : (s t : ℕ) (e : Event) → IsTrue (related s t) → enables g s e ≡ enables g t e
  pub steps : (s t : ℕ) (e : Event) (u v : ℕ) → IsTrue (related s t) → Step g s e u → Step g t e v
      → IsTrue (related u v)

-- and they have equal codes: a bisimulation (R. Milner, Communication and Concurrency, 1989)
pub record IsBisimulation (c : CodedGraph) (related : ℕ → ℕ → Bool) : Type 0 where
  pub codes : (s t : ℕ) → IsTrue (related s t) → code c s ≡ code c t
  pub keeps : KeepsSteps c.graph related

-- some bisimulation relates the two states
pub record AreAlike (c : CodedGraph) (s t : ℕ) : Type 0 where
  pub one_within : s < c.graph.states
  pub other_within : t < c.graph.states
  pub related : ℕ → ℕ → Bool
  pub bisimulation : IsBisimulation c related
  pub holds : IsTrue (related s t)

-- m is the least state that is alike with s
pub record IsLeastAlike (c : CodedGraph) (s m : ℕ) : Type 0 where
  pub alike : AreAlike c s m
  pub least : (t : ℕ) → AreAlike c s t → m ≤ t
