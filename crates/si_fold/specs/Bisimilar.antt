-- (field) Graphs that nothing tells apart.
use Rattle.std.specs.Prelude.{◌≡◌, ℕ, Bool, IsTrue}
use Rattle.si_base.specs.declared.ids.Event.{Event}
use Rattle.si_base.specs.Graph.{Step}
use Rattle.si_base.specs.Codes.{CodedGraph, code}

-- some bisimulation between their states relates their starts: related states have equal codes, and
-- each step of the one is also one of the other, to related states
pub record AreBisimilar (c d : CodedGraph) : Type 0 where
  pub related : ℕ → ℕ → Bool
  pub starts : IsTrue (related c.graph.start d.graph.start)
  pub codes : (s t : ℕ) → IsTrue (related s t) → code c s ≡ code d t
  pub forth : (s t : ℕ) (e : Event) (u : ℕ) → IsTrue (related s t) → Step c.graph s e u
      → (v : ℕ) × Step d.graph t e v × IsTrue (related u v)
  pub back : (s t : ℕ) (e : Event) (v : ℕ) → IsTrue (related s t) → Step d.graph t e v
      → (u : ℕ) × Step c.graph s e u × IsTrue (related u v)
