-- Arcs chained by their ends.
use Rattle.std.specs.Prelude.{◌≡◌, ℕ, List, length}
use Rattle.si_base.specs.declared.graph.Edge.{Edge}
use Rattle.si_graph.specs.Loops.Chains.{AreLinked, target}
use Rattle.si_graph.specs.declared.chain.Chain.{Chain}
use Rattle.si_graph.specs.declared.chain.End.{End}
use Rattle.si_graph.specs.declared.chain.End.TheVariants.{Source, Target}

-- the state that an arc leaves
abbrev pub source : Edge → ℕ
source a = a.from

-- the state at the end of an arc
abbrev pub state_at : End → Edge → ℕ
state_at Source = source
state_at Target = target

-- all arcs are chained by the states at this end
pub record AreChained (end : End) (states : ℕ) (edges : List Edge) (chain : Chain) : Type 0 where
  pub linked : AreLinked (state_at end) states edges 0 chain.heads.items chain.nexts.items
  pub last : chain.end ≡ length edges
