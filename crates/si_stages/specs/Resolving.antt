-- (command) The conflicts of a graph, resolved.
use Rattle.std.specs.Prelude.{◌≡◌, ℕ, List, Ok, Err}
use Rattle.si_base.specs.Codes.{CodedGraph}
use Rattle.si_base.specs.Graph.{StateGraph}
use Rattle.si_circuit.specs.Spelling.{current_word, insertions_of}
use Rattle.si_insert.specs.Lineage.{History, given_current}
use Rattle.si_resolve.specs.Trace.{EndsResolved, EndsUnresolved}
use Rattle.si_refusals.specs.Refusal.{TextRefusal, Unresolved}
use Rattle.si_refusals.specs.Stages.{Stage, ◌>>=◌}
use Rattle.si_readings.specs.Checks.{proper}

-- the lineage of the graph whose insertions resolve its conflicts: each is the best candidate of
-- the graph before it, and at their end no conflict is left
pub record EndsWithoutConflict (coded : CodedGraph) (l : History) : Type 0 where
  pub given_is : l.given ≡ coded
  pub resolves : EndsResolved (given_current coded) l.trace l.current

-- the same as far as insertions lower the number of conflicts, where some are left, of which the
-- pair is the first
pub record EndsInConflict (coded : CodedGraph) (l : History) (pair : ℕ × ℕ) : Type 0 where
  pub given_is : l.given ≡ coded
  pub ends : EndsUnresolved (given_current coded) l.trace l.current pair

-- the refusal that shows the words of two states of a lineage's current graph, and the insertions
abbrev pub conflict_refusal : (states : List (List ℕ)) → History → ℕ × ℕ → TextRefusal
conflict_refusal states l pair =
    Unresolved (current_word states l pair.0) (current_word states l pair.1)
    (insertions_of states l)

-- the lineage of the graph that resolves its conflicts: else what is left
abbrev pub lineage_of : CodedGraph → (states : List (List ℕ)) → Stage TextRefusal History
lineage_of coded states (Ok l) = EndsWithoutConflict coded l
lineage_of coded states (Err refusal) = (l : History) × (pair : ℕ × ℕ)
    × EndsInConflict coded l pair × (refusal ≡ conflict_refusal states l pair)

-- the graph is proper, and then its conflicts are resolved
abbrev pub resolution : StateGraph → (states : List (List ℕ)) → Stage TextRefusal History
resolution graph states = do
  coded ← proper graph states
  lineage_of coded states
