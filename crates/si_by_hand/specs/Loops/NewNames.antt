-- The name of a new signal.
use Rattle.std.specs.Prelude.{ℕ, ◌<◌, List, length, IsTrue}
use Rattle.si_base.specs.declared.graph.Signal.{Signal}
use Rattle.si_base.specs.Limits.{max_signals}
use Rattle.si_base.specs.Words.{is_signal_name}
use Rattle.si_insert.specs.Fresh.{IsTaken}

-- the name may be that of one more signal
pub record IsNewName (signals : List Signal) (name : List ℕ) : Type 0 where
  pub free : IsTaken signals name → ⊥
  pub spelled : IsTrue (is_signal_name name)
  pub room : length signals < max_signals
