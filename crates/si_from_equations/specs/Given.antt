-- (text) Models and signals as the text of a graph gives them.
use Rattle.std.specs.Prelude.{◌≡◌, ℕ, false, List, All, IsTrue}
use Rattle.si_base.specs.declared.graph.Signal.{Signal}
use Rattle.si_base.specs.System.{is_inserted}
use Rattle.si_base.specs.Words.{is_model_name, is_signal_name}

-- names as texts spell them, and no inserted signal
pub record AreGiven (model : List ℕ) (signals : List Signal) : Type 0 where
  pub model_name : IsTrue (is_model_name model)
  pub names : All (λ x. IsTrue (is_signal_name x.name)) signals
  pub given : All (λ x. is_inserted x.kind ≡ false) signals
