-- (text) Names with the forms that texts give them, and insertions of the signals that are
-- inserted.
use Rattle.std.specs.Prelude.{◌≡◌, ℕ, List, map, All, IsTrue}
use Rattle.si_base.specs.declared.graph.Signal.{Signal}
use Rattle.si_base.specs.declared.graph.SigKind.TheVariants.{Inserted}
use Rattle.si_base.specs.Netlist.{Insertion}
use Rattle.si_base.specs.NetlistText.{names_of}
use Rattle.si_base.specs.WellFormed.{IsInsertion}
use Rattle.si_base.specs.Words.{is_model_name, is_signal_name}

-- the model and the signals have names as texts spell them
pub record AreSpelled (model : List ℕ) (signals : List Signal) : Type 0 where
  pub model_name : IsTrue (is_model_name model)
  pub names : All (λ x. IsTrue (is_signal_name x.name)) signals

-- an insertion for each signal that is inserted, in signal order, and for no other
pub record AreInserted (inserts : List Insertion) (signals : List Signal) : Type 0 where
  pub names : map (λ i. i.name) inserts ≡ names_of Inserted signals
  pub each : All IsInsertion inserts
