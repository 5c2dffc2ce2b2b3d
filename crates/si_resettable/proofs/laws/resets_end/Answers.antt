use Rattle.si_resettable.proofs.SettlingLemmas.{some_in_reset, modules_are_in_reset, in_reset_settle, resets_end}
use Rattle.si_resettable.proofs.laws.resets_end.Goals as goal

pub returns : goal.returns
returns c = record {
  netlists = some_in_reset;
  modules = modules_are_in_reset;
  settle = in_reset_settle;
  rounds = resets_end;
}
