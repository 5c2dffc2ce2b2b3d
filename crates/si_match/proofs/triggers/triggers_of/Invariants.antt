use Rattle.std.proofs.Common.{◌<◌, All}
use Rattle.si_match.specs.Triggers.{AreTriggers}
use Rattle.si_match.proofs.TriggerLemmas.{AreFound, IsWithin}
use Rattle.si_match.proofs.triggers.triggers_of.Given as goal

abbrev pub invariant-loop-a : goal.invariant-loop-a
invariant-loop-a l = record {
  triggers : AreTriggers l.coded l.z l.signals;
  found : AreFound l.coded l.z l.a-items l.signals l.a-index;
  rising : IsWithin l.rising l.signals;
  falling : IsWithin l.falling l.signals;
  within : All (λ s. s < l.coded.graph.states) l.witnesses.items;
}
