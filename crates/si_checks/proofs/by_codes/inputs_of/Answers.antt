use Rattle.std.proofs.Common.{refl, sym}
use Rattle.std.proofs.lemmas.Bool.{true≢false}
use Rattle.si_checks.proofs.ByCodesLemmas.{input_more, driven_more}
use Rattle.si_checks.proofs.by_codes.inputs_of.Goals as goal
use Rattle.si_checks.proofs.by_codes.inputs_of.Goals.{then-not-is_driven, else-not-is_driven}

pub loop-k-preserved : goal.loop-k-preserved
loop-k-preserved c = elim c.if-not-is_driven.branch [
  | then-not-is_driven w ↦ rw w.inputs-is (input_more c.args.graph.now.signals c.loop-k.k c.loop-k.inputs _
      w.set-inputs.ensures (λ driven. true≢false (sym (w.if-not-is_driven.ensures.1 driven))) c.loop-k.invariant)
  | else-not-is_driven w ↦ rw w.inputs-is (driven_more c.args.graph.now.signals c.loop-k.k c.loop-k.inputs
      (w.if-not-is_driven.ensures.0 refl) c.loop-k.invariant)
]
