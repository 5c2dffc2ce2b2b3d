use Rattle.std.proofs.Common.{◌≡◌, false, take}
use Rattle.std.specs.List.{list_any}
use Rattle.si_explain.specs.ExplainText.{same_pair}
use Rattle.si_explain.proofs.explain.is_among.Given as goal

abbrev pub invariant-loop-pair : goal.invariant-loop-pair
invariant-loop-pair l = list_any (λ x. same_pair (l.p, l.q) (x.p, x.q)) (take l.pair-index l.pairs.items) ≡ false
