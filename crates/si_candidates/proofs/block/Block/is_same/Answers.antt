use Rattle.std.proofs.Common.{◌∙◌, Bool, count_by, sym, ap}
use Rattle.si_candidates.proofs.BlockSameSets.{same_set-not}
use Rattle.si_candidates.proofs.block.Block.is_same.Goals as goal

pub returns-then-self-other : goal.returns-then-self-other
returns-then-self-other c =
    let here = c.self.invariant ∙ ap (count_by (λ (x : Bool). x)) c.self.view_is in
    let there = c.other.invariant ∙ ap (count_by (λ (x : Bool). x)) c.other.view_is in
    sym (same_set-not (count_by (λ (x : Bool). x)) c.args.self.now c.args.other.now
    (λ same. c.if-self-other.true (here ∙ same ∙ sym there)))
