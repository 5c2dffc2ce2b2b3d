use Rattle.std.proofs.Common.{◌∙◌, [], ◌∷◌, ap, sym}
use Rattle.si_candidates.specs.Loops.Adding.{with_block}
use Rattle.si_candidates.proofs.BlockLists.{with_blocks-append}
use Rattle.si_candidates.proofs.blocks.add_sets.Goals as goal

pub loop-set-preserved : goal.loop-set-preserved
loop-set-preserved c =
    let set = c.in-Some.set in
    c.in_ok-add_block.ensures
    ∙ ap (λ found. with_block found set) c.loop-set.invariant
    ∙ sym (with_blocks-append c.args.found.now.items c.loop-set.yielded (set ∷ []))
