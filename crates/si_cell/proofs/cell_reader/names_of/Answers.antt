use Rattle.std.proofs.Common.{List, ℕ, [], ◌∷◌, ◌++◌, ap, ◌∙◌}
use Rattle.si_words.proofs.FirstFaultLemmas.{takes}
use Rattle.si_cell.proofs.cell_reader.names_of.Goals as goal

pub loop-word-preserved : goal.loop-word-preserved
loop-word-preserved c = takes [] _ _ c.args.words.now _ _ c.loop-word-test.true c.loop-word.invariant
    (c.in_ok-push.ensures.items ∙ ap (λ (n : List ℕ). c.loop-word.names.items ++ n ∷ []) c.in_ok-copy_of.ensures)
