use Rattle.std.proofs.Common.{◌≡◌, ℕ, List, [], ◌∷◌, ◌++◌, ap, sym, ◌∙◌}
use Rattle.si_base.specs.Words.{line}
use Rattle.si_words.specs.Loops.Writing.{spaced}
use Rattle.si_words.proofs.WritingLemmas.{joined_words}
use Rattle.si_refusals.proofs.rejection.line_of_names.Goals as goal

whole : (first : List ℕ) (words : List (List ℕ)) → (first ++ spaced words) ++ 10 ∷ [] ≡ line (first ∷ words)
whole first words = ap (λ (t : List ℕ). t ++ 10 ∷ []) (sym (joined_words first words))

pub returns : goal.returns
returns c =
    c.in_ok-add.ensures.added
    ∙ rw (c.in_ok-add_words.ensures, c.in_ok-text.ensures) (whole c.args.first.now c.args.names.now)
