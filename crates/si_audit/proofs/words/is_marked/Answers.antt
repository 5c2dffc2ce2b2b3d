use Rattle.std.proofs.Common.{sym, ◌∙◌}
use Rattle.std.proofs.lemmas.Bool.{true≢false}
use Rattle.std.proofs.lemmas.Slice.Eq.{bytes_eq-Decides}
use Rattle.si_audit.proofs.WordParts.{cut_word, word_parts}
use Rattle.si_audit.proofs.words.is_marked.Goals as goal

pub returns-then-eq : goal.returns-then-eq
returns-then-eq c = (
  λ e. cut_word c.args.word.now _ _ c.args.name.now _ c.split_at.ensures.front c.split_at.ensures.back
      ((bytes_eq-Decides c.split_at.result.0.now c.args.name.now).0 (sym c.eq.ensures ∙ c.if-eq.true))
      (c.is_mark.ensures.0 e),
  λ same. c.is_mark.ensures.1
      (word_parts c.args.word.now _ _ c.args.name.now _ c.split_at.ensures.front c.split_at.ensures.back same).1,
)

pub returns-else-eq : goal.returns-else-eq
returns-else-eq c = (
  λ e. absurd (true≢false (sym e ∙ c.if-eq.false)),
  λ same. c.eq.ensures ∙ (bytes_eq-Decides c.split_at.result.0.now c.args.name.now).1
      (word_parts c.args.word.now _ _ c.args.name.now _ c.split_at.ensures.front c.split_at.ensures.back same).0,
)
