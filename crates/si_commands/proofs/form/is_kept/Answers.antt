use Rattle.std.proofs.Common.{◌∙◌, sym, inl}
use Rattle.si_commands.proofs.TailLemmas.{some_words}
use Rattle.si_commands.proofs.form.is_kept.Goals as goal

pub returns-then-not-is_empty-clause-kept : goal.returns-then-not-is_empty-clause-kept
returns-then-not-is_empty-clause-kept c = λ is. (
  sym c.is_listed.ensures ∙ is,
  some_words c.args.later.now (sym c.if-not-is_empty.true ∙ c.is_empty.ensures),
)

pub returns-then-not-is_empty-clause-other : goal.returns-then-not-is_empty-clause-other
returns-then-not-is_empty-clause-other c = λ is. inl (sym c.is_listed.ensures ∙ is)
