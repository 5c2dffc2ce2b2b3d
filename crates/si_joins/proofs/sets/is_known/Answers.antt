use Rattle.std.proofs.Common.{◌∙◌, Contains, refl, subst}
use Rattle.si_composing.proofs.TupleLemmas.{is_there}
use Rattle.si_joins.proofs.sets.is_known.Goals as goal

pub returns-in-Some : goal.returns-in-Some
returns-in-Some c = (
  λ is. subst (Contains c.args.known.now) (c.bytes.ensures ∙ c.in_ok-word.ensures)
      (is_there c.args.known.now c.bytes.result.now c.in-Some.field-0 c.in-Some.ensures.found),
  λ there. refl,
)
