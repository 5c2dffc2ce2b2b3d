use Rattle.std.proofs.Common.{◌∙◌, MatchOption, Option, subst}
use Rattle.si_base.specs.Codes.{IsDeterministic}
use Rattle.si_refusals.specs.declared.breach.NamedBreach.{NamedBreach}
use Rattle.si_systems.specs.Product.{ShowsFirstSplit}
use Rattle.si_systems.proofs.product.deterministic.Goals as goal

pub returns-in-Ok-clause-ok : goal.returns-in-Ok-clause-ok
returns-in-Ok-clause-ok c = (
  subst IsDeterministic c.in-Ok.ensures.same c.in-Ok.ensures.coded.deterministic,
  c.into_graph.ensures ∙ c.in-Ok.ensures.same,
)

pub returns-in-None-clause-ok : goal.returns-in-None-clause-ok
returns-in-None-clause-ok c =
    let found = subst (λ (o : Option NamedBreach). MatchOption o (IsDeterministic c.in-Err.graph)
    (ShowsFirstSplit c.in-Err.graph c.args.states.now)) c.in-None.is c.in_ok-first_split-in-Err.ensures in (
      subst IsDeterministic c.in-Err.ensures.back found,
      c.in-Err.ensures.back,
    )
