use Rattle.si_joins.proofs.LineLemmas.{named_next}
use Rattle.si_joins.proofs.steps.extended.Goals as goal

pub returns-in-Ok-clause-names : goal.returns-in-Ok-clause-names
returns-in-Ok-clause-names c =
    named_next c.args.lineage (record { name = c.args.name; partition = c.args.accepted }) c.in-Ok.next
    c.in-Ok.ensures.line c.requires.names c.requires.name
