use Rattle.si_refusals.specs.Stages.{Passes}
use Rattle.si_reports.proofs.pictured.drawn.Goals as goal

pub returns-clause-ok : goal.returns-clause-ok
returns-clause-ok c =
    Passes c.in_ok-seen.seen c.in_ok-seen.ensures (rw c.bytes.ensures at c.in_ok-output.ensures)
