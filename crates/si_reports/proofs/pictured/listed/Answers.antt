use Rattle.std.proofs.Common.{Ok, ap}
use Rattle.si_refusals.specs.Stages.{Passes}
use Rattle.si_reports.proofs.pictured.listed.Goals as goal

pub returns-clause-ok : goal.returns-clause-ok
returns-clause-ok c = Passes c.in_ok-seen.seen c.in_ok-seen.ensures (ap Ok c.in_ok-output.ensures)
