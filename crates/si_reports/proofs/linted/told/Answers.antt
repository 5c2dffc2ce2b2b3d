use Rattle.std.proofs.Common.{sym, subst}
use Rattle.si_base.specs.Codes.{IsConnected}
use Rattle.si_refusals.specs.Stages.{Passes}
use Rattle.si_reports.proofs.LintedLemmas.{seen_graph}
use Rattle.si_reports.proofs.linted.told.Goals as goal

pub told_of-requires-clause-connected : goal.told_of-requires-clause-connected
told_of-requires-clause-connected c = subst IsConnected
    (sym (seen_graph c.args.graph c.in_ok-seen.seen c.in_ok-seen.ensures)) c.requires.connected

pub told_of-requires-clause-names : goal.told_of-requires-clause-names
told_of-requires-clause-names c =
    rw (seen_graph c.args.graph c.in_ok-seen.seen c.in_ok-seen.ensures) c.requires.names

pub returns-clause-ok : goal.returns-clause-ok
returns-clause-ok c = Passes c.in_ok-seen.seen c.in_ok-seen.ensures c.in_ok-output.ensures
