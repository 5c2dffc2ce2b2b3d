use Rattle.std.proofs.Common.{◌∙◌, ap, sym, subst}
use Rattle.si_base.specs.Codes.{IsConnected}
use Rattle.si_pictures.specs.Seen.{graph_of}
use Rattle.si_reports.proofs.linted.told_of.Goals as goal

pub list_breaches-requires-clause-connected : goal.list_breaches-requires-clause-connected
list_breaches-requires-clause-connected c =
    subst IsConnected (ap graph_of c.in-Coded.is ∙ sym c.graph.ensures.same) c.requires.connected

pub list_breaches-requires-in-Uncoded-clause-connected : goal.list_breaches-requires-in-Uncoded-clause-connected
list_breaches-requires-in-Uncoded-clause-connected c =
    subst IsConnected (ap graph_of c.in-Uncoded.is) c.requires.connected
