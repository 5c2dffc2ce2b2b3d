-- A report on a netlist has one answer: its text, or the first fault of the netlist's.
use Rattle.std.proofs.Common.{ℕ, List}
use Rattle.si_base.specs.Netlist.{Netlist}
use Rattle.si_loops.proofs.TextLemmas as loops
use Rattle.si_netlist_reader.specs.NetlistFault.{netlist_fault}
use Rattle.si_netlist_reader.specs.NetlistValue.{netlist_of}
use Rattle.si_readings.specs.Laws.{AtMostOne, HasResult}
use Rattle.si_readings.proofs.StageLemmas.{shows_one, shows_some, spelled_one, spelled_some, then_one, then_some}
use Rattle.si_settled.proofs.TextLemmas as settled
use Rattle.si_reports.specs.NetlistReports.{netlist_report, netlist_text}
use Rattle.si_reports.specs.declared.netlist_report.NetlistReport.{NetlistReport}
use Rattle.si_reports.specs.declared.netlist_report.NetlistReport.TheVariants.{Loops, Reset}

told_one : (what : NetlistReport) (netlist : Netlist) → AtMostOne (netlist_text what netlist)
told_one Loops netlist = shows_one _ (loops.one_text netlist)
told_one Reset netlist = shows_one _ (settled.one_text netlist)

told_some : (what : NetlistReport) (netlist : Netlist) → HasResult (netlist_text what netlist)
told_some Loops netlist = shows_some _ (loops.some_text netlist)
told_some Reset netlist = shows_some _ (settled.some_text netlist)

pub netlist_report_one : (what : NetlistReport) (file text : List ℕ) → AtMostOne (netlist_report what file text)
netlist_report_one what file text =
    then_one _ _ (spelled_one file (netlist_fault text) (netlist_of text)) (λ netlist spelt. told_one what netlist)

pub netlist_report_some : (what : NetlistReport) (file text : List ℕ) → HasResult (netlist_report what file text)
netlist_report_some what file text =
    then_some _ _ (spelled_some file (netlist_fault text) (netlist_of text)) (λ netlist spelt. told_some what netlist)
