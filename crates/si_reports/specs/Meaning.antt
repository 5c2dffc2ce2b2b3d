-- (command) What each report on a graph, and each replay, means over the texts of its files.
use Rattle.std.specs.Prelude.{ℕ, List}
use Rattle.si_base.specs.Graph.{StateGraph}
use Rattle.si_readings.specs.Checks.{proper}
use Rattle.si_readings.specs.Readings.{replay_readings}
use Rattle.si_refusals.specs.Refusal.{TextRefusal}
use Rattle.si_refusals.specs.Stages.{Stage, ◌>>=◌}
use Rattle.si_reports.specs.Linted.{whole_in, told}
use Rattle.si_reports.specs.Pictured.{drawn, listed}
use Rattle.si_reports.specs.Replayed.{replay_on}
use Rattle.si_reports.specs.Reports.{report_text}
use Rattle.si_reports.specs.declared.replay_kind.ReplayReport.{ReplayReport}
use Rattle.si_reports.specs.declared.report_kind.ProperReport.{ProperReport}
use Rattle.si_reports.specs.declared.report_kind.ProperReport.TheVariants as kind
use Rattle.si_reports.specs.declared.report_kind.Report.{Report}
use Rattle.si_reports.specs.declared.report_kind.Report.TheVariants.{Summary, Regions, Conflicts}
use Rattle.si_reports.specs.declared.report_kind.Report.TheVariants.{Covers, Fold, States, Explain}
use Rattle.si_reports.specs.declared.report_kind.Report.TheVariants.{Dot, Lint}

-- the report on a proper graph, of this model and with these names of its states
abbrev pub on_proper : ProperReport → (model : List ℕ) → (states : List (List ℕ)) → StateGraph
    → Stage TextRefusal (List ℕ)
on_proper what model states graph = do
  coded ← proper graph states
  report_text what model states coded

-- and on a graph, with the names of the states that were dropped: it needs to be proper but for its
-- states and its picture
abbrev pub report_on : Report → (model : List ℕ) → (states dropped : List (List ℕ)) → StateGraph
    → Stage TextRefusal (List ℕ)
report_on Summary model states dropped graph = on_proper kind.Summary model states graph
report_on Regions model states dropped graph = on_proper kind.Regions model states graph
report_on Conflicts model states dropped graph = on_proper kind.Conflicts model states graph
report_on Covers model states dropped graph = on_proper kind.Covers model states graph
report_on Fold model states dropped graph = on_proper kind.Fold model states graph
report_on States model states dropped graph = listed states graph
report_on Explain model states dropped graph = on_proper kind.Explain model states graph
report_on Dot model states dropped graph = drawn model states graph
report_on Lint model states dropped graph = told states dropped graph

abbrev pub report : Report → (file text : List ℕ) → Stage TextRefusal (List ℕ)
report what file text = do
  whole ← whole_in file text
  report_on what whole.given.model whole.given.states whole.dropped whole.given.graph

abbrev pub replay : ReplayReport
    → (graph graph_text netlist netlist_text schedule schedule_text : List ℕ)
    → Stage TextRefusal (List ℕ)
replay what graph graph_text netlist netlist_text schedule schedule_text = do
  readings ← replay_readings graph graph_text netlist netlist_text schedule schedule_text
  replay_on what netlist readings.given.graph readings.given.states readings.netlist readings.events
