-- (command) What is told of the netlist of a text.
use Rattle.std.specs.Prelude.{ℕ, List}
use Rattle.si_base.specs.Netlist.{Netlist}
use Rattle.si_loops.specs.LoopsText.{IsLoopsText}
use Rattle.si_readings.specs.Readings.{netlist_in}
use Rattle.si_refusals.specs.Refusal.{TextRefusal}
use Rattle.si_refusals.specs.Stages.{Stage, ◌>>=◌, shows}
use Rattle.si_settled.specs.ResetText.{IsResetText}
use Rattle.si_reports.specs.declared.netlist_report.NetlistReport.{NetlistReport}
use Rattle.si_reports.specs.declared.netlist_report.NetlistReport.TheVariants.{Loops, Reset}

-- the text of the arcs that are cut; the text of the gates that settle and of what to force
abbrev pub netlist_text : NetlistReport → Netlist → Stage TextRefusal (List ℕ)
netlist_text Loops netlist = shows (IsLoopsText netlist)
netlist_text Reset netlist = shows (IsResetText netlist)

abbrev pub netlist_report : NetlistReport → (file text : List ℕ) → Stage TextRefusal (List ℕ)
netlist_report what file text = do
  netlist ← netlist_in file text
  netlist_text what netlist
