-- (law) What laws say of the texts of folded graphs.
use Rattle.std.specs.Prelude.{◌≡◌, ℕ, List, Ok}
use Rattle.si_base.specs.Behaviour.{Implements}
use Rattle.si_base.specs.Codes.{CodedGraph}
use Rattle.si_base.specs.GivenGraph.{Sg}
use Rattle.si_base.specs.Netlist.{Netlist}
use Rattle.si_base.specs.NetlistText.{netlist_text}
use Rattle.si_base.specs.System.{IsFor}
use Rattle.si_base.specs.WellFormed.{IsNetlist}
use Rattle.si_circuit.specs.declared.style.Style.{Style}
use Rattle.si_sg.specs.GivenGraph.{IsGivenBy}
use Rattle.si_readings.specs.Checks.{IsSound}
use Rattle.si_reports.specs.Fold.{IsFoldedGraph}
use Rattle.si_reports.specs.Meaning.{report}
use Rattle.si_stages.specs.Meaning.{synth, mapping}
use Rattle.si_readings.specs.declared.library_format.LibraryFormat.{LibraryFormat}
use Rattle.si_reports.specs.declared.report_kind.Report.TheVariants.{Fold}

-- the output gives the folded graph of the proper graph that the text gives
pub record GivesFolded (text output : List ℕ) : Type 0 where
  pub given : Sg
  pub is_given : IsGivenBy text given
  pub coded : CodedGraph
  pub sound : IsSound given.graph coded
  pub folded : Sg
  pub is_folded : IsFoldedGraph given.model given.states coded folded
  pub back : IsGivenBy output folded

-- what is written of a folded graph is read back as it
abbrev pub FoldTextsReadBack : Type 0
FoldTextsReadBack = (file text output : List ℕ) → report Fold file text (Ok output)
    → GivesFolded text output

-- the output is the text of a netlist that implements the proper graph that the text gives, with
-- its model, its signals and the values of its start
pub record ImplementsGiven (text output : List ℕ) : Type 0 where
  pub given : Sg
  pub is_given : IsGivenBy text given
  pub coded : CodedGraph
  pub sound : IsSound given.graph coded
  pub netlist : Netlist
  pub is_netlist : IsNetlist netlist
  pub output_is : output ≡ netlist_text netlist
  pub model_is : netlist.model ≡ given.model
  pub is_for : IsFor coded netlist
  pub implements : Implements netlist given.graph

-- the netlist that is synthesised from the text of a folded graph implements the given graph
abbrev pub FoldTextsAreSynthesised : Type 0
FoldTextsAreSynthesised = (style : Style) (file text folded_file folded output : List ℕ)
    → report Fold file text (Ok folded) → synth style folded_file folded (Ok output)
    → ImplementsGiven text output

-- and so does the one to which that text is mapped
abbrev pub FoldTextsAreMapped : Type 0
FoldTextsAreMapped = (format : LibraryFormat)
    (file text folded_file folded library cells output : List ℕ)
    → report Fold file text (Ok folded)
    → mapping format folded_file folded library cells (Ok output)
    → ImplementsGiven text output
