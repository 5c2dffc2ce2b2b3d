-- The text of a netlist comes to one answer: its module, or its first fault.
use Rattle.std.proofs.Common.{◌≡◌, ℕ, List, None, Ok, sym, subst}
use Rattle.si_netlist_reader.specs.NetlistFault.{netlist_fault}
use Rattle.si_netlist_reader.specs.NetlistValue.{netlist_of}
use Rattle.si_netlist_reader.proofs.ReadLaw.{read_is_netlist}
use Rattle.si_readings.specs.Laws.{AtMostOne, HasResult}
use Rattle.si_reports.specs.Verilog.{IsItsModule, verilog}
use Rattle.si_verilog.specs.Meaning.{MeansNetlist}
use Rattle.si_verilog.specs.ModuleText.{verilog_text}
use Rattle.si_verilog.proofs.ModuleLemmas.{text_means}
use Rattle.si_readings.proofs.SpelledOutputs.{one_answer, some_answer, output_is_written, written_is_output}

pub verilog_one : (file text : List ℕ) → AtMostOne (verilog file text)
verilog_one file text = one_answer file (netlist_fault text) (netlist_of text) verilog_text

pub verilog_some : (file text : List ℕ) → HasResult (verilog file text)
verilog_some file text = some_answer file (netlist_fault text) (netlist_of text) verilog_text

-- ---- an output is the module of the netlist that the text spells

is_its_module : (text output : List ℕ) → netlist_fault text ≡ None → output ≡ verilog_text (netlist_of text)
    → IsItsModule text output
is_its_module text output sound is = record {
  sound = sound;
  output_is = is;
  means = subst (λ (t : List ℕ). MeansNetlist t (netlist_of text)) (sym is)
      (text_means (netlist_of text) (read_is_netlist text sound));
}

pub output_is_module : (file text output : List ℕ) → verilog file text (Ok output) → IsItsModule text output
output_is_module file text output is =
    let are = output_is_written file (netlist_fault text) (netlist_of text) verilog_text output is in
    is_its_module text output are.0 are.1

pub module_is_output : (file text output : List ℕ) → IsItsModule text output → verilog file text (Ok output)
module_is_output file text output is =
    written_is_output file (netlist_fault text) (netlist_of text) verilog_text output is.sound is.output_is
