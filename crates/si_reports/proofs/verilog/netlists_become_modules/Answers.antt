use Rattle.si_netlist_reader.specs.NetlistFault.{netlist_fault}
use Rattle.si_netlist_reader.specs.NetlistValue.{netlist_of}
use Rattle.si_verilog.specs.ModuleText.{verilog_text}
use Rattle.si_reports.proofs.VerilogLemmas.{output_is_module, module_is_output}
use Rattle.si_readings.proofs.SpelledOutputs.{refusal_is_fault, fault_is_refusal}
use Rattle.si_reports.proofs.verilog.netlists_become_modules.Goals as goal

pub returns : goal.returns
returns c = record {
  output = λ file text output. (output_is_module file text output, module_is_output file text output);
  refusal = λ file text refusal. (
    refusal_is_fault file (netlist_fault text) (netlist_of text) verilog_text refusal,
    fault_is_refusal file (netlist_fault text) (netlist_of text) verilog_text refusal,
  );
}
