use Rattle.si_netlist_reader.specs.NetlistFault.{netlist_fault}
use Rattle.si_netlist_reader.specs.NetlistValue.{netlist_of}
use Rattle.si_equations.specs.Written.{equations_text}
use Rattle.si_readings.proofs.SpelledOutputs.{refusal_is_fault, fault_is_refusal}
use Rattle.si_exports.proofs.EquationsLemmas.{output_is_equations, equations_are_output}
use Rattle.si_exports.proofs.equations.netlists_become_equations.Goals as goal

pub returns : goal.returns
returns c = record {
  output = λ file text output. (output_is_equations file text output, equations_are_output file text output);
  refusal = λ file text refusal. (
    refusal_is_fault file (netlist_fault text) (netlist_of text) equations_text refusal,
    fault_is_refusal file (netlist_fault text) (netlist_of text) equations_text refusal,
  );
}
