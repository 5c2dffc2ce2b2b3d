use Rattle.si_exports.proofs.TimingLemmas.{output_is_timing, timing_is_output}
use Rattle.si_exports.proofs.timing.netlists_come_to_timing.Goals as goal

pub returns : goal.returns
returns c format netlist netlist_text library library_text output = (
  output_is_timing format netlist netlist_text library library_text output,
  timing_is_output format netlist netlist_text library library_text output,
)
