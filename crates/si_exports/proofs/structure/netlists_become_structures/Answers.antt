use Rattle.si_exports.proofs.StructureLemmas.{output_is_structure, structure_is_output}
use Rattle.si_exports.proofs.structure.netlists_become_structures.Goals as goal

pub returns : goal.returns
returns c format complements name netlist netlist_text library library_text output = (
  output_is_structure format complements name netlist netlist_text library library_text output,
  structure_is_output format complements name netlist netlist_text library library_text output,
)
