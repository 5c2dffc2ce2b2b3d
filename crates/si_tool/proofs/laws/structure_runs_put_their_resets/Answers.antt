use Rattle.std.proofs.Common.{◌∷◌, Some}
use Rattle.si_commands.specs.Command.{format_of}
use Rattle.si_commands.specs.declared.task.Task.TheVariants.{ResettableStructure}
use Rattle.si_exports.proofs.StructureLemmas.{output_is_structure}
use Rattle.si_tool.specs.Meaning.{complements_of}
use Rattle.si_tool.proofs.RunOutputs.{puts_of_two}
use Rattle.si_tool.proofs.laws.structure_runs_put_their_resets.Goals as goal

pub returns : goal.returns
returns g c words content before now old new former later result kind netlist library name options asks ends
    done =
    let puts = puts_of_two words content before now _ _ result (ResettableStructure kind) netlist library
    (name ∷ options) asks ends done in
    record {
      netlist_text = puts.text;
      library_text = puts.other_text;
      loaded = puts.loaded;
      output = puts.output;
      is_structure = output_is_structure (format_of kind options) (complements_of options) (Some name) netlist
          puts.text library puts.other_text puts.output puts.means;
      written = puts.written;
    }
