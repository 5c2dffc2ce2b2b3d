use Rattle.std.proofs.Common.{[]}
use Rattle.si_stages.proofs.GenlibLemmas.{output_is_library}
use Rattle.si_commands.specs.declared.task.Task.TheVariants.{FromGenlib}
use Rattle.si_tool.proofs.RunOutputs.{puts_of_file}
use Rattle.si_tool.proofs.laws.genlib_runs_put_their_libraries.Goals as goal

pub returns : goal.returns
returns g c words content before now old new former later result file asks ends done =
    let puts = puts_of_file words content before now _ _ result FromGenlib file [] asks ends done in
    record {
      text = puts.text;
      loaded = puts.loaded;
      output = puts.output;
      is_library = output_is_library file puts.text puts.output puts.means;
      written = puts.written;
    }
