use Rattle.std.proofs.Common.{[]}
use Rattle.si_exports.proofs.EquationsLemmas.{output_is_equations}
use Rattle.si_commands.specs.declared.task.Task.TheVariants.{Equations}
use Rattle.si_tool.proofs.RunOutputs.{puts_of_file}
use Rattle.si_tool.proofs.laws.equation_runs_put_their_netlists.Goals as goal

pub returns : goal.returns
returns g c words content before now old new former later result file asks ends done =
    let puts = puts_of_file words content before now _ _ result Equations file [] asks ends done in
    record {
      text = puts.text;
      loaded = puts.loaded;
      output = puts.output;
      are_equations = output_is_equations file puts.text puts.output puts.means;
      written = puts.written;
    }
