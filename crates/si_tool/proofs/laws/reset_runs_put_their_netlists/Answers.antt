use Rattle.std.proofs.Common.{[], ◌∷◌}
use Rattle.si_exports.proofs.ResettableLemmas.{output_is_resettable}
use Rattle.si_commands.specs.declared.task.Task.TheVariants.{Resettable}
use Rattle.si_tool.proofs.RunOutputs.{puts_of_file}
use Rattle.si_tool.proofs.laws.reset_runs_put_their_netlists.Goals as goal

pub returns : goal.returns
returns g c words content before now old new former later result file name asks ends done =
    let puts = puts_of_file words content before now _ _ result Resettable file (name ∷ []) asks ends done in
    record {
      text = puts.text;
      loaded = puts.loaded;
      output = puts.output;
      is_resettable = output_is_resettable file puts.text name puts.output puts.means;
      written = puts.written;
    }
