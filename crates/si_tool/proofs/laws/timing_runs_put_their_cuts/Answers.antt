use Rattle.std.proofs.Common.{[]}
use Rattle.si_commands.specs.Command.{format_of}
use Rattle.si_commands.specs.declared.task.Task.TheVariants.{Timing}
use Rattle.si_exports.proofs.TimingLemmas.{output_is_timing}
use Rattle.si_tool.proofs.RunOutputs.{puts_of_two}
use Rattle.si_tool.proofs.laws.timing_runs_put_their_cuts.Goals as goal

pub returns : goal.returns
returns g c words content before now old new former later result kind netlist library asks ends done =
    let puts = puts_of_two words content before now _ _ result (Timing kind) netlist library [] asks ends done in
    record {
      netlist_text = puts.text;
      library_text = puts.other_text;
      loaded = puts.loaded;
      output = puts.output;
      is_timing = output_is_timing (format_of kind []) netlist puts.text library puts.other_text puts.output
          puts.means;
      written = puts.written;
    }
