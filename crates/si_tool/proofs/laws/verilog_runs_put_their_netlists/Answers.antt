use Rattle.std.proofs.Common.{[]}
use Rattle.si_reports.proofs.VerilogLemmas.{output_is_module}
use Rattle.si_commands.specs.declared.task.Task.TheVariants.{Verilog}
use Rattle.si_tool.proofs.RunOutputs.{puts_of_file}
use Rattle.si_tool.proofs.laws.verilog_runs_put_their_netlists.Goals as goal

pub returns : goal.returns
returns g c words content before now old new former later result file asks ends done =
    let puts = puts_of_file words content before now _ _ result Verilog file [] asks ends done in
    record {
      text = puts.text;
      loaded = puts.loaded;
      output = puts.output;
      is_module = output_is_module file puts.text puts.output puts.means;
      written = puts.written;
    }
