use Rattle.si_tool.proofs.RunCertify.{certify_puts}
use Rattle.si_tool.proofs.laws.certify_runs_put_certified_netlists.Goals as goal

pub returns : goal.returns
returns g c words content before now old new former later result graph netlist asks ends done =
    certify_puts words content before now _ _ result graph netlist asks ends done
