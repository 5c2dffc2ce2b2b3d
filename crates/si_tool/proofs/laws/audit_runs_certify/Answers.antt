use Rattle.si_tool.proofs.RunAudit.{audit_puts}
use Rattle.si_tool.proofs.laws.audit_runs_certify.Goals as goal

pub returns : goal.returns
returns g c words content before now old new former later result graph netlist asks ends done =
    audit_puts words content before now _ _ result graph netlist asks ends done
