use Rattle.si_tool.proofs.RunEquationsCertified.{equations_put}
use Rattle.si_tool.proofs.laws.certify_runs_put_equations.Goals as goal

pub returns : goal.returns
returns g c words content before now old new former later result form graph equations asks ends done =
    equations_put words content before now _ _ result form graph equations asks ends done
