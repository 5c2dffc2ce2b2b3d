use Rattle.si_tool.proofs.RunByHand.{by_hand_puts}
use Rattle.si_tool.proofs.laws.gate_runs_put_their_graphs.Goals as goal

pub returns : goal.returns
returns g c words content before now old new former later result graph gate asks ends done =
    by_hand_puts words content before now _ _ result graph gate asks ends done
