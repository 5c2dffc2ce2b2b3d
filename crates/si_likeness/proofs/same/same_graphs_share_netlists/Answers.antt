use Rattle.si_likeness.proofs.SameLemmas.{output_serves}
use Rattle.si_likeness.proofs.same.same_graphs_share_netlists.Goals as goal

pub returns : goal.returns
returns c = output_serves
