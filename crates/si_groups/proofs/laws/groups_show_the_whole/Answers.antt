use Rattle.si_groups.proofs.WholeRight.{right_together}
use Rattle.si_groups.proofs.laws.groups_show_the_whole.Goals as goal

pub returns : goal.returns
returns c = λ parts signals groups coded work. right_together parts signals groups coded work
