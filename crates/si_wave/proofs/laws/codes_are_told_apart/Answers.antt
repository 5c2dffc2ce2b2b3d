use Rattle.si_wave.proofs.CodesOfWires.{codes_apart, codes_visible}
use Rattle.si_wave.proofs.laws.codes_are_told_apart.Goals as goal

pub returns : goal.returns
returns c = record { apart = codes_apart; visible = codes_visible }
