use Rattle.si_kin.proofs.ClassLemmas.{input_told}
use Rattle.si_kin.proofs.kin.is_input.Goals as goal

pub returns : goal.returns
returns c = input_told c.args.graph.now.signals c.args.e.sig c.is_driven.result c.requires c.is_driven.ensures
