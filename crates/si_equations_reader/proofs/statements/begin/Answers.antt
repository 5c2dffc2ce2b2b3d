use Rattle.std.proofs.Common.{[]}
use Rattle.si_equations.specs.Equations.{without}
use Rattle.si_equations_reader.proofs.ListLemmas.{good_both}
use Rattle.si_equations_reader.proofs.statements.begin.Goals as goal

pub inputs_of-requires : goal.inputs_of-requires
inputs_of-requires c = (good_both [] (without c.args.outputs c.args.listed.now) c.args.outputs c.requires).0
