use Rattle.si_systems.proofs.OutputLemmas.{as_given}
use Rattle.si_systems.proofs.TupleNames.{one_tuple}
use Rattle.si_systems.proofs.WritableLemmas.{tuple_named}
use Rattle.si_systems.proofs.laws.tuple_names_are_one.Goals as goal

pub returns-clause-one : goal.returns-clause-one
returns-clause-one c = λ texts given xs ys are is also same. one_tuple given xs ys (as_given texts given are) is also same

pub returns-clause-names : goal.returns-clause-names
returns-clause-names c = λ texts given xs are some is. tuple_named given xs (as_given texts given are) is some
