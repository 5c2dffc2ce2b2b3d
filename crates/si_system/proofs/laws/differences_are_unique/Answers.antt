use Rattle.std.proofs.Common.{sym}
use Rattle.si_system.proofs.UniqueOutcome.{one_difference, for_not_different, difference_of_equal}
use Rattle.si_system.proofs.laws.differences_are_unique.Goals as goal

pub returns-clause-one : goal.returns-clause-one
returns-clause-one c = λ coded other n p q is also same shows shown. one_difference coded n p q shows
    (difference_of_equal other coded n q also is (sym same) shown)

pub returns-clause-none : goal.returns-clause-none
returns-clause-none c = λ coded other n p is also same for shows. for_not_different coded n p for
    (difference_of_equal other coded n p also is (sym same) shows)
