use Rattle.si_same.proofs.AlikeWalks.{one_answer}
use Rattle.si_same.proofs.SearchDecided.{some_answer}
use Rattle.si_same.proofs.laws.first_differences_are_determined.Goals as goal

pub returns-clause-some : goal.returns-clause-some
returns-clause-some c = λ f g f_is g_is.
    some_answer f.graph g.graph f_is.graph_is g_is.graph_is f_is.deterministic g_is.deterministic

pub returns-clause-one : goal.returns-clause-one
returns-clause-one c = λ f g found other f_is g_is is also.
    one_answer f.graph g.graph f_is.deterministic g_is.deterministic found other is also
