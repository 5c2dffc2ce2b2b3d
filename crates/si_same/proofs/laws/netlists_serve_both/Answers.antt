use Rattle.si_same.proofs.ServesBoth.{serves_both, for_one, for_other}
use Rattle.si_same.proofs.laws.netlists_serve_both.Goals as goal

pub returns-clause-behaviour : goal.returns-clause-behaviour
returns-clause-behaviour c = λ f g n f_is g_is alike. serves_both f g f_is g_is alike n

pub returns-clause-both : goal.returns-clause-both
returns-clause-both c = λ f g n f_is g_is alike. (for_other f g f_is g_is alike n, for_one f g f_is g_is alike n)
