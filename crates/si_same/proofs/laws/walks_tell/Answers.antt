use Rattle.si_same.proofs.AlikeEquivalence.{walks_tell, alike_itself, alike_through}
use Rattle.si_same.proofs.AlikeWalks.{alike_back}
use Rattle.si_same.proofs.laws.walks_tell.Goals as goal

pub returns-clause-walks : goal.returns-clause-walks
returns-clause-walks c = walks_tell

pub returns-clause-equivalence : goal.returns-clause-equivalence
returns-clause-equivalence c = record {
  itself = alike_itself;
  back = λ f g f_is g_is alike. alike_back f.graph g.graph alike;
  through = alike_through;
}
