use Rattle.si_closures.proofs.WordLemmas.{has_all}
use Rattle.si_closures.proofs.words.everywhere.Goals as goal

pub returns : goal.returns
returns c = rw (c.in_ok-words.ensures.items_if_clones_equal (λ _ same. same)) (has_all c.args.states)
