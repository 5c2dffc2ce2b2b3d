use Rattle.si_breaches.proofs.BreachTexts.{each_fork}
use Rattle.si_breaches.proofs.ClashValues.{clash_tells}
use Rattle.si_breaches.proofs.ForkLemmas.{forks_are_first}
use Rattle.si_breaches.proofs.SplitLemmas.{splits_tell}
use Rattle.si_breaches.proofs.laws.told_breaches.Goals as goal

pub returns-clause-splits : goal.returns-clause-splits
returns-clause-splits c = splits_tell

pub returns-clause-clashes : goal.returns-clause-clashes
returns-clause-clashes c = λ g walk is ways a. clash_tells g is walk ways a

pub returns-clause-forks : goal.returns-clause-forks
returns-clause-forks c = each_fork

pub returns-clause-all : goal.returns-clause-all
returns-clause-all c = forks_are_first
