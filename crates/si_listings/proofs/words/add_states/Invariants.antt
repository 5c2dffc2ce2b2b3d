use Rattle.std.proofs.Common.{◌≡◌, ◌++◌}
use Rattle.si_listings.proofs.ListingLemmas.{states_from}
use Rattle.si_listings.proofs.words.add_states.Given as goal

abbrev pub invariant-loop-s : goal.invariant-loop-s
invariant-loop-s l = l.text ++ states_from l.names l.states l.s-index ≡ l.initial.text ++ states_from l.names l.states 0
