use Rattle.std.proofs.Common.{vec_items, sym, true≢false, refl}
use Rattle.si_base.proofs.NameLemmas.{found_at, not_there, there}
use Rattle.si_base.proofs.names.Names.place.Goals as goal

pub returns-in-Some-clause-found : goal.returns-in-Some-clause-found
returns-in-Some-clause-found c = rw (← c.self.view_is) (found_at vec_items _ _ _ c.in-Some.ensures.index)

pub returns-in-Some-clause-absent : goal.returns-in-Some-clause-absent
returns-in-Some-clause-absent c =
    (λ e. absurd (true≢false e), λ none. absurd (none (there _ _ _ (returns-in-Some-clause-found c))))

pub returns-in-None-clause-absent : goal.returns-in-None-clause-absent
returns-in-None-clause-absent c =
    (λ _. rw (← c.self.view_is) (not_there vec_items _ _ (sym c.in-None.ensures.found)), λ _. refl)
