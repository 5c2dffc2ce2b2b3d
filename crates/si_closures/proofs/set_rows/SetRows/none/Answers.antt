use Rattle.si_closures.proofs.RowLemmas.{no_states}
use Rattle.si_closures.proofs.set_rows.SetRows.none.Goals as goal

pub returns-clause-none : goal.returns-clause-none
returns-clause-none c k small =
    rw (c.in_ok-rows.ensures.items_if_clones_equal (λ _ same. same)) (no_states c.args.states _ k)
