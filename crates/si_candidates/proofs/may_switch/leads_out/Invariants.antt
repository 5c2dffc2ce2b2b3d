use Rattle.std.proofs.Common.{ℕ, ◌<◌, get_or}
use Rattle.si_base.specs.Sets.{IsIn}
use Rattle.si_candidates.specs.Loops.ManySets.{TellsOf, words_at}
use Rattle.si_candidates.proofs.may_switch.leads_out.Given as goal

abbrev pub invariant-loop-b : goal.invariant-loop-b
invariant-loop-b l = (j : ℕ) → j < l.b → TellsOf (get_or l.given j 0) (words_at l.lists j)
    (λ set. IsIn set l.arc.from → IsIn set l.arc.to) (get_or l.given j 0)
