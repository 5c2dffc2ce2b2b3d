use Rattle.std.proofs.Common.{bytes_eq}
use Rattle.std.specs.List.{list_any}
use Rattle.si_joins.specs.Lifted.{own_word}
use Rattle.si_joins.proofs.SetLemmas.{IsFilledTo}
use Rattle.si_joins.proofs.sets.lifted_set.Given as goal

abbrev pub invariant-loop-s : goal.invariant-loop-s
invariant-loop-s l = IsFilledTo (λ s. list_any (bytes_eq (own_word l.view l.lineage s)) l.words) l.size l.s l.set
