use Rattle.std.proofs.Common.{◌∙◌, ap}
use Rattle.si_conflicts.specs.Loops.Keys.{clash_count}
use Rattle.si_conflicts.proofs.SortedClashes.{clashes_permuted}
use Rattle.si_conflicts.proofs.count.count_clashes.Goals as goal

pub returns-clause-is : goal.returns-clause-is
returns-clause-is c =
    c.clashes_of_sorted.ensures.is ∙ ap clash_count c.as_slice.ensures.value
    ∙ clashes_permuted c.in_ok-sorted.sorted.items c.sort_unstable.new.self.items c.sort_unstable.ensures.permutation
    ∙ ap clash_count c.in_ok-sorted.ensures.items
