use Rattle.std.proofs.Common.{rules}
use Rattle.std.proofs.lemmas.List.Sorted.{IsNonDecreasingBy-from_sort}
use Rattle.arrayvec.proofs.ArrayVecLemmas.{items-with_items}
use Rattle.si_divisor.proofs.function.signals_of.Goals as goal

pub returns-clause-in_order : goal.returns-clause-in_order
returns-clause-in_order c =
    rw (items-with_items c.unsorted_signals-signals.result c.sort_unstable.new.self (search rules))
    (IsNonDecreasingBy-from_sort (λ s. s) _ c.sort_unstable.ensures.sorted)
