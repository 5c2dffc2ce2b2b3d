use Rattle.std.proofs.Common.{reverse, vec_len}
use Rattle.si_equations_reader.proofs.MachineLemmas.{Taken}
use Rattle.si_equations_reader.proofs.machine.take_complements.Given as goal

abbrev pub invariant-loop-unfinished : goal.invariant-loop-unfinished
invariant-loop-unfinished l =
    Taken l.initial.steps.items l.steps.items (reverse l.initial.unfinished.items) (reverse l.unfinished.items)

abbrev pub decreases-loop-unfinished : goal.decreases-loop-unfinished
decreases-loop-unfinished l = vec_len l.unfinished
