use Rattle.std.proofs.Common.{◌≡◌, All, false, slice_index_or, take}
use Rattle.si_conflicts.proofs.crowds.crowd_in.Given as goal

abbrev pub invariant-loop-x : goal.invariant-loop-x
invariant-loop-x l = All (λ x. slice_index_or l.set x.state false ≡ false) (take l.x-index l.crowded)
