use Rattle.si_cell.proofs.CubeLemmas.{InCube}
use Rattle.si_cell.proofs.sums.read_cube.Given as goal

abbrev pub invariant-loop-word : goal.invariant-loop-word
invariant-loop-word l = InCube l.declared l.words l.word-index l.care l.value l.fault
