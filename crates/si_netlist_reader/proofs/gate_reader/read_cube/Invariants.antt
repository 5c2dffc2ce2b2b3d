use Rattle.si_netlist_reader.proofs.CubeReading.{InCube}
use Rattle.si_netlist_reader.proofs.gate_reader.read_cube.Given as goal

abbrev pub invariant-loop-word : goal.invariant-loop-word
invariant-loop-word l = InCube l.signals l.words l.word-index l.care l.value l.next l.fault
