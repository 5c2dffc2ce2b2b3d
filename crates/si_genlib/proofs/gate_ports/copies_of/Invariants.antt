use Rattle.std.proofs.Common.{◌≡◌, take}
use Rattle.si_words.specs.Loops.Reads.{words_now}
use Rattle.si_genlib.proofs.gate_ports.copies_of.Given as goal

abbrev pub invariant-loop-name : goal.invariant-loop-name
invariant-loop-name l = l.copies.items ≡ words_now (take l.name-index l.names)
