use Rattle.std.proofs.Common.{◌≡◌, drop}
use Rattle.si_tokens.specs.LineParts.{each_after, held}
use Rattle.si_words.specs.Loops.Reads.{words_now, parts_now}
use Rattle.si_netlist_reader.specs.GateParts.{cube_part, sum_part}
use Rattle.si_netlist_reader.proofs.gate_reader.read_sum.Given as goal

abbrev pub invariant-loop-part : goal.invariant-loop-part
invariant-loop-part l = held l.fault
    (each_after (λ before. cube_part l.signals) l.cubes.items (parts_now (drop l.part-index l.part-items)))
    ≡ sum_part l.signals (words_now l.words)
