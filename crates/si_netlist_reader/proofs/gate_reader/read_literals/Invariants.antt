use Rattle.std.proofs.Common.{◌≡◌, drop}
use Rattle.si_tokens.specs.LineParts.{each, each_after, held}
use Rattle.si_words.specs.Loops.Reads.{words_now}
use Rattle.si_tokens.specs.SumParts.{literal_part}
use Rattle.si_netlist_reader.proofs.gate_reader.read_literals.Given as goal

abbrev pub invariant-loop-word : goal.invariant-loop-word
invariant-loop-word l = held l.fault
    (each_after (λ before. literal_part l.signals) l.literals.items (words_now (drop l.word-index l.words)))
    ≡ each (literal_part l.signals) (words_now l.words)
