use Rattle.std.proofs.Common.{map, take, vec_items, zip, Ok}
use Rattle.si_readings.specs.Readings.{graph_in}
use Rattle.si_refusals.specs.Stages.{each}
use Rattle.si_systems.specs.Loops.Parts.{sgs_now}
use Rattle.si_words.specs.Loops.Reads.{words_now}
use Rattle.si_systems.proofs.compose.graphs_in.Given as goal

-- the texts so far were read
abbrev pub invariant-loop-k : goal.invariant-loop-k
invariant-loop-k l = each (λ f. graph_in f.0 f.1) (take l.k (zip (words_now l.files) (map vec_items l.texts)))
    (Ok (sgs_now l.given.items))
