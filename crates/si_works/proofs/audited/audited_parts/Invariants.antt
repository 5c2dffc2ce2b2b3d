use Rattle.std.proofs.Common.{map, take, vec_items, zip, Ok}
use Rattle.si_refusals.specs.Stages.{each}
use Rattle.si_words.specs.Loops.Reads.{words_now}
use Rattle.si_works.specs.Audited.{audited_part}
use Rattle.si_works.specs.Loops.Parts.{parts_now}
use Rattle.si_works.specs.System.{two_by_two}
use Rattle.si_works.proofs.audited.audited_parts.Given as goal

-- the pairs so far gave these parts
abbrev pub invariant-loop-k : goal.invariant-loop-k
invariant-loop-k l = each (λ p. audited_part p.0.0 p.1.0 p.0.1 p.1.1)
    (take l.k (zip (two_by_two (words_now l.files)) (two_by_two (map vec_items l.texts))))
    (Ok (parts_now l.parts.items))
