use Rattle.std.proofs.Common.{◌≡◌, take}
use Rattle.si_words.specs.Loops.Reads.{words_now}
use Rattle.si_works.specs.Loops.Parts.{parts_now}
use Rattle.si_works.specs.Works as meaning
use Rattle.si_works.proofs.works.places_of.Given as goal

abbrev pub invariant-loop-k : goal.invariant-loop-k
invariant-loop-k l = l.names ≡ meaning.places_of (words_now l.files) (parts_now l.parts) (take l.k l.group) (take l.k l.at)
