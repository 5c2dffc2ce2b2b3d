use Rattle.std.proofs.Common.{◌≡◌, take}
use Rattle.si_works.specs.Loops.Parts.{parts_now}
use Rattle.si_works.specs.Works as meaning
use Rattle.si_works.proofs.works.graphs_of.Given as goal

abbrev pub invariant-loop-part : goal.invariant-loop-part
invariant-loop-part l = l.graphs.items ≡ meaning.graphs (parts_now (take l.part-index l.parts))
