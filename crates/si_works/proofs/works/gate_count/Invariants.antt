use Rattle.std.proofs.Common.{◌≡◌, ◌≤◌, ◌*◌, take}
use Rattle.si_base.specs.Limits.{max_signals}
use Rattle.si_works.specs.Loops.Parts.{parts_now}
use Rattle.si_works.specs.Works as meaning
use Rattle.si_works.proofs.works.gate_count.Given as goal

abbrev pub invariant-loop-part : goal.invariant-loop-part
invariant-loop-part l = (l.count ≡ meaning.gate_count (parts_now (take l.part-index l.parts)))
    × (l.count ≤ max_signals * l.part-index)
