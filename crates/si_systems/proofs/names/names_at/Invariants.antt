use Rattle.std.proofs.Common.{◌≡◌, take}
use Rattle.si_systems.specs.Loops.Parts.{sgs_now}
use Rattle.si_systems.specs.Names as meaning
use Rattle.si_systems.proofs.names.names_at.Given as goal

abbrev pub invariant-loop-k : goal.invariant-loop-k
invariant-loop-k l = l.names ≡ take l.k (meaning.names_at (sgs_now l.given) l.tuple)
