use Rattle.std.proofs.Common.{◌≡◌, ◌+◌, drop}
use Rattle.si_joins.specs.Gates.{place_of}
use Rattle.si_joins.proofs.places.place_of.Given as goal

abbrev pub invariant-loop-k : goal.invariant-loop-k
invariant-loop-k l = l.k + place_of (drop l.k l.signals) l.name ≡ place_of l.signals l.name
