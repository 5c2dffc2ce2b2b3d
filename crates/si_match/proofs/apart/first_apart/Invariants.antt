use Rattle.std.proofs.Common.{◌<◌, All}
use Rattle.si_match.specs.Loops.Places.{AreSeen}
use Rattle.si_match.proofs.ApartPlaces.{AllSeen, NextByPlace}
use Rattle.si_match.proofs.apart.first_apart.Given as goal

abbrev pub invariant-loop-s : goal.invariant-loop-s
invariant-loop-s l = record {
  within : All (λ t. t < l.coded.graph.states) l.witnesses.items;
  seen : AreSeen l.coded l.z l.chosen l.seen;
  all : AllSeen l.coded l.z l.chosen l.s l.seen;
  alike : NextByPlace l.coded l.z l.chosen l.s;
}
