use Rattle.std.proofs.Common.{◌≡◌, ◌<◌, take, true, All}
use Rattle.std.specs.List.{list_all}
use Rattle.si_match.specs.Fit.{suits, states_of}
use Rattle.si_match.proofs.state.fits.Given as goal

abbrev pub invariant-loop-s : goal.invariant-loop-s
invariant-loop-s l = record {
  told : list_all (suits l.coded l.z l.cell l.literals) (take l.s (states_of l.coded)) ≡ true;
  within : All (λ s. s < l.coded.graph.states) l.witnesses.items;
}
