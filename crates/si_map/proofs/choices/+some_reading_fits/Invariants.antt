use Rattle.std.proofs.Common.{◌≡◌, ◌<◌, ◌-◌, All}
use Rattle.si_match.proofs.ApartLemmas.{NoneByThen}
use Rattle.si_map.proofs.choices.+some_reading_fits.Given as goal

abbrev pub decreases-some_reading_fits : goal.decreases-some_reading_fits
decreases-some_reading_fits l = l.more

abbrev pub invariant-loop-y : goal.invariant-loop-y
invariant-loop-y l = record {
  none : NoneByThen l.coded l.library l.z l.differing l.fn.chosen.items (l.more - 1) l.y;
  kept : l.chosen.items ≡ l.fn.chosen.items;
  within : All (λ s. s < l.coded.graph.states) l.witnesses.items;
}
