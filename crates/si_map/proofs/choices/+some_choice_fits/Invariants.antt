use Rattle.std.proofs.Common.{◌≡◌, ◌<◌, ◌-◌, All, length}
use Rattle.si_match.proofs.ChoiceLemmas.{NoneBefore}
use Rattle.si_map.proofs.choices.+some_choice_fits.Given as goal

abbrev pub decreases-some_choice_fits : goal.decreases-some_choice_fits
decreases-some_choice_fits l = l.more

abbrev pub invariant-loop-y : goal.invariant-loop-y
invariant-loop-y l = record {
  none : NoneBefore l.coded l.library l.z (length l.coded.graph.signals) l.fn.chosen.items l.first (l.more - 1) l.y;
  kept : l.chosen.items ≡ l.fn.chosen.items;
  within : All (λ s. s < l.coded.graph.states) l.witnesses.items;
}
