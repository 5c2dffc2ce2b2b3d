use Rattle.si_map.proofs.TraceLemmas.{traces_are_short, traces_leave_no_conflict, fitted_is_mapped, mapped_is_unique}
use Rattle.si_map.proofs.TraceLemmas.{unmapped_is_unique, ends_exclude}
use Rattle.si_map.proofs.OneBest.{one_best}
use Rattle.si_map.proofs.laws.traces_are_determined.Goals as goal

pub returns-clause-short : goal.returns-clause-short
returns-clause-short c = traces_are_short

pub returns-clause-free : goal.returns-clause-free
returns-clause-free c = traces_leave_no_conflict

pub returns-clause-fitted : goal.returns-clause-fitted
returns-clause-fitted c = fitted_is_mapped

pub returns-clause-mapped : goal.returns-clause-mapped
returns-clause-mapped c = mapped_is_unique one_best

pub returns-clause-unmapped : goal.returns-clause-unmapped
returns-clause-unmapped c = unmapped_is_unique one_best

pub returns-clause-exclude : goal.returns-clause-exclude
returns-clause-exclude c = ends_exclude one_best
