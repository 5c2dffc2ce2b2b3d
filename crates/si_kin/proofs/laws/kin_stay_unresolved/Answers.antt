use Rattle.si_kin.proofs.KinLemmas.{never_resolved}
use Rattle.si_kin.proofs.laws.kin_stay_unresolved.Goals as goal

pub returns : goal.returns
returns c = never_resolved
