use Rattle.si_audit.proofs.AuditBuiltLineages.{built_along, certified_along}
use Rattle.si_audit.proofs.laws.built_netlists_are_certified.Goals as goal

pub returns : goal.returns
returns c = record { built = built_along; certified = certified_along }
