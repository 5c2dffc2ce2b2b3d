use Rattle.si_stages.proofs.UnresolvedEnds.{synth_ends, map_ends}
use Rattle.si_stages.proofs.unresolved_laws.joined_conflicts_end_unresolved.Goals as goal

pub returns-clause-synth : goal.returns-clause-synth
returns-clause-synth c = synth_ends

pub returns-clause-map : goal.returns-clause-map
returns-clause-map c = map_ends
