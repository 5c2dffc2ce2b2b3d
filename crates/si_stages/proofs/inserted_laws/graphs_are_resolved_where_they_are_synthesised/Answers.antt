use Rattle.si_stages.proofs.InsertedTexts.{resolved_are_synthesised}
use Rattle.si_stages.proofs.inserted_laws.graphs_are_resolved_where_they_are_synthesised.Goals as goal

pub returns : goal.returns
returns c = resolved_are_synthesised
