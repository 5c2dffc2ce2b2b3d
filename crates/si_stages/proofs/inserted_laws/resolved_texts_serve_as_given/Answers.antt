use Rattle.si_stages.proofs.InsertedTexts.{resolved_texts_serve}
use Rattle.si_stages.proofs.inserted_laws.resolved_texts_serve_as_given.Goals as goal

pub returns : goal.returns
returns c = resolved_texts_serve
