use Rattle.si_stages.proofs.InsertedTexts.{inserted_texts_read_back}
use Rattle.si_stages.proofs.inserted_laws.inserted_texts_read_back.Goals as goal

pub returns : goal.returns
returns c = inserted_texts_read_back
