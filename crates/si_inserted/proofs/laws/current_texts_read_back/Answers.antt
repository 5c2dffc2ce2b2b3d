use Rattle.si_inserted.proofs.CurrentTexts.{texts_read_back}
use Rattle.si_inserted.proofs.laws.current_texts_read_back.Goals as goal

pub returns : goal.returns
returns c = texts_read_back
