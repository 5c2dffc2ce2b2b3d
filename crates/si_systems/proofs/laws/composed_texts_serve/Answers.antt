use Rattle.si_systems.proofs.OutputLemmas.{output_serves}
use Rattle.si_systems.proofs.laws.composed_texts_serve.Goals as goal

pub returns : goal.returns
returns c = output_serves
