use Rattle.si_systems.proofs.ProductOutputs.{output_serves}
use Rattle.si_systems.proofs.laws.product_texts_serve.Goals as goal

pub returns : goal.returns
returns c = output_serves
