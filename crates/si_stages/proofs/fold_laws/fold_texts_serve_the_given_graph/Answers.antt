use Rattle.si_stages.proofs.FoldLaws.{texts_are_mapped, texts_are_synthesised}
use Rattle.si_stages.proofs.fold_laws.fold_texts_serve_the_given_graph.Goals as goal

pub returns : goal.returns
returns c = record { synthesised = texts_are_synthesised; mapped = texts_are_mapped }
