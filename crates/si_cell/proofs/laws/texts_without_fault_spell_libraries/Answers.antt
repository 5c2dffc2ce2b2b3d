use Rattle.si_cell.proofs.LawLemmas.{text_is_library}
use Rattle.si_cell.proofs.laws.texts_without_fault_spell_libraries.Goals as goal

pub returns : goal.returns
returns c = text_is_library
