use Rattle.si_genlib.proofs.LibraryLemmas.{is_library}
use Rattle.si_genlib.proofs.cell_laws.genlib_texts_spell_libraries.Goals as goal

pub returns : goal.returns
returns c = is_library
