use Rattle.si_genlib.proofs.LibraryLemmas.{same_library, ports_are}
use Rattle.si_genlib.proofs.cell_laws.genlib_texts_name_ports.Goals as goal

pub returns-clause-library : goal.returns-clause-library
returns-clause-library c = same_library

pub returns-clause-ports : goal.returns-clause-ports
returns-clause-ports c = ports_are
