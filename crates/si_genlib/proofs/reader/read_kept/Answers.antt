use Rattle.si_tokens.specs.Loops.Parts.{left}
use Rattle.si_genlib.specs.Loops.Held.{progress_now}
use Rattle.si_genlib.proofs.LibraryLemmas.{read_are}
use Rattle.si_genlib.proofs.reader.read_kept.Goals as goal

pub returns-in-None-clause-cells : goal.returns-in-None-clause-cells
returns-in-None-clause-cells c =
    (read_are (left c.new-source.result) (progress_now c.in-Ok.kept) c.in-Ok.ensures).cells

pub returns-in-None-clause-ports : goal.returns-in-None-clause-ports
returns-in-None-clause-ports c =
    (read_are (left c.new-source.result) (progress_now c.in-Ok.kept) c.in-Ok.ensures).ports
