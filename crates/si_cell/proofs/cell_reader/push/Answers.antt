use Rattle.si_words.proofs.PlaceLemmas.{new_name}
use Rattle.si_cell.proofs.cell_reader.push.Goals as goal

pub returns-in-Ok-clause-ok : goal.returns-in-Ok-clause-ok
returns-in-Ok-clause-ok c = c.in-Ok.ensures.new (new_name c.args.names.now c.args.name.now c.requires.new)
