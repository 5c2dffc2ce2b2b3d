use Rattle.si_words.proofs.PlaceLemmas.{new_name}
use Rattle.si_verilog_reader.proofs.heads.push.Goals as goal

pub returns-in-Ok : goal.returns-in-Ok
returns-in-Ok c = c.in-Ok.ensures.new (new_name c.args.names.now c.args.name.now c.requires.new)
