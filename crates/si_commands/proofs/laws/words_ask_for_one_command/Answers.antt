use Rattle.si_commands.proofs.FormOverlap.{one_request}
use Rattle.si_commands.proofs.laws.words_ask_for_one_command.Goals as goal

pub returns : goal.returns
returns c = one_request
