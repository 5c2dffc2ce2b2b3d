use Rattle.si_commands.proofs.HelpLines.{each_shown}
use Rattle.si_commands.proofs.laws.help_shows_each_command.Goals as goal

pub returns : goal.returns
returns c choices task = each_shown task
