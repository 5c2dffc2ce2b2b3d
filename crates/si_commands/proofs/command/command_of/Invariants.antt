use Rattle.si_commands.proofs.CommandTasks.{AsksNoneBefore}
use Rattle.si_commands.proofs.command.command_of.Given as goal

-- the words have the form of none of the rows so far
abbrev pub invariant-loop-row : goal.invariant-loop-row
invariant-loop-row l = AsksNoneBefore l.words l.row-index
