use Rattle.si_tool.proofs.RunExercise.{exercise_unrefused}
use Rattle.si_tool.proofs.laws.exercises_are_never_refused.Goals as goal

pub returns : goal.returns
returns g c words content before now old new former later result digit asks ends =
    exercise_unrefused words content before now _ _ result digit asks ends
