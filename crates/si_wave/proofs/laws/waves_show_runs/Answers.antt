use Rattle.si_wave.proofs.ReadingLemmas.{shows_runs}
use Rattle.si_wave.proofs.laws.waves_show_runs.Goals as goal

pub returns : goal.returns
returns c = shows_runs
