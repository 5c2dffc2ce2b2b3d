use Rattle.si_reports.proofs.WaveLaws.{shows_replay}
use Rattle.si_reports.proofs.wave_laws.waves_show_replays.Goals as goal

pub returns : goal.returns
returns c = shows_replay
