use Rattle.si_wave.proofs.DumpUnique.{one_dump}
use Rattle.si_wave.proofs.WriteDumpWords.{wave_spelled}
use Rattle.si_wave.proofs.laws.waves_are_read.Goals as goal

pub returns : goal.returns
returns c = record { spelled = wave_spelled; one = one_dump }
