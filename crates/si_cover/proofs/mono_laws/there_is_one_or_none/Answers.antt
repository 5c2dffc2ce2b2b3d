use Rattle.si_cover.proofs.MonosExist.{mono_or_none}
use Rattle.si_cover.proofs.mono_laws.there_is_one_or_none.Goals as goal

pub returns : goal.returns
returns c = mono_or_none
