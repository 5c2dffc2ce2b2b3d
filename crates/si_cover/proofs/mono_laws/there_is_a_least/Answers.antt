use Rattle.si_cover.proofs.MonoLemmas.{monos_meet, least_monos_agree, least_monos_have_same_literals, falling_is_mono}
use Rattle.si_cover.proofs.MonoLemmas.{outside_is_none, no_mono_is_unique}
use Rattle.si_cover.proofs.mono_laws.there_is_a_least.Goals as goal

pub returns-clause-meet : goal.returns-clause-meet
returns-clause-meet c = monos_meet

pub returns-clause-agree : goal.returns-clause-agree
returns-clause-agree c = least_monos_agree

pub returns-clause-literals : goal.returns-clause-literals
returns-clause-literals c = least_monos_have_same_literals

pub returns-clause-mono : goal.returns-clause-mono
returns-clause-mono c = falling_is_mono

pub returns-clause-none : goal.returns-clause-none
returns-clause-none c = outside_is_none

pub returns-clause-first : goal.returns-clause-first
returns-clause-first c = no_mono_is_unique
