use Rattle.si_timing.proofs.InstanceLemmas.{names_tell_arcs}
use Rattle.si_timing.proofs.NoLoops.{closes_loop, no_loop}
use Rattle.si_timing.proofs.laws.disabled_arcs_leave_no_loop.Goals as goal

pub returns-clause-none : goal.returns-clause-none
returns-clause-none c = no_loop

pub returns-clause-closes : goal.returns-clause-closes
returns-clause-closes c = λ library n kept cut a over split there. closes_loop library n kept cut over split a there

pub returns-clause-names : goal.returns-clause-names
returns-clause-names c = names_tell_arcs
