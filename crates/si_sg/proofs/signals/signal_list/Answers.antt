use Rattle.si_sg.proofs.SignalLemmas.{appended}
use Rattle.si_sg.proofs.signals.signal_list.Goals as goal

pub returns : goal.returns
returns c = appended _ _ _ _ _ _ _ c.in_ok-list.ensures.items c.in_ok-add_signals.ensures
    c.in_ok-add_signals-2.ensures c.in_ok-add_signals-3.ensures
