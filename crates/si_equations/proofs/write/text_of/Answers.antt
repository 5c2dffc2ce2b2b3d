use Rattle.si_equations.proofs.WritingLemmas.{text_by_calls}
use Rattle.si_equations.proofs.write.text_of.Goals as goal

pub returns-clause-text : goal.returns-clause-text
returns-clause-text c =
    text_by_calls c.args.netlist.now _ _ _ _
    c.in_ok-text.ensures
    (rw c.signals-signals.ensures.signals at c.in_ok-add_list.ensures)
    (rw c.signals-signals.ensures.signals at c.in_ok-add_list-2.ensures)
    (rw (c.gates.ensures, c.signals-signals.ensures.signals) at c.in_ok-add_equations.ensures)
