use Rattle.si_finder.proofs.StepLemmas.{found_next}
use Rattle.si_finder.proofs.step.with_next.Goals as goal

pub returns-in_ok-extended-in-Found-clause-found : goal.returns-in_ok-extended-in-Found-clause-found
returns-in_ok-extended-in-Found-clause-found c = found_next c.args.netlist.now c.args.lineage
    c.in_ok-extended-in-Found.field-0 c.args.name.now c.in-Found.accepted (rw c.in-Found.is at c.in_ok-next.ensures)
    c.requires.next c.in_ok-extended-in-Found.ensures
