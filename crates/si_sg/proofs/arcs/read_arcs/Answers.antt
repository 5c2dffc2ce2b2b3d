use Rattle.si_sg.specs.Loops.Reads.{section_now}
use Rattle.si_sg.specs.Section.{state_fault, chain_fault, with_state, is_even}
use Rattle.si_sg.proofs.ArcLemmas.{shown_first, shown_more}
use Rattle.si_sg.proofs.arcs.read_arcs.Goals as goal

pub returns-in-Err-clause-fault : goal.returns-in-Err-clause-fault
returns-in-Err-clause-fault c =
    let states = state_fault c.args.section.now.states c.args.first.now in
    let rest = chain_fault c.args.signals.now
    (with_state (section_now c.args.section.now) c.args.first.now) c.args.first.now c.args.words.now in
    shown_first c.in-Err.fault c.line_fault.result (is_even c.args.words.now) _
    (shown_more c.in-Err.fault states rest c.in-Err.ensures.fault) c.line_fault.ensures
