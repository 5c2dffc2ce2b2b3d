use Rattle.std.proofs.Common.{rules, sym, ap, ◌∙◌, List}
use Rattle.si_sg.specs.declared.arc_set.Arc.{Arc}
use Rattle.si_sg.specs.Section.{Section}
use Rattle.si_sg.specs.Loops.Reads.{section_now, marks_now}
use Rattle.si_sg.proofs.KnownArcLemmas.{known_fault, known_value}
use Rattle.si_sg.proofs.section.section_line.Goals as goal

pub returns-in_ok-add_arc-in-Some-clause-fault : goal.returns-in_ok-add_arc-in-Some-clause-fault
returns-in_ok-add_arc-in-Some-clause-fault c =
    known_fault c.args.signals.now (section_now c.args.section.now) c.args.bytes.now c.in-Some.arc c.requires.states
    c.in-Some.ensures
    ∙ c.in_ok-add_arc-in-Some.ensures.fault

pub returns-in_ok-add_arc-in-Some-clause-value : goal.returns-in_ok-add_arc-in-Some-clause-value
returns-in_ok-add_arc-in-Some-clause-value c =
    ap (λ (arcs : List Arc). let y : Section = record {
      states = c.args.section.now.states;
      arcs = arcs;
      marks = marks_now c.args.section.now.mark;
    } in y) c.in_ok-add_arc-in-Some.ensures.value
    ∙ sym (known_value c.args.signals.now (section_now c.args.section.now) c.args.bytes.now c.in-Some.arc
    c.requires.states c.in-Some.ensures c.args.number)

pub returns-in_err-add_arc-in-Some-clause-fault : goal.returns-in_err-add_arc-in-Some-clause-fault
returns-in_err-add_arc-in-Some-clause-fault c =
    let told = c.in_err-add_arc-in-Some.ensures.fault in
    rw (known_fault c.args.signals.now (section_now c.args.section.now) c.args.bytes.now c.in-Some.arc c.requires.states
    c.in-Some.ensures) (search (rules, told))
