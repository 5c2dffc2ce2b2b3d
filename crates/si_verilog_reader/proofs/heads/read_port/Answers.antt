use Rattle.std.proofs.Common.{sym, subst, ◌∙◌}
use Rattle.si_verilog_reader.specs.Loops.Held.{ports_now}
use Rattle.si_verilog_reader.specs.Loops.Names.{AreGood}
use Rattle.si_verilog_reader.specs.Modules.{Ports, all_ports}
use Rattle.si_verilog_reader.proofs.PortLemmas.{good_none, new_by, good_by}
use Rattle.si_verilog_reader.proofs.heads.read_port.Goals as goal

pub add-requires-clause-new : goal.add-requires-clause-new
add-requires-clause-new c =
    let none = good_none _ c.kind.result _ _ c.in_ok-if_good.ensures in
    (new_by c.args.rule (all_ports (ports_now c.args.ports.now)) c.in_ok-name.name.name.now
    (sym c.kind.ensures ∙ none)).0

pub add-requires-clause-room : goal.add-requires-clause-room
add-requires-clause-room c =
    let none = good_none _ c.kind.result _ _ c.in_ok-if_good.ensures in
    (new_by c.args.rule (all_ports (ports_now c.args.ports.now)) c.in_ok-name.name.name.now
    (sym c.kind.ensures ∙ none)).1

pub returns-clause-good : goal.returns-clause-good
returns-clause-good c =
    let none = good_none _ c.kind.result _ _ c.in_ok-if_good.ensures in
    subst (λ (ports : Ports). AreGood c.args.rule ports) (sym c.in_ok-add.ensures)
    (good_by c.args.rule c.in_ok-is_input.is_input c.in_ok-name.name.name.now (ports_now c.args.ports.now)
    c.requires (sym c.kind.ensures ∙ none))
