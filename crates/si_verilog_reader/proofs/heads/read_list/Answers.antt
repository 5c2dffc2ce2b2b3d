use Rattle.std.proofs.Common.{List, Ok, sym, ap, subst, ◌∙◌}
use Rattle.std.proofs.lemmas.Result.{err_from_is_err_and}
use Rattle.si_verilog_reader.specs.Loops.Held.{ports_now}
use Rattle.si_verilog_reader.specs.Loops.Names.{AreGood, fault_by}
use Rattle.si_verilog_reader.specs.Modules.{Ports, no_ports, port_at}
use Rattle.si_verilog_reader.specs.Parts.{all_parts, list_at, part_of_list}
use Rattle.si_verilog_reader.specs.Placed.{Placed}
use Rattle.si_verilog_reader.proofs.LoopLemmas.{goes, ends, fails, is_closed, begins}
use Rattle.si_verilog_reader.proofs.PartLemmas.{fewer_port}
use Rattle.si_verilog_reader.proofs.PortLemmas.{no_names, none_good}
use Rattle.si_verilog_reader.proofs.heads.read_list.Goals as goal

pub returns-then-take_closing-clause-ports : goal.returns-then-take_closing-clause-ports
returns-then-take_closing-clause-ports c =
    is_closed (port_at (fault_by c.args.rule)) no_ports c.args.source.now c.take_closing.new.self
    c.if-take_closing.ensures
    ∙ ap (λ (ports : Ports). Ok (ports, c.take_closing.new.self))
    (sym (no_names c.in_ok-new.field-0 c.in_ok-new-2.field-0 c.in_ok-new.ensures c.in_ok-new-2.ensures))

pub loop-ports-init : goal.loop-ports-init
loop-ports-init c =
    let none = no_names c.in_ok-new.field-0 c.in_ok-new-2.field-0 c.in_ok-new.ensures c.in_ok-new-2.ensures in
    let part = part_of_list (port_at (fault_by c.args.rule)) in
    record {
      ports = ap (λ (ports : Ports). all_parts part ports c.take_closing.new.self) none
          ∙ ap (λ (ps : List Placed). all_parts part no_ports ps) c.if-take_closing.ensures.1
          ∙ begins (port_at (fault_by c.args.rule)) no_ports c.args.source.now c.if-take_closing.ensures.0;
      good = subst (λ (ports : Ports). AreGood c.args.rule ports) (sym none) (none_good c.args.rule);
    }

pub loop-ports-smaller : goal.loop-ports-smaller
loop-ports-smaller c = fewer_port (fault_by c.args.rule) (ports_now c.loop-ports.ports) c.loop-ports.source
    c.read_next.new.source (c.in_ok-read_next.field-0, ports_now c.read_next.new.ports)
    c.in_ok-read_next.ensures.next

pub loop-ports-preserved : goal.loop-ports-preserved
loop-ports-preserved c = record {
  ports = goes (part_of_list (port_at (fault_by c.args.rule)))
      (list_at (port_at (fault_by c.args.rule)) no_ports c.args.source.now) (ports_now c.loop-ports.ports)
      c.loop-ports.source c.loop-ports.invariant.ports c.in_ok-read_next.field-0 (ports_now c.read_next.new.ports)
      c.read_next.new.source c.in_ok-read_next.ensures.next (fewer_port (fault_by c.args.rule)) c.if-branch.true;
  good = c.in_ok-read_next.ensures.good;
}

pub returns-in_err-read_next-clause-ports : goal.returns-in_err-read_next-clause-ports
returns-in_err-read_next-clause-ports c =
    let p = err_from_is_err_and c.from_residual-in_err-read_next.result
    c.from_residual-in_err-read_next.ensures.1 in
    rw (p.1, p.2) (fails (part_of_list (port_at (fault_by c.args.rule)))
    (list_at (port_at (fault_by c.args.rule)) no_ports c.args.source.now) (ports_now c.loop-ports.ports)
    c.loop-ports.source c.loop-ports.invariant.ports c.in_err-read_next.field-0.0 c.in_err-read_next.ensures.next)

pub returns-clause-ports : goal.returns-clause-ports
returns-clause-ports c = ends (part_of_list (port_at (fault_by c.args.rule)))
    (list_at (port_at (fault_by c.args.rule)) no_ports c.args.source.now) (ports_now c.loop-ports.ports)
    c.loop-ports.source c.loop-ports.invariant.ports c.in_ok-read_next.field-0 (ports_now c.read_next.new.ports)
    c.read_next.new.source c.in_ok-read_next.ensures.next c.if-branch.false
