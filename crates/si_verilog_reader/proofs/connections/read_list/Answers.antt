use Rattle.std.proofs.Common.{List, [], Ok, map, sym, ap, ◌∙◌}
use Rattle.std.proofs.lemmas.Result.{err_from_is_err_and}
use Rattle.si_verilog_reader.specs.Loops.Held.{connection_now, ports_now}
use Rattle.si_verilog_reader.specs.Modules.{all_ports, connection_at}
use Rattle.si_verilog_reader.specs.Parts.{all_parts, list_at, part_of_list}
use Rattle.si_verilog_reader.specs.Placed.{Placed}
use Rattle.si_verilog_reader.specs.declared.connections.Connection.{Connection as ConnectionHeld}
use Rattle.si_verilog_reader.proofs.LoopLemmas.{goes, ends, fails, is_closed, begins}
use Rattle.si_verilog_reader.proofs.PartLemmas.{fewer_connection}
use Rattle.si_verilog_reader.proofs.connections.read_list.Goals as goal

pub returns-then-take_closing : goal.returns-then-take_closing
returns-then-take_closing c =
    is_closed (connection_at (all_ports (ports_now c.args.ports.now))) [] c.args.source.now c.take_closing.new.self
    c.if-take_closing.ensures
    ∙ ap (λ (all : List ConnectionHeld). Ok (map connection_now all, c.take_closing.new.self))
    (sym c.new-connections.ensures.items)

pub loop-connections-init : goal.loop-connections-init
loop-connections-init c =
    let part = part_of_list (connection_at (all_ports (ports_now c.args.ports.now))) in
    ap (λ (all : List ConnectionHeld). all_parts part (map connection_now all) c.take_closing.new.self)
    c.new-connections.ensures.items
    ∙ ap (λ (ps : List Placed). all_parts part [] ps) c.if-take_closing.ensures.1
    ∙ begins (connection_at (all_ports (ports_now c.args.ports.now))) [] c.args.source.now c.if-take_closing.ensures.0

pub loop-connections-smaller : goal.loop-connections-smaller
loop-connections-smaller c = fewer_connection (all_ports (ports_now c.args.ports.now))
    (map connection_now c.loop-connections.connections.items) c.loop-connections.source c.read_next.new.source
    (c.in_ok-read_next.field-0, map connection_now c.read_next.new.connections.items) c.in_ok-read_next.ensures

pub loop-connections-preserved : goal.loop-connections-preserved
loop-connections-preserved c =
    let ports = all_ports (ports_now c.args.ports.now) in
    goes (part_of_list (connection_at ports)) (list_at (connection_at ports) [] c.args.source.now)
    (map connection_now c.loop-connections.connections.items) c.loop-connections.source c.loop-connections.invariant
    c.in_ok-read_next.field-0 (map connection_now c.read_next.new.connections.items) c.read_next.new.source
    c.in_ok-read_next.ensures (fewer_connection ports) c.if-branch.true

pub returns-in_err-read_next : goal.returns-in_err-read_next
returns-in_err-read_next c =
    let ports = all_ports (ports_now c.args.ports.now) in
    let p = err_from_is_err_and c.from_residual.result c.from_residual.ensures.1 in
    rw (p.1, p.2) (fails (part_of_list (connection_at ports)) (list_at (connection_at ports) [] c.args.source.now)
    (map connection_now c.loop-connections.connections.items) c.loop-connections.source c.loop-connections.invariant
    c.in_err-read_next.field-0.0 c.in_err-read_next.ensures)

pub returns : goal.returns
returns c =
    let ports = all_ports (ports_now c.args.ports.now) in
    ends (part_of_list (connection_at ports)) (list_at (connection_at ports) [] c.args.source.now)
    (map connection_now c.loop-connections.connections.items) c.loop-connections.source c.loop-connections.invariant
    c.in_ok-read_next.field-0 (map connection_now c.read_next.new.connections.items) c.read_next.new.source
    c.in_ok-read_next.ensures c.if-branch.false
