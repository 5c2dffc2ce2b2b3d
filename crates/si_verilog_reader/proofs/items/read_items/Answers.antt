use Rattle.std.proofs.Common.{map}
use Rattle.std.proofs.lemmas.Result.{err_from_is_err_and}
use Rattle.si_equations_reader.specs.Held.{progress_now}
use Rattle.si_verilog_reader.specs.Loops.Held.{cell_now}
use Rattle.si_verilog_reader.specs.Modules.{item_at}
use Rattle.si_verilog_reader.specs.Parts.{all_parts}
use Rattle.si_verilog_reader.proofs.LoopLemmas.{goes, ends, fails}
use Rattle.si_verilog_reader.proofs.PartLemmas.{fewer_item}
use Rattle.si_verilog_reader.proofs.items.read_items.Goals as goal

pub loop-circuit-smaller : goal.loop-circuit-smaller
loop-circuit-smaller c = fewer_item (map cell_now c.args.cells.now) (progress_now c.loop-circuit.circuit)
    c.loop-circuit.source c.read_item.new.source (c.in_ok-read_item.field-0, progress_now c.read_item.new.circuit)
    c.in_ok-read_item.ensures.item

pub loop-circuit-preserved : goal.loop-circuit-preserved
loop-circuit-preserved c =
    let part = item_at (map cell_now c.args.cells.now) in
    record {
      items = goes part (all_parts part (progress_now c.args.circuit) c.args.source.now)
          (progress_now c.loop-circuit.circuit) c.loop-circuit.source c.loop-circuit.invariant.items
          c.in_ok-read_item.field-0 (progress_now c.read_item.new.circuit) c.read_item.new.source
          c.in_ok-read_item.ensures.item (fewer_item (map cell_now c.args.cells.now)) c.if-branch.true;
      counted = c.in_ok-read_item.ensures.counted;
    }

pub returns-in_err-read_item-clause-items : goal.returns-in_err-read_item-clause-items
returns-in_err-read_item-clause-items c =
    let part = item_at (map cell_now c.args.cells.now) in
    let p = err_from_is_err_and c.from_residual.result c.from_residual.ensures.1 in
    rw (p.1, p.2) (fails part (all_parts part (progress_now c.args.circuit) c.args.source.now)
    (progress_now c.loop-circuit.circuit) c.loop-circuit.source c.loop-circuit.invariant.items
    c.in_err-read_item.field-0.0 c.in_err-read_item.ensures.item)

pub returns-clause-items : goal.returns-clause-items
returns-clause-items c =
    let part = item_at (map cell_now c.args.cells.now) in
    ends part (all_parts part (progress_now c.args.circuit) c.args.source.now) (progress_now c.loop-circuit.circuit)
    c.loop-circuit.source c.loop-circuit.invariant.items c.in_ok-read_item.field-0
    (progress_now c.read_item.new.circuit) c.read_item.new.source c.in_ok-read_item.ensures.item c.if-branch.false
