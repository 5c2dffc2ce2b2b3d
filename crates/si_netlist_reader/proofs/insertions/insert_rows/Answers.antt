use Rattle.std.proofs.Common.{◌≤◌, length, arith}
use Rattle.std.proofs.lemmas.Result.{err_from_is_err_and}
use Rattle.si_netlist_reader.specs.NetlistFault.{insert_fault}
use Rattle.si_netlist_reader.specs.NetlistValue.{insertion_of}
use Rattle.si_netlist_reader.proofs.RowLoopLemmas.{failed_at, step, end}
use Rattle.si_netlist_reader.proofs.insertions.insert_rows.Goals as goal

pub returns-in_err-insert-clause-err : goal.returns-in_err-insert-clause-err
returns-in_err-insert-clause-err c =
    let p = err_from_is_err_and c.from_residual.result c.from_residual.ensures.1 in
    failed_at insert_fault insertion_of _ _ _ _ _ _ _ c.from_residual.result _ _ c.loop-k.invariant c.get.ensures p.1
    p.2 c.in_err-insert.ensures.err

pub loop-k-preserved : goal.loop-k-preserved
loop-k-preserved c = step insert_fault insertion_of _ _ _ _ _ _ _ _ _ _ c.loop-k.invariant c.get.ensures
    c.in_ok-insert.ensures.ok c.in_ok-push.ensures.items

pub returns-clause-ok : goal.returns-clause-ok
returns-clause-ok c =
    let past : length c.args.names.now ≤ c.loop-k.k = omega arith in
    end insert_fault insertion_of _ _ _ _ _ _ c.requires past c.loop-k.invariant
