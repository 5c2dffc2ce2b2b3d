use Rattle.std.proofs.Common.{◌≤◌, length, arith, ap, ◌∙◌, map}
use Rattle.std.proofs.lemmas.Result.{err_from_is_err_and}
use Rattle.si_netlist_reader.specs.GateParts.{gate_fault}
use Rattle.si_netlist_reader.specs.Loops.Headers.{gate_in}
use Rattle.si_netlist.specs.Loops.Parts.{gate_seen}
use Rattle.std.proofs.lemmas.List.{map_push}
use Rattle.si_netlist_reader.proofs.RowLoopLemmas.{failed_at, step, end}
use Rattle.si_netlist_reader.proofs.gate_rows.gate_rows.Goals as goal

pub returns-in_err-gate-clause-err : goal.returns-in_err-gate-clause-err
returns-in_err-gate-clause-err c =
    let p = err_from_is_err_and c.from_residual.result c.from_residual.ensures.1 in
    failed_at (gate_fault c.args.signals.now) (gate_in c.args.signals.now) _ _ _ _ _ _ _ c.from_residual.result _ _
    c.loop-k.invariant c.get.ensures p.1 p.2 c.in_err-gate.ensures.err

pub loop-k-preserved : goal.loop-k-preserved
loop-k-preserved c =
    step (gate_fault c.args.signals.now) (gate_in c.args.signals.now) _ _ _ _ _ _ _ _ _ _ c.loop-k.invariant
    c.get.ensures c.in_ok-gate.ensures.ok (ap (map gate_seen) c.in_ok-push.ensures.items ∙ map_push gate_seen _ _)

pub returns-clause-ok : goal.returns-clause-ok
returns-clause-ok c =
    let past : length c.args.signals.now ≤ c.loop-k.k = omega arith in
    end (gate_fault c.args.signals.now) (gate_in c.args.signals.now) _ _ _ _ _ _ c.requires.room past c.loop-k.invariant
