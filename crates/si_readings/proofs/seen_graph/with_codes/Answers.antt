use Rattle.std.proofs.Common.{refl}
use Rattle.si_base.specs.Proper.{Fork, Loss}
use Rattle.si_checks.specs.Laws.{HasFork, HasLoss}
use Rattle.si_readings.proofs.CheckLemmas.{coded_consistent}
use Rattle.si_readings.proofs.seen_graph.with_codes.Goals as goal

pub returns-in-Noncommutative : goal.returns-in-Noncommutative
returns-in-Noncommutative c =
    let told = c.in-Noncommutative in
    let fork : Fork = record { s = told.s; a = told.a; c = told.c; w = told.w; w2 = told.w2 } in
    let coded = c.graph-graph.ensures.coded in
    let first = rw told.is at c.requires in
    (coded, refl, (HasFork coded.deterministic (coded_consistent c.args.coded coded) fork first, refl))

pub returns-in-Nonpersistent : goal.returns-in-Nonpersistent
returns-in-Nonpersistent c =
    let told = c.in-Nonpersistent in
    let loss : Loss = record { s = told.s; lost = told.lost; by = told.by } in
    let coded = c.graph-graph.ensures.coded in
    let shown = rw told.is at c.requires in
    (coded, refl, (HasLoss coded.deterministic (coded_consistent c.args.coded coded) shown.0 loss shown.1, refl))
