use Rattle.std.proofs.Common.{refl}
use Rattle.si_base.specs.Proper.{Split}
use Rattle.si_checks.specs.Laws.{HasSplit, HasNoValues}
use Rattle.si_readings.proofs.SeenGraphLemmas.{split_uncoded, values_uncoded}
use Rattle.si_readings.proofs.seen_graph.without_codes.Goals as goal

pub returns-in-Nondeterministic : goal.returns-in-Nondeterministic
returns-in-Nondeterministic c =
    let told = c.in-Nondeterministic in
    let split : Split = record { s = told.s; e = told.e; t = told.t; u = told.u } in
    let first = rw told.is at c.requires in
    (split_uncoded c.args.graph split first, refl, (HasSplit split first, refl))

pub returns-in-Inconsistent : goal.returns-in-Inconsistent
returns-in-Inconsistent c =
    let told = c.in-Inconsistent in
    let shown = rw told.is at c.requires in
    (values_uncoded c.args.graph told.sig shown.1, refl, (HasNoValues shown.0 told.sig shown.1, refl))
