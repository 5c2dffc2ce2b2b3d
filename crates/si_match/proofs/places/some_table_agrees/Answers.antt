use Rattle.std.proofs.Common.{◌≤◌, ℕ, List, All, subst, arith, length, get_or}
use Rattle.std.proofs.lemmas.List.{take_all}
use Rattle.std.proofs.lemmas.List.Elements.{All-more}
use Rattle.si_match.specs.Loops.Places.{Differs}
use Rattle.si_match.proofs.PlaceLemmas.{clash_differs, missed_differs}
use Rattle.si_match.proofs.places.some_table_agrees.Goals as goal

pub returns-then-clash-clause-none : goal.returns-then-clash-clause-none
returns-then-clash-clause-none c = λ _ k d within. (
    let (m, on, off) = c.clash.ensures c.if-clash.true in
    clash_differs c.args.coded.now c.args.z c.args.chosen.now c.seen_at-seen.result c.seen_at-seen.ensures
    (get_or c.args.tables.now k d) m on off)

pub loop-table-preserved-then-not-allows : goal.loop-table-preserved-then-not-allows
loop-table-preserved-then-not-allows c = record {
  seen = c.loop-table.invariant.seen;
  differ = All-more (Differs c.args.coded.now c.args.z c.args.chosen.now) c.args.tables.now c.loop-table.table-index 0
      c.loop-table-test.true c.loop-table.invariant.differ
      (missed_differs c.args.coded.now c.args.z c.args.chosen.now c.loop-table.seen c.loop-table.invariant.seen
      (get_or c.args.tables.now c.loop-table.table-index 0) (c.allows.ensures c.if-not-allows.true));
  within = c.loop-table.invariant.within;
}

pub loop-table-preserved : goal.loop-table-preserved
loop-table-preserved c = record {
  seen = c.with_state-seen.ensures.seen;
  differ = All-more (Differs c.args.coded.now c.args.z c.args.chosen.now) c.args.tables.now c.loop-table.table-index 0
      c.loop-table-test.true c.loop-table.invariant.differ
      (c.in-Some.state, c.in-Some.ensures.some.0, c.in-Some.ensures.some.1);
  within = c.add_witness.ensures c.args.coded.now.graph.states c.in-Some.ensures.some.0
      c.loop-table.invariant.within;
}

pub returns-clause-none : goal.returns-clause-none
returns-clause-none c = λ _. (
    let past : length c.args.tables.now ≤ c.loop-table.table-index = omega (arith, c.loop-table-test.false) in
    subst (λ (ts : List ℕ). All (Differs c.args.coded.now c.args.z c.args.chosen.now) ts)
    (take_all c.loop-table.table-index c.args.tables.now past) c.loop-table.invariant.differ)
