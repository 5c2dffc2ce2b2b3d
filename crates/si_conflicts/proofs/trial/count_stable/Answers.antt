use Rattle.std.proofs.Common.{◌≡◌, ◌+◌, ◌*◌, ◌≤◌, ◌∙◌, arith, ap, refl, true, false, List, take}
use Rattle.si_base.specs.Limits.{max_states}
use Rattle.si_conflicts.specs.declared.members.Member.{Member}
use Rattle.si_conflicts.specs.Loops.Apart as Apart
use Rattle.si_conflicts.specs.Loops.Apart.{role_at, pair_sum, HasTally}
use Rattle.si_conflicts.specs.Loops.Keys.{no_key}
use Rattle.si_conflicts.specs.Loops.Turns.{AreTurns}
use Rattle.si_conflicts.proofs.ApartPairSums.{pair_take}
use Rattle.si_conflicts.proofs.TurnLemmas.{has_tally, few_more, total_more, passed_more, all_passed, few_turns}
use Rattle.si_conflicts.proofs.trial.count_stable.Given.{Over}
use Rattle.si_conflicts.proofs.trial.count_stable.Goals as goal
use Rattle.si_conflicts.proofs.trial.count_stable.Goals.{After-for_change-high, After-conflicts-in-loop-turn}

pub loop-turn-init : goal.loop-turn-init
loop-turn-init g c = record {
  passed = λ ms are. record {
    low_is = c.none-low.ensures no_key;
    high_is = c.none-high.ensures no_key;
    order = λ k d within. absurd (omega arith);
    total_is = refl;
  };
  few = omega arith;
}

-- the tallies as the member at hand sees them
low_has : (g : Over) (c : After-for_change-high g) → HasTally c.for_change-low.result
low_has g c =
    let have = c.requires.members in
    let passed = c.loop-turn.invariant.passed have.members have.are in
    has_tally (g.C.Classes.classes c.args.classes.now) have.members c.args.turns.now have.are c.loop-turn.turn-index
    c.turn-item.result c.loop-turn-test.true c.turn-item.is have.few false _ _ c.for_change-low.ensures passed.order
    passed.low_is

high_has : (g : Over) (c : After-for_change-high g) → HasTally c.for_change-high.result
high_has g c =
    let have = c.requires.members in
    let passed = c.loop-turn.invariant.passed have.members have.are in
    has_tally (g.C.Classes.classes c.args.classes.now) have.members c.args.turns.now have.are c.loop-turn.turn-index
    c.turn-item.result c.loop-turn-test.true c.turn-item.is have.few true _ _ c.for_change-high.ensures passed.order
    passed.high_is

pub conflicts-requires : goal.conflicts-requires
conflicts-requires g c = low_has g (goal.at.conflicts-requires g c).After-for_change-high

pub conflicts-requires-in-loop-turn : goal.conflicts-requires-in-loop-turn
conflicts-requires-in-loop-turn g c = high_has g (goal.at.conflicts-requires-in-loop-turn g c).After-for_change-high

pub with-low-requires : goal.with-low-requires
with-low-requires g c = low_has g (goal.at.with-low-requires g c).After-for_change-high

pub with-high-requires : goal.with-high-requires
with-high-requires g c = high_has g (goal.at.with-high-requires g c).After-for_change-high

-- the total with what the member at hand meets
total_now : (g : Over) (c : After-conflicts-in-loop-turn g) (ms : List Member) → AreTurns ms c.args.turns.now
    → c.loop-turn.total + (c.conflicts.result + c.conflicts-in-loop-turn.result)
    ≡ pair_sum (Apart.stable_count (g.C.Classes.classes c.args.classes.now)) (take (c.loop-turn.turn-index + 1) ms)
total_now g c ms are = total_more (g.C.Classes.classes c.args.classes.now) ms c.args.turns.now are
    c.loop-turn.turn-index c.turn-item.result c.loop-turn-test.true c.turn-item.is
    c.of-at_low.result c.of-at_high.result
    (c.of-at_low.ensures ∙ ap (role_at false) c.class-class.ensures)
    (c.of-at_high.ensures ∙ ap (role_at true) c.class-class.ensures)
    _ _ _ _ _ (c.loop-turn.invariant.passed ms are) c.for_change-low.ensures c.for_change-high.ensures
    _ _ c.conflicts.ensures c.conflicts-in-loop-turn.ensures

few_now : (g : Over) (c : After-conflicts-in-loop-turn g)
    → c.loop-turn.total + (c.conflicts.result + c.conflicts-in-loop-turn.result)
    ≤ (c.loop-turn.turn-index + 1) * (2 * max_states)
few_now g c =
    let have = c.requires.members in
    few_more (g.C.Classes.classes c.args.classes.now) have.members c.args.turns.now have.are c.loop-turn.turn-index
    c.turn-item.result c.loop-turn-test.true c.turn-item.is c.of-at_low.result c.of-at_high.result
    (c.of-at_low.ensures ∙ ap (role_at false) c.class-class.ensures)
    (c.of-at_high.ensures ∙ ap (role_at true) c.class-class.ensures)
    _ _ _ _ _ (c.loop-turn.invariant.passed have.members have.are) c.for_change-low.ensures c.for_change-high.ensures
    _ _ c.conflicts.ensures c.conflicts-in-loop-turn.ensures
    have.few c.loop-turn.invariant.few

pub loop-turn-preserved : goal.loop-turn-preserved
loop-turn-preserved g c = record {
  passed = λ ms are.
      passed_more (g.C.Classes.classes c.args.classes.now) ms c.args.turns.now are c.loop-turn.turn-index
      c.turn-item.result c.loop-turn-test.true c.turn-item.is c.of-at_low.result c.of-at_high.result
      (c.of-at_low.ensures ∙ ap (role_at false) c.class-class.ensures)
      (c.of-at_high.ensures ∙ ap (role_at true) c.class-class.ensures)
      _ _ _ _ _ (c.loop-turn.invariant.passed ms are) c.for_change-low.ensures c.for_change-high.ensures
      _ _ c.conflicts.ensures c.conflicts-in-loop-turn.ensures
      _ _ c.with-low.ensures c.with-high.ensures;
  few = few_now g (goal.at.loop-turn-preserved g c).After-conflicts-in-loop-turn;
}

pub returns-then-total-bar-clause-more : goal.returns-then-total-bar-clause-more
returns-then-total-bar-clause-more g c = λ enough ms are. (
    let total = total_now g (goal.at.returns-then-total-bar-clause-more g c).After-conflicts-in-loop-turn ms are in
    let part = pair_take (Apart.stable_count (g.C.Classes.classes c.args.classes.now)) (c.loop-turn.turn-index + 1)
    ms in
    omega (arith, total, part, enough))

pub returns-then-total-bar-clause-few : goal.returns-then-total-bar-clause-few
returns-then-total-bar-clause-few g c =
    let have = c.requires.members in
    let few = few_now g (goal.at.returns-then-total-bar-clause-few g c).After-conflicts-in-loop-turn in
    let size = few_turns have.members c.args.turns.now have.are in
    omega (arith, few, have.few, size, c.loop-turn-test.true)

pub returns-clause-all : goal.returns-clause-all
returns-clause-all g c = λ below ms are.
    let classes = g.C.Classes.classes c.args.classes.now in
    (c.loop-turn.invariant.passed ms are).total_is
    ∙ all_passed classes ms c.args.turns.now are c.loop-turn.turn-index c.loop-turn-test.false

pub returns-clause-more : goal.returns-clause-more
returns-clause-more g c = λ enough ms are. (
    let classes = g.C.Classes.classes c.args.classes.now in
    let total = (c.loop-turn.invariant.passed ms are).total_is in
    let all = all_passed classes ms c.args.turns.now are c.loop-turn.turn-index c.loop-turn-test.false in
    omega (arith, total, all, enough))

pub overflow_add-total-in-loop-turn : goal.overflow_add-total-in-loop-turn
overflow_add-total-in-loop-turn g c =
    let have = c.requires.members in
    let size = few_turns have.members c.args.turns.now have.are in
    omega (arith, c.loop-turn.invariant.few, size, have.few, c.loop-turn-test.true)

pub returns-clause-few : goal.returns-clause-few
returns-clause-few g c =
    let have = c.requires.members in
    let size = few_turns have.members c.args.turns.now have.are in
    omega (arith, c.loop-turn.invariant.few, size, have.few, c.loop-turn.auto.turn-index-end)
