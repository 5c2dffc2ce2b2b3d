use Rattle.std.proofs.Common.{arith, refl}
use Rattle.si_conflicts.proofs.SortedClashes.{few_clash, has_plain, is_later, more_clashes, more_in_order, more_tallied}
use Rattle.si_conflicts.proofs.SortedClashes.{next_later, plain_to}
use Rattle.si_conflicts.proofs.TallyLemmas.{first_key}
use Rattle.si_conflicts.proofs.count.clashes_of_sorted.Goals as goal

pub loop-key-init : goal.loop-key-init
loop-key-init c = record {
  tally = c.none-tally.ensures (record { code = 0; excited = 0 });
  order = λ k d within. absurd (omega arith);
  next = λ d within. first_key _;
  total = refl;
  few = omega arith;
}

pub conflicts-requires : goal.conflicts-requires
conflicts-requires c =
    let keys = c.args.keys.now in
    let i = c.loop-key.key-index in
    let later = is_later keys i c.key-item.result c.loop-key-test.true c.key-item.is c.loop-key.last
    c.loop-key.invariant.next in
    has_plain keys i c.key-item.result c.for_change-tally.result c.loop-key-test.true c.requires.few
    (c.for_change-tally.ensures (plain_to keys i) c.loop-key.last c.key-item.result c.between.ensures later
    c.loop-key.invariant.order c.loop-key.invariant.tally)

pub with-tally-requires : goal.with-tally-requires
with-tally-requires c =
    let keys = c.args.keys.now in
    let i = c.loop-key.key-index in
    let later = is_later keys i c.key-item.result c.loop-key-test.true c.key-item.is c.loop-key.last
    c.loop-key.invariant.next in
    has_plain keys i c.key-item.result c.for_change-tally.result c.loop-key-test.true c.requires.few
    (c.for_change-tally.ensures (plain_to keys i) c.loop-key.last c.key-item.result c.between.ensures later
    c.loop-key.invariant.order c.loop-key.invariant.tally)

pub loop-key-preserved : goal.loop-key-preserved
loop-key-preserved c =
    let keys = c.args.keys.now in
    let i = c.loop-key.key-index in
    let key = c.key-item.result in
    let inside = c.loop-key-test.true in
    let at = c.key-item.is in
    let last = c.loop-key.last in
    let later = is_later keys i key inside at last c.loop-key.invariant.next in
    let tally = c.for_change-tally.ensures (plain_to keys i) last key c.between.ensures later
    c.loop-key.invariant.order c.loop-key.invariant.tally in
    let met = c.conflicts.ensures (plain_to keys i) key tally in
    record {
      tally = more_tallied keys i key inside at _ (c.with-tally.ensures (plain_to keys i) key tally);
      order = more_in_order keys i key inside at last c.loop-key.invariant.order later;
      next = next_later keys i key inside at c.requires.sorted;
      total = more_clashes keys i key inside at c.loop-key.total c.conflicts.result _ c.loop-key.invariant.total met
          refl;
      few = (
          let most = few_clash keys i c.conflicts.result _ met inside in
          omega (arith, most, c.loop-key.invariant.few, inside, c.requires.few));
    }
