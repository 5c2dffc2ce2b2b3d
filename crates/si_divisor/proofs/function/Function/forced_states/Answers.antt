use Rattle.std.proofs.Common.{◌≡◌, ◌+◌, ◌/◌, ℕ, refl, subst, arith}
use Rattle.si_base.specs.Bits.{bit}
use Rattle.si_divisor.proofs.ColumnLemmas.{AreReadTo, one_read, up_states, down_states}
use Rattle.si_divisor.proofs.function.Function.forced_states.Goals as goal

pub loop-values-preserved : goal.loop-values-preserved
loop-values-preserved c =
    let f = c.args.self.now in
    let columns = c.args.columns.now in
    let signals = f.signals.items in
    let rows = c.code_count-rows.result / 2 in
    let v = c.loop-values.values in
    let there = c.those_with-there.result in
    let are = rw c.as_slice-signals.ensures.value at c.those_with-there.ensures in
    record {
      low = one_read columns signals (bit f.table) v c.loop-values.low there c.if_true-low.result are
          (rw c.has_bit.ensures at c.if_true-low.ensures) c.loop-values.invariant.low;
      high = one_read columns signals (λ w. bit f.table (rows + w)) v c.loop-values.high there c.if_true-high.result
          are (rw c.has_bit-in-loop-values.ensures at c.if_true-high.ensures) c.loop-values.invariant.high;
    }

pub returns-clause-up : goal.returns-clause-up
returns-clause-up c =
    let codes = c.code_count-rows.result in
    let codes_are = rw c.as_slice-signals.ensures.value at c.code_count-rows.ensures.is in
    let at_end : c.loop-values.values ≡ codes / 2 =
    omega (arith, c.loop-values-test.false, c.loop-values.auto.values-end) in
    up_states c.args.self.now c.args.columns.now codes c.loop-values.values c.loop-values.low codes_are at_end
    c.loop-values.invariant.low

pub returns-clause-down : goal.returns-clause-down
returns-clause-down c =
    let f = c.args.self.now in
    let columns = c.args.columns.now in
    let codes = c.code_count-rows.result in
    let rows = codes / 2 in
    let codes_are = rw c.as_slice-signals.ensures.value at c.code_count-rows.ensures.is in
    let at_end : c.loop-values.values ≡ rows =
    omega (arith, c.loop-values-test.false, c.loop-values.auto.values-end) in
    down_states f columns codes rows c.loop-values.high c.loop-values.auto.high-fits.fits codes_are refl
    (subst (λ (n : ℕ). AreReadTo columns f.signals.items (λ v. bit f.table (rows + v)) n c.loop-values.high) at_end
    c.loop-values.invariant.high)
