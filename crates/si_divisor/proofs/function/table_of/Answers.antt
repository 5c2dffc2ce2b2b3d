use Rattle.std.proofs.Common.{◌≡◌, ℕ, ◌+◌, ◌*◌, ◌<◌, ◌^◌, ◌∙◌, ap, arith, subst}
use Rattle.si_divisor.proofs.FunctionLemmas.{HasValues, small_more, values_more, whole_table}
use Rattle.si_divisor.proofs.function.table_of.Goals as goal

pub loop-k-preserved : goal.loop-k-preserved
loop-k-preserved c =
    let k = c.loop-k.k in
    let old = c.loop-k.table in
    let new = c.from.result + 2 * old in
    let is = ap (λ n. n + 2 * old) c.from.ensures in
    record {
      values = values_more c.args.library.now c.args.instance.now c.args.signals.now c.code_count-codes.result k old new
          c.value_where-value.result (omega (arith, c.loop-k-test.true)) is c.value_where-value.ensures
          c.loop-k.invariant.values;
      small = small_more c.value_where-value.result k old new is c.loop-k.invariant.small;
    }

pub returns : goal.returns
returns c =
    let codes = c.code_count-codes.result in
    let table = c.loop-k.table in
    let library = c.args.library.now in
    let instance = c.args.instance.now in
    let signals = c.args.signals.now in
    let at_end : c.loop-k.k ≡ codes = omega (arith, c.loop-k-test.false, c.loop-k.auto.k-end) in
    record {
      value = whole_table library instance signals codes table c.code_count-codes.ensures.is
          (subst (λ k. HasValues library instance signals codes k table) at_end c.loop-k.invariant.values);
      no_more = subst (λ (k : ℕ). table < 2 ^ k) (at_end ∙ c.code_count-codes.ensures.is) c.loop-k.invariant.small;
    }
