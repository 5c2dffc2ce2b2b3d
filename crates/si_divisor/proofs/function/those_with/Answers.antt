use Rattle.std.proofs.Common.{◌≡◌, length, get_or, refl, subst, arith}
use Rattle.si_divisor.proofs.ColumnLemmas.{AreWith, all_with, one_with, with_all}
use Rattle.si_divisor.proofs.function.those_with.Goals as goal

pub loop-k-init : goal.loop-k-init
loop-k-init c = all_with c.args.signals.now c.args.columns.now c.args.values

pub loop-k-preserved : goal.loop-k-preserved
loop-k-preserved c =
    let signals = c.args.signals.now in
    let columns = c.args.columns.now in
    let k = c.loop-k.k in
    let z = get_or signals k 0 in
    one_with signals columns c.args.values k c.loop-k.there (get_or columns z 0) z c.where_it_has-there.result refl
    (c.requires.within k 0 c.loop-k-test.true) refl (rw c.has_bit.ensures at c.where_it_has-there.ensures)
    c.loop-k.invariant

pub returns : goal.returns
returns c =
    let signals = c.args.signals.now in
    let columns = c.args.columns.now in
    let at_end : c.loop-k.k ≡ length signals = omega (arith, c.loop-k-test.false, c.loop-k.auto.k-end) in
    with_all signals columns c.args.values c.loop-k.there c.requires.values
    (subst (λ n. AreWith signals columns c.args.values n c.loop-k.there) at_end c.loop-k.invariant)
