use Rattle.std.proofs.Common.{◌∙◌, ap, refl}
use Rattle.si_closures.specs.Loops.WordSearch.{column}
use Rattle.si_divisor.proofs.SwitchLoops.{whole_alone}
use Rattle.si_divisor.proofs.switching.switching_alone.Goals as goal

pub returns : goal.returns
returns c =
    let all = rw c.states.ensures at c.in_ok-within.ensures in
    let are = rw c.deref.ensures.value at c.in_ok-found.ensures in
    rw (c.in_ok-set.ensures ∙ ap (column 0) c.deref-2.ensures.value)
    (whole_alone c.args.graph.now (column 0 c.args.highs.now) c.args.highs.now c.in_ok-within.within.items
    c.in_ok-found.found refl all are)
