use Rattle.std.proofs.Common.{◌<◌, length, ap, refl, arith}
use Rattle.si_resolve.specs.Loops.Aspects.{unparted_count}
use Rattle.si_resolve.specs.declared.aspects.Aspect.{Aspect}
use Rattle.si_resolve.proofs.AspectLemmas.{unparted_few}
use Rattle.si_resolve.proofs.aspects.Column.leaves_below.Goals as goal

pub returns-then-len-bar : goal.returns-then-len-bar
returns-then-len-bar c =
    let count = ap (length {A = Aspect}) c.self.view_is in
    let few : unparted_count c.args.self.now c.args.other.now < c.args.bar =
    omega (arith, unparted_few c.args.self.now c.args.other.now, c.if-len-bar.true, c.len.ensures, count) in
    (λ yes. few, λ is. refl)
