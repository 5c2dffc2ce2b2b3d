use Rattle.si_divisor.proofs.PinLemmas.{cared_for, not_cared_for}
use Rattle.si_divisor.proofs.pins.has.Goals as goal

pub returns-then-get : goal.returns-then-get
returns-then-get c =
    cared_for c.cube.inside.care c.cube.inside.value c.args.cube.now c.args.literal.now c.requires c.cube.view_is
    c.get.result c.get-then-get.result c.get.ensures c.if-get.true c.get-then-get.ensures

pub returns-else-get : goal.returns-else-get
returns-else-get c =
    not_cared_for c.cube.inside.care c.cube.inside.value c.args.cube.now c.args.literal.now c.requires c.cube.view_is
    c.get.result c.get.ensures c.if-get.false
