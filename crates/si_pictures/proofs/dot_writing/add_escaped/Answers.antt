use Rattle.si_pictures.specs.Writing.{escaped_byte}
use Rattle.si_pictures.proofs.WritingParts.{items_done}
use Rattle.si_pictures.proofs.dot_writing.add_escaped.Goals as goal

pub returns : goal.returns
returns c = items_done escaped_byte c.args.label.now c.loop-b.b-index c.loop-b.text c.args.text.now c.loop-b-test.false
    c.loop-b.invariant
