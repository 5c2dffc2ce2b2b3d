use Rattle.std.proofs.Common.{codes}
use Rattle.si_words.proofs.WritingLemmas.{left_as}
use Rattle.si_wave.specs.Wave.{wire_code}
use Rattle.si_wave.proofs.WriteLemmas.{wire_parts}
use Rattle.si_wave.proofs.write.add_wire.Goals as goal

pub returns : goal.returns
returns c = left_as _ _ _ _ (rw (
  c.in_ok-add-3.ensures.added,
  c.in_ok-add-2.ensures.added,
  c.in_ok-add_code.ensures,
  c.in_ok-add.ensures.added,
)
    (wire_parts c.args.text.now (codes "$var wire 1 ") (wire_code c.args.sig) c.args.name.now (codes "$end")
    (codes "\n"))) c.add-4.ensures.added
