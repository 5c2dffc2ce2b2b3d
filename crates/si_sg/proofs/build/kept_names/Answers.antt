use Rattle.std.proofs.Common.{arith}
use Rattle.si_sg.proofs.GivenLemmas.{all_kept}
use Rattle.si_sg.proofs.build.kept_names.Goals as goal

pub returns-then-places-len : goal.returns-then-places-len
returns-then-places-len c = all_kept c.args.names c.args.places.now c.requires.ascending c.requires.within
    (omega (arith, c.len.ensures.len, c.if-places-len.true))
