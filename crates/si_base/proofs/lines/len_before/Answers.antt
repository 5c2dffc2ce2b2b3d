use Rattle.si_base.proofs.LineScans.{len_to_found, len_to_none}
use Rattle.si_base.proofs.lines.len_before.Goals as goal

pub returns-in-Some-clause-len : goal.returns-in-Some-clause-len
returns-in-Some-clause-len c =
    len_to_found c.args.mark c.in-Some.k c.args.bytes.now c.in-Some.ensures.0 c.in-Some.ensures.1

pub returns-in-None-clause-len : goal.returns-in-None-clause-len
returns-in-None-clause-len c = len_to_none c.args.mark c.args.bytes.now c.in-None.ensures
