use Rattle.si_match.proofs.CodeLemmas.{projected_are}
use Rattle.si_match.proofs.codes.projected_codes.Goals as goal

pub returns-clause-same : goal.returns-clause-same
returns-clause-same c =
    projected_are c.args.codes.now c.loop-code.part.items _ c.loop-code.code-index c.args.signals c.loop-code.invariant
    c.loop-code-test.false
    c.in_order.ensures.same
