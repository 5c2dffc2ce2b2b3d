use Rattle.si_handshakes.proofs.HandshakeProper.{proper, no_conflict}
use Rattle.si_handshakes.proofs.HandshakeRefusals.{never_uncoded, never_improper, never_in_conflict}
use Rattle.si_handshakes.proofs.laws.handshakes_are_never_refused.Goals as goal

pub returns-clause-coded : goal.returns-clause-coded
returns-clause-coded c n sg fault is = never_uncoded sg.graph fault (proper n sg is)

pub returns-clause-proper : goal.returns-clause-proper
returns-clause-proper c n sg coded fault is same shown =
    never_improper sg.graph fault (proper n sg is) (rw same at shown)

pub returns-clause-distinct : goal.returns-clause-distinct
returns-clause-distinct c n sg coded fault is same codes =
    never_in_conflict coded fault (no_conflict n sg is coded same codes)
