use Rattle.std.proofs.Common.{◌≡◌, codes}
use Rattle.si_handshakes.specs.Handshakes.{numbered}
use Rattle.si_handshakes.proofs.names.state_names.Given as goal

abbrev pub invariant-loop-k : goal.invariant-loop-k
invariant-loop-k l = l.names ≡ numbered (codes "s") l.k
