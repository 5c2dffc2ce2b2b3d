use Rattle.std.proofs.Common.{codes, length, ap, Err, ◌∙◌, arith}
use Rattle.si_handshakes.proofs.NamesNumbered.{name_added, length-numbered}
use Rattle.si_handshakes.proofs.names.state_names.Goals as goal

pub unreachable-requires : goal.unreachable-requires
unreachable-requires c =
    let full = c.in-Err-Full.ensures.full.0 (ap Err c.in-Err-Full.field-0-is) in
    absurd (omega (arith, full.1, ap length c.loop-k.invariant, length-numbered (codes "s") c.loop-k.k))

pub loop-k-preserved : goal.loop-k-preserved
loop-k-preserved c =
    name_added (codes "s") c.bytes.result.now c.loop-k.names c.add.new.self c.loop-k.k (omega arith) c.loop-k.invariant
    (c.bytes.ensures ∙ c.in_ok-name.ensures) c.in-Ok.ensures.new
