use Rattle.si_genlib.specs.Loops.Held.{gate_now}
use Rattle.si_genlib.proofs.GateKept.{ports_passed, ports_kept}
use Rattle.si_genlib.proofs.gate_ports.keep_ports.Goals as goal

pub returns-then-gate : goal.returns-then-gate
returns-then-gate c = λ g e. ports_passed c.args.ports.now.items g (gate_now c.args.gate.now) e c.if-gate.true

pub returns : goal.returns
returns c = λ g e. ports_kept c.args.ports.now.items c.push.new.self.items c.in_ok-ports_of.field-0 g
    (gate_now c.args.gate.now) e c.if-gate.false c.in_ok-ports_of.ensures c.in_ok-push.ensures.items
