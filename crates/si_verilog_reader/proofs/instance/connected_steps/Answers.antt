use Rattle.std.proofs.Common.{map}
use Rattle.si_verilog_reader.specs.Loops.Held.{connection_now}
use Rattle.si_verilog_reader.proofs.InstanceLemmas.{one_step, all_connected}
use Rattle.si_verilog_reader.proofs.instance.connected_steps.Goals as goal

pub loop-step-preserved : goal.loop-step-preserved
loop-step-preserved c = one_step (map connection_now c.args.connections.now) c.loop-step.connected.items
    c.push.new.self.items c.args.steps.now c.loop-step.step-index c.connected_step.result _ c.loop-step-test.true
    c.in_ok-push.ensures.items c.connected_step.ensures c.loop-step.invariant

pub returns : goal.returns
returns c = all_connected (map connection_now c.args.connections.now) c.loop-step.connected.items c.args.steps.now
    c.loop-step.step-index c.loop-step.invariant c.loop-step-test.false
