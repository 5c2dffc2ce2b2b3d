use Rattle.std.proofs.Common.{◌≡◌, [], drop, map}
use Rattle.si_equations_reader.specs.Loops.Machine.{trees_now}
use Rattle.si_equations_reader.specs.Steps.{after_steps}
use Rattle.si_verilog_reader.specs.Modules.{connected}
use Rattle.si_verilog_reader.specs.Loops.Held.{connection_now}
use Rattle.si_verilog_reader.proofs.instance.connected_steps.Given as goal

-- the steps so far leave the trees with nets in place of ports
abbrev pub invariant-loop-step : goal.invariant-loop-step
invariant-loop-step l =
    after_steps (connected (map connection_now l.connections)) (trees_now l.connected.items) (drop l.step-index l.steps)
    ≡ after_steps (connected (map connection_now l.connections)) [] l.steps
