use Rattle.std.proofs.Common.{take, Ok}
use Rattle.si_readings.specs.Checks.{proper}
use Rattle.si_refusals.specs.Stages.{each}
use Rattle.si_systems.specs.Loops.Parts.{sgs_now}
use Rattle.si_systems.proofs.compose.parts_of.Given as goal

-- the graphs so far are proper
abbrev pub invariant-loop-sg : goal.invariant-loop-sg
invariant-loop-sg l = each (λ g. proper g.graph g.states) (take l.sg-index (sgs_now l.given)) (Ok l.parts.items)
