use Rattle.std.proofs.Common.{take, Ok}
use Rattle.si_refusals.specs.Stages.{each}
use Rattle.si_systems.specs.Loops.Parts.{sgs_now}
use Rattle.si_systems.specs.Product.{deterministic}
use Rattle.si_systems.proofs.product.deterministic_parts.Given as goal

-- the graphs so far are deterministic
abbrev pub invariant-loop-sg : goal.invariant-loop-sg
invariant-loop-sg l = each (λ g. deterministic g.graph g.states) (take l.sg-index (sgs_now l.given)) (Ok l.parts.items)
