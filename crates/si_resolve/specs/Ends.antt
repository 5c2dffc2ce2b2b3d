-- (field) Why resolving goes no further.
use Rattle.si_base.specs.Codes.{CodedGraph}
use Rattle.si_resolve.specs.Best.{IsStuck}
use Rattle.si_resolve.specs.declared.resolve.Stuck.{Stuck}
use Rattle.si_resolve.specs.declared.resolve.Stuck.TheVariants.{NoMemory, Conflict}

-- what a cause shows of the graph
abbrev pub ShowsStuck : CodedGraph → Stuck → Type 0
ShowsStuck c NoMemory = Unit {0}
ShowsStuck c (Conflict p q) = IsStuck c (p, q)
