-- What a loan shows of the graph that is lent.
use Rattle.si_base.specs.Codes.{CodedGraph}
use Rattle.si_checks.specs.declared.distinct.Distinct.{Distinct}

-- the coded graph that is lent
abbrev pub coded_of : Distinct → CodedGraph
coded_of loan = loan.graph.now
