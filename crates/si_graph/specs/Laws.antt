-- (law) What holds of each graph with codes.
use Rattle.std.specs.Prelude.{◌≡◌}
use Rattle.si_base.specs.Codes.{CodedGraph, IsCoded}

-- two codings of one graph are the same
abbrev pub CodesAreUnique : Type 0
CodesAreUnique = (c d : CodedGraph) → IsCoded c → IsCoded d → c.graph ≡ d.graph → c.codes ≡ d.codes
