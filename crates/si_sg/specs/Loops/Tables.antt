-- Tables of arcs that are made where they are needed.
use Rattle.std.specs.Prelude.{List, [], Option, Some, None}
use Rattle.indexmap.specs.IndexSet.{IndexSet}
use Rattle.si_sg.specs.declared.arc_set.Arc.{Arc}

-- the arcs in a table, if there is one
abbrev pub counted_in : {S : Type 0} → Option (IndexSet Arc S) → List Arc
counted_in None = []
counted_in (Some table) = table.keys
