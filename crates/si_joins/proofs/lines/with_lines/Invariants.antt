use Rattle.std.proofs.Common.{Ok, take}
use Rattle.si_joins.specs.Loops.Parts.{AreNamed, Goes}
use Rattle.si_joins.specs.Steps.{along, with_line}
use Rattle.si_joins.proofs.lines.with_lines.Given as goal

abbrev pub invariant-loop-k : goal.invariant-loop-k
invariant-loop-k l = along (with_line l.states l.view) l.fn.begun (take l.k l.lines) (Ok l.lineage)
    × (Goes l.fn.begun l.lineage × AreNamed l.lineage.current.coded.graph.signals)
