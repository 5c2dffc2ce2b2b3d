use Rattle.std.proofs.Common.{Ok, take, zip}
use Rattle.si_joins.specs.Loops.Parts.{AreNamed, Goes}
use Rattle.si_joins.specs.Steps.{along, numbered, with_part}
use Rattle.si_systems.specs.Loops.Parts.{sgs_now}
use Rattle.si_joins.proofs.lines.with_parts.Given as goal

abbrev pub invariant-loop-i : goal.invariant-loop-i
invariant-loop-i l =
    along (with_part l.whole.sg.states l.whole.tuples.items) l.fn.begun
    (take l.i (numbered 0 (zip (sgs_now l.given) l.netlists))) (Ok l.lineage)
    × (Goes l.fn.begun l.lineage × AreNamed l.lineage.current.coded.graph.signals)
