use Rattle.std.proofs.Common.{◌≡◌, All, flat_map, take}
use Rattle.si_loops.specs.Arcs.{arcs_into}
use Rattle.si_loops.specs.Loops.Paths.{IsNarrow}
use Rattle.si_loops.proofs.arcs.arcs.Given as goal

abbrev pub invariant-loop-z : goal.invariant-loop-z
invariant-loop-z l = record {
  arcs : l.arcs.items ≡ flat_map (arcs_into l.netlist) (take l.z-index l.z-items);
  narrow : All IsNarrow l.arcs.items;
}
