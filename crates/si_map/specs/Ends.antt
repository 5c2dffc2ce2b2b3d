-- (field) Why mapping goes no further.
use Rattle.si_cell.specs.Library.{Library}
use Rattle.si_insert.specs.Lineage.{Current}
use Rattle.si_map.specs.Trace.{IsStuck}
use Rattle.si_map.specs.declared.map.MapStuck.{MapStuck}
use Rattle.si_map.specs.declared.map.MapStuck.TheVariants.{NoMemory, Signal}

-- what the cause shows of the graph: the first signal that the circuit drives and that no cell
-- fits, where no divisor serves
abbrev pub ShowsStuck : Library → Current → MapStuck → Type 0
ShowsStuck library w NoMemory = Unit {0}
ShowsStuck library w (Signal sig) = IsStuck library w sig
