-- (field) How many literals a netlist has.
use Rattle.std.specs.Prelude.{ℕ, ◌+◌, length}
use Rattle.std.specs.List.{sum_by}
use Rattle.si_base.specs.Netlist.{Gate, SumGate, Gc, Cell, Netlist}

-- the number of literals of the cubes of a gate's sums
abbrev pub gate_literals : Gate → ℕ
gate_literals (SumGate sum) = sum_by length sum
gate_literals (Gc set reset) = sum_by length set + sum_by length reset
gate_literals (Cell name literals sum) = sum_by length sum

-- the number of literals of the cubes of all gates
abbrev pub literals_of : Netlist → ℕ
literals_of netlist = sum_by gate_literals netlist.gates
