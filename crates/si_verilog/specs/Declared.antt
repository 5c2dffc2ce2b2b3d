-- (text) The signals that a module declares.
use Rattle.std.specs.Prelude.{ℕ, List, ◌++◌, map}
use Rattle.si_verilog.specs.Grammar.{Port, InputPort, OutputPort, Module}

abbrev pub port_name : Port → List ℕ
port_name (InputPort name) = name
port_name (OutputPort name) = name

-- the names of its ports, and of its wires
abbrev pub declared_names : Module → List (List ℕ)
declared_names m = map port_name m.ports ++ m.wires
