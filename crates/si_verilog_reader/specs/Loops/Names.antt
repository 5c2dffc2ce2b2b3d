-- Which names may stand where.
use Rattle.std.specs.Prelude.{◌≡◌, ℕ, List, [], Option, None}
use Rattle.si_base.specs.Faults.{first_after}
use Rattle.si_base.specs.Limits.{max_signals}
use Rattle.si_base.specs.declared.fault.TextKind.{TextKind}
use Rattle.si_words.specs.Names.{name_fault}
use Rattle.si_verilog_reader.specs.Modules.{Ports, all_ports, other_fault, port_fault, signal_fault}
use Rattle.si_verilog_reader.specs.Loops.Held.{ports_now}
use Rattle.si_verilog_reader.specs.declared.expression.Allowed.{Allowed}
use Rattle.si_verilog_reader.specs.declared.expression.Allowed.TheVariants as allowed
use Rattle.si_verilog_reader.specs.declared.heads.Rule.{Rule}
use Rattle.si_verilog_reader.specs.declared.heads.Rule.TheVariants as rules

-- the faults of names in an expression
abbrev pub fault_of : Allowed → List ℕ → Option TextKind
fault_of allowed.Signals = signal_fault
fault_of (allowed.Ports ports) = other_fault (all_ports (ports_now ports.now))

-- those of ports, behind others
abbrev pub fault_by : Rule → List (List ℕ) → List ℕ → Option TextKind
fault_by rules.OfCircuit = name_fault max_signals
fault_by rules.OfCell = port_fault

-- the ports of a circuit have names without fault
abbrev pub AreGood : Rule → Ports → Type 0
AreGood rules.OfCircuit ports = first_after (name_fault max_signals) [] (all_ports ports) ≡ None
AreGood rules.OfCell ports = Unit {0}
