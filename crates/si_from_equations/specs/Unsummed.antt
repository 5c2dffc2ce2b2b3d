-- (field) Why equations give no netlist beside a graph.
use Rattle.std.specs.Prelude.{◌≡◌, ℕ, List, Option, Some}
use Rattle.si_from_equations.specs.declared.unsummed.Unsummed.{Unsummed}
use Rattle.si_from_equations.specs.declared.unsummed.Unsummed.TheVariants.{NoMemory, Products}

-- memory ran out, or a sum is missing, that of this signal
abbrev pub Tells : Option (List ℕ) → Unsummed → Type 0
Tells missing NoMemory = Unit {0}
Tells missing (Products signal) = missing ≡ Some signal
