-- Parts of a module's text.
use Rattle.std.specs.Prelude.{ℕ, Bool, true, false, List, [], ◌∷◌, ◌++◌, map, codes}
use Rattle.si_base.specs.declared.graph.Signal.{Signal}
use Rattle.si_base.specs.declared.graph.SigKind.{SigKind}
use Rattle.si_base.specs.NetlistText.{names_of}
use Rattle.si_verilog.specs.ModuleText.{verilog_name}

abbrev pub is_some : {A : Type 0} → List A → Bool
is_some [] = false
is_some (x ∷ xs) = true

-- what stands before a port line: the end of the line before, which has a comma where that is a
-- port's too
abbrev pub before_port : Bool → List ℕ
before_port true = codes ",\n"
before_port false = codes "\n"

-- port lines, without their ends, where ports stand before them or none does
abbrev pub more_ports : Bool → List (List ℕ) → List ℕ
more_ports any [] = []
more_ports any (p ∷ ps) = before_port any ++ p ++ more_ports true ps

-- the port lines of a kind of signal
abbrev pub port_lines : List ℕ → SigKind → List Signal → List (List ℕ)
port_lines word kind signals = map (λ name. word ++ verilog_name name) (names_of kind signals)
