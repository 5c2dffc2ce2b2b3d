-- Equations, one after another.
use Rattle.std.specs.Prelude.{ℕ, suc, List, [], length, codes, Result, Ok}
use Rattle.si_tokens.specs.declared.fault.Stop.{Stop}
use Rattle.si_tokens.specs.Unread.{◌>>=◌, Unread, Piece, tokens}
use Rattle.si_genlib.specs.Expression.{trees, start, read}
use Rattle.si_equations.specs.Names.{bare}
use Rattle.si_equations.specs.Equations.{Equations, driven, equation_fault, if_good, mark_at}
use Rattle.si_equations.specs.Equations.{with_equation, equations_from}

-- the lists alone
abbrev pub only_lists : List (List ℕ) → List (List ℕ) → Equations
only_lists inputs outputs = record { inputs = inputs; outputs = outputs; equations = [] }

-- one, from its first token on
abbrev pub equation_behind : Equations → Piece → Result (Equations × Unread) Stop
equation_behind old name = do
  equals ← if_good (equation_fault old.inputs old.outputs (driven old) (bare name.bytes)) name
  body ← mark_at (codes "=") equals
  expression ← read trees start (tokens body)
  Ok (with_equation old name.line (bare name.bytes) expression.0, expression.1)

-- all that are left: each takes at least one token
unfoldable pub all_equations : Equations → Unread → Result Equations Stop
all_equations old u = equations_from (suc (length (tokens u))) old u
