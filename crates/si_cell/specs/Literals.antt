-- (field) Literals in literal order: signal order, with plain before complemented.
use Rattle.std.specs.Prelude.{ℕ, ◌+◌, ◌==◌, ◌&&◌, not, Bool, true, false, List, []}
use Rattle.std.specs.Prelude.{◌∷◌, zero, suc, filter}
use Rattle.std.specs.List.{list_any}
use mathlib.Core.Bool.{beq}
use Rattle.si_base.specs.declared.ids.Literal.{Literal}
use Rattle.si_base.specs.Limits.{code_width}

-- the same signal, with the same sign
abbrev pub same_literal : Literal → Literal → Bool
same_literal l m = (l.sig == m.sig) && beq l.plain m.plain

-- whether the literal is one of these
abbrev pub has_literal : List Literal → Literal → Bool
has_literal literals l = list_any (same_literal l) literals

abbrev pub complement : Literal → Literal
complement l = record { sig = l.sig; plain = not l.plain }

-- both literals of the next signals, so many, from the i-th on, in literal order
abbrev pub both_from : ℕ → ℕ → List Literal
both_from zero i = []
both_from (suc count) i =
    record { sig = i; plain = true } ∷ record { sig = i; plain = false } ∷ both_from count (i + 1)

-- these literals in literal order, each once
unfoldable pub in_literal_order : List Literal → List Literal
in_literal_order literals = filter (has_literal literals) (both_from code_width 0)

-- a literal and its complement are both there
abbrev pub clashes : List Literal → Bool
clashes literals = list_any (λ l. has_literal literals (complement l)) literals
