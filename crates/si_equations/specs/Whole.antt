-- (text) What holds of equations that a text without fault spells.
use Rattle.std.specs.Prelude.{◌≡◌, ℕ, ◌||◌, List, [], Option, None, IsTrue}
use Rattle.si_base.specs.Faults.{when, first_after, first_in}
use Rattle.si_base.specs.Limits.{max_signals}
use Rattle.si_base.specs.declared.fault.TextKind.{TextKind}
use Rattle.si_base.specs.declared.fault.TextKind.TheVariants.{Repeated}
use Rattle.si_words.specs.Names.{stands_in, name_fault}
use Rattle.si_equations.specs.Equations.{Equations, driven, signals, undeclared, has_all_outputs}

-- an input, or a name that stands before
abbrev pub repeated : List (List ℕ) → List (List ℕ) → List ℕ → Option TextKind
repeated inputs before name = when (stands_in inputs name || stands_in before name) Repeated

-- the names of all signals could stand in one list: they are signal names, distinct, and not too
-- many; no input has an equation, and no signal two; each output has one; expressions name signals
-- alone
pub record AreWhole (e : Equations) : Type 0 where
  pub names : first_after (name_fault max_signals) [] (signals e) ≡ None
  pub once : first_after (repeated e.inputs) [] (driven e) ≡ None
  pub outputs : IsTrue (has_all_outputs e)
  pub known : first_in (undeclared (signals e)) e.equations ≡ None
