-- (text) The equations that a reader holds, as the definitions see them, and what it answers.
use Rattle.std.specs.Prelude.{◌≡◌, ℕ, map, Result, Ok, Err}
use Rattle.si_base.specs.declared.fault.TextKind.{TextKind}
use Rattle.si_base.specs.declared.fault.TextFault.{TextFault}
use Rattle.si_base.specs.declared.fault.TextFault.TheVariants as faults
use Rattle.si_equations.specs.Equations.{Equation, Equations, signals}
use Rattle.si_equations_reader.specs.declared.progress.Equation.{Equation as EquationHeld}
use Rattle.si_equations_reader.specs.declared.progress.Progress.{Progress}
use Rattle.si_equations_reader.specs.Steps.{tree_of}

abbrev pub equation_now : EquationHeld → Equation
equation_now q = record {
  line = q.line;
  name = q.name.now;
  tree = tree_of q.steps.items;
}

abbrev pub progress_now : Progress → Equations
progress_now p = record {
  inputs = p.inputs;
  outputs = p.outputs;
  equations = map equation_now p.equations.items;
}

-- the list of all signals is told
abbrev pub AreCounted : Progress → Type 0
AreCounted p = p.signals ≡ signals (progress_now p)

-- the fault is this one, or `NoMemory`
abbrev pub Refuses : {X : Type 0} → TextFault → Result X (ℕ × TextKind) → Type 0
Refuses faults.NoMemory read = Unit {0}
Refuses (faults.At line kind) read = read ≡ Err (line, kind)

-- what the text spells, or its first fault; either may want memory
abbrev pub Spells : {X Y : Type 0} → (X → Y) → Result X TextFault
    → Result Y (ℕ × TextKind) → Type 0
Spells view (Ok x) read = read ≡ Ok (view x)
Spells view (Err fault) read = Refuses fault read
