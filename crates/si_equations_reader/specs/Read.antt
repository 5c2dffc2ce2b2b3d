-- (text) Equations that are read, as the definitions see them.
use Rattle.si_equations.specs.Equations.{Equations}
use Rattle.si_equations_reader.specs.Held.{progress_now}
use Rattle.si_equations_reader.specs.declared.equations.Equations.{Equations as EquationsHeld}

abbrev pub equations_now : EquationsHeld → Equations
equations_now e = progress_now e.read
