-- What expressions are evaluated for.
use Rattle.std.specs.Prelude.{Bool}
use Rattle.si_genlib.specs.Expression.{Operations, truth}
use Rattle.si_equations.specs.Names.{bare, named_value}
use Rattle.si_equations.specs.Equations.{known}
use Rattle.si_equations_reader.specs.declared.meaning.Meaning.{Meaning}
use Rattle.si_equations_reader.specs.declared.meaning.Meaning.TheVariants as meanings

-- whether each name is one of these, or the value where they have the bits of the code
abbrev pub operations : Meaning → Operations Bool
operations (meanings.Known names) = known names.now
operations (meanings.Truth names values) = truth (λ name. named_value names.now values (bare name))
