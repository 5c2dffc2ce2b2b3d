-- The functions of divisors.
use Rattle.std.specs.Prelude.{◌≡◌, ℕ, ◌<◌, All, List, length, slice_index_or}
use Rattle.si_base.specs.Limits.{code_width}
use Rattle.si_cell.specs.Library.{Library, Instance}
use Rattle.si_divisor.specs.declared.function.Function.{Function}
use Rattle.si_divisor.specs.Functions.{IsFunction}

-- the functions are those of the first so many divisors, at the same places
pub record AreFunctions (library : Library) (divisors : List Instance) (count : ℕ)
    (functions : List Function) : Type 0 where
  pub size : length functions ≡ count
  pub within : All (λ f. All (λ s. s < code_width) f.signals.items) functions
  pub each : (k : ℕ) (i : Instance) (f : Function) → k < count
      → IsFunction library (slice_index_or divisors k i) (slice_index_or functions k f)
