-- (field) The function that an instance computes.
use Rattle.std.specs.Prelude.{◌≡◌, ℕ, ◌+◌, ◌<◌, ◌^◌, Bool, List, [], ◌∷◌, ◌++◌, length, map}
use Rattle.std.specs.Prelude.{IsPermutation}
use Rattle.std.specs.Cmp.Lexicographic.{slice_cmp}
use Rattle.std.specs.List.Sorted.{IsNonDecreasing}
use Rattle.std.specs.Ordering.{nat_cmp, ordering_then}
use Rattle.std.specs.declared.cmp.Ordering.{Ordering}
use Rattle.si_base.specs.Bits.{bit}
use Rattle.si_cell.specs.Library.{Library, Instance, code_of, instance_value}
use Rattle.si_divisor.specs.declared.function.Function.{Function}

-- the values of these signals at the code, and of the own output behind them, as a number whose
-- lowest bit is the first of them
abbrev pub values_at : List ℕ → ℕ → Bool → ℕ
values_at signals code q = code_of (map (bit code) signals ++ q ∷ [])

-- the value of the instance at each code is the bit of the table at the values of these signals
-- and of the own output; behind these the table has no bit
pub record IsTable (library : Library) (i : Instance) (signals : List ℕ) (table : ℕ) : Type 0 where
  pub value : (code : ℕ) (q : Bool)
      → bit table (values_at signals code q) ≡ instance_value library i code q
  pub no_more : table < 2 ^ 2 ^ (length signals + 1)

-- the signals of the instance's literals, in signal order, and its table over these
pub record IsFunction (library : Library) (i : Instance) (f : Function) : Type 0 where
  pub same : IsPermutation (map (λ l. l.sig) i.literals) f.signals.items
  pub in_order : IsNonDecreasing f.signals.items
  pub table : IsTable library i f.signals.items f.table

-- its value at a code, where the own output has the value q
abbrev pub function_value : Function → ℕ → Bool → Bool
function_value f code q = bit f.table (values_at f.signals.items code q)

-- the value is that of the function at each code
abbrev pub Computes : Function → (ℕ → Bool → Bool) → Type 0
Computes f value = (code : ℕ) (q : Bool) → function_value f code q ≡ value code q

-- the order of functions: by their signals, the first first, then by their tables
abbrev pub function_cmp : Function → Function → Ordering
function_cmp f g =
    ordering_then (slice_cmp nat_cmp f.signals.items g.signals.items) (nat_cmp f.table g.table)
