-- (text) Names in the lists of signals.
use Rattle.std.specs.Prelude.{◌≡◌, ℕ, Bool, not, List, ◌++◌, length, take, nat_le, bytes_eq}
use Rattle.std.specs.Prelude.{slice_get, Option, Some, None}
use Rattle.std.specs.List.{list_any}
use Rattle.si_base.specs.Words.{is_signal_name}
use Rattle.si_base.specs.declared.fault.TextKind.{TextKind}
use Rattle.si_base.specs.declared.fault.TextKind.TheVariants.{BadName, Repeated, TooManySignals}
use Rattle.si_base.specs.declared.fault.LineFault.{LineFault}
use Rattle.si_base.specs.declared.fault.LineFault.TheVariants.{NoMemory, Kind}
use Rattle.si_base.specs.Faults.{when, ◌otherwise◌, first_after}

abbrev pub stands_in : List (List ℕ) → List ℕ → Bool
stands_in names name = list_any (λ n. bytes_eq name n) names

-- a name in a list of signals, after the names that stand before it, where so many names may stand
abbrev pub name_fault : ℕ → List (List ℕ) → List ℕ → Option TextKind
name_fault limit before name =
    when (not (is_signal_name name)) BadName
    otherwise when (stands_in before name) Repeated
    otherwise when (nat_le limit (length before)) TooManySignals

-- some first words went behind the old names, none of them with a fault
pub record AddsFirst (limit : ℕ) (old new words : List (List ℕ)) : Type 0 where
  pub count : ℕ
  pub names_are : new ≡ old ++ take count words
  pub good : first_after (name_fault limit) old (take count words) ≡ None

-- just those before the first word with a fault did, and its fault is of this kind
pub record AddsUntil (limit : ℕ) (kind : TextKind) (old new words : List (List ℕ)) : Type 0 where
  pub first : AddsFirst limit old new words
  pub word : List ℕ
  pub next : slice_get words first.count ≡ Some word
  pub fault_is : name_fault limit new word ≡ Some kind

-- what stands behind the old names where words were refused:
-- all before the word with the fault, or where memory ran out some
abbrev pub LeavesNames : ℕ → LineFault → List (List ℕ) → List (List ℕ) → List (List ℕ) → Type 0
LeavesNames limit NoMemory old new words = AddsFirst limit old new words
LeavesNames limit (Kind kind) old new words = AddsUntil limit kind old new words
