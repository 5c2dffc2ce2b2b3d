-- The values of signals and gates at all states of a graph, in columns of 64 to a word.
use Rattle.std.specs.Prelude.{◌≡◌, ◌≢◌, ℕ, ◌+◌, ◌/◌, ◌<◌, Bool, List, [], length, slice_index_or}
use mathlib.Core.Bool.{beq}
use Rattle.si_base.specs.Bits.{bit}
use Rattle.si_base.specs.Codes.{CodedGraph, code}
use Rattle.si_base.specs.Limits.{code_width}
use Rattle.si_base.specs.Sets.{flag}

-- so many words hold the values of so many states
abbrev pub words_for : ℕ → ℕ
words_for states = (states + 63) / 64

-- whether the value is v
abbrev pub is_value : (v value : Bool) → Bool
is_value v value = beq value v

-- the column of signal z
abbrev pub column : List (List ℕ) → ℕ → List ℕ
column columns z = slice_index_or columns z []

-- a column for each signal that a code has a bit for, each of so many words
pub record AreColumns (size : ℕ) (columns : List (List ℕ)) : Type 0 where
  pub count : length columns ≡ code_width
  pub sizes : (z : ℕ) → z < code_width → length (column columns z) ≡ size

-- by the columns of its signals, the state s has the code k
abbrev pub HasCode : List (List ℕ) → (s k : ℕ) → Type 0
HasCode columns s k = (z : ℕ) → z < code_width → flag (column columns z) s ≡ bit k z

-- a column of as many words, with the value of f for the code of each state
pub record Computes (size : ℕ) (columns : List (List ℕ)) (f : ℕ → Bool) (values : List ℕ)
    : Type 0 where
  pub size_is : length values ≡ size
  pub each : (s k : ℕ) → s / 64 < size → HasCode columns s k → flag values s ≡ f k

-- the columns of the graph's signals
pub record AreColumnsOf (c : CodedGraph) (columns : List (List ℕ)) : Type 0 where
  pub are : AreColumns (words_for c.graph.states) columns
  pub codes : (s : ℕ) → s < c.graph.states → HasCode columns s (code c s)

-- ---- one value beside another
-- the one is the other at each state, so many
abbrev pub Agree : ℕ → (one other : ℕ → Bool) → Type 0
Agree states one other = (s : ℕ) → s < states → one s ≡ other s

-- s is the first state, of so many, at which the one isn't the other
pub record DifferFirstAt (states : ℕ) (one other : ℕ → Bool) (s : ℕ) : Type 0 where
  pub within : s < states
  pub differ : one s ≢ other s
  pub before : Agree s one other
