-- Functions at 128 states at once: for each signal a word, bit i of which is its value at the i-th
-- of the states.
use Rattle.std.specs.Prelude.{◌≡◌, ℕ, ◌+◌, ◌<◌, Bool, not, List, length, slice_index_or}
use mathlib.Core.Bool.{beq}
use Rattle.si_base.specs.Bits.{bit}
use Rattle.si_base.specs.Codes.{CodedGraph, code}
use Rattle.si_base.specs.Limits.{code_width}
use Rattle.si_divisor.specs.declared.function.Function.{Function}
use Rattle.si_divisor.specs.Functions.{function_value}
use Rattle.si_divisor.specs.Loops.ManyFunctions.{TellsForced}

-- the i-th of the states has this code
abbrev pub HasCode : List ℕ → ℕ → ℕ → Type 0
HasCode columns i code =
    (z : ℕ) → z < code_width → bit (slice_index_or columns z 0) i ≡ bit code z

-- the first states, so many, have the codes of those of the graph from `first` on
abbrev pub AreColumns : CodedGraph → ℕ → ℕ → List ℕ → Type 0
AreColumns c first count columns = (i : ℕ) → i < count → HasCode columns i (code c (first + i))

-- bit i of the word says whether the function forces the i-th state to b
abbrev pub TellsStates : Function → Bool → List ℕ → ℕ → Type 0
TellsStates f b columns word = (i code : ℕ) → i < 128 → HasCode columns i code
    → bit word i ≡ beq (function_value f code (not b)) b

-- the word at k says so of the function at k
abbrev pub TellFunctions : List Function → Bool → List ℕ → List ℕ → Type 0
TellFunctions functions b columns words = (k : ℕ) (d : Function) → k < length functions
    → TellsStates (slice_index_or functions k d) b columns (slice_index_or words k 0)

-- the word at i says which of the functions force the state that is i states past `first` to b
abbrev pub TellForced : CodedGraph → List Function → Bool → ℕ → ℕ → List ℕ → Type 0
TellForced c functions b first count words = (i : ℕ) → i < count
    → TellsForced c functions b (first + i) (slice_index_or words i 0)
