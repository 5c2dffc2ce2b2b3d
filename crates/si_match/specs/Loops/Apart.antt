-- States that an instance has to tell apart, and the signals by which it can.
use Rattle.std.specs.Prelude.{◌≡◌, ◌≢◌, ◌↔◌, ℕ, ◌<◌, ◌++◌, Bool, true, false, List, All}
use Rattle.std.specs.Prelude.{Contains, length, bit_and, bit_xor}
use Rattle.si_base.specs.Bits.{bit}
use Rattle.si_base.specs.Codes.{CodedGraph, code, next_value}
use Rattle.si_cell.specs.Library.{Library}
use Rattle.si_match.specs.Loops.Choices.{NoneFitsOver}

-- two states of different next values of z at which the signals that are read have the same values,
-- and so has each signal outside of the set of those that differ
pub record AreApart (c : CodedGraph) (z read differing : ℕ) : Type 0 where
  pub one : ℕ
  pub other : ℕ
  pub one_there : one < c.graph.states
  pub other_there : other < c.graph.states
  pub changes : next_value c one z ≢ next_value c other z
  pub same : (y : ℕ) → bit read y ≡ true → bit (code c one) y ≡ bit (code c other) y
  pub others : (y : ℕ) → bit differing y ≡ false → bit (code c one) y ≡ bit (code c other) y

-- where the two states have the same values of the signals that are read, they have the same next
-- value of z
abbrev pub AreAlike : CodedGraph → (z read one other : ℕ) → Type 0
AreAlike c z read one other =
    ((y : ℕ) → bit read y ≡ true → bit (code c one) y ≡ bit (code c other) y)
    → next_value c one z ≡ next_value c other z

-- no state has to be told apart from that one
abbrev pub AllAlikeTo : CodedGraph → (z read one : ℕ) → Type 0
AllAlikeTo c z read one = (other : ℕ) → other < c.graph.states → AreAlike c z read one other

-- no two states have to be told apart
abbrev pub AllAlike : CodedGraph → (z read : ℕ) → Type 0
AllAlike c z read = (one : ℕ) → one < c.graph.states → AllAlikeTo c z read one

-- no two of these states have
abbrev pub AllAlikeAmong : CodedGraph → (z read : ℕ) → List ℕ → Type 0
AllAlikeAmong c z read states = All (λ one. All (AreAlike c z read one) states) states

-- the codes of those of the states at which z has that next value
abbrev pub AreCodesAmong : CodedGraph → ℕ → Bool → (states codes : List ℕ) → Type 0
AreCodesAmong c z value states codes =
    (k : ℕ) → Contains codes k
    ↔ ((s : ℕ) × Contains states s × (next_value c s z ≡ value) × (code c s ≡ k))

-- the codes differ at a signal that is read
abbrev pub DifferAtRead : (read one other : ℕ) → Type 0
DifferAtRead read one other = bit_and (bit_xor one other) read ≢ 0

-- the codes have the same values of the signals that are read, and differ at the set's signals
abbrev pub IsUnread : (read one other differing : ℕ) → Type 0
IsUnread read one other differing =
    (differing ≡ bit_xor one other) × (bit_and (bit_xor one other) read ≡ 0)

-- the same of one code and one of the others
abbrev pub IsUnreadFromOne : (read one : ℕ) → List ℕ → ℕ → Type 0
IsUnreadFromOne read one others differing =
    (other : ℕ) × Contains others other × IsUnread read one other differing

-- the most states that are kept as witnesses
abbrev pub max_witnesses : ℕ
max_witnesses = 32

-- the most states of a graph that are all looked at
abbrev pub few_states : ℕ
few_states = 1024

-- no instance that fits z reads these signals, z, and so many further signals, alone
abbrev pub NoneFitsWith : CodedGraph → Library → ℕ → List ℕ → ℕ → Type 0
NoneFitsWith c library z chosen more = (rest : List ℕ) → length rest ≡ more
    → All (λ y. y < length c.graph.signals) rest → NoneFitsOver c library z (chosen ++ rest)
