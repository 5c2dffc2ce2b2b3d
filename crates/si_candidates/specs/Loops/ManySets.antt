-- Where a new signal may switch, said of many sets at once.
use Rattle.std.specs.Prelude.{◌≡◌, ℕ, ◌+◌, ◌*◌, ◌<◌, ◌≤◌, ◌↔◌, Bool, true, false, List, [], length}
use Rattle.std.specs.List.{slice_index_or}
use Rattle.si_base.specs.Bits.{bit}
use Rattle.si_base.specs.Graph.{StateGraph}
use Rattle.si_base.specs.Sets.{IsIn}
use Rattle.si_closures.specs.Loops.WordSearch.{column, HasBit}
use Rattle.si_candidates.specs.Blocks.{block_at}
use Rattle.si_candidates.specs.Blocking.{MaySwitch}

-- the flags say of the first blocks, as many as there are flags, whether a new signal may switch
-- in them
abbrev pub AreToldBelow : StateGraph → List (List Bool) → List Bool → Type 0
AreToldBelow g blocks flags = (k : ℕ) → k < length flags
    → (slice_index_or flags k false ≡ true) ↔ MaySwitch g (IsIn (block_at blocks k))

-- and there is a flag for each block
pub record AreAllTold (g : StateGraph) (blocks : List (List Bool)) (flags : List Bool)
    : Type 0 where
  pub count : length flags ≡ length blocks
  pub each : AreToldBelow g blocks flags

-- ---- sets as bits of words
-- bit k of the word says whether P holds of the set k
abbrev pub Tells : List ℕ → (List Bool → Type 0) → ℕ → Type 0
Tells words P word = (k : ℕ) → k < 128 → (bit word k ≡ true) ↔ P (column k words)

-- it says so of the given sets, and no other bit is set
abbrev pub TellsOf : ℕ → List ℕ → (List Bool → Type 0) → ℕ → Type 0
TellsOf given words P word =
    (k : ℕ) → k < 128 → (bit word k ≡ true) ↔ ((bit given k ≡ true) × P (column k words))

-- the set k is the block k places past the first one, for k below n, and the sets past the last
-- block are empty
pub record ArePacked (states : ℕ) (blocks : List (List Bool)) (first n : ℕ) (words : List ℕ)
    : Type 0 where
  pub size : length words ≡ states
  pub each : (k s : ℕ) → k < 128 → HasBit words k s
      ↔ ((k < n) × (first + k < length blocks) × IsIn (block_at blocks (first + k)) s)

-- ---- lists of such words
abbrev pub words_at : List (List ℕ) → ℕ → List ℕ
words_at lists b = slice_index_or lists b []

-- for each list a word says so of its sets
pub record EachTells (P : List Bool → Type 0) (lists : List (List ℕ)) (answers : List ℕ) : Type 0
  where
    pub count : length answers ≡ length lists
    pub each : (b : ℕ) → b < length lists
        → Tells (words_at lists b) P (slice_index_or answers b 0)

pub record EachTellsOf (given : List ℕ) (P : List Bool → Type 0) (lists : List (List ℕ))
    (answers : List ℕ) : Type 0 where
  pub count : length answers ≡ length given
  pub each : (b : ℕ) → b < length lists
      → TellsOf (slice_index_or given b 0) (words_at lists b) P (slice_index_or answers b 0)

-- the lists have the blocks in order, 128 each
abbrev pub ArePackedInOrder : ℕ → List (List Bool) → List (List ℕ) → Type 0
ArePackedInOrder states blocks lists = (b : ℕ) → b < length lists
    → ArePacked states blocks (b * 128) 128 (words_at lists b)

-- and each block stands in one
pub record AreAllPacked (states : ℕ) (blocks : List (List Bool)) (lists : List (List ℕ)) : Type 0
  where
    pub all : length blocks ≤ length lists * 128
    pub each : ArePackedInOrder states blocks lists
