-- Switching states of many functions at once: for each state a word, whose bit k is that of
-- the function at k.
use Rattle.std.specs.Prelude.{◌≡◌, ◌≢◌, ℕ, ◌<◌, ◌⊎◌, Bool, true, false, List, length}
use Rattle.std.specs.Prelude.{Contains}
use Rattle.si_base.specs.declared.graph.Edge.{Edge}
use Rattle.si_base.specs.Bits.{bit}
use Rattle.si_base.specs.Codes.{IsDeterministic}
use Rattle.si_base.specs.Graph.{StateGraph, IsGraph, Step, IsNonInput}
use Rattle.si_base.specs.Sets.{IsIn, IsSubset}
use Rattle.si_closures.specs.Loops.WordSearch.{column, HasBit, Spreads, SpreadsAll, WordProgress}
use Rattle.si_insert.specs.Accepted.{IsInput}
use Rattle.si_divisor.specs.declared.switching.Switched.{Switched}
use Rattle.si_divisor.specs.Loops.SwitchRules.{Belongs, IsLow, OmitsState}
use Rattle.si_divisor.specs.Switching.{Switches}
use Rattle.si_divisor.specs.Targets.{IsLeast, target}

-- of the given sets those that are kept are the states that switch to 1, all of them within; each
-- other one lacks a state outside
pub record AreSwitched (g : StateGraph) (highs : List ℕ) (given : ℕ) (within : List ℕ)
    (found : Switched) : Type 0 where
  pub size : length found.words.items ≡ g.states
  pub given_too : (k : ℕ) → bit found.kept k ≡ true → bit given k ≡ true
  pub least : (k : ℕ) → bit found.kept k ≡ true
      → IsLeast g.states (Switches g (target (column k highs)) true) (column k found.words.items)
  pub inside : (k : ℕ) → bit found.kept k ≡ true
      → IsSubset (column k found.words.items) (column k within)
  pub dropped : (k : ℕ) → k < 128 → bit given k ≡ true → bit found.kept k ≡ false
      → OmitsState g (column k highs) (column k within)

-- ---- the turns of the search
-- from one work to another: only bits with Q are new
abbrev pub Grows : (ℕ → ℕ → Type 0) → WordProgress → WordProgress → Type 0
Grows Q old new = Spreads Q old.words old.work new.words new.work

-- and each of these is there then
abbrev pub GrowsAll : (ℕ → ℕ → Type 0) → WordProgress → WordProgress → Type 0
GrowsAll Q old new = SpreadsAll Q old.words old.work new.words new.work

-- each of n states has a word, and may wait
pub record IsSized (n : ℕ) (work : WordProgress) : Type 0 where
  pub words : length work.words ≡ n
  pub waiting : length work.work ≡ n

-- t switches to 1 for the function at k
abbrev pub BelongsTo : StateGraph → List ℕ → ℕ → ℕ → Type 0
BelongsTo g highs k t = Belongs g (column k highs) t

-- each bit is that of a state that does
abbrev pub AllBelong : StateGraph → List ℕ → WordProgress → Type 0
AllBelong g highs work = (k t : ℕ) → HasBit work.words k t → BelongsTo g highs k t

-- x is in each of these sets
abbrev pub HaveAll : ℕ → WordProgress → ℕ → Type 0
HaveAll sets work x = (k : ℕ) → bit sets k ≡ true → HasBit work.words k x

-- what a turn at x begins with: sets that have x, and no bit but those of states that belong
pub record IsTurn (g : StateGraph) (highs : List ℕ) (sets x : ℕ) (work : WordProgress) : Type 0
  where
    pub graph : IsGraph g
    pub deterministic : IsDeterministic g
    pub count : length highs ≡ g.states
    pub size : IsSized g.states work
    pub have : HaveAll sets work x
    pub belong : AllBelong g highs work

-- beside the arc another leads out of its source, which is high, to a marked state; the event of
-- the arc, which is no input, leads on from there to w
pub record ExitsBeside (g : StateGraph) (high marks : List Bool) (arc beside : Edge) (w : ℕ)
    : Type 0 where
  pub begins_high : IsIn high arc.from
  pub non_input : IsNonInput g.signals arc.event.sig
  pub same : beside.from ≡ arc.from
  pub apart : arc.event ≢ beside.event
  pub there : IsIn marks beside.to
  pub step : Step g beside.to arc.event w

-- what follows from the end of an arc at its source, and beside the arc
pub data FollowsBack (g : StateGraph) (high marks : List Bool) (arc : Edge) (t : ℕ) : Type 0 where
  Source : (is : t ≡ arc.from) (there : IsIn high arc.from) → FollowsBack g high marks arc t
  Beside : (beside : Edge) (listed : Contains g.edges beside)
      (exits : ExitsBeside g high marks arc beside t) → FollowsBack g high marks arc t

-- the event of the exit was enabled before, at a state that is low, or led to a marked state then
pub record LetsExit (g : StateGraph) (high marks : List Bool) (exit before : Edge) : Type 0 where
  pub t : ℕ
  pub apart : exit.event ≢ before.event
  pub step : Step g before.from exit.event t
  pub may : IsLow high before.from ⊎ IsIn marks t

-- so it is with an arc into the source of the exit
pub record HasExit (g : StateGraph) (high marks : List Bool) (exit : Edge) : Type 0 where
  pub before : Edge
  pub listed : Contains g.edges before
  pub into : before.to ≡ exit.from
  pub lets : LetsExit g high marks exit before

-- what the arc leads to follows from its source
abbrev pub FollowsOn : StateGraph → List Bool → List Bool → Edge → Type 0
FollowsOn g high marks arc = IsInput g.signals arc.event.sig
    ⊎ (IsNonInput g.signals arc.event.sig × HasExit g high marks arc)
