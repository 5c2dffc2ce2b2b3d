-- Sets of states for many functions at once: for each state a word, whose bit k is that of
-- the function at k.
use Rattle.std.specs.Prelude.{◌≡◌, ℕ, ◌<◌, ◌≤◌, ◌&&◌, not, Bool, true, false, List, length}
use Rattle.std.specs.Prelude.{slice_index_or}
use Rattle.si_base.specs.Bits.{bit}
use Rattle.si_base.specs.Codes.{CodedGraph}
use Rattle.si_base.specs.Graph.{StateGraph}
use Rattle.si_closures.specs.Loops.WordSearch.{column}
use Rattle.si_insert.specs.declared.partition.Class.{Class}
use Rattle.si_insert.specs.Partition.{class_of}
use Rattle.si_divisor.specs.declared.function.Function.{Function}
use Rattle.si_divisor.specs.declared.function_sets.FunctionSets.{FunctionSets}
use Rattle.si_divisor.specs.declared.function_sets.SettledWords.{SettledWords}
use Rattle.si_divisor.specs.Functions.{function_value}
use Rattle.si_divisor.specs.PartitionFor.{HasNone, IsPartitionFor, class_for}
use Rattle.si_divisor.specs.Targets.{AreSettled, forced_by, forced_in}

-- bit k says whether the function at k forces the state to b
abbrev pub TellsForced : CodedGraph → List Function → Bool → ℕ → ℕ → Type 0
TellsForced c functions b s word = (k : ℕ) (d : Function) → k < length functions
    → bit word k ≡ forced_by (function_value (slice_index_or functions k d)) c b s

-- for each state a word that says so
pub record AreForcedWords (c : CodedGraph) (functions : List Function) (b : Bool) (words : List ℕ)
    : Type 0 where
  pub size : length words ≡ c.graph.states
  pub each : (s : ℕ) → s < c.graph.states → TellsForced c functions b s (slice_index_or words s 0)

-- for each state the functions at whose bits neither of the words has it
pub record AreHeldWords (up down held : List ℕ) : Type 0 where
  pub size : length held ≡ length up
  pub each : (k s : ℕ) → k < 128 → s < length up → bit (slice_index_or held s 0) k
      ≡ (not (bit (slice_index_or up s 0) k) && not (bit (slice_index_or down s 0) k))

-- the words have a bit of each state for each function, and those of ones and zeros say where
-- states settle
pub record AreSettledWords (g : StateGraph) (words : SettledWords) : Type 0 where
  pub up_size : length words.up.items ≡ g.states
  pub down_size : length words.down.items ≡ g.states
  pub ones_size : length words.ones.items ≡ g.states
  pub zeros_size : length words.zeros.items ≡ g.states
  pub each : (k : ℕ) → k < 128
      → AreSettled g (forced_in (column k words.up.items) (column k words.down.items))
      (column k words.ones.items) (column k words.zeros.items)

-- of the first n states each is in just one of the sets
abbrev pub AreOpposed : ℕ → List Bool → List Bool → Type 0
AreOpposed n ones zeros =
    (s : ℕ) → s < n → slice_index_or zeros s false ≡ not (slice_index_or ones s false)

-- the classes of n states by the sets k: where the new signal rises and falls, and else by where
-- states settle
pub record AreClassesAt (n k : ℕ) (sets : FunctionSets) (classes : List Class) : Type 0 where
  pub count : length classes ≡ n
  pub each : (s : ℕ) → s < n → class_of classes s
      ≡ class_for (slice_index_or (column k sets.plus.items) s false)
      (slice_index_or (column k sets.minus.items) s false)
      (slice_index_or (column k sets.ones.items) s false)

-- there are words for the states, and the bit k says whether there is a partition for the value:
-- its classes are those by the sets k
pub record AreSetsOf (c : CodedGraph) (value : ℕ → Bool → Bool) (k : ℕ) (sets : FunctionSets)
    : Type 0 where
  pub plus_size : length sets.plus.items ≡ c.graph.states
  pub minus_size : length sets.minus.items ≡ c.graph.states
  pub ones_size : length sets.ones.items ≡ c.graph.states
  pub some : bit sets.partitions k ≡ true → (classes : List Class)
      → AreClassesAt c.graph.states k sets classes
      → IsPartitionFor c.graph (forced_by value c) classes
  pub none : bit sets.partitions k ≡ false → HasNone c.graph (forced_by value c)

-- so they are for each of the functions, of which a word has room for all
pub record AreFunctionSets (c : CodedGraph) (sets : FunctionSets) : Type 0 where
  pub few : length sets.functions.items ≤ 128
  pub each : (k : ℕ) (d : Function) → k < length sets.functions.items
      → AreSetsOf c (function_value (slice_index_or sets.functions.items k d)) k sets
