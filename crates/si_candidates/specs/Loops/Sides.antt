-- On which side of a block each state lies, and how the sides of two blocks tell the
-- classes.
use Rattle.std.specs.Prelude.{◌≡◌, ℕ, ◌<◌, ◌&&◌, ◌↔◌, not, Bool, true, false, List, length, map}
use Rattle.std.specs.List.{range_with_len}
use Rattle.si_base.specs.Graph.{StateGraph}
use Rattle.si_base.specs.Sets.{IsIn, is_in}
use Rattle.si_insert.specs.declared.partition.Class.{Class}
use Rattle.si_insert.specs.declared.partition.Class.TheVariants.{Low, Rising, High, Falling}
use Rattle.si_insert.specs.Partition.{class_of, IsLawful}
use Rattle.si_candidates.specs.declared.tree.Link.{Link}
use Rattle.si_candidates.specs.Blocks.{block_at}
use Rattle.si_candidates.specs.Loops.Tree.{IsLinkAt, IsTree}

-- one of the two, and not both
abbrev pub differ : Bool → Bool → Bool
differ true b = not b
differ false b = b

-- s is in the set and t isn't
abbrev pub leaves : List Bool → ℕ → ℕ → Bool
leaves set s t = is_in set s && not (is_in set t)

-- the side of the state to which a link leads, by that of the state from which it leads
abbrev pub side_after : List Bool → List Bool → Link → Bool
side_after set sides l = differ (is_in sides l.from) (leaves set l.from l.to)

-- on which side of the set each state lies: along the tree, from the start on, the side changes
-- where a link leaves the set
pub record AreSides (g : StateGraph) (tree : List Link) (set sides : List Bool) : Type 0 where
  pub size : length sides ≡ g.states
  pub start : is_in sides g.start ≡ false
  pub along : (k : ℕ) (l : Link) → IsLinkAt tree k l
      → is_in sides l.to ≡ differ (is_in sides l.from) (leaves set l.from l.to)

-- the sets of the list are the sides of the first blocks, as many as it has
abbrev pub AreSidesOf : StateGraph → List Link → List (List Bool) → List (List Bool) → Type 0
AreSidesOf g tree blocks list = (k : ℕ) → k < length list
    → AreSides g tree (block_at blocks k) (block_at list k)

-- the state lies on different sides of two sets
abbrev pub between : List Bool → List Bool → ℕ → Bool
between plus_sides minus_sides s = differ (is_in plus_sides s) (is_in minus_sides s)

-- the class of a state by whether the new signal rises there, or falls there, and by its value on
-- the way there
abbrev pub class_by : Bool → Bool → Bool → Class
class_by true falls value = Rising
class_by false true value = Falling
class_by false false true = High
class_by false false false = Low

-- the classes of all states where it rises in the one set, falls in the other, and has the value 1
-- on the way to those of the third
abbrev pub classes_by : List Bool → List Bool → List Bool → List Class
classes_by plus minus high =
    map (λ s. class_by (is_in plus s) (is_in minus s) (is_in high s))
    (range_with_len 0 (length plus))

-- these are the sides of two blocks, along one tree of arcs
pub record AreSided (g : StateGraph) (plus minus plus_sides minus_sides : List Bool) : Type 0 where
  pub tree : List Link
  pub is_tree : IsTree g tree
  pub plus_are : AreSides g tree plus plus_sides
  pub minus_are : AreSides g tree minus minus_sides

-- the classes that the sides of two blocks tell: a new signal rises in the one block and falls in
-- the other; on the way to the states that lie on different sides of the two it has the value 0 if
-- `turn` is true, else on the way to the others
abbrev pub side_classes : List Bool → List Bool → List Bool → List Bool → Bool → List Class
side_classes plus minus plus_sides minus_sides turn =
    map (λ s. class_by (is_in plus s) (is_in minus s)
    (differ turn (between plus_sides minus_sides s))) (range_with_len 0 (length plus))

-- the blocks and their sides are sets of states of one graph
pub record AreOfOneSize (plus minus plus_sides minus_sides : List Bool) : Type 0 where
  pub minus_size : length minus ≡ length plus
  pub plus_sides_size : length plus_sides ≡ length plus
  pub minus_sides_size : length minus_sides ≡ length plus

-- a lawful partition whose Rising states are the one set and whose Falling states the other
pub record IsPartitionOfBlocks (g : StateGraph) (plus minus : List Bool) (classes : List Class)
    : Type 0 where
  pub lawful : IsLawful g classes
  pub rising : (s : ℕ) → s < g.states → (class_of classes s ≡ Rising) ↔ IsIn plus s
  pub falling : (s : ℕ) → s < g.states → (class_of classes s ≡ Falling) ↔ IsIn minus s
