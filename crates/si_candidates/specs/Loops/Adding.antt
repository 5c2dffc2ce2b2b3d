-- How the list of blocks grows.
use Rattle.std.specs.Prelude.{◌≡◌, Bool, List, [], ◌∷◌, ◌++◌, length, nat_lt, if◌then◌else◌}
use Rattle.std.specs.List.{list_any}
use Rattle.si_base.specs.declared.ids.Event.{Event}
use Rattle.si_base.specs.Graph.{StateGraph}
use Rattle.si_regions.specs.declared.regions.Component.{Component}
use Rattle.si_candidates.specs.Loops.Asked.{Ask, AreIntervalsOf}
use Rattle.si_candidates.specs.Blocks.{same_set, max_blocks, AreIntervals}

-- the list with one more set, unless that stands already or enough sets stand
abbrev pub with_block : List (List Bool) → List Bool → List (List Bool)
with_block sets x =
    if nat_lt (length sets) max_blocks
    then (if list_any (same_set x) sets then sets else sets ++ x ∷ [])
    else sets

-- the list with these, one after another
abbrev pub with_blocks : List (List Bool) → List (List Bool) → List (List Bool)
with_blocks sets [] = sets
with_blocks sets (x ∷ xs) = with_blocks (with_block sets x) xs

-- the list grows by the intervals that are asked for
pub record AddsAsked (g : StateGraph) (asks : List Ask) (old new : List (List Bool)) : Type 0 where
  pub sets : List (List Bool)
  pub are : AreIntervalsOf g asks sets
  pub added : new ≡ with_blocks old sets

-- the new asks come behind those that waited: of all these the list grows by the first ones, and
-- the others wait
pub record AddsFirst (g : StateGraph) (asks waited : List Ask) (old : List (List Bool))
    (waiting : List Ask) (new : List (List Bool)) : Type 0 where
  pub first : List Ask
  pub parts : waited ++ asks ≡ first ++ waiting
  pub adds : AddsAsked g first old new

-- the list grows by the intervals from the switching region of each component
pub record AddsIntervals (g : StateGraph) (stops : List Event) (components : List Component)
    (old new : List (List Bool)) : Type 0 where
  pub sets : List (List Bool)
  pub are : AreIntervals g stops components sets
  pub added : new ≡ with_blocks old sets
