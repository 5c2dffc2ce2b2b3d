-- The steps that the event of an arc could have made before.
use Rattle.std.specs.Prelude.{◌≡◌, ◌≢◌, ◌↔◌, List, ◌++◌, Contains}
use Rattle.si_base.specs.declared.ids.Event.{Event}
use Rattle.si_base.specs.declared.graph.Edge.{Edge}
use Rattle.si_base.specs.Graph.{StateGraph, Step}
use Rattle.si_insert.specs.Diamond.{Diamond}
use Rattle.si_candidates.specs.declared.earlier.EarlierStep.{EarlierStep}

-- the step is one of the exit's event, which no input drives, from a state from which another
-- event leads to the exit's source
abbrev pub IsEarlier : StateGraph → Edge → EarlierStep → Type 0
IsEarlier g exit step = (by : Event)
    × Diamond g step.from exit.event by step.to exit.from exit.to

-- the steps are those
abbrev pub AreEarlier : StateGraph → Edge → List EarlierStep → Type 0
AreEarlier g exit steps = (step : EarlierStep) → Contains steps step ↔ IsEarlier g exit step

-- the step is one of the exit's event where the other arc begins, which is by another event
pub record IsEarlierBy (g : StateGraph) (exit before : Edge) (step : EarlierStep) : Type 0 where
  pub apart : before.event ≢ exit.event
  pub from : step.from ≡ before.from
  pub leads : Step g step.from exit.event step.to

-- the list grows at its end, by the steps with P and no other ones
pub record Adds (P : EarlierStep → Type 0) (old new : List EarlierStep) : Type 0 where
  pub more : List EarlierStep
  pub are : new ≡ old ++ more
  pub exactly : (step : EarlierStep) → Contains more step ↔ P step
