-- (field) How the replay of a schedule ends.
use Rattle.std.specs.Prelude.{◌≡◌, ◌≢◌, ℕ, ◌+◌, Some, List, [], ◌∷◌, ◌++◌, length}
use Rattle.si_base.specs.declared.ids.Event.{Event}
use Rattle.si_base.specs.Graph.{StateGraph}
use Rattle.si_base.specs.Netlist.{Netlist}
use Rattle.si_base.specs.System.{State}
use Rattle.si_system.specs.Verdict.{IsVerdict}
use Rattle.si_system.specs.declared.verdict.Verdict.{Verdict}
use Rattle.si_system.specs.declared.verdict.Verdict.TheVariants.{Done}
use Rattle.si_system.specs.declared.replay.Outcome.{Outcome}
use Rattle.si_system.specs.declared.replay.Outcome.TheVariants as outcome

-- the schedule leads from x to y, and the verdict of each event is Done
abbrev pub Passes : StateGraph → Netlist → State → List Event → State → Type 0
Passes g n x [] y = x ≡ y
Passes g n x (e ∷ es) y = (z : State) × IsVerdict g n x e Done z × Passes g n z es y

-- the verdict of e, the event number step counted from 1, is the first that isn't Done
pub record IsFirstDiffering (g : StateGraph) (n : Netlist) (x : State) (schedule : List Event)
    (step : ℕ) (e : Event) (verdict : Verdict) : Type 0 where
  pub before : List Event
  pub after : List Event
  pub cut : schedule ≡ before ++ e ∷ after
  pub count : step ≡ length before + 1
  pub reached : State
  pub passes : Passes g n x before reached
  pub next : State
  pub fired : IsVerdict g n reached e verdict next
  pub differs : verdict ≢ Done

-- the schedule has that outcome from x
abbrev pub IsOutcome : StateGraph → Netlist → State → List Event → Outcome → Type 0
IsOutcome g n x schedule (outcome.Done values state) =
    (y : State) × Passes g n x schedule y × (y.values ≡ values) × (y.place ≡ Some state)
IsOutcome g n x schedule (outcome.Differs step e verdict) =
    IsFirstDiffering g n x schedule step e verdict
