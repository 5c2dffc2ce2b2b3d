-- (field) What a block alone says of acceptance.
use Rattle.std.specs.Prelude.{◌≡◌, ◌≢◌, ℕ, Contains}
use Rattle.si_base.specs.declared.ids.Event.{Event}
use Rattle.si_base.specs.declared.graph.Edge.{Edge}
use Rattle.si_base.specs.Graph.{StateGraph, Step, IsNonInput}
use Rattle.si_insert.specs.Accepted.{IsInput}
use Rattle.si_insert.specs.Diamond.{Diamond}

-- no input leads out of the set
abbrev pub IsClosedUnderInputs : StateGraph → (ℕ → Type 0) → Type 0
IsClosedUnderInputs g P = (s : ℕ) (e : Event) (t : ℕ)
    → IsInput g.signals e.sig → Step g s e t → P s → P t

-- where a non-input leads out of the set and was enabled before, it led out of the set then too
abbrev pub KeepsExits : StateGraph → (ℕ → Type 0) → Type 0
KeepsExits g P = (s : ℕ) (lost by : Event) (t u w : ℕ)
    → Diamond g s lost by t u w → P u → (P w → ⊥) → P s × (P t → ⊥)

-- the new signal may switch in the set: no input has to wait for it, and no excitation is lost
-- to it
pub record MaySwitch (g : StateGraph) (P : ℕ → Type 0) : Type 0 where
  pub inputs : IsClosedUnderInputs g P
  pub exits : KeepsExits g P

-- ---- arc by arc

-- where the event of the exit was enabled before the other arc, it led out of the set then too
abbrev pub KeepsExit : StateGraph → (ℕ → Type 0) → Edge → Edge → Type 0
KeepsExit g P exit before = before.event ≢ exit.event
    → (t : ℕ) → Step g before.from exit.event t → P before.from × (P t → ⊥)

-- the arc may lead out of the set
pub record MayLeave (g : StateGraph) (P : ℕ → Type 0) (exit : Edge) : Type 0 where
  pub non_input : IsNonInput g.signals exit.event.sig
  pub keeps : (before : Edge) → Contains g.edges before → before.to ≡ exit.from
      → KeepsExit g P exit before

-- the arc stays in the set, or may lead out of it
abbrev pub MayPass : StateGraph → (ℕ → Type 0) → Edge → Type 0
MayPass g P a = (P a.to → ⊥) → MayLeave g P a
