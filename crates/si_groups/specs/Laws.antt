-- (law) The laws of groups, one word each.
use Rattle.std.specs.Prelude.{◌≡◌, ◌⊎◌, ℕ, ◌<◌, List, All, length}
use Rattle.si_base.specs.Behaviour.{Implements}
use Rattle.si_base.specs.Codes.{CodedGraph, IsCoded}
use Rattle.si_base.specs.Graph.{StateGraph}
use Rattle.si_base.specs.Netlist.{Netlist}
use Rattle.si_compose.specs.Composed.{IsComposed, IsFree}
use Rattle.si_compose.specs.JoinedNetlist.{IsJoined}
use Rattle.si_compose.specs.Laws.{IsOver, IsPart}
use Rattle.si_composing.specs.JoinedSignals.{graph_of, joined_signals}
use Rattle.si_groups.specs.Together.{ShowsMisfit, WorkTogether}
use Rattle.si_groups.specs.declared.misfit.Misfit.{Misfit}
use Rattle.si_groups.specs.declared.misfit.Misfit.TheVariants.{NoMemory}

-- there is a graph composed of all parts, each is free of interference, and netlists that implement
-- the parts implement it together: however many signals and states it has
pub record AreRightTogether (parts : List CodedGraph) : Type 0 where
  pub some : (at : ℕ → ℕ → ℕ) × (h : StateGraph) × IsComposed (length parts) (graph_of parts) at h
      × (h.signals ≡ joined_signals parts)
  pub free : (at : ℕ → ℕ → ℕ) (h : StateGraph) → IsComposed (length parts) (graph_of parts) at h
      → IsFree (length parts) (graph_of parts) at h
  pub serves : (at : ℕ → ℕ → ℕ) (h : StateGraph) (netlists : ℕ → Netlist) (m : Netlist)
      → IsComposed (length parts) (graph_of parts) at h
      → ((i : ℕ) → i < length parts → IsPart (graph_of parts i) (netlists i))
      → IsJoined (length parts) netlists m → IsOver h m → Implements m h

-- parts of which the groups are free of interference are right together
abbrev pub GroupsShowTheWhole : Type 0
GroupsShowTheWhole = (parts : List CodedGraph) (signals groups : ℕ) → All IsCoded parts
    → WorkTogether parts signals groups → AreRightTogether parts

-- what is told of parts that work together is one
abbrev pub WorkIsOne : Type 0
WorkIsOne = (parts : List CodedGraph) (signals groups others more : ℕ)
    → WorkTogether parts signals groups → WorkTogether parts others more
    → (signals ≡ others) × (groups ≡ more)

-- parts that work together have no misfit
abbrev pub WorkHasNoMisfit : Type 0
WorkHasNoMisfit = (parts : List CodedGraph) (signals groups : ℕ) (e : Misfit)
    → WorkTogether parts signals groups → ShowsMisfit parts e → e ≡ NoMemory

-- others have one first misfit at most
abbrev pub MisfitsAreOne : Type 0
MisfitsAreOne = (parts : List CodedGraph) (e f : Misfit) → (e ≡ NoMemory → ⊥)
    → (f ≡ NoMemory → ⊥) → ShowsMisfit parts e → ShowsMisfit parts f → e ≡ f

-- and one there is, where parts don't work together
abbrev pub WorkOrMisfit : Type 0
WorkOrMisfit = (parts : List CodedGraph) → All IsCoded parts
    → ((signals : ℕ) × (groups : ℕ) × WorkTogether parts signals groups)
    ⊎ ((e : Misfit) × (e ≡ NoMemory → ⊥) × ShowsMisfit parts e)
