-- The rules of switching states in the form that a search needs: premises and a conclusion.
use Rattle.std.specs.Prelude.{◌≡◌, ℕ, ◌<◌, ◌⊎◌, Bool, false, List, [], ◌∷◌, length}
use Rattle.std.specs.Prelude.{slice_index_or}
use Rattle.si_base.specs.declared.ids.Event.{Event}
use Rattle.si_base.specs.Graph.{StateGraph, Step}
use Rattle.si_base.specs.Sets.{IsIn}
use Rattle.si_insert.specs.Accepted.{IsInput}
use Rattle.si_insert.specs.Diamond.{Diamond}

-- each of the states is in the set
abbrev pub AllIn : List Bool → List ℕ → Type 0
AllIn set [] = Unit {0}
AllIn set (p ∷ ps) = IsIn set p × AllIn set ps

-- x is one of the states
abbrev pub Among : ℕ → List ℕ → Type 0
Among x [] = ⊥
Among x (p ∷ ps) = (p ≡ x) ⊎ Among x ps

-- with the premises of a rule the set has its conclusion
abbrev pub IsClosed : (List ℕ → ℕ → Type 0) → List Bool → Type 0
IsClosed Rule set = (ps : List ℕ) (t : ℕ) → Rule ps t → AllIn set ps → IsIn set t

-- t is in each set of n states that is closed under the rules
abbrev pub InEach : ℕ → (List ℕ → ℕ → Type 0) → ℕ → Type 0
InEach n Rule t = (set : List Bool) → length set ≡ n → IsClosed Rule set → IsIn set t

-- ---- the rules by which states switch to 1, which is the target of those in the set `high`
abbrev pub IsLow : List Bool → ℕ → Type 0
IsLow high s = slice_index_or high s false ≡ false

-- t is high, and entered from a state that is low
pub record IsCrossed (g : StateGraph) (high : List Bool) (t : ℕ) : Type 0 where
  pub s : ℕ
  pub e : Event
  pub step : Step g s e t
  pub low : IsLow high s
  pub there : IsIn high t

-- t is high and leads to u
pub record IsBefore (g : StateGraph) (high : List Bool) (u t : ℕ) : Type 0 where
  pub e : Event
  pub step : Step g t e u
  pub there : IsIn high t

-- an input leads from s to t
pub record IsAfterInput (g : StateGraph) (s t : ℕ) : Type 0 where
  pub e : Event
  pub step : Step g s e t
  pub input : IsInput g.signals e.sig

-- a diamond with s, t, u and w
pub record HasDiamond (g : StateGraph) (s t u w : ℕ) : Type 0 where
  pub a : Event
  pub c : Event
  pub diamond : Diamond g s a c t u w

-- w ends a diamond with u that begins at a low state
pub record ExitsLow (g : StateGraph) (high : List Bool) (u w : ℕ) : Type 0 where
  pub s : ℕ
  pub t : ℕ
  pub joins : HasDiamond g s t u w
  pub low : IsLow high s

-- w ends a diamond with t and u that begins at a high state
pub record ExitsHigh (g : StateGraph) (high : List Bool) (t u w : ℕ) : Type 0 where
  pub s : ℕ
  pub joins : HasDiamond g s t u w
  pub there : IsIn high s

-- that the high state at which a diamond begins is a member needs no look, since u is one
pub data SwitchRule (g : StateGraph) (high : List Bool) (ps : List ℕ) (w : ℕ) : Type 0 where
  Crossed : (none : ps ≡ []) (is : IsCrossed g high w) → SwitchRule g high ps w
  Preceding : (u : ℕ) (one : ps ≡ u ∷ []) (is : IsBefore g high u w) → SwitchRule g high ps w
  ByInput : (s : ℕ) (one : ps ≡ s ∷ []) (is : IsAfterInput g s w) → SwitchRule g high ps w
  Low : (u : ℕ) (one : ps ≡ u ∷ []) (is : ExitsLow g high u w) → SwitchRule g high ps w
  Both : (u t : ℕ) (two : ps ≡ u ∷ t ∷ []) (is : ExitsHigh g high t u w) → SwitchRule g high ps w

-- what follows from x and from states that are marked
pub data FollowsByRule (g : StateGraph) (high marks : List Bool) (x w : ℕ) : Type 0 where
  BeforeIt : (is : IsBefore g high x w) → FollowsByRule g high marks x w
  AfterIt : (is : IsAfterInput g x w) → FollowsByRule g high marks x w
  AtExit : (is : ExitsLow g high x w) → FollowsByRule g high marks x w
  WithFirst : (t : ℕ) (there : IsIn marks t) (is : ExitsHigh g high t x w)
      → FollowsByRule g high marks x w
  WithOther : (u : ℕ) (there : IsIn marks u) (is : ExitsHigh g high x u w)
      → FollowsByRule g high marks x w

-- t is in each set that meets the rules
abbrev pub Belongs : StateGraph → List Bool → ℕ → Type 0
Belongs g high t = InEach g.states (SwitchRule g high) t

-- a state that is in each set that meets the rules isn't in this one
abbrev pub OmitsState : StateGraph → List Bool → List Bool → Type 0
OmitsState g high set =
    (s : ℕ) × (s < g.states) × Belongs g high s × (slice_index_or set s false ≡ false)
