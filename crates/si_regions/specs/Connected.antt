-- (field) Sets of states that hang together by arcs, taken in either direction. A set of states is
-- the list of its states in order.
use Rattle.std.specs.Prelude.{◌≡◌, ℕ, List, [], ◌∷◌, Contains}
use Rattle.std.specs.List.Sorted.{IsStrictlySortedBy}
use Rattle.std.specs.Ordering.{nat_cmp}
use Rattle.si_base.specs.Graph.{StateGraph}
use Rattle.si_graph.specs.declared.closure.Along.TheVariants.{Both}
use Rattle.si_graph.specs.Closure.{IsBeside}

-- an arc leads from the one to the other, or back
abbrev pub Adjoins : StateGraph → ℕ → ℕ → Type 0
Adjoins g s t = IsBeside g Both s t

-- the states, one after another, lead from s to t: each is of P and adjoins the one before it
abbrev pub PathOf : StateGraph → (ℕ → Type 0) → ℕ → List ℕ → ℕ → Type 0
PathOf g P s [] t = s ≡ t
PathOf g P s (u ∷ us) t = Adjoins g s u × P u × PathOf g P u us t

-- s and t are of P, and states of P connect them
pub record AreConnected (g : StateGraph) (P : ℕ → Type 0) (s t : ℕ) : Type 0 where
  pub begins : P s
  pub path : List ℕ
  pub leads : PathOf g P s path t

-- one of the maximal connected sets of states of P
pub record IsComponent (g : StateGraph) (P : ℕ → Type 0) (set : List ℕ) : Type 0 where
  pub in_order : IsStrictlySortedBy nat_cmp set
  pub some : (s : ℕ) × Contains set s
  pub members : (s : ℕ) → Contains set s → P s
  pub connected : (s t : ℕ) → Contains set s → Contains set t → AreConnected g (Contains set) s t
  pub maximal : (s t : ℕ) → Contains set s → Adjoins g s t → P t → Contains set t
