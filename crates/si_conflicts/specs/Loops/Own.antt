-- The conflicts that a set of states has of its own: those between copies at which a new
-- signal may switch, where it may switch at just these states.
use Rattle.std.specs.Prelude.{◌≡◌, ℕ, ◌<◌, ◌↔◌, true, Bool, List, map, filter}
use Rattle.si_base.specs.Bits.{bit}
use Rattle.si_base.specs.Graph.{StateGraph, Step, IsNonInput}
use Rattle.si_base.specs.Sets.{IsIn, is_in}
use Rattle.si_conflicts.specs.declared.keys.Key.{Key}
use Rattle.si_conflicts.specs.declared.members.Member.{Member}
use Rattle.si_conflicts.specs.Loops.Keys.{clash_count}

-- the non-input z leads from s to a state of the set
pub record StaysIn (g : StateGraph) (set : List Bool) (s z : ℕ) : Type 0 where
  pub non_input : IsNonInput g.signals z
  pub up : Bool
  pub to : ℕ
  pub step : Step g s (record { sig = z; up = up }) to
  pub inside : IsIn set to

-- the bits of the number are those of such signals
abbrev pub AreStayingIn : StateGraph → List Bool → ℕ → ℕ → Type 0
AreStayingIn g set s bits = (z : ℕ) → (bit bits z ≡ true) ↔ StaysIn g set s z

-- those of each state of the set
abbrev pub AllStayingIn : StateGraph → List Bool → (ℕ → ℕ) → Type 0
AllStayingIn g set staying =
    (s : ℕ) → s < g.states → IsIn set s → AreStayingIn g set s (staying s)

-- the codes of the set's members, each with the signals that stay within the set
abbrev pub own_keys : List Bool → (ℕ → ℕ) → List Member → List Key
own_keys set staying members =
    map (λ m. record { code = m.key.code; excited = staying m.state })
    (filter (λ m. is_in set m.state) members)

-- of the members that are in the set, n pairs have equal codes, and other signals stay within it
abbrev pub HasOwnConflicts : StateGraph → List Member → List Bool → ℕ → Type 0
HasOwnConflicts g members set n = (staying : ℕ → ℕ) → AllStayingIn g set staying
    → n ≡ clash_count (own_keys set staying members)
