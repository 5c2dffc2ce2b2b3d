-- What tells copies of states of one code apart, at a value of the new signal.
use Rattle.std.specs.Prelude.{◌≡◌, ℕ, ◌+◌, ◌<◌, ◌≤◌, ◌==◌, ◌&&◌, ◌⊎◌, ◌↔◌, Bool, true, false, List}
use Rattle.std.specs.Prelude.{[], ◌∷◌, length, map, filter, count_by, All, if◌then◌else◌}
use Rattle.std.specs.List.{sum_by}
use Rattle.si_base.specs.Bits.{bit}
use Rattle.si_base.specs.Limits.{max_states}
use Rattle.si_base.specs.Graph.{StateGraph, Step, IsNonInput}
use Rattle.si_insert.specs.declared.partition.Class.{Class}
use Rattle.si_insert.specs.declared.partition.Class.TheVariants.{Low, Rising, High, Falling}
use Rattle.si_insert.specs.Partition.{class_of}
use Rattle.si_conflicts.specs.declared.keys.Key.{Key}
use Rattle.si_conflicts.specs.declared.members.Member.{Member}
use Rattle.si_conflicts.specs.declared.tally.Role.{Role}
use Rattle.si_conflicts.specs.declared.tally.Role.TheVariants.{Absent, Plain, Switching}
use Rattle.si_conflicts.specs.declared.tally.Tally.{Tally}
use Rattle.si_conflicts.specs.Loops.Keys.{clashes, clash_count}

-- the copy of a state of that class at the value: there is none, or the new signal is stable
-- there, or may switch
abbrev pub role_at : Bool → Class → Role
role_at false Low = Plain
role_at false Rising = Switching
role_at false High = Absent
role_at false Falling = Plain
role_at true Low = Absent
role_at true Rising = Plain
role_at true High = Plain
role_at true Falling = Switching

abbrev pub is_plain : Role → Bool
is_plain Plain = true
is_plain r = false

abbrev pub is_switching : Role → Bool
is_switching Switching = true
is_switching r = false

-- a copy at some value, by its role and the key of its state
abbrev pub RoleAndKey : Type 0
RoleAndKey = Role × Key

-- two copies at one value are a conflict, by the new signal or, where it is stable at both, by the
-- others. Of two at which it may switch this tells nothing.
abbrev pub are_apart : RoleAndKey → RoleAndKey → Bool
are_apart (Plain, x) (Plain, y) = clashes x y
are_apart (Plain, x) (Switching, y) = x.code == y.code
are_apart (Switching, x) (Plain, y) = x.code == y.code
are_apart (r, x) (s, y) = false

abbrev pub role_and_key : List Class → Bool → Member → RoleAndKey
role_and_key classes value m = (role_at value (class_of classes m.state), m.key)

-- at how many values copies of two states are a conflict so
abbrev pub stable_count : List Class → Member → Member → ℕ
stable_count classes x y =
    (if are_apart (role_and_key classes false x) (role_and_key classes false y) then 1 else 0)
    + (if are_apart (role_and_key classes true x) (role_and_key classes true y) then 1 else 0)

-- the sum over all pairs of a list
abbrev pub pair_sum : {A : Type 0} → (A → A → ℕ) → List A → ℕ
pair_sum weight [] = 0
pair_sum weight (x ∷ xs) = sum_by (weight x) xs + pair_sum weight xs

-- x comes no later than y in the order of keys
abbrev pub IsUpTo : Key → Key → Type 0
IsUpTo x y = (x.code < y.code) ⊎ ((x.code ≡ y.code) × (x.excited ≤ y.excited))

abbrev pub AreUpTo : List RoleAndKey → Key → Type 0
AreUpTo copies key = All (λ e. IsUpTo e.1 key) copies

abbrev pub equal_keys : Key → Key → Bool
equal_keys x y = (x.code == y.code) && (x.excited == y.excited)

-- the tally of these copies, as a copy with that key sees them
pub record IsTally (key : Key) (copies : List RoleAndKey) (tally : Tally) : Type 0 where
  pub plain : tally.plain ≡ count_by (λ e. is_plain e.0 && (e.1.code == key.code)) copies
  pub equal : tally.equal ≡ count_by (λ e. is_plain e.0 && equal_keys e.1 key) copies
  pub switching : tally.switching
      ≡ count_by (λ e. is_switching e.0 && (e.1.code == key.code)) copies

-- it is the tally of some copies, and of no more than there are states
pub record HasTally (tally : Tally) : Type 0 where
  pub key : Key
  pub copies : List RoleAndKey
  pub few : length copies ≤ max_states
  pub is : IsTally key copies tally

-- the non-input z leads from s to a state of its class
pub record Stays (g : StateGraph) (classes : List Class) (s z : ℕ) : Type 0 where
  pub non_input : IsNonInput g.signals z
  pub up : Bool
  pub to : ℕ
  pub step : Step g s (record { sig = z; up = up }) to
  pub class : class_of classes to ≡ class_of classes s

-- the bits of the number are those of such signals
abbrev pub AreStaying : StateGraph → List Class → ℕ → ℕ → Type 0
AreStaying g classes s bits = (z : ℕ) → (bit bits z ≡ true) ↔ Stays g classes s z

-- those of each state
abbrev pub AllStaying : StateGraph → List Class → (ℕ → ℕ) → Type 0
AllStaying g classes staying = (s : ℕ) → s < g.states → AreStaying g classes s (staying s)

-- the members at whose copies at that value the new signal may switch, with what else is excited
-- there
abbrev pub switching_keys : List Class → (ℕ → ℕ) → Bool → List Member → List Key
switching_keys classes staying value members =
    map (λ m. record { code = m.key.code; excited = staying m.state })
    (filter (λ m. is_switching (role_at value (class_of classes m.state))) members)

-- how many pairs of these copies, at one value, are a conflict
abbrev pub switching_count : List Class → (ℕ → ℕ) → List Member → ℕ
switching_count classes staying members =
    clash_count (switching_keys classes staying false members)
    + clash_count (switching_keys classes staying true members)
