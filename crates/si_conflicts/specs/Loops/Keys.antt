-- What tells whether two states are a conflict, and how many pairs of states are one.
use Rattle.std.specs.Prelude.{◌≡◌, ℕ, ◌+◌, ◌<◌, ◌==◌, ◌&&◌, ◌↔◌, not, true, Bool, List, [], ◌∷◌}
use Rattle.std.specs.Prelude.{length, count_by, slice_index_or}
use Rattle.std.specs.declared.cmp.Ordering.{Ordering}
use Rattle.std.specs.Ordering.{nat_cmp, ordering_then}
use Rattle.si_base.specs.Bits.{bit}
use Rattle.si_base.specs.Graph.{StateGraph, IsNonInput, enables}
use Rattle.si_base.specs.Codes.{CodedGraph, code}
use Rattle.si_conflicts.specs.declared.keys.Key.{Key}

-- z is no input, and s enables an event of it
pub record IsExcitedNonInput (g : StateGraph) (s z : ℕ) : Type 0 where
  pub non_input : IsNonInput g.signals z
  pub up : Bool
  pub enabled : enables g s (record { sig = z; up = up }) ≡ true

-- the bits of the number are those of such signals
abbrev pub AreExcited : StateGraph → ℕ → ℕ → Type 0
AreExcited g s excited = (z : ℕ) → (bit excited z ≡ true) ↔ IsExcitedNonInput g s z

-- the key of s
pub record IsKey (c : CodedGraph) (s : ℕ) (key : Key) : Type 0 where
  pub code_is : key.code ≡ code c s
  pub excited_are : AreExcited c.graph s key.excited

abbrev pub no_key : Key
no_key = record { code = 0; excited = 0 }

abbrev pub key_at : List Key → ℕ → Key
key_at keys s = slice_index_or keys s no_key

-- the keys of all states
pub record AreKeys (c : CodedGraph) (keys : List Key) : Type 0 where
  pub count : length keys ≡ c.graph.states
  pub each : (s : ℕ) → s < c.graph.states → IsKey c s (key_at keys s)

-- the keys have one code and differ
abbrev pub clashes : Key → Key → Bool
clashes x y = (x.code == y.code) && not (x.excited == y.excited)

-- how many pairs of keys of a list do so
abbrev pub clash_count : List Key → ℕ
clash_count [] = 0
clash_count (key ∷ keys) = count_by (clashes key) keys + clash_count keys

-- the order of keys
abbrev pub key_cmp : Key → Key → Ordering
key_cmp x y = ordering_then (nat_cmp x.code y.code) (nat_cmp x.excited y.excited)
