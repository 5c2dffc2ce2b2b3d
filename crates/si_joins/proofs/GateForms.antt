-- The gates of the whole have the forms of a netlist's.
use Rattle.std.proofs.Common.{ℕ, zero, suc, ◌<◌, ◌≤◌, lt-ltb}
use Rattle.std.proofs.Common.{le-ltb, List, [], ◌∷◌, Option, Some, None}
use Rattle.std.proofs.Common.{get_or, length, All, slice_index, arith, inl, inr}
use Rattle.std.proofs.lemmas.Bool.{cases_lt}
use Rattle.std.proofs.lemmas.List.Elements.{All-cons, All-nil}
use Rattle.si_base.specs.declared.ids.Literal.{Literal}
use Rattle.si_base.specs.Netlist.{Cell, Gate, Gc, Netlist, SumGate, gate_place}
use Rattle.si_base.specs.WellFormed.{IsCube, IsGate, IsNetlist}
use Rattle.si_compose.specs.Renamed.{renamed_literal}
use Rattle.si_joins.specs.Gates.{driven_at, gate_or, joined_gate, own_gate, renamed_gate, renamed_pins}
use Rattle.si_joins.specs.Loops.Parts.{AreNetlists}
use Rattle.si_joins.proofs.CubeLemmas.{is_sum}

-- ---- pins
module _ (to : List ℕ) (n : ℕ) where
  abbrev pin : Literal → Literal
  pin l = renamed_literal (slice_index to) l

  pub all_pins_there : (literals : List Literal) → All (λ l. l.sig < n) (renamed_pins to n literals)
  all_pins_there [] = All-nil (λ (l : Literal). l.sig < n)
  all_pins_there (l ∷ ls) = elim (cases_lt (slice_index to l.sig) n) [
    | inl below ↦ rw (lt-ltb (slice_index to l.sig) n below)
        (All-cons (λ (k : Literal). k.sig < n) (pin l) (renamed_pins to n ls) below (all_pins_there ls))
    | inr above ↦ rw (le-ltb (slice_index to l.sig) n above) (all_pins_there ls)
  ]

  few_pins : (literals : List Literal) → length (renamed_pins to n literals) ≤ length literals
  few_pins [] = omega arith
  few_pins (l ∷ ls) = elim (cases_lt (slice_index to l.sig) n) [
    | inl below ↦ rw (lt-ltb (slice_index to l.sig) n below) (let r = few_pins ls in omega (arith, r))
    | inr above ↦ rw (le-ltb (slice_index to l.sig) n above) (let r = few_pins ls in omega (arith, r))
  ]

  -- ---- gates
  renamed_is_gate : (m : ℕ) (gate : Gate) → IsGate m gate → IsGate n (renamed_gate to n gate)
  renamed_is_gate m (SumGate sum) is = is_sum to n sum
  renamed_is_gate m (Gc set reset) is = (is_sum to n set, is_sum to n reset)
  renamed_is_gate m (Cell name literals sum) is =
      let few = few_pins literals in
      (is.0, omega (arith, few, is.1), all_pins_there literals, is_sum to n sum)

own_is_gate : (part : Netlist) (z : ℕ) → IsNetlist part → IsGate (length part.signals) (own_gate part z)
own_is_gate part z is = elim (cases_lt (gate_place part.signals z) (length part.gates)) [
  | inl below ↦ is.gates (gate_place part.signals z) (SumGate []) below
  | inr above ↦ past part.gates (gate_place part.signals z) above
]
  where
    past : (gates : List Gate) (k : ℕ) → length gates ≤ k → IsGate (length part.signals) (get_or gates k (SumGate []))
    past [] k above = All-nil (IsCube (length part.signals))
    past (g ∷ gates) zero above = absurd (omega (arith, above))
    past (g ∷ gates) (suc k) above = past gates k (omega (arith, above))

pub joined_is_gate : (n : ℕ) (parts : List Netlist) (tos : List (List ℕ)) (k : ℕ) → AreNetlists parts
    → IsGate n (joined_gate n parts tos k)
joined_is_gate n [] tos k are = All-nil (IsCube n)
joined_is_gate n (part ∷ parts) [] k are = All-nil (IsCube n)
joined_is_gate n (part ∷ parts) (to ∷ tos) k are =
    by_found (driven_at k 0 part.signals to) (joined_is_gate n parts tos k are.1)
  where
    by_found : (o : Option ℕ) → IsGate n (joined_gate n parts tos k)
        → IsGate n (gate_or n part to (joined_gate n parts tos k) o)
    by_found None other = other
    by_found (Some z) other =
        renamed_is_gate to n (length part.signals) (own_gate part z) (own_is_gate part z are.0)
