-- Texts of one gate, their faults, and what a gate forces.
use Rattle.std.proofs.Common.{◌≡◌, ℕ, true, false, List, [], ◌∷◌, Some, None, codes, refl}
use Rattle.si_base.specs.declared.fault.TextKind.TheVariants.{BadByte, BadLine, BadName, NoEnd, Repeated, Undeclared}
use Rattle.si_base.specs.declared.graph.SigKind.TheVariants.{Input, Output}
use Rattle.si_base.specs.declared.ids.Literal.{Literal}
use Rattle.si_base.specs.Codes.{CodedGraph}
use Rattle.si_base.specs.Graph.{arc, rise, fall}
use Rattle.si_base.specs.Netlist.{Gate, Gc, SumGate}
use Rattle.si_by_hand.specs.Forcing.{forced_at}
use Rattle.si_by_hand.specs.GateText.{gate_text_fault, new_gate}

-- an output that follows an input
abbrev names : List (List ℕ)
names = codes "r" ∷ codes "a" ∷ []

abbrev plain : ℕ → Literal
plain z = record { sig = z; plain = true }

abbrev complemented : ℕ → Literal
complemented z = record { sig = z; plain = false }

-- ---- texts
-- the new signal x stands behind r and a
abbrev element : Gate
element = Gc ((plain 0 ∷ plain 1 ∷ []) ∷ []) ((complemented 0 ∷ complemented 1 ∷ []) ∷ [])

element_text : new_gate names (codes "x gc r a | r' a'\n") ≡ record { name = codes "x"; gate = element }
element_text = refl

good_text : gate_text_fault names (codes "x gc r a | r' a'\n") ≡ None
good_text = refl

-- it may read itself
own_text : new_gate names (codes "x sum r + a x\n")
    ≡ record { name = codes "x"; gate = SumGate ((plain 0 ∷ []) ∷ (plain 1 ∷ plain 2 ∷ []) ∷ []) }
own_text = refl

own_is_good : gate_text_fault names (codes "x sum r + a x\n") ≡ None
own_is_good = refl

repeated : gate_text_fault names (codes "a sum r\n") ≡ Some (1, Repeated)
repeated = refl

no_name : gate_text_fault names (codes "1 sum r\n") ≡ Some (1, BadName)
no_name = refl

-- the name comes before its gate
name_first : gate_text_fault names (codes "a sum b\n") ≡ Some (1, Repeated)
name_first = refl

undeclared : gate_text_fault names (codes "x sum b\n") ≡ Some (1, Undeclared)
undeclared = refl

other_form : gate_text_fault names (codes "x gc r\n") ≡ Some (1, BadLine)
other_form = refl

second_line : gate_text_fault names (codes "x sum r\ny sum a\n") ≡ Some (2, BadLine)
second_line = refl

no_end : gate_text_fault names (codes "x sum r") ≡ Some (1, NoEnd)
no_end = refl

nothing : gate_text_fault names [] ≡ Some (1, NoEnd)
nothing = refl

bad_byte : gate_text_fault names (127 ∷ codes "x sum r\n") ≡ Some (1, BadByte)
bad_byte = refl

-- ---- what gates force: a follows r, by the states 00, 10, 11 and 01
abbrev follower : CodedGraph
follower = record {
  graph = record {
    signals = record { name = codes "r"; kind = Input } ∷ record { name = codes "a"; kind = Output } ∷ [];
    states = 4;
    edges = arc 0 (rise 0) 1 ∷ arc 1 (rise 1) 2 ∷ arc 2 (fall 0) 3 ∷ arc 3 (fall 1) 0 ∷ [];
    start = 0;
  };
  codes = 0 ∷ 1 ∷ 3 ∷ 2 ∷ [];
}

-- the element forces 1 at 11 and 0 at 00, and holds its value elsewhere
forced_up : (forced_at element follower true 2 ≡ true) × (forced_at element follower true 1 ≡ false)
    × (forced_at element follower true 3 ≡ false) × (forced_at element follower true 0 ≡ false)
forced_up = (refl, refl, refl, refl)

forced_down : (forced_at element follower false 0 ≡ true) × (forced_at element follower false 1 ≡ false)
    × (forced_at element follower false 3 ≡ false) × (forced_at element follower false 2 ≡ false)
forced_down = (refl, refl, refl, refl)

-- a gate that inverts itself forces both values
abbrev inverter : Gate
inverter = SumGate ((complemented 2 ∷ []) ∷ [])

forced_both : (forced_at inverter follower true 0 ≡ true) × (forced_at inverter follower false 0 ≡ true)
forced_both = (refl, refl)
