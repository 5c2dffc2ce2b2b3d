-- A C-element as a sum is a loop by itself; as a cell of a library it is none.
use Rattle.std.proofs.Common.{◌≡◌, ℕ, true, false, [], ◌∷◌, refl, inl, codes}
use Rattle.si_base.specs.declared.ids.Literal.{Literal}
use Rattle.si_base.specs.declared.graph.SigKind.TheVariants.{Input, Output}
use Rattle.si_base.specs.Netlist.{Netlist, Gate, SumGate, Cell, Sum}
use Rattle.si_loops.specs.declared.arcs.Arc.{Arc}
use Rattle.si_loops.specs.Arcs.{arc_to, arcs_of, AreCut}

abbrev plain : ℕ → Literal
plain a = record { sig = a; plain = true }

abbrev majority : Sum
majority = (plain 0 ∷ plain 1 ∷ []) ∷ (plain 0 ∷ plain 2 ∷ []) ∷ (plain 1 ∷ plain 2 ∷ []) ∷ []

abbrev with_gate : Gate → Netlist
with_gate gate = record {
  model = codes "c2";
  signals =
      record { name = codes "a"; kind = Input } ∷ record { name = codes "b"; kind = Input }
      ∷ record { name = codes "c"; kind = Output } ∷ [];
  start = 0;
  inserts = [];
  gates = gate ∷ [];
}

abbrev itself : Arc
itself = record { from = 2; to = 2 }

-- the sum reads its own signal
reads_itself : arcs_of (with_gate (SumGate majority)) ≡ itself ∷ []
reads_itself = refl

-- and that pin is cut
is_cut : AreCut (with_gate (SumGate majority)) [] (itself ∷ [])
is_cut = inl (([], refl), [], refl, (refl, refl))

-- a cell holds its value inside: its pins are a and b
cell_reads_none : arcs_of (with_gate (Cell (codes "C2") (plain 0 ∷ plain 1 ∷ []) majority)) ≡ []
cell_reads_none = refl

-- of the netlist of a bus interface: `D` is `LDTACK csc0'`, `DTACK` is `D`, `LDS` is `csc0' + D`, and `csc0` is
-- `DSr' + LDTACK csc0`
abbrev negated : ℕ → Literal
negated a = record { sig = a; plain = false }

abbrev interface : Netlist
interface = record {
  model = codes "vme";
  signals =
      record { name = codes "DSr"; kind = Input } ∷ record { name = codes "LDTACK"; kind = Input }
      ∷ record { name = codes "D"; kind = Output } ∷ record { name = codes "DTACK"; kind = Output }
      ∷ record { name = codes "LDS"; kind = Output } ∷ record { name = codes "csc0"; kind = Output } ∷ [];
  start = 32;
  inserts = [];
  gates = SumGate ((plain 1 ∷ negated 5 ∷ []) ∷ []) ∷ SumGate ((plain 2 ∷ []) ∷ [])
      ∷ SumGate ((negated 5 ∷ []) ∷ (plain 2 ∷ []) ∷ [])
      ∷ SumGate ((negated 0 ∷ []) ∷ (plain 1 ∷ plain 5 ∷ []) ∷ []) ∷ [];
}

-- gate by gate, and of each gate pin by pin
its_arcs : arcs_of interface ≡ arc_to 2 5 ∷ arc_to 3 2 ∷ arc_to 4 2 ∷ arc_to 4 5 ∷ arc_to 5 5 ∷ []
its_arcs = refl
