-- Worked examples of chosen netlists and their texts.
use Rattle.std.proofs.Common.{◌≡◌, ◌++◌, ℕ, ◌<◌, true, false, List, [], ◌∷◌, refl, codes, lit<}
use Rattle.std.proofs.lemmas.List.Elements.{All-nil, All-cons}
use Rattle.si_base.specs.declared.ids.Literal.{Literal}
use Rattle.si_base.specs.declared.graph.Signal.{Signal}
use Rattle.si_base.specs.declared.graph.SigKind.TheVariants.{Input, Output}
use Rattle.si_base.specs.Graph.{arc, rise, fall}
use Rattle.si_base.specs.Codes.{CodedGraph}
use Rattle.si_base.specs.Netlist.{SumGate, Gc, Cell}
use Rattle.si_base.specs.NetlistText.{netlist_text}
use Rattle.si_cell.specs.Library.{Library}
use Rattle.si_cell.specs.declared.pins.Pins.TheVariants.{Plain}
use Rattle.si_cell.proofs.ExpandedLemmas.{bit_of}
use Rattle.si_cover.specs.Demands.{chosen_sum}
use Rattle.si_circuit.specs.declared.style.Style.TheVariants.{Complex, GeneralisedC}
use Rattle.si_circuit.specs.Gates.{chosen_netlist, gate_of, netlist_of}
use Rattle.si_circuit.specs.Wires.{IsWired}

abbrev input : List ℕ → Signal
input name = record { name = name; kind = Input }

abbrev output : List ℕ → Signal
output name = record { name = name; kind = Output }

abbrev plain : ℕ → Literal
plain a = record { sig = a; plain = true }

abbrev complemented : ℕ → Literal
complemented a = record { sig = a; plain = false }

-- ---- the C-element: c rises once a and b have, and falls once both have
abbrev c_element : CodedGraph
c_element = record {
  graph = record {
    signals = input (codes "a") ∷ input (codes "b") ∷ output (codes "c") ∷ [];
    states = 8;
    edges = arc 0 (rise 0) 1 ∷ arc 0 (rise 1) 2 ∷ arc 1 (rise 1) 3 ∷ arc 2 (rise 0) 3 ∷ arc 3 (rise 2) 4
        ∷ arc 4 (fall 0) 5 ∷ arc 4 (fall 1) 6 ∷ arc 5 (fall 1) 7 ∷ arc 6 (fall 0) 7 ∷ arc 7 (fall 2) 0 ∷ [];
    start = 0;
  };
  codes = 0 ∷ 1 ∷ 2 ∷ 3 ∷ 7 ∷ 6 ∷ 5 ∷ 4 ∷ [];
}

-- as a complex gate it is the majority of a, b and c itself
c_element_complex : netlist_text (chosen_netlist Complex (codes "c2") c_element)
    ≡ codes ".version 2\n.model c2\n.inputs a b\n.outputs c\n.internal\n.inserted\n.start 000\n"
    ++ codes ".gates\nc sum a b + b c + a c\n.end\n"
unfolding netlist_text netlist_of chosen_sum
c_element_complex = refl

-- as a generalised C-element it is set by a b and reset by a' b'
c_element_generalised : netlist_text (chosen_netlist GeneralisedC (codes "c2") c_element)
    ≡ codes
    ".version 2\n.model c2\n.inputs a b\n.outputs c\n.internal\n.inserted\n.start 000\n.gates\nc gc a b | a' b'\n.end\n"
unfolding netlist_text netlist_of chosen_sum
c_element_generalised = refl

-- ---- an output that never switches, beside an input that does
abbrev idle : CodedGraph
idle = record {
  graph = record {
    signals = input (codes "a") ∷ output (codes "z") ∷ [];
    states = 2;
    edges = arc 0 (rise 0) 1 ∷ arc 1 (fall 0) 0 ∷ [];
    start = 0;
  };
  codes = 0 ∷ 1 ∷ [];
}

-- its gates are `z sum 0` and `z gc 0 | 0`
idle_complex : gate_of Complex idle 1 ≡ SumGate []
unfolding chosen_sum
idle_complex = refl

idle_generalised : gate_of GeneralisedC idle 1 ≡ Gc [] []
unfolding chosen_sum
idle_generalised = refl

-- ---- pulses of a, then of b, which c follows: the start and the state after the pulse of a have one code
abbrev pulses : CodedGraph
pulses = record {
  graph = record {
    signals = input (codes "a") ∷ input (codes "b") ∷ output (codes "c") ∷ [];
    states = 6;
    edges = arc 0 (rise 0) 1 ∷ arc 1 (fall 0) 2 ∷ arc 2 (rise 1) 3 ∷ arc 3 (rise 2) 4 ∷ arc 4 (fall 1) 5
        ∷ arc 5 (fall 2) 0 ∷ [];
    start = 0;
  };
  codes = 0 ∷ 1 ∷ 0 ∷ 2 ∷ 6 ∷ 4 ∷ [];
}

-- `c sum b`
pulses_complex : gate_of Complex pulses 2 ≡ SumGate ((plain 1 ∷ []) ∷ [])
unfolding chosen_sum
pulses_complex = refl

-- `c gc b | b'`
pulses_generalised : gate_of GeneralisedC pulses 2 ≡ Gc ((plain 1 ∷ []) ∷ []) ((complemented 1 ∷ []) ∷ [])
unfolding chosen_sum
pulses_generalised = refl

-- ---- the gate of signal 1, a buffer of signal 0, is the cell and a wire
abbrev buffers : Library
buffers = record {
  name = codes "l";
  cells = record { name = codes "BUF"; pins = codes "a" ∷ []; sum = (plain 0 ∷ []) ∷ [] } ∷ [];
  pins = Plain;
}

buffer_is_wired : IsWired buffers 2 1 (Cell (codes "BUF") (plain 0 ∷ []) ((plain 0 ∷ []) ∷ []))
buffer_is_wired = record {
  cell = 0;
  in_library = lit< tt;
  reads = 0 ∷ [];
  pins = refl;
  signals = All-cons (λ y. y < 2) 0 [] (lit< tt) (All-nil (λ y. y < 2));
  sum = (plain 0 ∷ []) ∷ [];
  gate_is = refl;
  value = λ values. rw bit_of refl;
}
