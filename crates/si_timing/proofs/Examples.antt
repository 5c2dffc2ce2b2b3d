-- Worked examples: a C-element whose second input is what a buffer makes of its output, and a gate that has one signal
-- at two pins.
use Rattle.std.proofs.Common.{◌≡◌, ◌<◌, ℕ, true, List, [], ◌∷◌, ◌++◌, refl, arith, codes, inl, inr}
use Rattle.std.proofs.lemmas.List.Elements.{All-from_recursion}
use Rattle.si_base.specs.declared.graph.Signal.{Signal}
use Rattle.si_base.specs.declared.graph.SigKind.{SigKind}
use Rattle.si_base.specs.declared.graph.SigKind.TheVariants.{Input, Output}
use Rattle.si_base.specs.declared.ids.Literal.{Literal}
use Rattle.si_base.specs.Limits.{code_width}
use Rattle.si_base.specs.Netlist.{Cell as CellGate, Netlist}
use Rattle.si_cell.specs.Expanded.{expanded}
use Rattle.si_cell.specs.Library.{Cell, Instance}
use Rattle.si_cell.specs.Literals.{in_literal_order}
use Rattle.si_cell.specs.declared.pins.Pins.TheVariants.{Plain}
use Rattle.si_genlib.specs.Ports.{PortedLibrary, Ports}
use Rattle.si_loops.specs.Arcs.{AreCut, ClosesLoop, arc_to, arcs_of}
use Rattle.si_timing.specs.Loops.Writing.{lines}
use Rattle.si_timing.specs.Arcs.{IsAlong, IsDisabled, Path}
use Rattle.si_timing.specs.Instances.{HasInstance, IsInput, Port, FeedbackOf, OutputOf, PinOf, named, signal_at}
use Rattle.si_timing.specs.TimingText.{disabled_line, pin_arcs, timing_text}
use Rattle.si_timing.proofs.Members.{none_in}

abbrev plain : ℕ → Literal
plain sig = record { sig = sig; plain = true }

abbrev signal : List ℕ → SigKind → Signal
signal name kind = record { name = name; kind = kind }

-- ---- two cells, and the names that another tool gives to their ports

abbrev buffer : Cell
buffer = record { name = codes "BUF"; pins = codes "p1" ∷ []; sum = (plain 0 ∷ []) ∷ [] }

abbrev c2 : Cell
c2 = record {
  name = codes "C2";
  pins = codes "p1" ∷ codes "p2" ∷ [];
  sum = (plain 0 ∷ plain 1 ∷ []) ∷ (plain 0 ∷ plain 2 ∷ []) ∷ (plain 1 ∷ plain 2 ∷ []) ∷ [];
}

abbrev of_buffer : Ports
of_buffer = record { pins = codes "A" ∷ []; output = codes "Y" }

abbrev of_c2 : Ports
of_c2 = record { pins = codes "A" ∷ codes "B" ∷ []; output = codes "Q" }

abbrev cells : PortedLibrary
cells = record {
  library = record { name = codes "cells"; cells = buffer ∷ c2 ∷ []; pins = Plain };
  ports = of_buffer ∷ of_c2 ∷ [];
}

-- ---- `z` is the C-element of `r` and `w`, and `w` is `z`

abbrev ring : Netlist
ring = record {
  model = codes "ring";
  signals = signal (codes "r") Input ∷ signal (codes "z") Output ∷ signal (codes "w") Output ∷ [];
  start = 0;
  inserts = [];
  gates =
      CellGate (codes "C2") (plain 0 ∷ plain 2 ∷ [])
      ((plain 0 ∷ plain 2 ∷ []) ∷ (plain 0 ∷ plain 1 ∷ []) ∷ (plain 1 ∷ plain 2 ∷ []) ∷ [])
      ∷ CellGate (codes "BUF") (plain 1 ∷ []) ((plain 1 ∷ []) ∷ []) ∷ [];
}

its_arcs : arcs_of ring ≡ arc_to 1 2 ∷ arc_to 2 1 ∷ []
its_arcs = refl

-- the first arc closes no loop alone, and the second one does with it
no_loop_yet : ClosesLoop [] (arc_to 1 2) → ⊥
no_loop_yet ([], same) = omega (arith, same)
no_loop_yet (u ∷ us, path) = none_in _ path.0

second_is_cut : AreCut ring (arc_to 1 2 ∷ []) (arc_to 2 1 ∷ [])
second_is_cut = inr (no_loop_yet, inl ((1 ∷ [], ((0, omega arith, refl), refl)), [], refl, (refl, refl)))

-- so the buffer is cut at its pin, and the C-element where it reads its own output
its_text : timing_text cells ring (arc_to 2 1 ∷ []) ≡
    codes "set_disable_timing -from {A} -to {Y} [get_cells {w$gate}]\n"
    ++ codes "set_disable_timing -from {Q$in} -to {Q} [get_cells {z$gate}]\n"
unfolding timing_text
its_text = refl

-- ---- names and signals of ports: `C2` is the cell at place 1

abbrev of_z : Instance
of_z = record { cell = 1; literals = plain 0 ∷ plain 2 ∷ [] }

second_pin : named cells ring (PinOf 1 1) of_z ≡ record { instance = codes "z$gate"; from = codes "B"; to = codes "Q" }
second_pin = refl

its_signal : signal_at of_z (PinOf 1 1) ≡ 2
its_signal = refl

own_output : named cells ring (FeedbackOf 1) of_z
    ≡ record { instance = codes "z$gate"; from = codes "Q$in"; to = codes "Q" }
own_output = refl

read_back : signal_at of_z (FeedbackOf 1) ≡ signal_at of_z (OutputOf 1)
read_back = refl

-- ---- without lines the ring is a loop: from `z` through the buffer, and back through the second pin of the C-element

z_gate : HasInstance cells.library ring 1 of_z
unfolding expanded in_literal_order
z_gate = record {
  gate = CellGate (codes "C2") of_z.literals
      ((plain 0 ∷ plain 2 ∷ []) ∷ (plain 0 ∷ plain 1 ∷ []) ∷ (plain 1 ∷ plain 2 ∷ []) ∷ []);
  has = record { driven = (signal (codes "z") Output, refl, refl); there = refl };
  is = record {
    instance = record {
      cell = omega arith;
      pins = refl;
      signals = All-from_recursion (λ (l : Literal). l.sig < code_width) of_z.literals (omega arith, (omega arith, tt));
    };
    same = refl;
  };
}

abbrev of_w : Instance
of_w = record { cell = 0; literals = plain 1 ∷ [] }

w_gate : HasInstance cells.library ring 2 of_w
unfolding expanded in_literal_order
w_gate = record {
  gate = CellGate (codes "BUF") of_w.literals ((plain 1 ∷ []) ∷ []);
  has = record { driven = (signal (codes "w") Output, refl, refl); there = refl };
  is = record {
    instance = record {
      cell = omega arith;
      pins = refl;
      signals = All-from_recursion (λ (l : Literal). l.sig < code_width) of_w.literals (omega arith, tt);
    };
    same = refl;
  };
}

z_input : IsInput cells.library ring (PinOf 1 1) of_z
z_input = record { instance = z_gate; input = omega arith }

w_input : IsInput cells.library ring (PinOf 2 0) of_w
w_input = record { instance = w_gate; input = omega arith }

to_w : IsAlong cells.library ring (OutputOf 1) (PinOf 2 0)
to_w = record { instance = of_w; input = w_input; driven = (signal (codes "z") Output, refl, refl); output = refl }

to_z : IsAlong cells.library ring (OutputOf 2) (PinOf 1 1)
to_z = record { instance = of_z; input = z_input; driven = (signal (codes "w") Output, refl, refl); output = refl }

none_off : (p : Port) → IsDisabled cells ring [] p → ⊥
none_off p off = none_in _ off.there

its_loop : Path cells ring [] (OutputOf 1) (PinOf 2 0 ∷ OutputOf 2 ∷ PinOf 1 1 ∷ OutputOf 1 ∷ []) (OutputOf 1)
its_loop = (
  inr to_w,
  (
    inl (record { instance = of_w; input = w_input; output = refl }, none_off (PinOf 2 0)),
    (inr to_z, (inl (record { instance = of_z; input = z_input; output = refl }, none_off (PinOf 1 1)), refl)),
  ),
)

-- ---- where one signal is at two pins, both are cut, and a third pin isn't

abbrev of_three : Ports
of_three = record { pins = codes "A" ∷ codes "B" ∷ codes "C" ∷ []; output = codes "Y" }

both_pins : lines (pin_arcs ring.signals (arc_to 2 1) (plain 1 ∷ plain 0 ∷ plain 1 ∷ []) of_three) ≡
    codes "set_disable_timing -from {A} -to {Y} [get_cells {w$gate}]\n"
    ++ codes "set_disable_timing -from {C} -to {Y} [get_cells {w$gate}]\n"
both_pins = refl

one_line : disabled_line (record { instance = codes "a[0]$gate"; from = codes "A"; to = codes "Y" })
    ≡ codes "set_disable_timing -from {A} -to {Y} [get_cells {a[0]$gate}]\n"
one_line = refl
