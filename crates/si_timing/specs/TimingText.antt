-- (text) The lines by which a timing tool leaves out arcs inside instances, so that it meets no
-- loop (Synopsys Design Constraints).
use Rattle.std.specs.Prelude.{◌≡◌, ℕ, ◌==◌, List, [], ◌∷◌, ◌++◌, map, filter, flat_map, bytes_eq}
use Rattle.std.specs.Prelude.{codes, if◌then◌else◌, slice_get, Option, Some, None}
use Rattle.std.specs.List.{zip}
use Rattle.si_base.specs.declared.graph.Signal.{Signal}
use Rattle.si_base.specs.declared.ids.Literal.{Literal}
use Rattle.si_base.specs.Netlist.{Gate, SumGate, Gc, Cell as CellGate, Netlist, gate_place}
use Rattle.si_cell.specs.Library.{Cell}
use Rattle.si_genlib.specs.Ports.{PortedLibrary, Ports}
use Rattle.si_loops.specs.declared.arcs.Arc.{Arc}
use Rattle.si_loops.specs.Arcs.{AreCut, gated}
use Rattle.si_structure.specs.StructureText.{feedback, reads_own}
use Rattle.si_timing.specs.Instances.{NamedArc, arc_from}

-- ---- arcs of one gate

-- from each pin whose literal is of the signal at which the arc begins, in the order of pins
abbrev pub pin_arcs : List Signal → Arc → List Literal → Ports → List NamedArc
pin_arcs signals a literals ports =
    map (λ p. arc_from signals a.to ports p.0)
    (filter (λ p. p.1.sig == a.from) (zip ports.pins literals))

-- from the port by which the cell reads its own output, if it does
abbrev pub own_arcs : List Signal → ℕ → Cell → Ports → List NamedArc
own_arcs signals z cell ports =
    if reads_own cell then arc_from signals z ports (feedback ports) ∷ [] else []

-- the cells of the name, with the names of their ports: no library has two
abbrev pub cells_named : PortedLibrary → List ℕ → List (Cell × Ports)
cells_named library name =
    filter (λ c. bytes_eq c.0.name name) (zip library.library.cells library.ports)

abbrev pub cut_of_gate : PortedLibrary → List Signal → Arc → Gate → List NamedArc
cut_of_gate library signals a (SumGate sum) = []
cut_of_gate library signals a (Gc set reset) = []
cut_of_gate library signals a (CellGate name literals sum) =
    flat_map (λ c. pin_arcs signals a literals c.1) (cells_named library name)

abbrev pub own_of_gate : PortedLibrary → List Signal → ℕ → Gate → List NamedArc
own_of_gate library signals z (SumGate sum) = []
own_of_gate library signals z (Gc set reset) = []
own_of_gate library signals z (CellGate name literals sum) =
    flat_map (λ c. own_arcs signals z c.0 c.1) (cells_named library name)

-- ---- arcs of the netlist

abbrev pub if_there : (Gate → List NamedArc) → Option Gate → List NamedArc
if_there arcs None = []
if_there arcs (Some gate) = arcs gate

-- those for an arc between gates
abbrev pub cut_arcs : PortedLibrary → Netlist → Arc → List NamedArc
cut_arcs library n a =
    if_there (cut_of_gate library n.signals a) (slice_get n.gates (gate_place n.signals a.to))

-- that inside the gate of z from its own output
abbrev pub feedback_arcs : PortedLibrary → Netlist → ℕ → List NamedArc
feedback_arcs library n z =
    if_there (own_of_gate library n.signals z) (slice_get n.gates (gate_place n.signals z))

-- those for the arcs between gates that are cut, and behind them those of cells that read their own
-- output, in signal order
abbrev pub disabled_arcs : PortedLibrary → Netlist → List Arc → List NamedArc
disabled_arcs library n cut =
    flat_map (cut_arcs library n) cut ++ flat_map (feedback_arcs library n) (gated n.signals)

-- ---- the text

-- names stand in braces: between those Tcl takes `$` and `[` as they are, and no name has a brace
abbrev pub disabled_line : NamedArc → List ℕ
disabled_line a = codes "set_disable_timing -from {" ++ a.from ++ codes "} -to {" ++ a.to
    ++ codes "} [get_cells {" ++ a.instance ++ codes "}]\n"

unfoldable pub timing_text : PortedLibrary → Netlist → List Arc → List ℕ
timing_text library n cut = flat_map disabled_line (disabled_arcs library n cut)

-- the text for the arcs of n that are cut
pub record IsTimingText (library : PortedLibrary) (n : Netlist) (text : List ℕ) : Type 0 where
  pub kept : List Arc
  pub cut : List Arc
  pub split : AreCut n kept cut
  pub text_is : text ≡ timing_text library n cut
