-- Gates of a library with plain pins are cells and wires.
use Rattle.std.proofs.Common.{◌≡◌, ℕ, ◌<◌, Bool, true, false, List, [], ◌∷◌, ◌++◌, length, map, All, arith}
use Rattle.std.proofs.Common.{refl, sym, ap, ◌∙◌, subst}
use Rattle.std.specs.Option.{IsSome}
use Rattle.std.proofs.lemmas.List.{length-map}
use Rattle.std.proofs.lemmas.List.Elements.{All-map, All-head, All-tail}
use mathlib.Core.Bool.{beq}
use Rattle.si_base.specs.Bits.{bit}
use Rattle.si_base.specs.Codes.{CodedGraph, IsCoded}
use Rattle.si_base.specs.Graph.{IsNonInput}
use Rattle.si_base.specs.Netlist.{Insertion, literal_value, sum_value, Cell}
use Rattle.si_base.specs.declared.ids.Literal.{Literal}
use Rattle.si_base.proofs.StepCodes.{signal_there}
use Rattle.si_cell.specs.Expanded.{expanded}
use Rattle.si_cell.specs.Library.{Library, IsLibrary, admits, cell_at, code_of}
use Rattle.si_cell.specs.declared.pins.Pins.{Pins}
use Rattle.si_cell.specs.declared.pins.Pins.TheVariants.{Plain}
use Rattle.si_cell.proofs.ExpandedLemmas.{expanded_value}
use Rattle.si_match.specs.Fit.{first_fit}
use Rattle.si_circuit.specs.Cells.{AllFit, cell_gate}
use Rattle.si_circuit.specs.Gates.{netlist_of}
use Rattle.si_circuit.specs.Wires.{as_it_is, IsWired, IsOfCellsAndWires}
use Rattle.si_circuit.proofs.CellLemmas.{few_signals, gate_found}
use Rattle.si_circuit.proofs.CoveredGates.{has_gates}

abbrev IsPlain : Literal → Type 0
IsPlain l = l.plain ≡ true

abbrev signals_of : List Literal → List ℕ
signals_of ls = map (λ l. l.sig) ls

plain_ones : (ls : List Literal) → All IsPlain ls → map as_it_is (signals_of ls) ≡ ls
plain_ones [] plain = refl
plain_ones (l ∷ ls) plain =
    let make : Bool → Literal = λ v. record { sig = l.sig; plain = v } in
    let here : as_it_is l.sig ≡ l = ap make (sym (All-head IsPlain l ls plain)) in
    rw (here, plain_ones ls (All-tail IsPlain l ls plain)) refl

beq_true : (b : Bool) → beq b true ≡ b
beq_true true = refl
beq_true false = refl

values_read : (values : ℕ) (ls : List Literal) → All IsPlain ls
    → map (literal_value values) ls ≡ map (bit values) (signals_of ls)
values_read values [] plain = refl
values_read values (l ∷ ls) plain =
    let here : literal_value values l ≡ bit values l.sig =
    ap (beq (bit values l.sig)) (All-head IsPlain l ls plain) ∙ beq_true (bit values l.sig) in
    rw (here, values_read values ls (All-tail IsPlain l ls plain)) refl

wired : (c : CodedGraph) (library : Library) (z : ℕ) → IsCoded c → IsLibrary library → library.pins ≡ Plain
    → IsNonInput c.graph.signals z → IsSome (first_fit c library z)
    → IsWired library (length c.graph.signals) z (cell_gate c library z)
wired c library z is good kind driven some =
    let (i, gate) = gate_found c library z is some in
    let plain : All IsPlain i.literals =
    subst (λ (p : Pins). All (λ l. admits p l ≡ true) i.literals) kind gate.over.admitted in
    let z_small = signal_there c z driven in
    let width = few_signals c is in
    subst (IsWired library (length c.graph.signals) z) (sym gate.gate) (record {
      cell = i.cell;
      in_library = gate.over.instance.cell;
      reads = signals_of i.literals;
      pins = length-map i.literals (λ l. l.sig) ∙ gate.over.instance.pins;
      signals = All-map (λ y. y < length c.graph.signals) (λ l. l.sig) i.literals gate.over.signals;
      sum = expanded library i z;
      gate_is = ap (λ (ls : List Literal). Cell (cell_at library i.cell).name ls (expanded library i z))
          (sym (plain_ones i.literals plain));
      value = λ values. expanded_value library i z good gate.over.instance (omega (z_small, width, arith)) values
          ∙ ap (λ (vs : List Bool). sum_value (code_of (vs ++ bit values z ∷ [])) (cell_at library i.cell).sum)
          (values_read values i.literals plain);
    })

pub cells_are_wired : (c : CodedGraph) (library : Library) (model : List ℕ) (inserts : List Insertion) → IsCoded c
    → IsLibrary library → AllFit c library → library.pins ≡ Plain
    → IsOfCellsAndWires library (netlist_of (cell_gate c library) model inserts c)
unfolding netlist_of
cells_are_wired c library model inserts is good fit kind =
    has_gates (IsWired library (length c.graph.signals)) (cell_gate c library) model inserts c
    (λ z driven. wired c library z is good kind driven (fit z driven))
