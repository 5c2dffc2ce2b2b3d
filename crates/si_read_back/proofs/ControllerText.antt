-- The symbols of the text of modules: those of the cells, and behind them those of the controller.
use Rattle.std.proofs.Common.{◌≡◌, ◌≢◌, ℕ, suc, ◌+◌, ◌≤◌, Bool, List, [], ◌∷◌, ◌++◌, length, map, filter}
use Rattle.std.proofs.Common.{flat_map, None, AllPairs, codes, refl, sym, ap, ◌∙◌, arith, inl, inr}
use Rattle.std.specs.List.{AllByRecursion, join_by}
use Rattle.std.proofs.lemmas.Bool.{cases_Bool}
use Rattle.std.proofs.lemmas.List.{append-nil}
use Rattle.std.proofs.lemmas.List.Elements.{recursion_from_All}
use Rattle.std.proofs.lemmas.List.Kept.{AllPairs-filter}
use Rattle.si_base.specs.Graph.{names_in}
use Rattle.si_base.specs.Netlist.{Netlist}
use Rattle.si_base.specs.WellFormed.{IsNetlist}
use Rattle.si_cell.specs.Library.{Cell as LibraryCell}
use Rattle.si_cell.specs.Limits.{max_cells}
use Rattle.si_genlib.specs.Ports.{PortedLibrary, Ports}
use Rattle.si_equations.proofs.NewLemmas.{AreGood, AreNew}
use Rattle.si_verilog.specs.Grammar.{module_symbols, port_symbols, wire_symbols}
use Rattle.si_verilog.specs.ModuleText.{ports_of, wire_line, wires_of}
use Rattle.si_verilog.specs.Symbols.{Symbol, Name, Word, Mark, symbols_of}
use Rattle.si_verilog.proofs.NameLemmas.{word_is_writable}
use Rattle.si_verilog.proofs.NetlistLemmas.{netlist_writable}
use Rattle.si_verilog_reader.proofs.CountLemmas.{AreOther, other_joined, ports_other, wires_other}
use Rattle.si_structure.specs.Laws.{IsPorted}
use Rattle.si_structure.specs.Parts.{Connection, Placement, connection_symbols, placement_symbols}
use Rattle.si_structure.specs.Refusals.{IsStructured}
use Rattle.si_structure.specs.StructureText.{PortedCell, controller_text, head_text, is_used, placement_line}
use Rattle.si_structure.specs.StructureText.{ported_cells, structure_text, with_ports}
use Rattle.si_structure.specs.declared.complements.Complements.TheVariants.{Refused}
use Rattle.si_structure.proofs.CellLemmas.{Apart}
use Rattle.si_structure.proofs.LookupLemmas.{ported_distinct}
use Rattle.si_structure.proofs.ReadingLemmas.{framed, part_read, placements_read}
use Rattle.si_read_back.proofs.CellsReading.{all_symbols, count, others_counted, texts_read}
use Rattle.si_read_back.proofs.GateItems.{all_can, gate_items, gate_placements, gate_symbols, no_wires, spelled, used}
use Rattle.si_read_back.proofs.ItemLemmas.{Item, item_symbols}
use Rattle.si_read_back.proofs.NewNames.{all_new}

-- ---- no instance begins a module

connections_other : (cs : List Connection)
    → AreOther (flat_map (λ c. (Mark 44 ∷ []) ++ connection_symbols c) cs)
connections_other [] = refl
connections_other (c ∷ cs) = connections_other cs

listed_other : (cs : List Connection) → AreOther (join_by connection_symbols (Mark 44 ∷ []) cs)
listed_other [] = refl
listed_other (c ∷ cs) = connections_other cs

items_other : (list : List Item) → AreOther (flat_map item_symbols list)
items_other [] = refl
items_other (q ∷ qs) =
    let inner = join_by connection_symbols (Mark 44 ∷ []) q.placement.connections in
    other_joined (item_symbols q) (flat_map item_symbols qs)
    (other_joined inner (Mark 41 ∷ Mark 59 ∷ []) (listed_other q.placement.connections) refl) (items_other qs)

-- ---- the cells that are used

few_ported : (cells : List LibraryCell) (ports : List Ports) → length (with_ports cells ports) ≤ length cells
few_ported [] ports = omega arith
few_ported (c ∷ cs) [] = omega arith
few_ported (c ∷ cs) (p ∷ ps) = omega (arith, few_ported cs ps)

few_kept : (kept : PortedCell → Bool) (cs : List PortedCell) → length (filter kept cs) ≤ length cs
few_kept kept [] = omega arith
few_kept kept (c ∷ cs) = elim (cases_Bool (kept c)) [
  | inl is ↦ rw is (omega (arith, few_kept kept cs))
  | inr other ↦ rw other (omega (arith, few_kept kept cs))
]

named_apart : (name : List ℕ) (cs : List PortedCell) → AllByRecursion (λ d. name ≢ d.cell.name) cs
    → AllByRecursion (λ m. name ≢ m) (map (λ (d : PortedCell). d.cell.name) cs)
named_apart name [] all = tt
named_apart name (c ∷ cs) all = (all.0, named_apart name cs all.1)

cells_apart : (cs : List PortedCell)
    → AllPairs (λ (x : PortedCell) (y : PortedCell). x.cell.name ≢ y.cell.name) cs
    → Apart (map (λ (d : PortedCell). d.cell.name) cs)
cells_apart [] pairs = tt
cells_apart (c ∷ cs) pairs = (
  named_apart c.cell.name cs (recursion_from_All (λ (d : PortedCell). c.cell.name ≢ d.cell.name) cs
      (λ k d within. pairs 0 (suc k) d (omega arith) (omega arith))),
  cells_apart cs (λ i j d before within. pairs (suc i) (suc j) d (omega arith) (omega arith)),
)

symbols_none : symbols_of [] ≡ []
unfolding symbols_of
symbols_none = refl

module _ (ported : PortedLibrary) (n : Netlist) (good : IsPorted ported) (is : IsNetlist n)
    (structured : IsStructured ported Refused n) (names : AreGood (names_in n.signals)) where
  abbrev cells_used : List PortedCell
  cells_used = used ported n good is structured names

  pub few_cells : length cells_used ≤ max_cells
  few_cells =
      let few = is_few in
      omega (
        arith,
        few,
        few_kept (λ c. is_used (ported_cells ported) n c.cell) (ported_cells ported),
        few_ported ported.library.cells ported.ports,
      )
    where
      is_few : length ported.library.cells ≤ max_cells
      is_few = good.library.cells.few

  pub new_cells : AreNew [] (map (λ (d : PortedCell). d.cell.name) cells_used)
  new_cells = all_new (map (λ (d : PortedCell). d.cell.name) cells_used) (cells_apart cells_used
      (AllPairs-filter (λ (x : PortedCell) (y : PortedCell). x.cell.name ≢ y.cell.name)
      (λ c. is_used (ported_cells ported) n c.cell) (ported_cells ported) (ported_distinct ported good)))

  -- ---- the controller

  abbrev gates : List Item
  gates = gate_items ported n good is structured names

  abbrev pub port_list : List Symbol
  port_list = join_by port_symbols (Mark 44 ∷ []) (ports_of n.signals)

  abbrev pub item_list : List Symbol
  item_list = flat_map wire_symbols (wires_of n.signals)
      ++ (flat_map item_symbols gates ++ Word (codes "endmodule") ∷ [])

  abbrev pub behind_word : List Symbol
  behind_word = Name n.model ∷ Mark 40 ∷ (port_list ++ (Mark 41 ∷ Mark 59 ∷ item_list))

  abbrev instances : List Placement
  instances = gate_placements ported n good is structured names

  abbrev lines : List ℕ
  lines = flat_map placement_line instances

  abbrev marks : List Symbol
  marks = flat_map placement_symbols instances

  abbrev head : List ℕ
  head = head_text n.model [] n.signals

  text_is : controller_text ported n None ≡ head ++ lines ++ codes "endmodule\n"
  text_is =
      ap (λ (ws : List (List ℕ)). (((head ++ flat_map wire_line ws) ++ []) ++ lines) ++ codes "endmodule\n")
      (no_wires ported n good is structured names)
      ∙ ap (λ (t : List ℕ). (t ++ lines) ++ codes "endmodule\n") (append-nil (head ++ []) ∙ append-nil head)

  controller_read : symbols_of (controller_text ported n None) ≡ Word (codes "module") ∷ behind_word
  controller_read =
      let body = head ++ lines ++ codes "endmodule\n" in
      let symbols = module_symbols (framed n.model [] n.signals []) marks in
      let wires = flat_map wire_symbols (wires_of n.signals) in
      let written = placements_read instances (all_can ported n good is structured names) in
      let read = part_read n.model [] n.signals (word_is_writable n.model is.model) tt (netlist_writable n is) lines
      marks [] written in
      ap symbols_of (text_is ∙ sym (append-nil body)) ∙ read []
      ∙ ap (λ (t : List Symbol). symbols ++ t) symbols_none ∙ append-nil symbols
      ∙ ap (λ (t : List Symbol). Word (codes "module") ∷ Name n.model ∷ Mark 40
      ∷ (port_list ++ (Mark 41 ∷ Mark 59 ∷ (wires ++ (t ++ Word (codes "endmodule") ∷ [])))))
      (gate_symbols ported n good is structured names)

  -- ---- all of the text

  pub whole_read : symbols_of (structure_text ported n None)
      ≡ all_symbols cells_used (spelled ported n good is structured names) (Word (codes "module") ∷ behind_word)
  unfolding structure_text
  whole_read = texts_read cells_used (spelled ported n good is structured names) (controller_text ported n None)
      ∙ ap (all_symbols cells_used (spelled ported n good is structured names)) controller_read

  pub one_controller : count (Word (codes "module") ∷ behind_word) ≡ 1
  one_controller =
      let rest = port_list ++ (Mark 41 ∷ Mark 59 ∷ item_list) in
      let end : List Symbol = Word (codes "endmodule") ∷ [] in
      let list : AreOther item_list = other_joined (flat_map wire_symbols (wires_of n.signals))
      (flat_map item_symbols gates ++ end) (wires_other (wires_of n.signals))
      (other_joined (flat_map item_symbols gates) end (items_other gates) refl) in
      let all : AreOther rest =
      other_joined port_list (Mark 41 ∷ Mark 59 ∷ item_list) (ports_other (ports_of n.signals)) list in
      let none = ap count (sym (append-nil rest)) ∙ others_counted rest [] all in
      let total : 1 + count rest ≡ 1 = omega (arith, none) in
      total
