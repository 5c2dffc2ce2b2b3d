-- The modules of a netlist over a library are read back.
use Rattle.std.proofs.Common.{◌≡◌, ℕ, ◌+◌, ◌-◌, true, List, [], ◌∷◌, ◌++◌, length, flat_map, slice_get, Option, Some}
use Rattle.std.proofs.Common.{None, Result, Ok, get_or, refl, sym, ap, subst, ◌∙◌, append_assoc, codes, arith}
use Rattle.std.proofs.Common.{if◌then◌else◌}
use Rattle.std.specs.Prelude.{All, option_map, unwrap_or}
use Rattle.std.specs.List.{list_all}
use Rattle.std.proofs.lemmas.List.Elements.{recursion_from_All}
use Rattle.std.proofs.lemmas.Option.{slice_get-get_or}
use Rattle.si_base.specs.declared.fault.TextKind.{TextKind}
use Rattle.si_base.specs.declared.fault.TextKind.TheVariants.{Undeclared}
use Rattle.si_base.specs.declared.graph.Signal.{Signal}
use Rattle.si_base.specs.Faults.{◌otherwise◌, first_in}
use Rattle.si_base.specs.Graph.{IsNonInput, names_in}
use Rattle.si_base.specs.Limits.{max_signals}
use Rattle.si_base.specs.Netlist.{Gate, Netlist, SumGate, gate_place, value_if_there}
use Rattle.si_base.specs.NetlistText.{name_of}
use Rattle.si_base.specs.WellFormed.{IsNetlist}
use Rattle.si_netlist.proofs.GateLemmas.{gate_place-lt}
use Rattle.si_words.specs.Ends.{after_last}
use Rattle.si_words.specs.Names.{name_fault, stands_in}
use Rattle.si_tokens.specs.declared.fault.Stop.{Stop}
use Rattle.si_tokens.specs.Unread.{◌>>=◌}
use Rattle.si_genlib.specs.Ports.{PortedLibrary}
use Rattle.si_equations.specs.Equations.{Equations, driven as driven_names, ended, expression_value, internal_among}
use Rattle.si_equations.specs.Equations.{last_fault, signals, undeclared, unless}
use Rattle.si_equations.specs.Meaning.{AreOfNetlist, IsGateOf}
use Rattle.si_equations.proofs.EquationLemmas.{longer}
use Rattle.si_equations.proofs.NetlistLemmas.{netlist_named}
use Rattle.si_equations.proofs.NewLemmas.{AreGood, NoFaults, outputs_stand}
use Rattle.si_verilog.specs.ModuleText.{wires_of}
use Rattle.si_verilog.specs.Symbols.{Symbol, Name, Word, Mark, symbols_of}
use Rattle.si_verilog_reader.specs.Comments.{without_comments}
use Rattle.si_verilog_reader.specs.Meaning.{MeansNetlist}
use Rattle.si_verilog_reader.specs.Modules.{Cell, Ports, cells_at, circuit_at, head_at, item_at, modules, modules_at}
use Rattle.si_verilog_reader.specs.Modules.{modules_in, ports_at}
use Rattle.si_verilog_reader.specs.Parts.{Reading, all_parts}
use Rattle.si_verilog_reader.specs.Placed.{Placed, placed_symbols}
use Rattle.si_verilog_reader.proofs.CircuitLemmas.{wires_read}
use Rattle.si_verilog_reader.proofs.CommentLemmas.{nothing_to_blank}
use Rattle.si_verilog_reader.proofs.ExpressionLemmas.{Has, Parted, has_parts}
use Rattle.si_verilog_reader.proofs.HeadLemmas.{head_read, none_left, ports_read}
use Rattle.si_structure.specs.Laws.{IsPorted}
use Rattle.si_structure.specs.Refusals.{IsStructured}
use Rattle.si_structure.specs.StructureText.{PortedCell, structure_text, used_cells}
use Rattle.si_structure.specs.declared.complements.Complements.TheVariants.{Refused}
use Rattle.si_structure.proofs.PlacementLemmas.{driven, driven_at, zip_at}
use Rattle.si_structure.proofs.TextLemmas.{text_means}
use Rattle.si_read_back.specs.Laws.{IsSmall}
use Rattle.si_verilog_reader.proofs.PlacedLemmas.{placed_are}
use Rattle.si_read_back.proofs.PartsLemmas.{parts_without_slash}
use Rattle.si_read_back.proofs.SymbolParts.{Leaves}
use Rattle.si_read_back.proofs.CellsReading.{AreSpelled, all_made, all_symbols, cells_counted, cells_read, count}
use Rattle.si_read_back.proofs.CellsReading.{modules_counted}
use Rattle.si_read_back.proofs.ControllerText.{behind_word, few_cells, item_list, new_cells, one_controller, port_list}
use Rattle.si_read_back.proofs.ControllerText.{whole_read}
use Rattle.si_read_back.proofs.GateInstances.{item_value}
use Rattle.si_read_back.proofs.GateItems.{gate_items, gate_there as item_at_gate, gates_are_items, item_names, item_of}
use Rattle.si_read_back.proofs.GateItems.{own, spelled}
use Rattle.si_read_back.proofs.ItemLemmas.{Item, ItemsRead, all_known, circuit_by, end_read, item_symbols, items_read}
use Rattle.si_read_back.proofs.ItemLemmas.{names_same, there_back}
use Rattle.si_verilog_reader.proofs.NetlistNames.{all_good, driven_whole, equation_names, inner_is, inputs, others, outputs}
use Rattle.si_verilog_reader.proofs.NetlistNames.{ports_fine, whole}

module _ (ported : PortedLibrary) (n : Netlist) (good : IsPorted ported) (is : IsNetlist n)
    (structured : IsStructured ported Refused n) (small : All IsSmall (used_cells ported n)) where
  abbrev names : AreGood (names_in n.signals)
  names = all_good n is

  abbrev used : List PortedCell
  used = used_cells ported n

  abbrev are : AreSpelled used
  are = spelled ported n good is structured names

  abbrev cells : List Cell
  cells = all_made used are

  abbrev input_names : List (List ℕ)
  input_names = inputs n is

  abbrev output_names : List (List ℕ)
  output_names = outputs n is

  abbrev text : List ℕ
  text = structure_text ported n None

  abbrev source : List Placed
  source = placed_symbols text

  abbrev behind : List Symbol
  behind = behind_word ported n good is structured names

  abbrev controller : List Symbol
  controller = Word (codes "module") ∷ behind

  abbrev list : List Item
  list = gate_items ported n good is structured names

  abbrev ports : List Symbol
  ports = port_list ported n good is structured names

  abbrev inner : List Symbol
  inner = item_list ported n good is structured names

  abbrev end : List Symbol
  end = Word (codes "endmodule") ∷ []

  has : Has (all_symbols used are controller) source
  has = placed_are text ∙ whole_read ported n good is structured names

  count_is : modules source - 1 ≡ length used
  count_is =
      let total : modules source ≡ length used + count controller =
      modules_counted source ∙ ap count has ∙ cells_counted used are controller in
      let one = one_controller ported n good is structured names in
      omega (arith, total, one)

  read_cells : Leaves (cells_at (length used) [] source) cells controller
  read_cells = cells_read used are [] behind source (new_cells ported n good is structured names)
      (omega (arith, few_cells ported n good is structured names)) (recursion_from_All IsSmall used small) has

  -- ---- the controller

  at_ports : Parted (Word (codes "module") ∷ Name n.model ∷ Mark 40 ∷ []) (ports ++ (Mark 41 ∷ Mark 59 ∷ inner))
      read_cells.rest
  at_ports = has_parts (Word (codes "module") ∷ Name n.model ∷ Mark 40 ∷ [])
      (ports ++ (Mark 41 ∷ Mark 59 ∷ inner)) read_cells.rest read_cells.has

  at_items : Parted (ports ++ Mark 41 ∷ Mark 59 ∷ []) inner at_ports.back
  at_items = has_parts (ports ++ Mark 41 ∷ Mark 59 ∷ []) inner at_ports.back
      (at_ports.second ∙ sym (append_assoc ports (Mark 41 ∷ Mark 59 ∷ []) inner))

  abbrev lists : Equations
  lists = record { inputs = input_names; outputs = output_names; equations = [] }

  at_instances : (more : List Placed) × Has (flat_map item_symbols list ++ end) more
      × (all_parts (item_at cells) lists at_items.back ≡ all_parts (item_at cells) lists more)
  at_instances = wires_read cells lists (wires_of n.signals) (flat_map item_symbols list ++ end) at_items.back
      at_items.second

  read_items : ItemsRead cells lists list at_instances.0 end
  read_items =
      let named = item_names ported n good is structured names in
      items_read cells (names_in n.signals) lists list end at_instances.0
      (gates_are_items ported n good is structured names)
      (subst (NoFaults input_names output_names []) (sym named) (equation_names n is)) at_instances.1

  abbrev found : Equations
  found = longer lists read_items.list

  ended_read : Leaves (all_parts (item_at cells) found read_items.rest) found []
  ended_read = end_read cells found [] read_items.rest read_items.has

  read_circuit : circuit_at cells read_cells.rest ≡ Ok found
  read_circuit =
      let head = head_read n.model at_ports.front at_ports.first at_ports.back in
      let listed = ports_read (name_fault max_signals) input_names output_names (ports_fine n is) at_items.front
      at_items.first at_items.back in
      let own_ports : Ports = record { inputs = input_names; outputs = output_names } in
      circuit_by cells read_cells.rest at_ports.back at_items.back ended_read.rest
      (record { line = head.0; name = n.model }) own_ports found (ap head_at at_ports.whole ∙ head.1)
      (ap (ports_at (name_fault max_signals)) at_items.whole ∙ listed)
      (at_instances.2 ∙ read_items.is ∙ ended_read.is) (none_left ended_read.rest ended_read.has)

  abbrev behind_cells : List Cell × List Placed → Result Equations Stop
  behind_cells read = circuit_at read.0 read.1

  read_modules : modules_at source ≡ Ok found
  unfolding modules_at
  read_modules = ap (λ (k : ℕ). cells_at k [] source >>= behind_cells) count_is
      ∙ ap (λ (r : Reading (List Cell)). r >>= behind_cells) read_cells.is ∙ read_circuit

  -- ---- it has no fault

  found_names : driven_names found ≡ output_names ++ others n is
  found_names = names_same list read_items.list read_items.made ∙ item_names ported n good is structured names
      ∙ sym (driven_whole n is)

  found_signals : signals found ≡ names_in n.signals
  found_signals = ap (λ (l : List (List ℕ)). (input_names ++ output_names) ++ internal_among output_names l) found_names
      ∙ ap (λ (l : List (List ℕ)). (input_names ++ output_names) ++ l) (inner_is n is) ∙ whole n is

  no_unknown : first_in (undeclared (signals found)) read_items.list ≡ None
  no_unknown = ap (λ (l : List (List ℕ)). first_in (undeclared l) read_items.list) found_signals
      ∙ all_known cells (names_in n.signals) list read_items.list read_items.made
      (gates_are_items ported n good is structured names)

  no_last_fault : (last : ℕ) → last_fault last found ≡ None
  no_last_fault last =
      let outputs_there : list_all (stands_in (driven_names found)) output_names ≡ true =
      ap (λ (l : List (List ℕ)). list_all (stands_in l) output_names) found_names
      ∙ outputs_stand output_names (others n is) in
      λ i. no_unknown i otherwise (if outputs_there i then None else Some (last, Undeclared))

  read_text : modules_in text ≡ Ok found
  unfolding modules_in
  read_text =
      let last = after_last text in
      ap (ended last None) read_modules ∙ ap (λ (f : Option (ℕ × TextKind)). unless f found) (no_last_fault last)

  -- and no comment
  no_comment : without_comments text ≡ text
  no_comment =
      let means = text_means ported Refused n None good is structured tt in
      nothing_to_blank text (parts_without_slash (symbols_of text) means.0 means.1)

  -- ---- and is of the netlist

  gate_there : (z : ℕ) → IsNonInput n.signals z
      → (g : Gate) × (slice_get n.gates (gate_place n.signals z) ≡ Some g)
  gate_there z non_input =
      let before = gate_place-lt n.signals z non_input in
      let count = is.gate_count in (
        get_or n.gates (gate_place n.signals z) (SumGate []),
        slice_get-get_or n.gates (gate_place n.signals z) (SumGate []) (omega (arith, before, count)),
      )

  gate_found : (z : ℕ) → IsNonInput n.signals z → IsGateOf n found z
  gate_found z non_input =
      let x : Signal = non_input.0 in
      let place = gate_place n.signals z in
      let gate = gate_there z non_input in
      let g : Gate = gate.0 in
      let at = zip_at (driven n.signals) n.gates place x g
      (driven_at n.signals z x non_input.1 non_input.2) gate.1 in
      let item = item_at_gate ported n good is structured names place (x, g) at in
      let h = item.pair in
      let made = item_of ported n good is structured names (x, g) h in
      let there = there_back list read_items.list read_items.made place made item.there in
      let value_is = item_value n (netlist_named n is) names cells h.gate.is.cell h.found x.name
      (own ported n good is structured names (x, g) h) h.gate.is.literals h.gate.is.pins h.plain h.gate.is.within in
      let name_is : name_of n.signals z ≡ x.name =
      ap (λ o. unwrap_or (option_map (λ (s : Signal). s.name) o) []) non_input.1 in
      let gate_is = gate.1 ∙ ap (λ (k : Gate). Some k) h.gate.is.same in
      record {
        equation = there.equation;
        there = there.at;
        named = there.named ∙ sym name_is;
        value = λ v. (λ i. expression_value (found_signals i) v (there.tree i))
            ∙ value_is v h.place h.within h.named
            ∙ sym (h.gate.value v)
            ∙ sym (ap (λ o. value_if_there o z v) gate_is);
      }

  of_netlist : AreOfNetlist n found
  of_netlist = record {
    inputs = refl;
    outputs = refl;
    signals_are = found_signals;
    driven_are = found_names ∙ driven_whole n is;
    gates = gate_found;
  }

-- the text of a netlist by plain literals over cells whose modules are small means the netlist
pub read_back : (ported : PortedLibrary) (n : Netlist) → IsPorted ported → IsNetlist n
    → IsStructured ported Refused n → All IsSmall (used_cells ported n)
    → MeansNetlist (structure_text ported n None) n
read_back ported n good is structured small = record {
  equations = found ported n good is structured small;
  spelled = ap modules_in (no_comment ported n good is structured small) ∙ read_text ported n good is structured small;
  of_netlist = of_netlist ported n good is structured small;
}
