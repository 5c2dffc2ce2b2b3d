-- The module of a netlist is read back.
use Rattle.std.proofs.Common.{◌≡◌, ℕ, ◌-◌, true, List, [], ◌∷◌, ◌++◌, map, flat_map}
use Rattle.std.proofs.Common.{Option, Some, None, Result, Ok, refl, sym, ap, subst, ◌∙◌, append_assoc, codes}
use Rattle.std.proofs.Common.{if◌then◌else◌}
use Rattle.std.specs.List.{join_by, list_all}
use Rattle.si_base.specs.declared.fault.TextKind.{TextKind}
use Rattle.si_base.specs.declared.fault.TextKind.TheVariants.{Undeclared}
use Rattle.si_base.specs.Faults.{◌otherwise◌, first_in}
use Rattle.si_base.specs.Graph.{names_in, IsNonInput}
use Rattle.si_base.specs.Limits.{max_signals}
use Rattle.si_base.specs.Netlist.{Netlist, gate_place}
use Rattle.si_base.specs.WellFormed.{IsNetlist}
use Rattle.si_words.specs.Ends.{after_last}
use Rattle.si_words.specs.Names.{stands_in, name_fault}
use Rattle.si_tokens.specs.declared.fault.Stop.{Stop}
use Rattle.si_tokens.specs.Unread.{◌>>=◌}
use Rattle.si_equations.specs.Equations.{Equations, driven, signals, internal_among, undeclared, last_fault, ended}
use Rattle.si_equations.specs.Equations.{unless, expression_value}
use Rattle.si_equations.specs.Meaning.{IsGateOf, AreOfNetlist}
use Rattle.si_equations.proofs.EquationLemmas.{longer}
use Rattle.si_equations.proofs.MeaningLemmas.{AreNamed}
use Rattle.si_equations.proofs.NetlistLemmas.{netlist_named}
use Rattle.si_equations.proofs.NewLemmas.{outputs_stand, NoFaults}
use Rattle.si_verilog.specs.Symbols.{Symbol, Name, Word, Mark, symbols_of}
use Rattle.si_verilog.specs.Grammar.{Module, port_symbols, wire_symbols, module_symbols}
use Rattle.si_verilog.specs.Meaning.{IsModule, IsOfNetlist}
use Rattle.si_verilog.specs.ModuleText.{verilog_name, ports_text, wire_line, assign_lines, ports_of, wires_of}
use Rattle.si_verilog.specs.ModuleText.{verilog_text}
use Rattle.si_verilog.proofs.ModuleLemmas.{ports_read as ports_written, ports_writable, wires_read as wires_written}
use Rattle.si_verilog.proofs.ModuleLemmas.{wires_writable, text_means_only}
use Rattle.si_verilog.proofs.NameLemmas.{word_is_writable}
use Rattle.si_verilog.proofs.NetlistLemmas.{netlist_writable, netlist_there, netlist_named as netlist_writes}
use Rattle.si_verilog.proofs.SymbolLemmas.{ReadsBefore, both_read, read_then, parted_read, module_read, opening_read}
use Rattle.si_verilog.proofs.SymbolLemmas.{header_end_read, end_read, written_read}
use Rattle.si_verilog_reader.specs.Comments.{without_comments}
use Rattle.si_verilog_reader.specs.Meaning.{MeansNetlist}
use Rattle.si_verilog_reader.specs.Modules.{Ports, head_at, ports_at, item_at, no_equations, at_end, circuit_at}
use Rattle.si_verilog_reader.specs.Modules.{cells_at, modules, modules_at, modules_in}
use Rattle.si_verilog_reader.specs.Parts.{Reading, Named, all_parts}
use Rattle.si_verilog_reader.specs.Placed.{Placed, placed_symbols}
use Rattle.si_verilog_reader.proofs.AssignLemmas.{SpelledAssigns, among_all, assigns_spelled}
use Rattle.si_verilog_reader.proofs.CircuitLemmas.{item_symbols, item_assign, items_spell, wires_read, AreRead}
use Rattle.si_verilog_reader.proofs.CircuitLemmas.{items_read, names_same, all_known, there_back}
use Rattle.si_verilog_reader.proofs.CountLemmas.{AreOther, other_joined, items_other, ports_other, wires_other}
use Rattle.si_verilog_reader.proofs.CountLemmas.{one_module}
use Rattle.si_verilog_reader.proofs.CommentLemmas.{nothing_to_blank, module_without_slash}
use Rattle.si_verilog_reader.proofs.ExpressionLemmas.{Has, Parted, has_parts}
use Rattle.si_verilog_reader.proofs.HeadLemmas.{head_read, ports_read}
use Rattle.si_verilog_reader.proofs.NetlistNames.{driven_whole, equation_names, inner_is, inputs, others, outputs}
use Rattle.si_verilog_reader.proofs.NetlistNames.{ports_fine, whole}
use Rattle.si_verilog_reader.proofs.PlacedLemmas.{placed_are}
use Rattle.si_verilog_reader.proofs.ValueLemmas.{items_known, same_value, named_at}

regrouped : (w n o p c s a e : List Symbol) → ((((((w ++ n) ++ o) ++ p) ++ c) ++ s) ++ a) ++ e
    ≡ w ++ (n ++ (o ++ (p ++ (c ++ (s ++ (a ++ e))))))
regrouped w n o p c s a e = simp append_assoc

module _ (n : Netlist) (is : IsNetlist n) where
  named : AreNamed n.signals
  named = netlist_named n is

  -- ---- the symbols of the text

  said : SpelledAssigns n.signals n.signals n.gates
  said = assigns_spelled n.signals (netlist_writes n is) n.signals n.gates (among_all n.signals) is.gate_count
      (netlist_there n is)

  abbrev assign_list : List Symbol
  assign_list = flat_map item_symbols said.items

  abbrev spelled : Module
  spelled = record {
    name = n.model;
    ports = ports_of n.signals;
    wires = wires_of n.signals;
    assigns = map item_assign said.items;
  }

  abbrev port_list : List Symbol
  port_list = join_by port_symbols (Mark 44 ∷ []) (ports_of n.signals)

  abbrev item_list : List Symbol
  item_list = flat_map wire_symbols (wires_of n.signals) ++ (assign_list ++ Word (codes "endmodule") ∷ [])

  text_symbols : symbols_of (verilog_text n) ≡ module_symbols spelled assign_list
  unfolding verilog_text
  text_symbols =
      let all = netlist_writable n is in
      let name = verilog_name n.model in
      let ports = ports_text (ports_of n.signals) in
      let wires = flat_map wire_line (wires_of n.signals) in
      let lines = assign_lines n.signals n.signals n.gates in
      let word : List Symbol = Word (codes "module") ∷ [] in
      let model : List Symbol = Name n.model ∷ [] in
      let opens : List Symbol = Mark 40 ∷ [] in
      let closes : List Symbol = Mark 41 ∷ Mark 59 ∷ [] in
      let wire_list : List Symbol = flat_map wire_symbols (wires_of n.signals) in
      let begun : ReadsBefore (codes "module " ++ name) (word ++ model) = read_then (codes "module ") name word model
      module_read (written_read n.model (word_is_writable n.model is.model)) in
      let opened = parted_read (codes "module " ++ name) (codes "(") (word ++ model) opens begun (λ more. refl)
      opening_read in
      let listed = both_read (codes "module " ++ name ++ codes "(") ports ((word ++ model) ++ opens) port_list opened
      (ports_written (ports_of n.signals) (ports_writable n.signals all)) in
      let closed = both_read (codes "module " ++ name ++ codes "(" ++ ports) (codes ");\n")
      (((word ++ model) ++ opens) ++ port_list) closes listed header_end_read in
      let wired = both_read (codes "module " ++ name ++ codes "(" ++ ports ++ codes ");\n") wires
      ((((word ++ model) ++ opens) ++ port_list) ++ closes) wire_list closed
      (wires_written (wires_of n.signals) (wires_writable n.signals all)) in
      let assigned = both_read (codes "module " ++ name ++ codes "(" ++ ports ++ codes ");\n" ++ wires) lines
      (((((word ++ model) ++ opens) ++ port_list) ++ closes) ++ wire_list) assign_list wired said.reads in
      assigned (codes "endmodule\n")
      ∙ ap (λ (s : List Symbol). ((((((word ++ model) ++ opens) ++ port_list) ++ closes) ++ wire_list) ++ assign_list)
      ++ s) end_read
      ∙ regrouped word model opens port_list closes wire_list assign_list (Word (codes "endmodule") ∷ [])

  is_module : IsModule (verilog_text n) spelled
  is_module = record {
    assigns = assign_list;
    spell = items_spell n.signals said.items said.fine;
    whole = text_symbols;
  }

  is_of_netlist : IsOfNetlist n spelled
  is_of_netlist = text_means_only n spelled is is_module

  -- ---- what is read

  abbrev source : List Placed
  source = placed_symbols (verilog_text n)

  has : Has (module_symbols spelled assign_list) source
  has = placed_are (verilog_text n) ∙ text_symbols

  one : modules source - 1 ≡ 0
  one =
      let end : List Symbol = Word (codes "endmodule") ∷ [] in
      let items : AreOther item_list = other_joined (flat_map wire_symbols (wires_of n.signals)) (assign_list ++ end)
      (wires_other (wires_of n.signals))
      (other_joined assign_list end (items_other n.signals said.items said.fine) refl) in
      one_module (Name n.model ∷ Mark 40 ∷ port_list ++ (Mark 41 ∷ Mark 59 ∷ item_list)) source has
      (other_joined port_list (Mark 41 ∷ Mark 59 ∷ item_list) (ports_other (ports_of n.signals)) items)

  at_ports : Parted (Word (codes "module") ∷ Name n.model ∷ Mark 40 ∷ []) (port_list ++ (Mark 41 ∷ Mark 59 ∷ item_list))
      source
  at_ports = has_parts (Word (codes "module") ∷ Name n.model ∷ Mark 40 ∷ [])
      (port_list ++ (Mark 41 ∷ Mark 59 ∷ item_list)) source has

  at_items : Parted (port_list ++ Mark 41 ∷ Mark 59 ∷ []) item_list at_ports.back
  at_items = has_parts (port_list ++ Mark 41 ∷ Mark 59 ∷ []) item_list at_ports.back
      (at_ports.second ∙ sym (append_assoc port_list (Mark 41 ∷ Mark 59 ∷ []) item_list))

  abbrev lists : Equations
  lists = record { inputs = inputs n is; outputs = outputs n is; equations = [] }

  at_assigns : (more : List Placed) × Has (assign_list ++ Word (codes "endmodule") ∷ []) more
      × (all_parts (item_at []) lists at_items.back ≡ all_parts (item_at []) lists more)
  at_assigns = wires_read [] lists (wires_of n.signals) (assign_list ++ Word (codes "endmodule") ∷ []) at_items.back
      at_items.second

  read_items : AreRead lists said.items (all_parts (item_at []) lists at_assigns.0)
  read_items = items_read [] n.signals named.good lists said.items said.fine
      (subst (NoFaults (inputs n is) (outputs n is) []) (sym said.names) (equation_names n is)) at_assigns.0
      at_assigns.1

  abbrev found : Equations
  found = longer lists read_items.list

  abbrev behind_items : Equations × List Placed → Result Equations Stop
  behind_items items = at_end items.0 items.1

  abbrev behind_ports : Ports × List Placed → Result Equations Stop
  behind_ports ports = all_parts (item_at []) (no_equations ports.0) ports.1 >>= behind_items

  abbrev behind_head : Named × List Placed → Result Equations Stop
  behind_head head = ports_at (name_fault max_signals) head.1 >>= behind_ports

  read_circuit : circuit_at [] source ≡ Ok found
  unfolding circuit_at
  read_circuit =
      let head = head_read n.model at_ports.front at_ports.first at_ports.back in
      let ports = ports_read (name_fault max_signals) (inputs n is) (outputs n is) (ports_fine n is) at_items.front
      at_items.first at_items.back in
      ap (λ (l : List Placed). head_at l >>= behind_head) at_ports.whole
      ∙ ap (λ (r : Reading Named). r >>= behind_head) head.1
      ∙ ap (λ (l : List Placed). ports_at (name_fault max_signals) l >>= behind_ports) at_items.whole
      ∙ ap (λ (r : Reading Ports). r >>= behind_ports) ports
      ∙ ap (λ (r : Reading Equations). r >>= behind_items) (at_assigns.2 ∙ read_items.read_as)

  read_modules : modules_at source ≡ Ok found
  unfolding modules_at
  read_modules = ap (λ (k : ℕ). cells_at k [] source >>= λ cells. circuit_at cells.0 cells.1) one ∙ read_circuit

  -- ---- it has no fault

  found_names : driven found ≡ outputs n is ++ others n is
  found_names = names_same read_items.list said.items read_items.same ∙ said.names ∙ sym (driven_whole n is)

  found_signals : signals found ≡ names_in n.signals
  found_signals =
      ap (λ (l : List (List ℕ)). (inputs n is ++ outputs n is) ++ internal_among (outputs n is) l) found_names
      ∙ ap (λ (l : List (List ℕ)). (inputs n is ++ outputs n is) ++ l) (inner_is n is) ∙ whole n is

  no_unknown : first_in (undeclared (signals found)) read_items.list ≡ None
  no_unknown = ap (λ (l : List (List ℕ)). first_in (undeclared l) read_items.list) found_signals
      ∙ all_known (names_in n.signals) read_items.list said.items read_items.same
      (items_known n.signals named said.items said.fine)

  no_last_fault : (last : ℕ) → last_fault last found ≡ None
  no_last_fault last =
      let outputs_there : list_all (stands_in (driven found)) (outputs n is) ≡ true =
      ap (λ (l : List (List ℕ)). list_all (stands_in l) (outputs n is)) found_names
      ∙ outputs_stand (outputs n is) (others n is) in
      λ i. no_unknown i otherwise (if outputs_there i then None else Some (last, Undeclared))

  read_text : modules_in (verilog_text n) ≡ Ok found
  unfolding modules_in
  read_text =
      let last = after_last (verilog_text n) in
      ap (ended last None) read_modules ∙ ap (λ (f : Option (ℕ × TextKind)). unless f found) (no_last_fault last)

  -- ---- and is of the netlist

  gate_found : (z : ℕ) → IsNonInput n.signals z → IsGateOf n found z
  gate_found z non_input =
      let here = is_of_netlist.gates z non_input in
      let place = gate_place n.signals z in
      let there = there_back read_items.list said.items read_items.same place _ here.there in
      let names = named_at n.signals said.items said.fine place _ here.there in
      record {
        equation = there.equation;
        there = there.at;
        named = there.named;
        value = λ v. (λ i. expression_value (found_signals i) v (there.tree i))
            ∙ same_value n.signals named v here.tree names ∙ here.value v;
      }

  of_netlist : AreOfNetlist n found
  of_netlist = record {
    inputs = refl;
    outputs = refl;
    signals_are = found_signals;
    driven_are = found_names ∙ driven_whole n is;
    gates = gate_found;
  }

  -- there is no comment in it
  no_comment : without_comments (verilog_text n) ≡ verilog_text n
  no_comment = nothing_to_blank (verilog_text n)
      (module_without_slash (symbols_of (verilog_text n)) spelled is_module)

pub read_back : (n : Netlist) → IsNetlist n → MeansNetlist (verilog_text n) n
read_back n is = record {
  equations = found n is;
  spelled = ap modules_in (no_comment n is) ∙ read_text n is;
  of_netlist = of_netlist n is;
}
