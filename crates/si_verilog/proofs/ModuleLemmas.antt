-- The text of a netlist spells a module, which is of the netlist.
use Rattle.std.proofs.Common.{◌≡◌, ℕ, ◌+◌, List, [], ◌∷◌, ◌++◌, map, flat_map, slice_get}
use Rattle.std.proofs.Common.{refl, sym, ap, subst, ◌∙◌, append_assoc, codes, arith}
use Rattle.std.specs.List.{AllByRecursion, join_by}
use Rattle.std.proofs.lemmas.List.{append-nil}
use Rattle.si_base.specs.declared.graph.Signal.{Signal}
use Rattle.si_base.specs.declared.graph.SigKind.TheVariants.{Input, Output, Internal, Inserted}
use Rattle.si_base.specs.Graph.{IsNonInput}
use Rattle.si_base.specs.Netlist.{Netlist, gate_place, value_if_there}
use Rattle.si_base.specs.NetlistText.{name_of, names_of}
use Rattle.si_base.specs.WellFormed.{IsNetlist}
use Rattle.si_verilog.specs.Symbols.{Symbol, Name, Word, Mark, symbols_of}
use Rattle.si_verilog.specs.Grammar.{Port, InputPort, OutputPort, Module, port_symbols, wire_symbols}
use Rattle.si_verilog.specs.Grammar.{module_symbols}
use Rattle.si_verilog.specs.Meaning.{IsModule, IsOfNetlist, IsGateOf, MeansNetlist}
use Rattle.si_verilog.specs.ModuleText.{verilog_name, port_text, ports_text, wire_line, assign_lines, ports_of}
use Rattle.si_verilog.specs.ModuleText.{wires_of, verilog_text}
use Rattle.si_verilog.proofs.NameLemmas.{IsWritable, word_is_writable}
use Rattle.si_verilog.proofs.SymbolLemmas.{Reads, ReadsBefore, both_read, read_then, parted_read, parted_then}
use Rattle.si_verilog.proofs.SymbolLemmas.{module_read, opening_read, header_end_read, input_read, output_read}
use Rattle.si_verilog.proofs.SymbolLemmas.{wire_read, comma_read, line_end_read, semicolon_read, end_read, written_read}
use Rattle.si_verilog.proofs.GrammarOneModule.{one_module}
use Rattle.si_verilog.proofs.NetlistLemmas.{Writable, netlist_writable, netlist_named, netlist_there, kind_writable}
use Rattle.si_verilog.proofs.NetlistLemmas.{all_append}
use Rattle.si_verilog.proofs.WritingAssigns.{SaysAssigns, AreFrom, says_assigns}

-- ---- ports

abbrev pub HasWritable : Port → Type 0
HasWritable (InputPort name) = IsWritable name
HasWritable (OutputPort name) = IsWritable name

port_read : (p : Port) → HasWritable p → ReadsBefore (port_text p) (port_symbols p)
port_read (InputPort name) writable = read_then (codes "  input ") (verilog_name name) (Word (codes "input") ∷ [])
    (Name name ∷ []) input_read (written_read name writable)
port_read (OutputPort name) writable = read_then (codes "  output ") (verilog_name name) (Word (codes "output") ∷ [])
    (Name name ∷ []) output_read (written_read name writable)

more_ports_read : (text : List ℕ) (symbols : List Symbol) (ps : List Port) → AllByRecursion HasWritable ps
    → ReadsBefore text symbols
    → ReadsBefore (text ++ flat_map (λ p. codes ",\n" ++ port_text p) ps)
    (symbols ++ flat_map (λ p. (Mark 44 ∷ []) ++ port_symbols p) ps)
more_ports_read text symbols [] writable reads = λ rest ends.
    ap (λ (t : List ℕ). symbols_of (t ++ rest)) (append-nil text) ∙ reads rest ends
    ∙ ap (λ (s : List Symbol). s ++ symbols_of rest) (sym (append-nil symbols))
more_ports_read text symbols (p ∷ ps) writable reads =
    let last = codes ",\n" ++ port_text p in
    let mark : List Symbol = Mark 44 ∷ [] in
    let longer = more_ports_read (text ++ last) (symbols ++ (mark ++ port_symbols p)) ps writable.1
    (parted_then text last symbols (mark ++ port_symbols p) reads (λ more. refl)
    (read_then (codes ",\n") (port_text p) mark (port_symbols p) comma_read (port_read p writable.0))) in
    λ rest ends.
    ap (λ (t : List ℕ). symbols_of (t ++ rest))
    (sym (append_assoc text last (flat_map (λ q. codes ",\n" ++ port_text q) ps)))
    ∙ longer rest ends
    ∙ ap (λ (s : List Symbol). s ++ symbols_of rest)
    (append_assoc symbols (mark ++ port_symbols p) (flat_map (λ q. mark ++ port_symbols q) ps))

pub ports_read : (ports : List Port) → AllByRecursion HasWritable ports
    → Reads (ports_text ports) (join_by port_symbols (Mark 44 ∷ []) ports)
ports_read [] writable = λ rest. refl
ports_read (p ∷ ps) writable =
    let lines = join_by port_text (codes ",\n") (p ∷ ps) in
    let symbols : List Symbol = join_by port_symbols (Mark 44 ∷ []) (p ∷ ps) in
    let all : ReadsBefore lines symbols =
    more_ports_read (port_text p) (port_symbols p) ps writable.1 (port_read p writable.0) in
    let begun : ReadsBefore (codes "\n" ++ lines) ([] ++ symbols) =
    read_then (codes "\n") lines [] symbols line_end_read all in
    let whole : Reads (codes "\n" ++ lines ++ codes "\n") (symbols ++ []) =
    parted_read (codes "\n" ++ lines) (codes "\n") symbols [] begun (λ more. refl) line_end_read in
    λ rest. whole rest ∙ ap (λ (s : List Symbol). s ++ symbols_of rest) (append-nil symbols)

input_ports : (names : List (List ℕ)) → AllByRecursion IsWritable names
    → AllByRecursion HasWritable (map InputPort names)
input_ports [] all = tt
input_ports (n ∷ names) all = (all.0, input_ports names all.1)

output_ports : (names : List (List ℕ)) → AllByRecursion IsWritable names
    → AllByRecursion HasWritable (map OutputPort names)
output_ports [] all = tt
output_ports (n ∷ names) all = (all.0, output_ports names all.1)

pub ports_writable : (signals : List Signal) → AllByRecursion Writable signals
    → AllByRecursion HasWritable (ports_of signals)
ports_writable signals all = all_append HasWritable (map InputPort (names_of Input signals))
    (map OutputPort (names_of Output signals)) (input_ports (names_of Input signals) (kind_writable Input signals all))
    (output_ports (names_of Output signals) (kind_writable Output signals all))

-- ---- wires

wire_line_read : (name : List ℕ) → IsWritable name → Reads (wire_line name) (wire_symbols name)
wire_line_read name writable =
    let word : List Symbol = Word (codes "wire") ∷ [] in
    let symbols : List Symbol = word ++ Name name ∷ [] in
    parted_read (codes "  wire " ++ verilog_name name) (codes ";\n") symbols (Mark 59 ∷ [])
    (read_then (codes "  wire ") (verilog_name name) word (Name name ∷ []) wire_read (written_read name writable))
    (λ more. refl) semicolon_read

pub wires_read : (names : List (List ℕ)) → AllByRecursion IsWritable names
    → Reads (flat_map wire_line names) (flat_map wire_symbols names)
wires_read [] all = λ rest. refl
wires_read (n ∷ names) all = both_read (wire_line n) (flat_map wire_line names) (wire_symbols n)
    (flat_map wire_symbols names) (wire_line_read n all.0) (wires_read names all.1)

pub wires_writable : (signals : List Signal) → AllByRecursion Writable signals
    → AllByRecursion IsWritable (wires_of signals)
wires_writable signals all = all_append IsWritable (names_of Internal signals) (names_of Inserted signals)
    (kind_writable Internal signals all) (kind_writable Inserted signals all)

-- ---- the module

all_from : (signals : List Signal) → AreFrom signals 0 signals
all_from signals = λ k within.
    let place : k ≡ 0 + k = omega arith in
    (ap (name_of signals) place, omega arith)

netlist_assigns : (n : Netlist) → IsNetlist n → SaysAssigns n.signals 0 n.signals n.gates
netlist_assigns n is = says_assigns n.signals (netlist_named n is) 0 n.signals n.gates (all_from n.signals)
    is.gate_count (netlist_there n is)

grouped : (w n o p c s a e : List Symbol) → ((((((w ++ n) ++ o) ++ p) ++ c) ++ s) ++ a) ++ e
    ≡ w ++ (n ++ (o ++ (p ++ (c ++ (s ++ (a ++ e))))))
grouped w n o p c s a e = simp append_assoc

module _ (n : Netlist) (is : IsNetlist n) where
  said : SaysAssigns n.signals 0 n.signals n.gates
  said = netlist_assigns n is

  spelled : Module
  spelled = record {
    name = n.model;
    ports = ports_of n.signals;
    wires = wires_of n.signals;
    assigns = said.assigns;
  }

  text_symbols : symbols_of (verilog_text n) ≡ module_symbols spelled said.symbols
  unfolding verilog_text spelled
  text_symbols =
      let all = netlist_writable n is in
      let name = verilog_name n.model in
      let ports = ports_text (ports_of n.signals) in
      let wires = flat_map wire_line (wires_of n.signals) in
      let lines = assign_lines n.signals n.signals n.gates in
      let word : List Symbol = Word (codes "module") ∷ [] in
      let model : List Symbol = Name n.model ∷ [] in
      let opens : List Symbol = Mark 40 ∷ [] in
      let port_list : List Symbol = join_by port_symbols (Mark 44 ∷ []) (ports_of n.signals) in
      let closes : List Symbol = Mark 41 ∷ Mark 59 ∷ [] in
      let wire_list : List Symbol = flat_map wire_symbols (wires_of n.signals) in
      let named : ReadsBefore (codes "module " ++ name) (word ++ model) = read_then (codes "module ") name word model
      module_read (written_read n.model (word_is_writable n.model is.model)) in
      let opened = parted_read (codes "module " ++ name) (codes "(") (word ++ model) opens named (λ more. refl)
      opening_read in
      let listed = both_read (codes "module " ++ name ++ codes "(") ports ((word ++ model) ++ opens) port_list opened
      (ports_read (ports_of n.signals) (ports_writable n.signals all)) in
      let closed = both_read (codes "module " ++ name ++ codes "(" ++ ports) (codes ");\n")
      (((word ++ model) ++ opens) ++ port_list) closes listed header_end_read in
      let wired = both_read (codes "module " ++ name ++ codes "(" ++ ports ++ codes ");\n") wires
      ((((word ++ model) ++ opens) ++ port_list) ++ closes) wire_list closed
      (wires_read (wires_of n.signals) (wires_writable n.signals all)) in
      let assigned = both_read (codes "module " ++ name ++ codes "(" ++ ports ++ codes ");\n" ++ wires) lines
      (((((word ++ model) ++ opens) ++ port_list) ++ closes) ++ wire_list) said.symbols wired said.reads in
      assigned (codes "endmodule\n")
      ∙ ap (λ (s : List Symbol). ((((((word ++ model) ++ opens) ++ port_list) ++ closes) ++ wire_list) ++ said.symbols)
      ++ s) end_read
      ∙ grouped word model opens port_list closes wire_list said.symbols (Word (codes "endmodule") ∷ [])

  is_module : IsModule (verilog_text n) spelled
  unfolding spelled
  is_module = record { assigns = said.symbols; spell = said.spell; whole = text_symbols }

  gate_said : (z : ℕ) → IsNonInput n.signals z → IsGateOf n spelled z
  unfolding spelled
  gate_said z non_input =
      let here = said.each z non_input in
      let order : 0 + z ≡ z = omega arith in
      record {
        tree = here.0;
        there = here.1;
        value = λ v. here.2 v
            ∙ ap (λ (k : ℕ). value_if_there (slice_get n.gates (gate_place n.signals z)) k v) order;
      }

  is_of_netlist : IsOfNetlist n spelled
  unfolding spelled
  is_of_netlist = record {
    named = refl;
    ports = refl;
    wires = refl;
    assigned = said.names;
    gates = gate_said;
  }

-- the text of a netlist is that of a module, which is of the netlist
pub text_means : (n : Netlist) → IsNetlist n → MeansNetlist (verilog_text n) n
text_means n is = (spelled n is, is_module n is, is_of_netlist n is)

-- and any module of the text is
pub text_means_only : (n : Netlist) (m : Module) → IsNetlist n → IsModule (verilog_text n) m → IsOfNetlist n m
text_means_only n m is spells = subst (IsOfNetlist n)
    (one_module (symbols_of (verilog_text n)) (spelled n is) m (is_module n is) spells) (is_of_netlist n is)
