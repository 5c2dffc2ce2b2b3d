-- The module of a cell: its symbols, its tree and the values of that.
use Rattle.std.proofs.Common.{◌≡◌, ℕ, zero, suc, ◌<◌, ◌≤◌, ◌||◌, not, Bool, true, false, List, [], ◌∷◌, ◌++◌, length}
use Rattle.std.proofs.Common.{map, flat_map, bytes_eq, None, codes, refl, sym, ap, subst, ◌∙◌, append_assoc}
use Rattle.std.proofs.Common.{arith}
use Rattle.std.specs.List.{join_by, zip}
use Rattle.std.proofs.lemmas.List.{append-nil}
use Rattle.si_base.specs.Faults.{when}
use Rattle.si_base.specs.declared.fault.TextKind.TheVariants.{Undeclared}
use Rattle.si_base.specs.declared.graph.Signal.{Signal}
use Rattle.si_base.specs.declared.graph.SigKind.TheVariants.{Input, Output}
use Rattle.si_base.specs.Netlist.{Gate, SumGate, sum_value}
use Rattle.si_base.specs.NetlistText.{name_of, names_of}
use Rattle.si_words.specs.Names.{stands_in}
use Rattle.si_words.proofs.NameWords.{same_bytes}
use Rattle.si_verilog.specs.Grammar.{Tree, Constant, Named, Not, And, Or, Assign, Expression, Spells, tree_value}
use Rattle.si_verilog.specs.Grammar.{InputPort, OutputPort, Port, module_symbols, port_symbols, wire_symbols}
use Rattle.si_verilog.specs.Meaning.{named_value}
use Rattle.si_verilog.specs.ModuleText.{assign_line, assign_lines, gate_text, ports_of, verilog_name, verilog_text}
use Rattle.si_verilog.specs.ModuleText.{wires_of}
use Rattle.si_verilog.specs.Symbols.{Symbol, Name, Word, Mark, symbols_of}
use Rattle.si_verilog.proofs.GrammarOneTree.{one_tree}
use Rattle.si_verilog.proofs.NameLemmas.{IsWritable}
use Rattle.si_verilog.proofs.SymbolLemmas.{Reads, ReadsBefore, read_then, parted_read, assign_read, equals_read}
use Rattle.si_verilog.proofs.SymbolLemmas.{semicolon_read, written_read}
use Rattle.si_verilog.proofs.MeaningLemmas.{says_gate}
use Rattle.si_verilog_reader.specs.Modules.{other_fault}
use Rattle.si_verilog_reader.proofs.ExpressionLemmas.{HaveNoFault, depth}
use Rattle.si_verilog_reader.proofs.GateLemmas.{NamesSignals, SpelledGate, gate_spelled}
use Rattle.si_structure.specs.StructureText.{PortedCell, cell_inputs, cell_netlist, cell_signals}
use Rattle.si_structure.proofs.CellLemmas.{IsPortedCell, cell_readable, driven_is_last, names_back, output_is}
use Rattle.si_structure.proofs.CellLemmas.{with_output}
use Rattle.si_structure.proofs.ModuleLemmas.{IsReadable}
use Rattle.si_structure.proofs.NameLemmas.{port_writable}
use Rattle.si_structure.proofs.ReadingLemmas.{framed, part_read}

-- ---- its signals

signal_count : (names : List (List ℕ)) (last : List ℕ) → length (with_output names last) ≡ suc (length names)
signal_count [] last = refl
signal_count (n ∷ names) last = ap suc (signal_count names last)

inputs_back : (names : List (List ℕ)) (last : List ℕ) → names_of Input (with_output names last) ≡ names
inputs_back [] last = refl
inputs_back (n ∷ names) last = ap (λ (l : List (List ℕ)). n ∷ l) (inputs_back names last)

output_back : (names : List (List ℕ)) (last : List ℕ) → names_of Output (with_output names last) ≡ last ∷ []
output_back [] last = refl
output_back (n ∷ names) last = output_back names last

no_wires : (names : List (List ℕ)) (last : List ℕ) → wires_of (with_output names last) ≡ []
no_wires [] last = refl
no_wires (n ∷ names) last = no_wires names last

-- each of them stands among their names
name_stands : (xs : List Signal) (z : ℕ) → z < length xs
    → stands_in (map (λ (x : Signal). x.name) xs) (name_of xs z) ≡ true
name_stands [] z there = absurd (omega arith)
name_stands (x ∷ xs) zero there = rw (same_bytes x.name) refl
name_stands (x ∷ xs) (suc z) there =
    by (bytes_eq (name_of xs z) x.name) (stands_in (map (λ (y : Signal). y.name) xs) (name_of xs z))
    (name_stands xs z (omega arith))
  where
    by : (here later : Bool) → later ≡ true → (here || later) ≡ true
    by true later is = refl
    by false later is = is

module _ (signals : List Signal) (ports : List (List ℕ)) (same : map (λ (x : Signal). x.name) signals ≡ ports) where
  -- a name of a signal is that of a port
  port_here : (name : List ℕ) → (z : ℕ) × (z < length signals) × (name ≡ name_of signals z)
      → other_fault ports name ≡ None
  port_here name at =
      let stands : stands_in ports name ≡ true = ap (stands_in ports) at.2
      ∙ ap (λ (l : List (List ℕ)). stands_in l (name_of signals at.0)) (sym same) ∙ name_stands signals at.0 at.1 in
      λ i. when (not (stands i)) Undeclared

  ports_alone : (t : Tree) → NamesSignals signals t → HaveNoFault (other_fault ports) t
  ports_alone (Constant value) all = tt
  ports_alone (Named name) all = port_here name all
  ports_alone (Not of) all = ports_alone of all
  ports_alone (And left right) all = (ports_alone left all.0, ports_alone right all.1)
  ports_alone (Or left right) all = (ports_alone left all.0, ports_alone right all.1)

-- ---- its text

-- the line of an assign, by the symbols of its expression
line_read : (signals : List Signal) (name : List ℕ) (gate : Gate) (xs : List Symbol) → IsWritable name
    → ReadsBefore (gate_text signals name gate) xs
    → Reads (assign_line signals name gate)
    (Word (codes "assign") ∷ Name name ∷ Mark 61 ∷ xs ++ Mark 59 ∷ [])
line_read signals name gate xs writable reads =
    let n = verilog_name name in
    let e = gate_text signals name gate in
    let word : List Symbol = Word (codes "assign") ∷ [] in
    let called : List Symbol = Name name ∷ [] in
    let mark : List Symbol = Mark 61 ∷ [] in
    let named : ReadsBefore (codes "  assign " ++ n) (word ++ called) =
    read_then (codes "  assign ") n word called assign_read (written_read name writable) in
    let given : Reads (codes "  assign " ++ n ++ codes " = ") ((word ++ called) ++ mark) =
    parted_read (codes "  assign " ++ n) (codes " = ") (word ++ called) mark named (λ more. refl) equals_read in
    let said : ReadsBefore (codes "  assign " ++ n ++ codes " = " ++ e) (((word ++ called) ++ mark) ++ xs) =
    read_then (codes "  assign " ++ n ++ codes " = ") e ((word ++ called) ++ mark) xs given reads in
    parted_read (codes "  assign " ++ n ++ codes " = " ++ e) (codes ";\n")
    (((word ++ called) ++ mark) ++ xs) (Mark 59 ∷ []) said (λ more. refl) semicolon_read

symbols_none : symbols_of [] ≡ []
unfolding symbols_of
symbols_none = refl

-- a text has one list of symbols
one_list : (text : List ℕ) (xs ys : List Symbol) → ReadsBefore text xs → ReadsBefore text ys → xs ≡ ys
one_list text xs ys one other =
    sym (append-nil xs) ∙ ap (λ (t : List Symbol). xs ++ t) (sym symbols_none) ∙ sym (one [] refl) ∙ other [] refl
    ∙ ap (λ (t : List Symbol). ys ++ t) symbols_none ∙ append-nil ys

-- ---- its symbols, before others

abbrev pub port_list : PortedCell → List Symbol
port_list c =
    join_by port_symbols (Mark 44 ∷ []) (map InputPort (cell_inputs c) ++ map OutputPort (c.ports.output ∷ []))

abbrev pub cell_ports : PortedCell → List Symbol
cell_ports c = port_list c ++ (Mark 41 ∷ Mark 59 ∷ [])

abbrev pub cell_body : PortedCell → (expression : List Symbol) → List Symbol → List Symbol
cell_body c xs ys = Word (codes "assign") ∷ Name c.ports.output ∷ Mark 61
    ∷ (xs ++ Mark 59 ∷ Word (codes "endmodule") ∷ ys)

abbrev pub cell_symbols : PortedCell → (expression : List Symbol) → List Symbol → List Symbol
cell_symbols c xs ys =
    Word (codes "module") ∷ Name c.cell.name ∷ Mark 40 ∷ (cell_ports c ++ cell_body c xs ys)

pub record SpelledCell (c : PortedCell) : Type 0 where
  pub good : IsPortedCell c
  pub tree : Tree
  pub symbols : List Symbol
  pub spells : Spells Expression symbols tree
  pub shallow : depth spells ≤ 64
  pub named : HaveNoFault (other_fault (cell_inputs c ++ c.ports.output ∷ [])) tree
  pub reads : (rest : List ℕ) → symbols_of (verilog_text (cell_netlist c) ++ rest)
      ≡ cell_symbols c symbols (symbols_of rest)
  pub value : (v : ℕ) → tree_value (named_value (cell_signals c) v) tree ≡ sum_value v c.cell.sum

module _ (c : PortedCell) (is : IsPortedCell c) where
  abbrev signals : List Signal
  signals = cell_signals c

  abbrev last : List ℕ
  last = c.ports.output

  abbrev place : ℕ
  place = length (cell_inputs c)

  abbrev gate : Gate
  gate = SumGate c.cell.sum

  readable : IsReadable (cell_netlist c)
  readable = cell_readable c is

  within : place < length signals
  within = let count = signal_count (cell_inputs c) last in omega arith

  spelled : SpelledGate signals (gate_text signals (name_of signals place) gate)
  spelled = gate_spelled signals readable.named place gate within readable.there.0

  assigned : List Assign
  assigned = record { name = last; tree = spelled.tree } ∷ []

  abbrev line_symbols : List Symbol
  line_symbols = Word (codes "assign") ∷ Name last ∷ Mark 61 ∷ spelled.symbols ++ Mark 59 ∷ []

  one_line : assign_lines signals signals (gate ∷ []) ≡ assign_line signals last gate ++ []
  one_line = ap (λ (xs : List Signal). flat_map (λ p. assign_line signals p.0.name p.1) (zip xs (gate ∷ [])))
      (driven_is_last (cell_inputs c) last)

  lines_read : Reads (assign_lines signals signals (gate ∷ [])) line_symbols
  lines_read = λ rest.
      ap (λ (t : List ℕ). symbols_of (t ++ rest)) (one_line ∙ append-nil (assign_line signals last gate))
      ∙ line_read signals last gate spelled.symbols (port_writable last (output_is c is)) spelled.reads rest

  abbrev written : List Symbol
  written = module_symbols (framed c.cell.name [] signals assigned) line_symbols

  text_read : Reads (verilog_text (cell_netlist c)) written
  unfolding verilog_text
  text_read = part_read c.cell.name [] signals readable.model tt readable.writable
      (assign_lines signals signals (gate ∷ [])) line_symbols assigned lines_read

  abbrev with_parts : List Port → List (List ℕ) → List Symbol → List Symbol
  with_parts ports wires ys = Word (codes "module") ∷ Name c.cell.name ∷ Mark 40
      ∷ ((join_by port_symbols (Mark 44 ∷ []) ports ++ (Mark 41 ∷ Mark 59 ∷ flat_map wire_symbols wires
      ++ (line_symbols ++ Word (codes "endmodule") ∷ []))) ++ ys)

  ports_are : ports_of signals ≡ map InputPort (cell_inputs c) ++ map OutputPort (last ∷ [])
  ports_are = λ i.
      map InputPort (inputs_back (cell_inputs c) last i) ++ map OutputPort (output_back (cell_inputs c) last i)

  regrouped : (p e ys : List Symbol)
      → (p ++ (Mark 41 ∷ Mark 59 ∷ (Word (codes "assign") ∷ Name last ∷ Mark 61 ∷ e ++ Mark 59 ∷ [])
      ++ Word (codes "endmodule") ∷ [])) ++ ys ≡ (p ++ (Mark 41 ∷ Mark 59 ∷ [])) ++ cell_body c e ys
  regrouped p e ys = simp append_assoc

  whole_read : (rest : List ℕ) → symbols_of (verilog_text (cell_netlist c) ++ rest)
      ≡ cell_symbols c spelled.symbols (symbols_of rest)
  whole_read rest =
      text_read rest
      ∙ (λ i. with_parts (ports_are i) (no_wires (cell_inputs c) last i) (symbols_of rest))
      ∙ ap (λ (t : List Symbol). Word (codes "module") ∷ Name c.cell.name ∷ Mark 40 ∷ t)
      (regrouped (port_list c) spelled.symbols (symbols_of rest))

  value_is : (v : ℕ) → tree_value (named_value signals v) spelled.tree ≡ sum_value v c.cell.sum
  value_is v =
      let said = says_gate signals readable.named place gate within readable.there.0 in
      let same = one_list (gate_text signals (name_of signals place) gate) spelled.symbols said.symbols spelled.reads
      said.reads in
      let tree = one_tree said.symbols spelled.tree said.tree
      (subst (λ (xs : List Symbol). Spells Expression xs spelled.tree) same spelled.spells) said.spells in
      ap (tree_value (named_value signals v)) tree ∙ said.values v

  pub cell_spelled : SpelledCell c
  cell_spelled = record {
    good = is;
    tree = spelled.tree;
    symbols = spelled.symbols;
    spells = spelled.spells;
    shallow = spelled.shallow;
    named = ports_alone signals (cell_inputs c ++ last ∷ []) (names_back (cell_inputs c) last) spelled.tree
        spelled.named;
    reads = whole_read;
    value = value_is;
  }
