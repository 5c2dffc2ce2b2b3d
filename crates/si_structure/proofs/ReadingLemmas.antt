-- What the parts of a structural text are read as.
use Rattle.std.proofs.Common.{◌≡◌, ℕ, List, [], ◌∷◌, ◌++◌, flat_map, map, refl, sym, ap, ◌∙◌, append_assoc, codes}
use Rattle.std.specs.List.{AllByRecursion, join_by}
use Rattle.std.proofs.lemmas.Grind.{flat_map-append}
use Rattle.std.proofs.lemmas.List.{append-nil}
use Rattle.si_base.specs.declared.graph.Signal.{Signal}
use Rattle.si_base.specs.declared.graph.SigKind.TheVariants.{Input, Output, Internal, Inserted}
use Rattle.si_base.specs.NetlistText.{names_of}
use Rattle.si_verilog.specs.Keywords.{keywords, is_keyword}
use Rattle.si_verilog.specs.Symbols.{Symbol, Name, Word, Mark, symbols_of}
use Rattle.si_verilog.specs.Grammar.{Port, InputPort, OutputPort, Assign, Module, port_symbols, wire_symbols}
use Rattle.si_verilog.specs.Grammar.{module_symbols}
use Rattle.si_verilog.specs.ModuleText.{verilog_name, port_text, ports_text, wire_line, ports_of, wires_of}
use Rattle.si_verilog.proofs.NameLemmas.{IsWritable}
use Rattle.si_verilog.proofs.SymbolLemmas.{Reads, ReadsBefore, both_read, read_then, parted_read, parted_then}
use Rattle.si_verilog.proofs.SymbolLemmas.{module_read, opening_read, closing_read, header_end_read, input_read}
use Rattle.si_verilog.proofs.SymbolLemmas.{output_read, wire_read, comma_read, line_end_read, semicolon_read}
use Rattle.si_verilog.proofs.SymbolLemmas.{written_read}
use Rattle.si_verilog.proofs.NetlistLemmas.{Writable, kind_writable, all_append}
use Rattle.si_structure.specs.Parts.{Connection, Placement, connection_symbols, placement_symbols}
use Rattle.si_structure.specs.StructureText.{connection_text, head_text, placement_line}

-- ---- ports

abbrev pub HasWritable : Port → Type 0
HasWritable (InputPort name) = IsWritable name
HasWritable (OutputPort name) = IsWritable name

port_read : (p : Port) → HasWritable p → ReadsBefore (port_text p) (port_symbols p)
port_read (InputPort name) writable = read_then (codes "  input ") (verilog_name name) (Word (codes "input") ∷ [])
    (Name name ∷ []) input_read (written_read name writable)
port_read (OutputPort name) writable = read_then (codes "  output ") (verilog_name name) (Word (codes "output") ∷ [])
    (Name name ∷ []) output_read (written_read name writable)

more_ports_read : (text : List ℕ) (symbols : List Symbol) (ps : List Port) → AllByRecursion HasWritable ps
    → ReadsBefore text symbols
    → ReadsBefore (text ++ flat_map (λ p. codes ",\n" ++ port_text p) ps)
    (symbols ++ flat_map (λ p. (Mark 44 ∷ []) ++ port_symbols p) ps)
more_ports_read text symbols [] writable reads = λ rest ends.
    ap (λ (t : List ℕ). symbols_of (t ++ rest)) (append-nil text) ∙ reads rest ends
    ∙ ap (λ (s : List Symbol). s ++ symbols_of rest) (sym (append-nil symbols))
more_ports_read text symbols (p ∷ ps) writable reads =
    let last = codes ",\n" ++ port_text p in
    let mark : List Symbol = Mark 44 ∷ [] in
    let longer = more_ports_read (text ++ last) (symbols ++ (mark ++ port_symbols p)) ps writable.1
    (parted_then text last symbols (mark ++ port_symbols p) reads (λ more. refl)
    (read_then (codes ",\n") (port_text p) mark (port_symbols p) comma_read (port_read p writable.0))) in
    λ rest ends.
    ap (λ (t : List ℕ). symbols_of (t ++ rest))
    (sym (append_assoc text last (flat_map (λ q. codes ",\n" ++ port_text q) ps)))
    ∙ longer rest ends
    ∙ ap (λ (s : List Symbol). s ++ symbols_of rest)
    (append_assoc symbols (mark ++ port_symbols p) (flat_map (λ q. mark ++ port_symbols q) ps))

ports_read : (ports : List Port) → AllByRecursion HasWritable ports
    → Reads (ports_text ports) (join_by port_symbols (Mark 44 ∷ []) ports)
ports_read [] writable = λ rest. refl
ports_read (p ∷ ps) writable =
    let lines = join_by port_text (codes ",\n") (p ∷ ps) in
    let symbols : List Symbol = join_by port_symbols (Mark 44 ∷ []) (p ∷ ps) in
    let all : ReadsBefore lines symbols =
    more_ports_read (port_text p) (port_symbols p) ps writable.1 (port_read p writable.0) in
    let begun : ReadsBefore (codes "\n" ++ lines) ([] ++ symbols) =
    read_then (codes "\n") lines [] symbols line_end_read all in
    let whole : Reads (codes "\n" ++ lines ++ codes "\n") (symbols ++ []) =
    parted_read (codes "\n" ++ lines) (codes "\n") symbols [] begun (λ more. refl) line_end_read in
    λ rest. whole rest ∙ ap (λ (s : List Symbol). s ++ symbols_of rest) (append-nil symbols)

input_ports : (names : List (List ℕ)) → AllByRecursion IsWritable names
    → AllByRecursion HasWritable (map InputPort names)
input_ports [] all = tt
input_ports (n ∷ names) all = (all.0, input_ports names all.1)

output_ports : (names : List (List ℕ)) → AllByRecursion IsWritable names
    → AllByRecursion HasWritable (map OutputPort names)
output_ports [] all = tt
output_ports (n ∷ names) all = (all.0, output_ports names all.1)

ports_writable : (signals : List Signal) → AllByRecursion Writable signals
    → AllByRecursion HasWritable (ports_of signals)
ports_writable signals all = all_append HasWritable (map InputPort (names_of Input signals))
    (map OutputPort (names_of Output signals)) (input_ports (names_of Input signals) (kind_writable Input signals all))
    (output_ports (names_of Output signals) (kind_writable Output signals all))

-- ---- wires

wire_line_read : (name : List ℕ) → IsWritable name → Reads (wire_line name) (wire_symbols name)
wire_line_read name writable =
    let word : List Symbol = Word (codes "wire") ∷ [] in
    let symbols : List Symbol = word ++ Name name ∷ [] in
    parted_read (codes "  wire " ++ verilog_name name) (codes ";\n") symbols (Mark 59 ∷ [])
    (read_then (codes "  wire ") (verilog_name name) word (Name name ∷ []) wire_read (written_read name writable))
    (λ more. refl) semicolon_read

wires_read : (names : List (List ℕ)) → AllByRecursion IsWritable names
    → Reads (flat_map wire_line names) (flat_map wire_symbols names)
wires_read [] all = λ rest. refl
wires_read (n ∷ names) all = both_read (wire_line n) (flat_map wire_line names) (wire_symbols n)
    (flat_map wire_symbols names) (wire_line_read n all.0) (wires_read names all.1)

wires_writable : (signals : List Signal) → AllByRecursion Writable signals
    → AllByRecursion IsWritable (wires_of signals)
wires_writable signals all = all_append IsWritable (names_of Internal signals) (names_of Inserted signals)
    (kind_writable Internal signals all) (kind_writable Inserted signals all)

-- ---- the head and the end of a module

end_line_read : Reads (codes "endmodule\n") (Word (codes "endmodule") ∷ [])
unfolding symbols_of is_keyword keywords
end_line_read = λ rest. refl

grouped : (w n o p c s a e : List Symbol) → ((((((w ++ n) ++ o) ++ p) ++ c) ++ s) ++ a) ++ e
    ≡ w ++ (n ++ (o ++ (p ++ (c ++ (s ++ (a ++ e))))))
grouped w n o p c s a e = simp append_assoc

-- a module of this name, with the ports and wires of these signals, and other ports in front
abbrev pub framed : List ℕ → List Port → List Signal → List Assign → Module
framed name front signals assigns = record {
  name = name;
  ports = front ++ ports_of signals;
  wires = wires_of signals;
  assigns = assigns;
}

module _ (name : List ℕ) (front : List Port) (signals : List Signal) (named : IsWritable name)
    (before : AllByRecursion HasWritable front) (all : AllByRecursion Writable signals) where
  ports : List Port
  ports = front ++ ports_of signals

  ports_can : AllByRecursion HasWritable ports
  unfolding ports
  ports_can = all_append HasWritable front (ports_of signals) before (ports_writable signals all)

  module_word : List Symbol
  module_word = Word (codes "module") ∷ []

  model : List Symbol
  model = Name name ∷ []

  opens : List Symbol
  opens = Mark 40 ∷ []

  port_list : List Symbol
  port_list = join_by port_symbols (Mark 44 ∷ []) (front ++ ports_of signals)

  closes : List Symbol
  closes = Mark 41 ∷ Mark 59 ∷ []

  wire_list : List Symbol
  wire_list = flat_map wire_symbols (wires_of signals)

  head_symbols : List Symbol
  head_symbols = ((((module_word ++ model) ++ opens) ++ port_list) ++ closes) ++ wire_list

  head_read : Reads (head_text name front signals) head_symbols
  unfolding head_symbols module_word model opens port_list closes wire_list ports
  head_read =
      let begun : ReadsBefore (codes "module " ++ verilog_name name) (module_word ++ model) =
      read_then (codes "module ") (verilog_name name) module_word model module_read (written_read name named) in
      let opened = parted_read (codes "module " ++ verilog_name name) (codes "(") (module_word ++ model) opens begun
      (λ more. refl) opening_read in
      let listed = both_read (codes "module " ++ verilog_name name ++ codes "(") (ports_text ports)
      ((module_word ++ model) ++ opens) port_list opened (ports_read ports ports_can) in
      let closed = both_read (codes "module " ++ verilog_name name ++ codes "(" ++ ports_text ports)
      (codes ");\n") (((module_word ++ model) ++ opens) ++ port_list) closes listed header_end_read in
      both_read (codes "module " ++ verilog_name name ++ codes "(" ++ ports_text ports ++ codes ");\n")
      (flat_map wire_line (wires_of signals)) ((((module_word ++ model) ++ opens) ++ port_list) ++ closes) wire_list
      closed
      (wires_read (wires_of signals) (wires_writable signals all))

  -- what stands between the head and the end is read in its place
  pub part_read : (body : List ℕ) (symbols : List Symbol) (assigns : List Assign) → Reads body symbols
      → Reads (head_text name front signals ++ body ++ codes "endmodule\n")
      (module_symbols (framed name front signals assigns) symbols)
  unfolding head_symbols module_word model opens port_list closes wire_list
  part_read body symbols assigns reads = λ rest.
      both_read (head_text name front signals ++ body) (codes "endmodule\n") (head_symbols ++ symbols)
      (Word (codes "endmodule") ∷ [])
      (both_read (head_text name front signals) body head_symbols symbols head_read reads)
      end_line_read rest
      ∙ ap (λ (s : List Symbol). s ++ symbols_of rest)
      (grouped module_word model opens port_list closes wire_list symbols (Word (codes "endmodule") ∷ []))

-- ---- more wires behind those of the signals

-- the same module with these wires too
abbrev pub framed_with : List ℕ → List Port → List Signal → List (List ℕ) → List Assign → Module
framed_with name front signals wires assigns = record {
  name = name;
  ports = front ++ ports_of signals;
  wires = wires_of signals ++ wires;
  assigns = assigns;
}

wires_apart : (w v s e : List Symbol) → w ++ ((v ++ s) ++ e) ≡ (w ++ v) ++ (s ++ e)
wires_apart w v s e = simp append_assoc

texts_apart : (h w b e : List ℕ) → (h ++ (w ++ b)) ++ e ≡ ((h ++ w) ++ b) ++ e
texts_apart h w b e = simp append_assoc

pub wider_part_read : (name : List ℕ) (front : List Port) (signals : List Signal) (wires : List (List ℕ))
    → IsWritable name → AllByRecursion HasWritable front → AllByRecursion Writable signals
    → AllByRecursion IsWritable wires → (body : List ℕ) (symbols : List Symbol) (assigns : List Assign)
    → Reads body symbols
    → Reads (head_text name front signals ++ flat_map wire_line wires ++ body ++ codes "endmodule\n")
    (module_symbols (framed_with name front signals wires assigns) symbols)
wider_part_read name front signals wires named before all writable body symbols assigns reads = λ rest.
    let lines = flat_map wire_line wires in
    let marks = flat_map wire_symbols wires in
    let first : List Symbol = Word (codes "module") ∷ Name name ∷ Mark 40 ∷ [] in
    let ports : List Symbol = join_by port_symbols (Mark 44 ∷ []) (front ++ ports_of signals) in
    let closes : List Symbol = Mark 41 ∷ Mark 59 ∷ [] in
    let end : List Symbol = Word (codes "endmodule") ∷ [] in
    let own = flat_map wire_symbols (wires_of signals) in
    ap (λ (t : List ℕ). symbols_of (t ++ rest))
    (sym (texts_apart (head_text name front signals) lines body (codes "endmodule\n")))
    ∙ part_read name front signals named before all (lines ++ body) (marks ++ symbols) assigns
    (both_read lines body marks symbols (wires_read wires writable) reads) rest
    ∙ ap (λ (t : List Symbol). (first ++ (ports ++ (closes ++ t))) ++ symbols_of rest)
    (wires_apart own marks symbols end
    ∙ ap (λ (w : List Symbol). w ++ (symbols ++ end))
    (sym (flat_map-append wire_symbols (wires_of signals) wires)))

-- ---- instances

pub record CanConnect (c : Connection) : Type 0 where
  pub port : IsWritable c.port
  pub net : IsWritable c.net

pub record CanPlace (p : Placement) : Type 0 where
  pub cell : IsWritable p.cell
  pub name : IsWritable p.name
  pub connections : AllByRecursion CanConnect p.connections

dot_read : Reads (codes ".") (Mark 46 ∷ [])
unfolding symbols_of
dot_read = λ rest. refl

gap_read : Reads (codes "  ") []
unfolding symbols_of
gap_read = λ rest. refl

blank_read : Reads (codes " ") []
unfolding symbols_of
blank_read = λ rest. refl

comma_blank_read : Reads (codes ", ") (Mark 44 ∷ [])
unfolding symbols_of
comma_blank_read = λ rest. refl

connection_read : (c : Connection) → CanConnect c → Reads (connection_text c) (connection_symbols c)
connection_read c can =
    let port = verilog_name c.port in
    let net = verilog_name c.net in
    let dotted : ReadsBefore (codes "." ++ port) ((Mark 46 ∷ []) ++ Name c.port ∷ []) =
    read_then (codes ".") port (Mark 46 ∷ []) (Name c.port ∷ []) dot_read (written_read c.port can.port) in
    let opened : Reads (codes "." ++ port ++ codes "(") (((Mark 46 ∷ []) ++ Name c.port ∷ []) ++ Mark 40 ∷ []) =
    parted_read (codes "." ++ port) (codes "(") ((Mark 46 ∷ []) ++ Name c.port ∷ []) (Mark 40 ∷ []) dotted
    (λ more. refl) opening_read in
    let named : ReadsBefore (codes "." ++ port ++ codes "(" ++ net)
    ((((Mark 46 ∷ []) ++ Name c.port ∷ []) ++ Mark 40 ∷ []) ++ Name c.net ∷ []) =
    read_then (codes "." ++ port ++ codes "(") net (((Mark 46 ∷ []) ++ Name c.port ∷ []) ++ Mark 40 ∷ [])
    (Name c.net ∷ []) opened (written_read c.net can.net) in
    parted_read (codes "." ++ port ++ codes "(" ++ net) (codes ")")
    ((((Mark 46 ∷ []) ++ Name c.port ∷ []) ++ Mark 40 ∷ []) ++ Name c.net ∷ []) (Mark 41 ∷ []) named
    (λ more. refl) closing_read

more_connections_read : (cs : List Connection) → AllByRecursion CanConnect cs
    → Reads (flat_map (λ c. codes ", " ++ connection_text c) cs)
    (flat_map (λ c. (Mark 44 ∷ []) ++ connection_symbols c) cs)
more_connections_read [] all = λ rest. refl
more_connections_read (c ∷ cs) all = both_read (codes ", " ++ connection_text c)
    (flat_map (λ d. codes ", " ++ connection_text d) cs) ((Mark 44 ∷ []) ++ connection_symbols c)
    (flat_map (λ d. (Mark 44 ∷ []) ++ connection_symbols d) cs)
    (both_read (codes ", ") (connection_text c) (Mark 44 ∷ []) (connection_symbols c) comma_blank_read
    (connection_read c all.0)) (more_connections_read cs all.1)

connections_read : (cs : List Connection) → AllByRecursion CanConnect cs
    → Reads (join_by connection_text (codes ", ") cs) (join_by connection_symbols (Mark 44 ∷ []) cs)
connections_read [] all = λ rest. refl
connections_read (c ∷ cs) all = both_read (connection_text c) (flat_map (λ d. codes ", " ++ connection_text d) cs)
    (connection_symbols c) (flat_map (λ d. (Mark 44 ∷ []) ++ connection_symbols d) cs) (connection_read c all.0)
    (more_connections_read cs all.1)

five_parts : (a b c d e : List Symbol) → (((a ++ b) ++ c) ++ d) ++ e ≡ a ++ (b ++ (c ++ (d ++ e)))
five_parts a b c d e = simp append_assoc

placement_read : (p : Placement) → CanPlace p → Reads (placement_line p) (placement_symbols p)
placement_read p can =
    let cell = verilog_name p.cell in
    let name = verilog_name p.name in
    let first : List Symbol = Name p.cell ∷ [] in
    let second : List Symbol = Name p.name ∷ [] in
    let opens : List Symbol = Mark 40 ∷ [] in
    let inner : List Symbol = join_by connection_symbols (Mark 44 ∷ []) p.connections in
    let closes : List Symbol = Mark 41 ∷ Mark 59 ∷ [] in
    let lines = join_by connection_text (codes ", ") p.connections in
    let begun : ReadsBefore (codes "  " ++ cell) ([] ++ first) =
    read_then (codes "  ") cell [] first gap_read (written_read p.cell can.cell) in
    let parted : Reads (codes "  " ++ cell ++ codes " ") (first ++ []) =
    parted_read (codes "  " ++ cell) (codes " ") first [] begun (λ more. refl) blank_read in
    let named : ReadsBefore (codes "  " ++ cell ++ codes " " ++ name) ((first ++ []) ++ second) =
    read_then (codes "  " ++ cell ++ codes " ") name (first ++ []) second parted (written_read p.name can.name) in
    let opened : Reads (codes "  " ++ cell ++ codes " " ++ name ++ codes "(") (((first ++ []) ++ second) ++ opens) =
    parted_read (codes "  " ++ cell ++ codes " " ++ name) (codes "(") ((first ++ []) ++ second) opens named
    (λ more. refl) opening_read in
    let listed = both_read (codes "  " ++ cell ++ codes " " ++ name ++ codes "(") lines
    (((first ++ []) ++ second) ++ opens) inner opened (connections_read p.connections can.connections) in
    let whole = both_read (codes "  " ++ cell ++ codes " " ++ name ++ codes "(" ++ lines) (codes ");\n")
    ((((first ++ []) ++ second) ++ opens) ++ inner) closes listed header_end_read in
    λ rest. whole rest
    ∙ ap (λ (s : List Symbol). s ++ symbols_of rest) (five_parts (first ++ []) second opens inner closes)

pub placements_read : (ps : List Placement) → AllByRecursion CanPlace ps
    → Reads (flat_map placement_line ps) (flat_map placement_symbols ps)
placements_read [] all = λ rest. refl
placements_read (p ∷ ps) all = both_read (placement_line p) (flat_map placement_line ps) (placement_symbols p)
    (flat_map placement_symbols ps) (placement_read p all.0) (placements_read ps all.1)
