-- The module of a cell is read as the cell.
use Rattle.std.proofs.Common.{◌≡◌, ℕ, suc, ◌+◌, ◌<◌, ◌≤◌, Bool, true, false, List, [], ◌∷◌, ◌++◌, length, map}
use Rattle.std.proofs.Common.{nat_le, nat_lt, None, Ok, codes, if◌then◌else◌, refl, sym, ap, ◌∙◌, append_assoc, arith}
use Rattle.std.specs.List.{join_by, list_all}
use Rattle.std.proofs.lemmas.Bool.{and_from, and_parts, lt-leb}
use Rattle.std.proofs.lemmas.List.{append-nil, length-map}
use Rattle.si_base.specs.Faults.{when, ◌otherwise◌}
use Rattle.si_base.specs.declared.fault.TextKind.TheVariants.{Repeated, TooDeep, TooManyCells}
use Rattle.si_cell.specs.Limits.{max_cells}
use Rattle.si_words.specs.Names.{stands_in}
use Rattle.si_words.proofs.NameWords.{same_bytes}
use Rattle.si_genlib.specs.Expression.{Tree as Read}
use Rattle.si_verilog.specs.Grammar.{Tree, InputPort, OutputPort, port_symbols, Level, Spells, zero, one, named}
use Rattle.si_verilog.specs.Grammar.{grouped, as_factor, complemented, as_term, with_factor, as_expression, with_term}
use Rattle.si_verilog.specs.ModuleText.{verilog_text}
use Rattle.si_verilog.specs.Symbols.{Symbol, Name, Word, Mark, symbols_of}
use Rattle.si_verilog_reader.specs.Limits.{max_symbols}
use Rattle.si_verilog_reader.specs.Placed.{Placed}
use Rattle.si_verilog_reader.specs.Parts.{Named as NamedHere, due, name_at}
use Rattle.si_verilog_reader.specs.Expressions.{expression_at}
use Rattle.si_verilog_reader.specs.Modules.{Assign, Cell, Ports, all_ports, assign_at, cell_at, cell_fault, head_at}
use Rattle.si_verilog_reader.specs.Modules.{is_only}
use Rattle.si_verilog_reader.specs.Modules.{other_fault, port_fault, ports_at, size}
use Rattle.si_verilog_reader.proofs.CountLemmas.{AreOther, expression_other, is_other, other_joined, ports_other}
use Rattle.si_verilog_reader.proofs.HeadLemmas.{head_read, ports_read}
use Rattle.si_verilog_reader.proofs.ExpressionLemmas.{Has, expression_read, has_parts, tree_as}
use Rattle.si_structure.specs.StructureText.{PortedCell, cell_inputs, cell_netlist}
use Rattle.si_read_back.specs.Laws.{IsSmall}
use Rattle.si_read_back.proofs.SymbolParts.{Leaves, due_read, first, name_read}
use Rattle.si_read_back.proofs.CellSpelling.{SpelledCell, cell_body, cell_ports, cell_symbols}
use Rattle.si_read_back.proofs.NewNames.{cell_ports_good}

-- what it is read as
abbrev pub made : (c : PortedCell) → SpelledCell c → Cell
made c s = record {
  name = c.cell.name;
  ports = cell_inputs c ++ c.ports.output ∷ [];
  output = c.ports.output;
  tree = tree_as s.tree;
}

-- ---- no module begins inside one

size_is : (xs zs : List Symbol) (ps : List Placed) → AreOther xs
    → Has (xs ++ Word (codes "module") ∷ zs) ps → size ps ≡ length xs
size_is [] zs [] all has = absurd cc
size_is [] zs (p ∷ ps) all has =
    let here : p.symbol ≡ Word (codes "module") = cc in
    ap (λ (y : Symbol). if is_other y then 1 + size ps else 0) here
size_is (x ∷ xs) zs [] all has = absurd cc
size_is (x ∷ xs) zs (p ∷ ps) all has =
    let here : p.symbol ≡ x = cc in
    let parts = and_parts (is_other x) (list_all is_other xs) all in
    let later = size_is xs zs ps parts.1 cc in
    let count : 1 + size ps ≡ suc (length xs) = omega (arith, later) in
    ap (λ (y : Symbol). if is_other y then 1 + size ps else 0) here
    ∙ ap (λ (b : Bool). if b then 1 + size ps else 0) parts.0 ∙ count

between : (x : Symbol) (xs ys : List Symbol) → is_other x ≡ true → AreOther xs → AreOther ys → AreOther (xs ++ x ∷ ys)
between x xs ys mark former latter = other_joined xs (x ∷ ys) former (and_from _ _ mark latter)

-- what stands behind the first parenthesis of a cell's module
abbrev pub inner : (c : PortedCell) → SpelledCell c → List Symbol
inner c s = cell_ports c ++ cell_body c s.symbols []

pub in_cell : (c : PortedCell) (s : SpelledCell c) → AreOther (inner c s)
in_cell c s =
    let ports = map InputPort (cell_inputs c) ++ map OutputPort (c.ports.output ∷ []) in
    let listed = join_by port_symbols (Mark 44 ∷ []) ports in
    let end : List Symbol = Word (codes "endmodule") ∷ [] in
    let body : AreOther (cell_body c s.symbols []) =
    between (Mark 59) s.symbols end refl (expression_other s.spells) refl in
    other_joined (cell_ports c) (cell_body c s.symbols [])
    (other_joined listed (Mark 41 ∷ Mark 59 ∷ []) (ports_other ports) refl) body

regrouped : (p e ys : List Symbol) (last : List ℕ)
    → p ++ (Word (codes "assign") ∷ Name last ∷ Mark 61 ∷ (e ++ Mark 59 ∷ Word (codes "endmodule") ∷ ys))
    ≡ (p ++ (Word (codes "assign") ∷ Name last ∷ Mark 61 ∷ (e ++ Mark 59 ∷ Word (codes "endmodule") ∷ []))) ++ ys
regrouped p e ys last = simp append_assoc

pub before_others : (c : PortedCell) (s : SpelledCell c) (ys : List Symbol)
    → cell_ports c ++ cell_body c s.symbols ys ≡ inner c s ++ ys
before_others c s ys = regrouped (cell_ports c) s.symbols ys c.ports.output

symbols_none : symbols_of [] ≡ []
unfolding symbols_of
symbols_none = refl

small : (c : PortedCell) (s : SpelledCell c) → IsSmall c → length (inner c s) ≤ max_symbols
small c s few =
    let text = verilog_text (cell_netlist c) in
    let symbols : symbols_of text ≡ cell_symbols c s.symbols [] =
    ap symbols_of (sym (append-nil text)) ∙ s.reads [] ∙ ap (cell_symbols c s.symbols) symbols_none in
    let count = ap (λ (l : List Symbol). length l) symbols in
    omega (arith, few, count)

-- ---- reading

assign_by : (fault : _) (ps behind body rest : List Placed) (name : NamedHere) (tree : Read)
    → name_at ps ≡ Ok (name, behind) → due (Mark 61) behind ≡ Ok body → expression_at fault body ≡ Ok (tree, rest)
    → assign_at fault ps ≡ Ok (record { line = name.line; name = name.name; tree = tree }, rest)
unfolding assign_at
assign_by fault ps behind body rest name tree called equals spelled = rw (called, equals, spelled) refl

cell_by : (cells : List Cell) (ps behind after begun ended rest : List Placed) (head : NamedHere) (ports : Ports)
    (assign : Assign) → head_at ps ≡ Ok (head, behind)
    → cell_fault (map (λ (d : Cell). d.name) cells) head.name (size behind) ≡ None
    → ports_at port_fault behind ≡ Ok (ports, after) → due (Word (codes "assign")) after ≡ Ok begun
    → assign_at (other_fault (all_ports ports)) begun ≡ Ok (assign, ended)
    → is_only ports.outputs assign.name ≡ true → due (Word (codes "endmodule")) ended ≡ Ok rest
    → cell_at cells ps ≡ Ok (
      record {
        name = head.name;
        ports = all_ports ports;
        output = assign.name;
        tree = assign.tree;
      },
      rest,
    )
unfolding cell_at
cell_by cells ps behind after begun ended rest head ports assign called good listed word spelled only end =
    rw (called, good, listed, word, spelled, only, end) refl

pub cell_read : (cells : List Cell) (c : PortedCell) (s : SpelledCell c) (zs : List Symbol) (ps : List Placed)
    → stands_in (map (λ (d : Cell). d.name) cells) c.cell.name ≡ false → length cells < max_cells → IsSmall c
    → Has (cell_symbols c s.symbols (Word (codes "module") ∷ zs)) ps
    → Leaves (cell_at cells ps) (made c s) (Word (codes "module") ∷ zs)
cell_read cells c s zs ps fresh room few has =
    let ys : List Symbol = Word (codes "module") ∷ zs in
    let last = c.ports.output in
    let ports : Ports = record { inputs = cell_inputs c; outputs = last ∷ [] } in
    let fault = other_fault (all_ports ports) in
    let top : List Symbol = Word (codes "module") ∷ Name c.cell.name ∷ Mark 40 ∷ [] in
    let h = has_parts top (cell_ports c ++ cell_body c s.symbols ys) ps has in
    let head = head_read c.cell.name h.front h.first h.back in
    let count = size_is (inner c s) zs h.back (in_cell c s) (h.second ∙ before_others c s ys) in
    let low = small c s few in
    let names = length-map cells (λ (d : Cell). d.name) in
    let space : nat_le max_cells (length (map (λ (d : Cell). d.name) cells)) ≡ false =
    lt-leb max_cells (length (map (λ (d : Cell). d.name) cells)) (omega (arith, room, names)) in
    let brief : nat_lt max_symbols (size h.back) ≡ false =
    lt-leb (suc max_symbols) (size h.back) (omega (arith, low, count)) in
    let q = has_parts (cell_ports c) (cell_body c s.symbols ys) h.back h.second in
    let listed = ports_read port_fault (cell_inputs c) (last ∷ []) (cell_ports_good c s.good) q.front q.first q.back in
    let word = due_read (Word (codes "assign")) _ q.back q.second in
    let called = name_read last _ word.rest word.has in
    let equals = due_read (Mark 61) _ called.rest called.has in
    let e = has_parts s.symbols (Mark 59 ∷ Word (codes "endmodule") ∷ ys) equals.rest equals.has in
    let semicolon = first (Mark 59) (Word (codes "endmodule") ∷ ys) e.back e.second in
    let tree : expression_at fault equals.rest ≡ Ok (tree_as s.tree, semicolon.rest) =
    ap (expression_at fault) (e.whole ∙ ap (λ (qs : List Placed). e.front ++ qs) semicolon.is)
    ∙ expression_read fault s.symbols s.tree s.spells s.shallow s.named e.front e.first semicolon.line semicolon.rest in
    let end = due_read (Word (codes "endmodule")) ys semicolon.rest semicolon.has in
    let name : NamedHere = record { line = called.line; name = last } in
    record {
      rest = end.rest;
      is = cell_by cells ps h.back q.back word.rest semicolon.rest end.rest
          (record { line = head.0; name = c.cell.name }) ports
          (record { line = called.line; name = last; tree = tree_as s.tree }) (ap head_at h.whole ∙ head.1)
          (λ i. when (fresh i) Repeated otherwise when (space i) TooManyCells otherwise when (brief i) TooDeep)
          (ap (ports_at port_fault) q.whole ∙ listed) word.is
          (assign_by fault word.rest called.rest equals.rest semicolon.rest name (tree_as s.tree) called.is equals.is
          tree)
          (same_bytes last) end.is;
      has = end.has;
    }
