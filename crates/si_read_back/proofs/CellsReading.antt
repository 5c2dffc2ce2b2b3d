-- The modules of cells are read one after another, and a cell is found by its name.
use Rattle.std.proofs.Common.{◌≡◌, ℕ, suc, ◌+◌, ◌≤◌, Bool, false, List, [], ◌∷◌, ◌++◌, length, map, flat_map}
use Rattle.std.proofs.Common.{bytes_eq, Some, Ok, codes, if◌then◌else◌, refl, sym, ap, subst, ◌∙◌, append_assoc}
use Rattle.std.proofs.Common.{arith, length-append, inl, inr}
use Rattle.std.specs.List.{AllByRecursion, list_all}
use Rattle.std.proofs.lemmas.Bool.{and_parts, cases_Bool, not-true}
use Rattle.std.proofs.lemmas.List.{append-nil, map-append}
use Rattle.std.proofs.lemmas.List.Recursion.{is_count_by}
use Rattle.si_cell.specs.Limits.{max_cells}
use Rattle.si_tokens.specs.Unread.{◌>>=◌}
use Rattle.si_equations.proofs.NewLemmas.{AreNew}
use Rattle.si_verilog.specs.ModuleText.{verilog_text}
use Rattle.si_verilog.specs.Symbols.{Symbol, Name, Word, Mark, symbols_of}
use Rattle.si_verilog_reader.specs.Placed.{Placed}
use Rattle.si_verilog_reader.specs.Parts.{Reading, same_symbol}
use Rattle.si_verilog_reader.specs.Modules.{Cell, begins_module, cell_named, cells_at, modules}
use Rattle.si_verilog_reader.proofs.CountLemmas.{AreOther, is_other}
use Rattle.si_verilog_reader.proofs.ExpressionLemmas.{Has}
use Rattle.si_structure.specs.StructureText.{PortedCell, cell_named as ported_named, cell_netlist}
use Rattle.si_read_back.specs.Laws.{IsSmall}
use Rattle.si_read_back.proofs.SymbolParts.{Leaves}
use Rattle.si_read_back.proofs.CellSpelling.{SpelledCell, cell_body, cell_ports, cell_symbols}
use Rattle.si_read_back.proofs.CellReading.{before_others, cell_read, in_cell, inner, made}

abbrev pub AreSpelled : List PortedCell → Type 0
AreSpelled cs = AllByRecursion SpelledCell cs

-- their symbols, before others
abbrev pub all_symbols : (cs : List PortedCell) → AreSpelled cs → List Symbol → List Symbol
all_symbols [] all ys = ys
all_symbols (c ∷ cs) all ys = cell_symbols c all.0.symbols (all_symbols cs all.1 ys)

-- and what they are read as
abbrev pub all_made : (cs : List PortedCell) → AreSpelled cs → List Cell
all_made [] all = []
all_made (c ∷ cs) all = made c all.0 ∷ all_made cs all.1

abbrev pub cell_texts : List PortedCell → List ℕ
cell_texts cs = flat_map (λ c. verilog_text (cell_netlist c)) cs

pub texts_read : (cs : List PortedCell) (all : AreSpelled cs) (rest : List ℕ)
    → symbols_of (cell_texts cs ++ rest) ≡ all_symbols cs all (symbols_of rest)
texts_read [] all rest = refl
texts_read (c ∷ cs) all rest =
    ap symbols_of (append_assoc (verilog_text (cell_netlist c)) (cell_texts cs) rest)
    ∙ all.0.reads (cell_texts cs ++ rest)
    ∙ ap (cell_symbols c all.0.symbols) (texts_read cs all.1 rest)

-- ---- how many modules there are

abbrev begins : Symbol → Bool
begins x = same_symbol (Word (codes "module")) x

abbrev pub count : List Symbol → ℕ
count [] = 0
count (x ∷ xs) = if begins x then 1 + count xs else count xs

pub modules_counted : (ps : List Placed) → modules ps ≡ count (map (λ (p : Placed). p.symbol) ps)
modules_counted ps = sym (is_count_by (λ (qs : List Placed). count (map (λ (p : Placed). p.symbol) qs)) begins_module
    refl (λ p qs. refl) ps)

pub others_counted : (xs ys : List Symbol) → AreOther xs → count (xs ++ ys) ≡ count ys
others_counted [] ys other = refl
others_counted (x ∷ xs) ys other =
    let parts = and_parts (is_other x) (list_all is_other xs) other in
    let none : begins x ≡ false = not-true (begins x) parts.0 in
    ap (λ (b : Bool). if b then 1 + count (xs ++ ys) else count (xs ++ ys)) none ∙ others_counted xs ys parts.1

pub cells_counted : (cs : List PortedCell) (all : AreSpelled cs) (ys : List Symbol)
    → count (all_symbols cs all ys) ≡ length cs + count ys
cells_counted [] all ys = let same : count ys ≡ 0 + count ys = omega arith in same
cells_counted (c ∷ cs) all ys =
    let rest = all_symbols cs all.1 ys in
    let body = cell_ports c ++ cell_body c all.0.symbols rest in
    let first : count (Word (codes "module") ∷ Name c.cell.name ∷ Mark 40 ∷ body) ≡ 1 + count body = refl in
    let own = ap count (before_others c all.0 rest) ∙ others_counted (inner c all.0) rest (in_cell c all.0) in
    let later = cells_counted cs all.1 ys in
    let total : 1 + count body ≡ suc (length cs) + count ys = omega (arith, own, later) in
    first ∙ total

-- ---- reading

begins_so : (cs : List PortedCell) (all : AreSpelled cs) (zs : List Symbol)
    → (ws : List Symbol) × (all_symbols cs all (Word (codes "module") ∷ zs) ≡ Word (codes "module") ∷ ws)
begins_so [] all zs = (zs, refl)
begins_so (c ∷ cs) all zs = (
  Name c.cell.name ∷ Mark 40 ∷ (cell_ports c
      ++ cell_body c all.0.symbols (all_symbols cs all.1 (Word (codes "module") ∷ zs))),
  refl,
)

abbrev cell_names : List Cell → List (List ℕ)
cell_names cells = map (λ c. c.name) cells

pub cells_read : (cs : List PortedCell) (all : AreSpelled cs) (old : List Cell) (zs : List Symbol) (ps : List Placed)
    → AreNew (cell_names old) (map (λ (c : PortedCell). c.cell.name) cs) → length old + length cs ≤ max_cells
    → AllByRecursion IsSmall cs → Has (all_symbols cs all (Word (codes "module") ∷ zs)) ps
    → Leaves (cells_at (length cs) old ps) (old ++ all_made cs all) (Word (codes "module") ∷ zs)
cells_read [] all old zs ps new few small has =
    record { rest = ps; is = ap (λ (l : List Cell). Ok (l, ps)) (sym (append-nil old)); has = has }
cells_read (c ∷ cs) all old zs ps new few small has =
    let next = begins_so cs all.1 zs in
    let here = made c all.0 in
    let one = cell_read old c all.0 next.0 ps new.0 (omega (arith, few)) small.0
    (has ∙ ap (cell_symbols c all.0.symbols) next.1) in
    let names = map-append (λ (d : Cell). d.name) old (here ∷ []) in
    let fresh : AreNew (cell_names (old ++ here ∷ [])) (map (λ (d : PortedCell). d.cell.name) cs) =
    subst (λ (l : List (List ℕ)). AreNew l (map (λ (d : PortedCell). d.cell.name) cs)) (sym names) new.1 in
    let later = cells_read cs all.1 (old ++ here ∷ []) zs one.rest fresh
    (omega (arith, few, length-append old (here ∷ []))) small.1 (one.has ∙ sym next.1) in
    record {
      rest = later.rest;
      is = ap (λ (r : Reading Cell). r >>= λ cell. cells_at (length cs) (old ++ cell.0 ∷ []) cell.1) one.is
          ∙ later.is
          ∙ ap (λ (l : List Cell). Ok (l, later.rest)) (append_assoc old (here ∷ []) (all_made cs all.1));
      has = later.has;
    }

-- ---- by their names

-- the cell of the name is what the module of the cell is read as
pub record IsFound (cells : List Cell) (name : List ℕ) (c : PortedCell) : Type 0 where
  pub spelled : SpelledCell c
  pub is : (line : ℕ) → cell_named line cells name ≡ Ok (made c spelled)

pub made_found : (cs : List PortedCell) (all : AreSpelled cs) (name : List ℕ) (c : PortedCell)
    → ported_named cs name ≡ Some c → IsFound (all_made cs all) name c
made_found [] all name c found = absurd cc
made_found (d ∷ ds) all name c found = elim (cases_Bool (bytes_eq d.cell.name name)) [
  | inl is ↦ (
      let here = rw is at found in
      let same : d ≡ c = cc in
      subst (λ (e : PortedCell). IsFound (all_made (d ∷ ds) all) name e) same
      (record { spelled = all.0; is = λ line. rw is refl }))
  | inr other ↦ (
      let later = made_found ds all.1 name c (rw other at found) in
      record { spelled = later.spelled; is = λ line. rw other (later.is line) })
]
