-- The items of a circuit: instances and the end.
use Rattle.std.proofs.Common.{◌≡◌, ℕ, ◌==◌, true, false, List, [], ◌∷◌, ◌++◌, length, map, flat_map, codes}
use Rattle.std.proofs.Common.{slice_get, Option, Some, None, Ok, refl, sym, ap, subst, ◌∙◌, append_assoc}
use Rattle.std.proofs.Common.{zero, suc, ◌<◌, arith}
use Rattle.std.specs.List.{AllByRecursion, join_by}
use Rattle.std.proofs.lemmas.List.{append-nil, map-append}
use Rattle.si_base.specs.Faults.{first_in}
use Rattle.si_base.specs.Limits.{max_signals}
use Rattle.si_base.specs.declared.fault.TextKind.{TextKind}
use Rattle.si_words.specs.Names.{name_fault}
use Rattle.si_genlib.specs.Expression.{Tree, value_of}
use Rattle.si_equations.specs.Equations.{Equation, Equations, driven, equation_fault, known, undeclared, with_equation}
use Rattle.si_equations.proofs.EquationLemmas.{longer}
use Rattle.si_equations.proofs.NewLemmas.{NoFaults}
use Rattle.si_verilog.specs.Symbols.{Symbol, Name, Word, Mark}
use Rattle.si_verilog_reader.specs.Placed.{Placed, on_line}
use Rattle.si_verilog_reader.specs.Parts.{Named, all_parts, if_good}
use Rattle.si_verilog_reader.specs.Modules.{Cell, Connection, Ports, cell_named, circuit_at, connected}
use Rattle.si_verilog_reader.specs.Modules.{connections_at, head_at, instance_behind, item_at, net_of, no_equations}
use Rattle.si_verilog_reader.specs.Modules.{ports_at, with_signal}
use Rattle.si_verilog_reader.proofs.ExpressionLemmas.{Has}
use Rattle.si_verilog_reader.proofs.PartLemmas.{one_more, last_part, fewer_item}
use Rattle.si_structure.specs.Parts.{Connection as Wired, Placement, connection_symbols, placement_symbols}
use Rattle.si_read_back.proofs.SymbolParts.{Leaves, first}
use Rattle.si_read_back.proofs.ConnectionLemmas.{CanBeRead, connections_read, read_as}

-- ---- the end

end_by : (cells : List Cell) (e : Equations) (a : ℕ) (rest : List Placed)
    → item_at cells e (on_line a (Word (codes "endmodule")) ∷ rest) ≡ Ok ((false, e), rest)
unfolding item_at
end_by cells e a rest = refl

pub end_read : (cells : List Cell) (e : Equations) (ys : List Symbol) (ps : List Placed)
    → Has (Word (codes "endmodule") ∷ ys) ps → Leaves (all_parts (item_at cells) e ps) e ys
end_read cells e ys ps has =
    let a = first (Word (codes "endmodule")) ys ps has in
    record {
      rest = a.rest;
      is = last_part (item_at cells) e e ps a.rest (ap (item_at cells e) a.is ∙ end_by cells e a.line a.rest);
      has = a.has;
    }

-- ---- instances

-- an instance, and the equation that it tells
pub record Item : Type 0 where
  pub name : List ℕ
  pub tree : Tree
  pub placement : Placement

abbrev pub item_symbols : Item → List Symbol
item_symbols q = placement_symbols q.placement

-- its cell is there, its connections can be read, and its output is the signal; its expression names these alone
pub record IsItem (cells : List Cell) (names : List (List ℕ)) (q : Item) : Type 0 where
  pub cell : Cell
  pub found : (line : ℕ) → cell_named line cells q.placement.cell ≡ Ok cell
  pub can : CanBeRead cell.ports [] q.placement.connections
  pub count : (length (read_as q.placement.connections) == length cell.ports) ≡ true
  pub some : 0 < length q.placement.connections
  pub net : net_of (read_as q.placement.connections) cell.output ≡ q.name
  pub tree : value_of (connected (read_as q.placement.connections)) cell.tree ≡ q.tree
  pub knows : value_of (known names) q.tree ≡ true

any_connections : (line : ℕ) (ports : List (List ℕ)) (name : List ℕ) (cs : List Wired) (ys : List Symbol)
    (ps : List Placed) → CanBeRead ports [] cs → (length (read_as cs) == length ports) ≡ true
    → 0 < length cs
    → Has (Name name ∷ Mark 40 ∷ (join_by connection_symbols (Mark 44 ∷ []) cs ++ (Mark 41 ∷ Mark 59 ∷ [])) ++ ys) ps
    → Leaves (connections_at line ports ps) (read_as cs) ys
any_connections line ports name [] ys ps can count some has = absurd (omega (arith, some))
any_connections line ports name (c ∷ cs) ys ps can count some has =
    connections_read line ports name c cs ys ps can count has

instance_by : (cells : List Cell) (e new : Equations) (line : ℕ) (name : List ℕ) (ps rest : List Placed) (cell : Cell)
    (cs : List Connection) → cell_named line cells name ≡ Ok cell → connections_at line cell.ports ps ≡ Ok (cs, rest)
    → with_signal e line (net_of cs cell.output) (value_of (connected cs) cell.tree) ≡ Ok new
    → item_at cells e (on_line line (Name name) ∷ ps) ≡ Ok ((true, new), rest)
unfolding item_at instance_behind
instance_by cells e new line name ps rest cell cs found read made = rw (found, read, made) refl

pub record ItemRead (cells : List Cell) (e : Equations) (q : Item) (ps : List Placed) (ys : List Symbol) : Type 0 where
  pub line : ℕ
  pub rest : List Placed
  pub is : item_at cells e ps ≡ Ok ((true, with_equation e line q.name q.tree), rest)
  pub has : Has ys rest

item_read : (cells : List Cell) (names : List (List ℕ)) (e : Equations) (q : Item) (ys : List Symbol) (ps : List Placed)
    → IsItem cells names q → equation_fault e.inputs e.outputs (driven e) q.name ≡ None
    → Has (item_symbols q ++ ys) ps → ItemRead cells e q ps ys
item_read cells names e q ys ps is none has =
    let p = q.placement in
    let cs = read_as p.connections in
    let a = first (Name p.cell) _ ps has in
    let all = any_connections a.line is.cell.ports p.name p.connections ys a.rest is.can is.count is.some a.has in
    let net = is.net in
    let tree = is.tree in
    let made : with_signal e a.line (net_of cs is.cell.output) (value_of (connected cs) is.cell.tree)
    ≡ Ok (with_equation e a.line q.name q.tree) =
    (λ i. with_signal e a.line (net i) (tree i))
    ∙ ap (λ (f : Option TextKind). if_good a.line f (with_equation e a.line q.name q.tree)) none in
    record {
      line = a.line;
      rest = all.rest;
      is = ap (item_at cells e) a.is
          ∙ instance_by cells e (with_equation e a.line q.name q.tree) a.line p.cell a.rest all.rest is.cell cs
          (is.found a.line) all.is made;
      has = all.has;
    }

-- ---- one instance after another

abbrev pub AreMade : List Item → List Equation → Type 0
AreMade [] [] = Unit {0}
AreMade (q ∷ qs) (e ∷ es) = (e.name ≡ q.name) × (e.tree ≡ q.tree) × AreMade qs es
AreMade _ _ = ⊥

pub record ItemsRead (cells : List Cell) (e : Equations) (items : List Item) (ps : List Placed) (ys : List Symbol)
    : Type 0 where
  pub list : List Equation
  pub made : AreMade items list
  pub rest : List Placed
  pub is : all_parts (item_at cells) e ps ≡ all_parts (item_at cells) (longer e list) rest
  pub has : Has ys rest

driven_more : (e : Equations) (line : ℕ) (name : List ℕ) (tree : Tree)
    → driven (with_equation e line name tree) ≡ driven e ++ name ∷ []
driven_more e line name tree = map-append (λ (q : Equation). q.name) e.equations
    (record { line = line; name = name; tree = tree } ∷ [])

pub items_read : (cells : List Cell) (names : List (List ℕ)) (e : Equations) (items : List Item) (ys : List Symbol)
    (ps : List Placed) → AllByRecursion (IsItem cells names) items
    → NoFaults e.inputs e.outputs (driven e) (map (λ q. q.name) items) → Has (flat_map item_symbols items ++ ys) ps
    → ItemsRead cells e items ps ys
items_read cells names e [] ys ps all good has = record {
  list = [];
  made = tt;
  rest = ps;
  is = ap (λ (es : List Equation). all_parts (item_at cells) (record {
    inputs = e.inputs;
    outputs = e.outputs;
    equations = es;
  }) ps) (sym (append-nil e.equations));
  has = has;
}
items_read cells names e (q ∷ qs) ys ps all good has =
    let one = item_read cells names e q (flat_map item_symbols qs ++ ys) ps all.0 good.0
    (has ∙ append_assoc (item_symbols q) (flat_map item_symbols qs) ys) in
    let new = with_equation e one.line q.name q.tree in
    let equation : Equation = record { line = one.line; name = q.name; tree = q.tree } in
    let still : NoFaults e.inputs e.outputs (driven new) (map (λ (r : Item). r.name) qs) =
    subst (λ (l : List (List ℕ)). NoFaults e.inputs e.outputs l (map (λ (r : Item). r.name) qs))
    (sym (driven_more e one.line q.name q.tree)) good.1 in
    let later = items_read cells names new qs ys one.rest all.1 still one.has in
    record {
      list = equation ∷ later.list;
      made = (refl, refl, later.made);
      rest = later.rest;
      is = one_more (item_at cells) (fewer_item cells) e new ps one.rest one.is ∙ later.is
          ∙ ap (λ (es : List Equation). all_parts (item_at cells) (record {
            inputs = e.inputs;
            outputs = e.outputs;
            equations = es;
          }) later.rest) (append_assoc e.equations (equation ∷ []) later.list);
      has = later.has;
    }

-- ---- the equations have what the items have

pub names_same : (items : List Item) (list : List Equation) → AreMade items list
    → map (λ (e : Equation). e.name) list ≡ map (λ (q : Item). q.name) items
names_same [] [] made = refl
names_same [] (e ∷ es) made = absurd made
names_same (q ∷ qs) [] made = absurd made
names_same (q ∷ qs) (e ∷ es) made =
    let here = made.0 in
    let rest = names_same qs es made.2 in
    λ i. here i ∷ rest i

pub all_known : (cells : List Cell) (names : List (List ℕ)) (items : List Item) (list : List Equation)
    → AreMade items list → AllByRecursion (IsItem cells names) items → first_in (undeclared names) list ≡ None
all_known cells names [] [] made all = refl
all_known cells names [] (e ∷ es) made all = absurd made
all_known cells names (q ∷ qs) [] made all = absurd made
all_known cells names (q ∷ qs) (e ∷ es) made all =
    let here : value_of (known names) e.tree ≡ true = ap (value_of (known names)) made.1 ∙ all.0.knows in
    rw here (all_known cells names qs es made.2 all.1)

pub record IsThere (list : List Equation) (k : ℕ) (q : Item) : Type 0 where
  pub equation : Equation
  pub at : slice_get list k ≡ Some equation
  pub named : equation.name ≡ q.name
  pub tree : equation.tree ≡ q.tree

pub there_back : (items : List Item) (list : List Equation) → AreMade items list → (k : ℕ) (q : Item)
    → slice_get items k ≡ Some q → IsThere list k q
there_back [] list made k q at = absurd cc
there_back (p ∷ ps) [] made k q at = absurd made
there_back (p ∷ ps) (e ∷ es) made zero q at =
    let is : p ≡ q = cc in
    record {
      equation = e;
      at = refl;
      named = made.0 ∙ ap (λ (x : Item). x.name) is;
      tree = made.1 ∙ ap (λ (x : Item). x.tree) is;
    }
there_back (p ∷ ps) (e ∷ es) made (suc k) q at =
    let later = there_back ps es made.2 k q at in
    record { equation = later.equation; at = later.at; named = later.named; tree = later.tree }

-- ---- the circuit

pub circuit_by : (cells : List Cell) (ps behind after rest : List Placed) (head : Named) (ports : Ports) (e : Equations)
    → head_at ps ≡ Ok (head, behind) → ports_at (name_fault max_signals) behind ≡ Ok (ports, after)
    → all_parts (item_at cells) (no_equations ports) after ≡ Ok (e, rest) → rest ≡ [] → circuit_at cells ps ≡ Ok e
unfolding circuit_at
circuit_by cells ps behind after rest head ports e called listed items none = rw (called, listed, items, none) refl
