-- Wires and assigns are read: each assign is an equation.
use Rattle.std.proofs.Common.{◌≡◌, ℕ, ◌<◌, ◌≤◌, not, true, false, List, [], ◌∷◌, ◌++◌, length, map, flat_map, codes}
use Rattle.std.proofs.Common.{append_assoc, slice_get, Option, Some, None, Ok, refl, sym, ap, subst, ◌∙◌, zero, suc}
use Rattle.std.specs.List.{AllByRecursion}
use Rattle.std.proofs.lemmas.List.{append-nil, map-append}
use Rattle.si_base.specs.declared.fault.TextKind.{TextKind}
use Rattle.si_base.specs.declared.fault.TextKind.TheVariants.{BadName}
use Rattle.si_base.specs.declared.graph.Signal.{Signal}
use Rattle.si_base.specs.Faults.{when, first_in}
use Rattle.si_base.specs.NetlistText.{name_of}
use Rattle.si_base.specs.Words.{is_signal_name}
use Rattle.si_genlib.specs.Expression.{Tree as TreeRead, value_of}
use Rattle.si_equations.specs.Equations.{Equation, Equations, driven, equation_fault, with_equation, known, undeclared}
use Rattle.si_equations.proofs.EquationLemmas.{longer}
use Rattle.si_equations.proofs.NewLemmas.{NoFaults}
use Rattle.si_verilog.specs.Symbols.{Symbol, Name, Word, Mark}
use Rattle.si_verilog.specs.Grammar.{Tree, Constant, Named, Not, And, Or, Expression, Spells, Assign as AssignSpelled}
use Rattle.si_verilog.specs.Grammar.{SpellAssigns, no_assign, assign, wire_symbols}
use Rattle.si_verilog_reader.specs.Placed.{Placed, on_line}
use Rattle.si_verilog_reader.specs.Parts.{Reading, all_parts}
use Rattle.si_verilog_reader.specs.Expressions.{expression_at}
use Rattle.si_verilog_reader.specs.Modules.{assign_at, Cell, signal_fault, assign_behind, wire_behind, item_at}
use Rattle.si_verilog_reader.proofs.PartLemmas.{one_more, last_part, fewer_item}
use Rattle.si_verilog_reader.proofs.ExpressionLemmas.{Has, has_parts, tree_as, depth, HaveNoFault, expression_read}
use Rattle.si_verilog_reader.proofs.GateLemmas.{NamesSignals}
use Rattle.si_verilog_reader.proofs.HeadLemmas.{begins, none_left, is_due, is_name}

-- ---- names of signals

abbrev pub AreSignalNames : List Signal → Type 0
AreSignalNames signals = (z : ℕ) → z < length signals → is_signal_name (name_of signals z) ≡ true

pub names_good : (signals : List Signal) → AreSignalNames signals → (t : Tree) → NamesSignals signals t
    → HaveNoFault signal_fault t
names_good signals good (Constant value) names = tt
names_good signals good (Named name) names =
    let fine : is_signal_name name ≡ true = ap is_signal_name names.2 ∙ good names.0 names.1 in
    ap (λ c. when (not c) BadName) fine
names_good signals good (Not of) names = names_good signals good of names
names_good signals good (And left right) names =
    (names_good signals good left names.0, names_good signals good right names.1)
names_good signals good (Or left right) names =
    (names_good signals good left names.0, names_good signals good right names.1)

-- ---- assigns as they are written

pub record Item : Type 0 where
  pub name : List ℕ
  pub symbols : List Symbol
  pub tree : Tree

pub record IsItem (signals : List Signal) (q : Item) : Type 0 where
  pub spells : Spells Expression q.symbols q.tree
  pub shallow : depth spells ≤ 64
  pub named : NamesSignals signals q.tree

abbrev pub item_symbols : Item → List Symbol
item_symbols q = Word (codes "assign") ∷ Name q.name ∷ Mark 61 ∷ q.symbols ++ Mark 59 ∷ []

abbrev pub item_assign : Item → AssignSpelled
item_assign q = record { name = q.name; tree = q.tree }

-- together they spell assigns
pub items_spell : (signals : List Signal) (items : List Item) → AllByRecursion (IsItem signals) items
    → SpellAssigns (flat_map item_symbols items) (map item_assign items)
items_spell signals [] all = no_assign
items_spell signals (q ∷ qs) all =
    let later = flat_map item_symbols qs in
    subst (λ (xs : List Symbol). SpellAssigns (Word (codes "assign") ∷ Name q.name ∷ Mark 61 ∷ xs)
    (map item_assign (q ∷ qs))) (sym (append_assoc q.symbols (Mark 59 ∷ []) later))
    (assign q.name all.0.spells (items_spell signals qs all.1))

-- ---- one assign

-- an expression and its `;`
pub ended_read : (fault : List ℕ → Option TextKind) (xs : List Symbol) (t : Tree) (d : Spells Expression xs t)
    → depth d ≤ 64 → HaveNoFault fault t → (ps : List Placed) → Has (xs ++ Mark 59 ∷ []) ps → (rest : List Placed)
    → expression_at fault (ps ++ rest) ≡ Ok (tree_as t, rest)
ended_read fault xs t d shallow good ps has rest =
    let split = has_parts xs (Mark 59 ∷ []) ps has in
    let ends = begins (Mark 59) [] split.back split.second in
    let none = none_left ends.more ends.behind in
    let line = ends.first.line in
    let last : split.back ≡ on_line line (Mark 59) ∷ [] =
    ends.whole ∙ (λ i. on_line line (ends.here i) ∷ none i) in
    ap (λ (l : List Placed). expression_at fault (l ++ rest))
    (split.whole ∙ ap (λ (l : List Placed). split.front ++ l) last)
    ∙ ap (expression_at fault) (append_assoc split.front (on_line line (Mark 59) ∷ []) rest)
    ∙ expression_read fault xs t d shallow good split.front split.first line rest

-- `NAME = EXPRESSION;`
pub assign_read : (fault : List ℕ → Option TextKind) (name : List ℕ) (xs : List Symbol) (t : Tree)
    (d : Spells Expression xs t) → depth d ≤ 64 → HaveNoFault fault t → (ps : List Placed)
    → Has (Name name ∷ Mark 61 ∷ xs ++ Mark 59 ∷ []) ps → (rest : List Placed)
    → (line : ℕ) × (assign_at fault (ps ++ rest) ≡ Ok (record { line = line; name = name; tree = tree_as t }, rest))
unfolding assign_at
assign_read fault name xs t d shallow good ps has rest =
    let named = is_name name (Mark 61 ∷ xs ++ Mark 59 ∷ []) ps rest has in
    let equals = is_due (Mark 61) (xs ++ Mark 59 ∷ []) named.more rest refl named.behind in
    let body = ended_read fault xs t d shallow good equals.more equals.behind rest in
    (named.line, rw (named.read_as, equals.read_as, body) refl)

-- ---- items

module _ (cells : List Cell) where
  wire_read : (e : Equations) (name : List ℕ) (ps : List Placed) → Has (wire_symbols name) ps → (rest : List Placed)
      → item_at cells e (ps ++ rest) ≡ Ok ((true, e), rest)
  unfolding item_at wire_behind
  wire_read e name ps has rest =
      let word = begins (Word (codes "wire")) (Name name ∷ Mark 59 ∷ []) ps has in
      let named = is_name name (Mark 59 ∷ []) word.more rest word.behind in
      let ends = is_due (Mark 59) [] named.more rest refl named.behind in
      let none = none_left ends.more ends.behind in
      rw (word.taken rest, word.here, named.read_as, ends.read_as, none) refl

  end_read : (e : Equations) (ps : List Placed) → Has (Word (codes "endmodule") ∷ []) ps → (rest : List Placed)
      → item_at cells e (ps ++ rest) ≡ Ok ((false, e), rest)
  unfolding item_at
  end_read e ps has rest =
      let word = begins (Word (codes "endmodule")) [] ps has in
      let none = none_left word.more word.behind in
      rw (word.taken rest, word.here, none) refl

  item_read : (signals : List Signal) → AreSignalNames signals → (e : Equations) (q : Item) → IsItem signals q
      → equation_fault e.inputs e.outputs (driven e) q.name ≡ None → (ps : List Placed) → Has (item_symbols q) ps
      → (rest : List Placed) → (line : ℕ)
      × (item_at cells e (ps ++ rest) ≡ Ok ((true, with_equation e line q.name (tree_as q.tree)), rest))
  unfolding item_at assign_behind
  item_read signals names e q is good ps has rest =
      let word = begins (Word (codes "assign")) (Name q.name ∷ Mark 61 ∷ q.symbols ++ Mark 59 ∷ []) ps has in
      let fine = names_good signals names q.tree is.named in
      let read =
      assign_read signal_fault q.name q.symbols q.tree is.spells is.shallow fine word.more word.behind rest in
      (read.0, rw (word.taken rest, word.here, read.1, good) refl)

  -- all wires: nothing is known from them
  pub wires_read : (e : Equations) (names : List (List ℕ)) (ys : List Symbol) (ps : List Placed)
      → Has (flat_map wire_symbols names ++ ys) ps
      → (more : List Placed) × Has ys more × (all_parts (item_at cells) e ps ≡ all_parts (item_at cells) e more)
  wires_read e [] ys ps has = (ps, has, refl)
  wires_read e (n ∷ names) ys ps has =
      let split = has_parts (wire_symbols n) (flat_map wire_symbols names ++ ys) ps has in
      let later = wires_read e names ys split.back split.second in (
        later.0,
        later.1,
        ap (all_parts (item_at cells) e) split.whole
            ∙ one_more (item_at cells) (fewer_item cells) e e (split.front ++ split.back) split.back
            (wire_read e n split.front split.first split.back)
            ∙ later.2,
      )

-- ---- all assigns

abbrev spelled : Equation → List ℕ × TreeRead
spelled e = (e.name, e.tree)

abbrev item_spelled : Item → List ℕ × TreeRead
item_spelled q = (q.name, tree_as q.tree)

abbrev pub AreSame : List Equation → List Item → Type 0
AreSame list items = map spelled list ≡ map item_spelled items

pub record AreRead (old : Equations) (items : List Item) (r : Reading Equations) : Type 0 where
  pub list : List Equation
  pub read_as : r ≡ Ok (longer old list, [])
  pub same : AreSame list items

driven_more : (old : Equations) (line : ℕ) (name : List ℕ) (tree : TreeRead)
    → driven (with_equation old line name tree) ≡ driven old ++ name ∷ []
driven_more old line name tree = map-append (λ (e : Equation). e.name) old.equations
    (record { line = line; name = name; tree = tree } ∷ [])

abbrev with_list : Equations → List Equation → Reading Equations
with_list old es = Ok (record { inputs = old.inputs; outputs = old.outputs; equations = es }, [])

none_more : (cells : List Cell) (old : Equations) (ps : List Placed) → Has (Word (codes "endmodule") ∷ []) ps
    → AreRead old [] (all_parts (item_at cells) old ps)
none_more cells old ps has = record {
  list = [];
  read_as = ap (all_parts (item_at cells) old) (sym (append-nil ps))
      ∙ last_part (item_at cells) old old (ps ++ []) [] (end_read cells old ps has [])
      ∙ ap (with_list old) (sym (append-nil old.equations));
  same = refl;
}

one_item : (cells : List Cell) (old : Equations) (q : Item) (qs : List Item) (ps rest : List Placed) (line : ℕ)
    → item_at cells old ps ≡ Ok ((true, with_equation old line q.name (tree_as q.tree)), rest)
    → AreRead (with_equation old line q.name (tree_as q.tree)) qs
    (all_parts (item_at cells) (with_equation old line q.name (tree_as q.tree)) rest)
    → AreRead old (q ∷ qs) (all_parts (item_at cells) old ps)
one_item cells old q qs ps rest line is later =
    let first : Equation = record { line = line; name = q.name; tree = tree_as q.tree } in
    let more = with_equation old line q.name (tree_as q.tree) in record {
      list = first ∷ later.list;
      read_as = one_more (item_at cells) (fewer_item cells) old more ps rest is ∙ later.read_as
          ∙ ap (with_list old) (append_assoc old.equations (first ∷ []) later.list);
      same = ap (λ (l : List (List ℕ × TreeRead)). item_spelled q ∷ l) later.same;
    }

pub items_read : (cells : List Cell) (signals : List Signal) → AreSignalNames signals → (old : Equations)
    (items : List Item) → AllByRecursion (IsItem signals) items
    → NoFaults old.inputs old.outputs (driven old) (map (λ q. q.name) items) → (ps : List Placed)
    → Has (flat_map item_symbols items ++ Word (codes "endmodule") ∷ []) ps
    → AreRead old items (all_parts (item_at cells) old ps)
items_read cells signals names old [] all good ps has = none_more cells old ps has
items_read cells signals names old (q ∷ qs) all good ps has =
    let later = flat_map item_symbols qs in
    let end : List Symbol = Word (codes "endmodule") ∷ [] in
    let split = has_parts (item_symbols q) (later ++ end) ps (has ∙ append_assoc (item_symbols q) later end) in
    let one = item_read cells signals names old q all.0 good.0 split.front split.first split.back in
    let more : Equations = with_equation old one.0 q.name (tree_as q.tree) in
    let still : NoFaults old.inputs old.outputs (driven more) (map (λ (p : Item). p.name) qs) =
    subst (λ (l : List (List ℕ)). NoFaults old.inputs old.outputs l (map (λ (p : Item). p.name) qs))
    (sym (driven_more old one.0 q.name (tree_as q.tree))) good.1 in
    subst (λ (l : List Placed). AreRead old (q ∷ qs) (all_parts (item_at cells) old l)) (sym split.whole)
    (one_item cells old q qs (split.front ++ split.back) split.back one.0 one.1
    (items_read cells signals names more qs all.1 still split.back split.second))

-- ---- what was read has what was written

first_same : (e : Equation) (q : Item) (es : List Equation) (qs : List Item) → AreSame (e ∷ es) (q ∷ qs)
    → spelled e ≡ item_spelled q
first_same e q es qs same = cc

rest_same : (e : Equation) (q : Item) (es : List Equation) (qs : List Item) → AreSame (e ∷ es) (q ∷ qs)
    → AreSame es qs
rest_same e q es qs same = cc

pub names_same : (list : List Equation) (items : List Item) → AreSame list items
    → map (λ e. e.name) list ≡ map (λ q. q.name) items
names_same [] [] same = refl
names_same [] (q ∷ qs) same = absurd cc
names_same (e ∷ es) [] same = absurd cc
names_same (e ∷ es) (q ∷ qs) same =
    let here : e.name ≡ q.name = ap (λ (p : List ℕ × TreeRead). p.0) (first_same e q es qs same) in
    let rest = names_same es qs (rest_same e q es qs same) in
    λ i. here i ∷ rest i

abbrev pub AreKnown : List (List ℕ) → List Item → Type 0
AreKnown names items = AllByRecursion (λ q. value_of (known names) (tree_as q.tree) ≡ true) items

pub all_known : (names : List (List ℕ)) (list : List Equation) (items : List Item) → AreSame list items
    → AreKnown names items → first_in (undeclared names) list ≡ None
all_known names [] [] same all = refl
all_known names [] (q ∷ qs) same all = absurd cc
all_known names (e ∷ es) [] same all = absurd cc
all_known names (e ∷ es) (q ∷ qs) same all =
    let tree : e.tree ≡ tree_as q.tree = ap (λ (p : List ℕ × TreeRead). p.1) (first_same e q es qs same) in
    let here : value_of (known names) e.tree ≡ true = ap (value_of (known names)) tree ∙ all.0 in
    rw here (all_known names es qs (rest_same e q es qs same) all.1)

-- the equation that an assign was read as
pub record IsThere (list : List Equation) (k : ℕ) (a : AssignSpelled) : Type 0 where
  pub equation : Equation
  pub at : slice_get list k ≡ Some equation
  pub named : equation.name ≡ a.name
  pub tree : equation.tree ≡ tree_as a.tree

pub there_back : (list : List Equation) (items : List Item) → AreSame list items → (k : ℕ) (a : AssignSpelled)
    → slice_get (map item_assign items) k ≡ Some a → IsThere list k a
there_back list [] same k a at = absurd cc
there_back [] (q ∷ qs) same k a at = absurd cc
there_back (e ∷ es) (q ∷ qs) same zero a at =
    let is : item_assign q ≡ a = cc in
    let here = first_same e q es qs same in record {
      equation = e;
      at = refl;
      named = ap (λ (x : List ℕ × TreeRead). x.0) here ∙ ap (λ (x : AssignSpelled). x.name) is;
      tree = ap (λ (x : List ℕ × TreeRead). x.1) here ∙ ap (λ (x : AssignSpelled). tree_as x.tree) is;
    }
there_back (e ∷ es) (q ∷ qs) same (suc k) a at =
    let later = there_back es qs (rest_same e q es qs same) k a at in record {
      equation = later.equation;
      at = later.at;
      named = later.named;
      tree = later.tree;
    }
