-- Equations are read as they are written.
use Rattle.std.proofs.Common.{◌≡◌, ℕ, zero, suc, ◌<◌, ◌≤◌, Bool, true, false, List, [], ◌∷◌, ◌++◌, length, map}
use Rattle.std.proofs.Common.{flat_map, slice_get, Option, Some, None, Result, Ok, refl, sym, ap, subst, ◌∙◌, arith}
use Rattle.std.proofs.Common.{append_assoc, codes, if◌then◌else◌}
use Rattle.std.specs.List.{AllByRecursion}
use Rattle.std.proofs.lemmas.List.{append-nil, length-append, map-append}
use Rattle.si_base.specs.declared.fault.TextKind.{TextKind}
use Rattle.si_base.specs.Faults.{first_in}
use Rattle.si_base.specs.Words.{is_signal_name}
use Rattle.si_words.specs.Sums.{is_empty}
use Rattle.si_tokens.specs.declared.fault.Stop.{Stop}
use Rattle.si_tokens.specs.Unread.{◌>>=◌, Unread, Piece, tokens}
use Rattle.si_genlib.specs.Expression.{Tree, trees, start, read, value_of}
use Rattle.si_genlib.specs.Grammar.{Syntax, IsExpression, written, tree_of, height}
use Rattle.si_genlib.specs.Limits.{max_unfinished}
use Rattle.si_equations.specs.Names.{bare}
use Rattle.si_equations.specs.Equations.{Equation, Equations, driven, if_good, mark_at, equation_fault, with_equation}
use Rattle.si_equations.specs.Equations.{equation_at, equations_from, known, undeclared}
use Rattle.si_equations.specs.Written.{in_brackets}
use Rattle.si_equations.proofs.ChainLemmas.{IsAt, next, token_is, none_left, mark_read, expression_read}
use Rattle.si_equations.proofs.NameLemmas.{bracket_token}
use Rattle.si_equations.proofs.NewLemmas.{NoFaults}

-- an equation as it is written
pub record Item : Type 0 where
  pub name : List ℕ
  pub syntax : Syntax

abbrev pub item_tokens : Item → List (List ℕ)
item_tokens q = in_brackets q.name ∷ codes "=" ∷ written q.syntax ++ codes ";" ∷ []

-- its name and its expression can be read, and it names these signals alone
pub record IsItem (names : List (List ℕ)) (q : Item) : Type 0 where
  pub good : is_signal_name q.name ≡ true
  pub is : IsExpression q.syntax
  pub low : height q.syntax ≤ max_unfinished
  pub knows : value_of (known names) (tree_of q.syntax) ≡ true

-- ---- one equation

abbrev spelled_by : Equations → Piece → Tree × Unread → Result (Equations × Unread) Stop
spelled_by old name x = Ok (with_equation old name.line (bare name.bytes) x.0, x.1)

abbrev behind_equals : Equations → Piece → Unread → Result (Equations × Unread) Stop
behind_equals old name body = read trees start (tokens body) >>= spelled_by old name

abbrev behind_name : Equations → Piece → Unread → Result (Equations × Unread) Stop
behind_name old name equals = mark_at (codes "=") equals >>= behind_equals old name

abbrev fault_here : Equations → List ℕ → Option TextKind
fault_here old name = equation_fault old.inputs old.outputs (driven old) name

abbrev ReadOne : Equations → Item → Unread → List (List ℕ) → Type 0
ReadOne old q u ws = (line : ℕ) × (r : Unread)
    × (equation_at old u ≡ Ok (with_equation old line q.name (tree_of q.syntax), r)) × IsAt r ws

equation_read : (names : List (List ℕ)) (old : Equations) (q : Item) (u : Unread) (ws : List (List ℕ)) → IsItem names q
    → fault_here old q.name ≡ None
    → IsAt u (in_brackets q.name ∷ codes "=" ∷ (written q.syntax ++ codes ";" ∷ ws)) → ReadOne old q u ws
unfolding equation_at
equation_read names old q u ws is good at =
    let body = written q.syntax ++ codes ";" ∷ ws in
    let first = next u (in_brackets q.name) (codes "=" ∷ body) at in
    let named : bare first.token.bytes ≡ q.name = ap bare first.bytes ∙ (bracket_token q.name is.good).bare_is in
    let none : fault_here old (bare first.token.bytes) ≡ None = ap (fault_here old) named ∙ good in
    let equals = mark_read (codes "=") first.token.rest body first.rest in
    let expression = expression_read q.syntax equals.0 ws is.is is.low equals.2 in (
      first.token.line,
      expression.0,
      ap (λ (r : Result Piece Stop). r >>= λ name. if_good (fault_here old (bare name.bytes)) name
          >>= behind_name old name) (token_is u first.token (tokens first.token.rest) first.taken)
          ∙ ap (λ (f : Option TextKind). if_good f first.token >>= behind_name old first.token) none
          ∙ ap (λ (r : Result Unread Stop). r >>= behind_equals old first.token) equals.1
          ∙ ap (λ (r : Result (Tree × Unread) Stop). r >>= spelled_by old first.token) expression.1
          ∙ ap (λ (name : List ℕ). Ok (with_equation old first.token.line name (tree_of q.syntax), expression.0)) named,
      expression.2,
    )

-- ---- all of them

abbrev spelled : Equation → List ℕ × Tree
spelled e = (e.name, e.tree)

abbrev item_spelled : Item → List ℕ × Tree
item_spelled q = (q.name, tree_of q.syntax)

abbrev pub AreSame : List Equation → List Item → Type 0
AreSame list items = map spelled list ≡ map item_spelled items

abbrev pub longer : Equations → List Equation → Equations
longer old list = record { inputs = old.inputs; outputs = old.outputs; equations = old.equations ++ list }

pub record AreRead (old : Equations) (items : List Item) (r : Result Equations Stop) : Type 0 where
  pub list : List Equation
  pub read_as : r ≡ Ok (longer old list)
  pub same : AreSame list items

driven_more : (old : Equations) (line : ℕ) (name : List ℕ) (tree : Tree)
    → driven (with_equation old line name tree) ≡ driven old ++ name ∷ []
driven_more old line name tree = map-append (λ (e : Equation). e.name) old.equations
    (record { line = line; name = name; tree = tree } ∷ [])

none_read : (k : ℕ) (old : Equations) (u : Unread) → IsAt u [] → AreRead old [] (equations_from (suc k) old u)
none_read k old u at =
    let empty : is_empty (tokens u) ≡ true = ap is_empty (none_left (tokens u) at) in record {
      list = [];
      read_as =
          ap (λ (c : Bool). if c then Ok old else equation_at old u >>= λ new. equations_from k new.0 new.1) empty
          ∙ ap (λ (es : List Equation). Ok (record {
            inputs = old.inputs;
            outputs = old.outputs;
            equations = es;
          })) (sym (append-nil old.equations));
      same = refl;
    }

one_more : (k : ℕ) (old : Equations) (q : Item) (qs : List Item) (u r : Unread) (line : ℕ)
    → is_empty (tokens u) ≡ false → equation_at old u ≡ Ok (with_equation old line q.name (tree_of q.syntax), r)
    → AreRead (with_equation old line q.name (tree_of q.syntax)) qs
    (equations_from k (with_equation old line q.name (tree_of q.syntax)) r)
    → AreRead old (q ∷ qs) (equations_from (suc k) old u)
one_more k old q qs u r line some is later =
    let first : Equation = record { line = line; name = q.name; tree = tree_of q.syntax } in record {
      list = first ∷ later.list;
      read_as =
          ap (λ (c : Bool). if c then Ok old else equation_at old u >>= λ new. equations_from k new.0 new.1) some
          ∙ ap (λ (x : Result (Equations × Unread) Stop). x >>= λ new. equations_from k new.0 new.1) is
          ∙ later.read_as
          ∙ ap (λ (es : List Equation). Ok (record {
            inputs = old.inputs;
            outputs = old.outputs;
            equations = es;
          })) (append_assoc old.equations (first ∷ []) later.list);
      same = ap (λ (l : List (List ℕ × Tree)). item_spelled q ∷ l) later.same;
    }

pub equations_read : (fuel : ℕ) (names : List (List ℕ)) (old : Equations) (items : List Item) (u : Unread)
    → length items < fuel → AllByRecursion (IsItem names) items
    → NoFaults old.inputs old.outputs (driven old) (map (λ q. q.name) items)
    → IsAt u (flat_map item_tokens items) → AreRead old items (equations_from fuel old u)
equations_read zero names old items u enough all good at = absurd (omega (arith, enough))
equations_read (suc k) names old [] u enough all good at = none_read k old u at
equations_read (suc k) names old (q ∷ qs) u enough all good at =
    let ws = flat_map item_tokens qs in
    let parted : IsAt u (in_brackets q.name ∷ codes "=" ∷ (written q.syntax ++ codes ";" ∷ ws)) =
    at ∙ ap (λ (t : List (List ℕ)). in_brackets q.name ∷ codes "=" ∷ t)
    (append_assoc (written q.syntax) (codes ";" ∷ []) ws) in
    let first = next u (in_brackets q.name) (codes "=" ∷ (written q.syntax ++ codes ";" ∷ ws)) parted in
    let some : is_empty (tokens u) ≡ false = ap is_empty first.taken in
    let one = equation_read names old q u ws all.0 good.0 parted in
    let more : Equations = with_equation old one.0 q.name (tree_of q.syntax) in
    let still : NoFaults old.inputs old.outputs (driven more) (map (λ (p : Item). p.name) qs) =
    subst (λ (l : List (List ℕ)). NoFaults old.inputs old.outputs l (map (λ (p : Item). p.name) qs))
    (sym (driven_more old one.0 q.name (tree_of q.syntax))) good.1 in
    one_more k old q qs u one.1 one.0 some one.2
    (equations_read k names more qs one.1 (omega (arith, enough)) all.1 still one.3)

-- as many statements as tokens are enough
pub enough_tokens : (items : List Item) → length items ≤ length (flat_map item_tokens items)
enough_tokens [] = omega arith
enough_tokens (q ∷ qs) =
    let rest = enough_tokens qs in
    omega (
      arith,
      rest,
      length-append (written q.syntax ++ codes ";" ∷ []) (flat_map item_tokens qs),
    )

-- ---- what was read has what was written

first_same : (e : Equation) (q : Item) (es : List Equation) (qs : List Item) → AreSame (e ∷ es) (q ∷ qs)
    → spelled e ≡ item_spelled q
first_same e q es qs same = cc

rest_same : (e : Equation) (q : Item) (es : List Equation) (qs : List Item) → AreSame (e ∷ es) (q ∷ qs)
    → AreSame es qs
rest_same e q es qs same = cc

pub names_same : (list : List Equation) (items : List Item) → AreSame list items
    → map (λ e. e.name) list ≡ map (λ q. q.name) items
names_same [] [] same = refl
names_same [] (q ∷ qs) same = absurd cc
names_same (e ∷ es) [] same = absurd cc
names_same (e ∷ es) (q ∷ qs) same =
    let here : e.name ≡ q.name = ap (λ (p : List ℕ × Tree). p.0) (first_same e q es qs same) in
    let rest = names_same es qs (rest_same e q es qs same) in
    λ i. here i ∷ rest i

pub all_known : (names : List (List ℕ)) (list : List Equation) (items : List Item) → AreSame list items
    → AllByRecursion (IsItem names) items → first_in (undeclared names) list ≡ None
all_known names [] [] same all = refl
all_known names [] (q ∷ qs) same all = absurd cc
all_known names (e ∷ es) [] same all = absurd cc
all_known names (e ∷ es) (q ∷ qs) same all =
    let tree : e.tree ≡ tree_of q.syntax = ap (λ (p : List ℕ × Tree). p.1) (first_same e q es qs same) in
    let here : value_of (known names) e.tree ≡ true = ap (value_of (known names)) tree ∙ all.0.knows in
    rw here (all_known names es qs (rest_same e q es qs same) all.1)

pub record IsThere (list : List Equation) (k : ℕ) (q : Item) : Type 0 where
  pub equation : Equation
  pub at : slice_get list k ≡ Some equation
  pub named : equation.name ≡ q.name
  pub tree : equation.tree ≡ tree_of q.syntax

pub there_back : (list : List Equation) (items : List Item) → AreSame list items → (k : ℕ) (q : Item)
    → slice_get items k ≡ Some q → IsThere list k q
there_back list [] same k q at = absurd cc
there_back [] (p ∷ ps) same k q at = absurd cc
there_back (e ∷ es) (p ∷ ps) same zero q at =
    let is : p ≡ q = cc in
    let here = first_same e p es ps same in record {
      equation = e;
      at = refl;
      named = ap (λ (x : List ℕ × Tree). x.0) here ∙ ap (λ (x : Item). x.name) is;
      tree = ap (λ (x : List ℕ × Tree). x.1) here ∙ ap (λ (x : Item). tree_of x.syntax) is;
    }
there_back (e ∷ es) (p ∷ ps) same (suc k) q at =
    let later = there_back es ps (rest_same e p es ps same) k q at in record {
      equation = later.equation;
      at = later.at;
      named = later.named;
      tree = later.tree;
    }
