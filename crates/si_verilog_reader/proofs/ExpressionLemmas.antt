-- Expressions of Verilog are read as their trees.
use Rattle.std.proofs.Common.{◌≡◌, ℕ, suc, ◌+◌, ◌≤◌, max, false, List, [], ◌∷◌, ◌++◌, length, map, nat_le}
use Rattle.std.proofs.Common.{Option, Some, None, Ok, refl, sym, ap, subst, ◌∙◌, arith}
use Rattle.std.specs.List.{AllByRecursion}
use Rattle.std.proofs.lemmas.Bool.{lt-leb}
use Rattle.si_base.specs.declared.fault.TextKind.{TextKind}
use Rattle.si_tokens.specs.Unread.{◌>>=◌}
use Rattle.si_genlib.specs.declared.symbol.Operator.{Operator}
use Rattle.si_genlib.specs.declared.symbol.Operator.TheVariants as operators
use Rattle.si_genlib.specs.Expression as genlib
use Rattle.si_genlib.specs.Expression.{trees, State, Outcome, Goes, Ends, Stops, start, after, complemented, still}
use Rattle.si_genlib.specs.Expression.{step}
use Rattle.si_genlib.proofs.GrammarLemmas.{led_on, at, IsFree}
use Rattle.si_verilog.specs.Symbols.{Symbol, Mark}
use Rattle.si_verilog.specs.Grammar.{Tree, Constant, Named, Not, And, Or, Level, Primary, Factor, Term, Expression}
use Rattle.si_verilog.specs.Grammar.{Spells, zero, one, named, grouped, as_factor, complemented as negated, as_term}
use Rattle.si_verilog.specs.Grammar.{with_factor, as_expression, with_term}
use Rattle.si_verilog.proofs.NetlistLemmas.{all_append}
use Rattle.si_verilog_reader.specs.Placed.{Placed, on_line}
use Rattle.si_verilog_reader.specs.Parts.{if_good}
use Rattle.si_verilog_reader.specs.Expressions.{meant, fault_in, stepped, led, expression_from, expression_at}

-- ---- symbols with their lines

abbrev pub symbols : List Placed → List Symbol
symbols ps = map (λ p. p.symbol) ps

abbrev pub Has : List Symbol → List Placed → Type 0
Has xs ps = symbols ps ≡ xs

pub record Parted (xs ys : List Symbol) (ps : List Placed) : Type 0 where
  pub front : List Placed
  pub back : List Placed
  pub whole : ps ≡ front ++ back
  pub first : Has xs front
  pub second : Has ys back

pub has_parts : (xs ys : List Symbol) (ps : List Placed) → Has (xs ++ ys) ps → Parted xs ys ps
has_parts [] ys ps is = record { front = []; back = ps; whole = refl; first = refl; second = is }
has_parts (x ∷ xs) ys [] is = absurd cc
has_parts (x ∷ xs) ys (p ∷ ps) is =
    let here : p.symbol ≡ x = cc in
    let later : symbols ps ≡ xs ++ ys = cc in
    let rest = has_parts xs ys ps later in record {
      front = p ∷ rest.front;
      back = rest.back;
      whole = ap (λ (l : List Placed). p ∷ l) rest.whole;
      first = λ i. here i ∷ rest.first i;
      second = rest.second;
    }

-- ---- trees

abbrev pub tree_as : Tree → genlib.Tree
tree_as (Constant value) = genlib.Constant value
tree_as (Named name) = genlib.Pin name
tree_as (Not of) = genlib.Not (tree_as of)
tree_as (And left right) = genlib.And (tree_as left) (tree_as right)
tree_as (Or left right) = genlib.Or (tree_as left) (tree_as right)

-- how many operators are unfinished at once, at most
abbrev pub depth : {level : Level} {xs : List Symbol} {t : Tree} → Spells level xs t → ℕ
depth zero = 0
depth one = 0
depth (named name) = 0
depth (grouped e) = suc (depth e)
depth (as_factor e) = depth e
depth (negated e) = suc (depth e)
depth (as_term e) = depth e
depth (with_factor e f) = max (depth e) (depth f)
depth (as_expression e) = depth e
depth (with_term e f) = max (depth e) (depth f)

-- no name in it is a fault
abbrev pub HaveNoFault : (List ℕ → Option TextKind) → Tree → Type 0
HaveNoFault fault (Constant value) = Unit {0}
HaveNoFault fault (Named name) = fault name ≡ None
HaveNoFault fault (Not of) = HaveNoFault fault of
HaveNoFault fault (And left right) = HaveNoFault fault left × HaveNoFault fault right
HaveNoFault fault (Or left right) = HaveNoFault fault left × HaveNoFault fault right

-- ---- where symbols lead

abbrev run : State genlib.Tree → List Symbol → Outcome genlib.Tree
run s [] = Goes s
run s (x ∷ xs) = led_on (λ t. run t xs) (stepped s (meant x))

run-append : (s : State genlib.Tree) (xs ys : List Symbol) → run s (xs ++ ys) ≡ led_on (λ t. run t ys) (run s xs)
run-append s [] ys = refl
run-append s (x ∷ xs) ys = by_outcome (λ t. run-append t xs ys) (stepped s (meant x))
  where
    by_outcome : ((t : State genlib.Tree) → run t (xs ++ ys) ≡ led_on (λ u. run u ys) (run t xs))
        → (c : Outcome genlib.Tree)
        → led_on (λ t. run t (xs ++ ys)) c ≡ led_on (λ t. run t ys) (led_on (λ t. run t xs) c)
    by_outcome later (Goes t) = later t
    by_outcome later (Ends y) = refl
    by_outcome later (Stops kind) = refl

abbrev Operators : Type 0
Operators = List (Operator genlib.Tree)

free_value : (x : genlib.Tree) (ops : Operators) → IsFree ops → complemented trees x ops ≡ x
free_value x [] free = refl
free_value x (operators.Complement ∷ ops) free = absurd free
free_value x (operators.Paren terms factors ∷ ops) free = refl

free_still : (ops : Operators) → IsFree ops → still ops ≡ ops
free_still [] free = refl
free_still (operators.Complement ∷ ops) free = absurd free
free_still (operators.Paren terms factors ∷ ops) free = refl

-- where reading leads from where an operand is due: a `~` may be unfinished
record LeavesFactor (xs : List Symbol) (t : Tree) (ops : Operators) (terms factors : Option genlib.Tree) : Type 0 where
  x : genlib.Tree
  left : Operators
  leads : run (at None ops terms factors) xs ≡ Goes (at (Some x) left terms factors)
  value : complemented trees x left ≡ complemented trees (tree_as t) ops
  rest : still left ≡ still ops

record LeavesTerm (xs : List Symbol) (t : Tree) (ops : Operators) (terms : Option genlib.Tree) : Type 0 where
  x : genlib.Tree
  left : Operators
  factors : Option genlib.Tree
  leads : run (at None ops terms None) xs ≡ Goes (at (Some x) left terms factors)
  value : after trees.both factors (complemented trees x left) ≡ tree_as t
  rest : still left ≡ ops

record LeavesTerms (xs : List Symbol) (t : Tree) (ops : Operators) : Type 0 where
  x : genlib.Tree
  left : Operators
  terms : Option genlib.Tree
  factors : Option genlib.Tree
  leads : run (at None ops None None) xs ≡ Goes (at (Some x) left terms factors)
  value : after trees.either terms (after trees.both factors (complemented trees x left)) ≡ tree_as t
  rest : still left ≡ ops

-- what the symbols of a tree do, where so many operators more find room
abbrev Runs : Level → List Symbol → Tree → ℕ → Type 0
Runs Primary xs t d = (ops : Operators) (terms factors : Option genlib.Tree) → length ops + d ≤ 64
    → run (at None ops terms factors) xs ≡ Goes (at (Some (tree_as t)) ops terms factors)
Runs Factor xs t d = (ops : Operators) (terms factors : Option genlib.Tree) → length ops + d ≤ 64
    → LeavesFactor xs t ops terms factors
Runs Term xs t d = (ops : Operators) (terms : Option genlib.Tree) → IsFree ops → length ops + d ≤ 64
    → LeavesTerm xs t ops terms
Runs Expression xs t d = (ops : Operators) → IsFree ops → length ops + d ≤ 64 → LeavesTerms xs t ops

-- ---- each form

grouped_runs : (xs : List Symbol) (t : Tree) (d : ℕ) → Runs Expression xs t d
    → Runs Primary (Mark 40 ∷ xs ++ Mark 41 ∷ []) t (suc d)
unfolding step stepped
grouped_runs xs t d inside ops terms factors room =
    let free_room : nat_le 64 (length ops) ≡ false = lt-leb 64 (length ops) (omega (arith, room)) in
    let inner : Operators = operators.Paren terms factors ∷ ops in
    let r = inside inner tt (omega (arith, room)) in
    let opens : run (at None ops terms factors) (Mark 40 ∷ xs ++ Mark 41 ∷ [])
    ≡ run (at None inner None None) (xs ++ Mark 41 ∷ []) = rw free_room refl in
    opens ∙ run-append (at None inner None None) xs (Mark 41 ∷ [])
    ∙ ap (led_on (λ u. run u (Mark 41 ∷ []))) r.leads ∙ (rw (r.rest, r.value) refl)

negated_runs : (xs : List Symbol) (t : Tree) (d : ℕ) → Runs Primary xs t d → Runs Factor (Mark 126 ∷ xs) (Not t) (suc d)
unfolding step stepped
negated_runs xs t d inside ops terms factors room =
    let free_room : nat_le 64 (length ops) ≡ false = lt-leb 64 (length ops) (omega (arith, room)) in
    let inner : Operators = operators.Complement ∷ ops in
    let opens : run (at None ops terms factors) (Mark 126 ∷ xs) ≡ run (at None inner terms factors) xs =
    rw free_room refl in
    record {
      x = tree_as t;
      left = inner;
      leads = opens ∙ inside inner terms factors (omega (arith, room));
      value = refl;
      rest = refl;
    }

term_runs : (xs : List Symbol) (t : Tree) (d : ℕ) → Runs Factor xs t d → Runs Term xs t d
term_runs xs t d inside ops terms free room =
    let f = inside ops terms None room in record {
      x = f.x;
      left = f.left;
      factors = None;
      leads = f.leads;
      value = f.value ∙ free_value (tree_as t) ops free;
      rest = f.rest ∙ free_still ops free;
    }

both_run : (xs ys : List Symbol) (t u : Tree) (d e : ℕ) → Runs Term xs t d → Runs Factor ys u e
    → Runs Term (xs ++ Mark 38 ∷ ys) (And t u) (max d e)
unfolding step stepped
both_run xs ys t u d e former latter ops terms free room =
    let r = former ops terms free (omega (arith, room)) in
    let f = latter ops terms (Some (tree_as t)) (omega (arith, room)) in
    let leads : run (at None ops terms None) (xs ++ Mark 38 ∷ ys) ≡ run (at None ops terms (Some (tree_as t))) ys =
    run-append (at None ops terms None) xs (Mark 38 ∷ ys)
    ∙ ap (led_on (λ s. run s (Mark 38 ∷ ys))) r.leads
    ∙ (rw (r.rest, r.value) refl) in
    record {
      x = f.x;
      left = f.left;
      factors = Some (tree_as t);
      leads = leads ∙ f.leads;
      value = ap (trees.both (tree_as t)) (f.value ∙ free_value (tree_as u) ops free);
      rest = f.rest ∙ free_still ops free;
    }

whole_runs : (xs : List Symbol) (t : Tree) (d : ℕ) → Runs Term xs t d → Runs Expression xs t d
whole_runs xs t d inside ops free room =
    let r = inside ops None free room in record {
      x = r.x;
      left = r.left;
      terms = None;
      factors = r.factors;
      leads = r.leads;
      value = r.value;
      rest = r.rest;
    }

either_run : (xs ys : List Symbol) (t u : Tree) (d e : ℕ) → Runs Expression xs t d → Runs Term ys u e
    → Runs Expression (xs ++ Mark 124 ∷ ys) (Or t u) (max d e)
unfolding step stepped
either_run xs ys t u d e former latter ops free room =
    let r = former ops free (omega (arith, room)) in
    let f = latter ops (Some (tree_as t)) free (omega (arith, room)) in
    let leads : run (at None ops None None) (xs ++ Mark 124 ∷ ys) ≡ run (at None ops (Some (tree_as t)) None) ys =
    run-append (at None ops None None) xs (Mark 124 ∷ ys)
    ∙ ap (led_on (λ s. run s (Mark 124 ∷ ys))) r.leads
    ∙ (rw (r.rest, r.value) refl) in
    record {
      x = f.x;
      left = f.left;
      terms = Some (tree_as t);
      factors = f.factors;
      leads = leads ∙ f.leads;
      value = ap (trees.either (tree_as t)) f.value;
      rest = f.rest;
    }

runs : {level : Level} {xs : List Symbol} {t : Tree} (e : Spells level xs t) → Runs level xs t (depth e)
unfolding step stepped
runs zero = λ ops terms factors room. refl
runs one = λ ops terms factors room. refl
runs (named name) = λ ops terms factors room. refl
runs (grouped {inner = xs} {tree = t} e) = grouped_runs xs t (depth e) (runs e)
runs (as_factor {tree = t} e) = λ ops terms factors room. record {
  x = tree_as t;
  left = ops;
  leads = runs e ops terms factors room;
  value = refl;
  rest = refl;
}
runs (negated {xs = xs} {tree = t} e) = negated_runs xs t (depth e) (runs e)
runs (as_term {xs = xs} {tree = t} e) = term_runs xs t (depth e) (runs e)
runs (with_factor {xs = xs} {ys = ys} {left = t} {right = u} e f) =
    both_run xs ys t u (depth e) (depth f) (runs e) (runs f)
runs (as_expression {xs = xs} {tree = t} e) = whole_runs xs t (depth e) (runs e)
runs (with_term {xs = xs} {ys = ys} {left = t} {right = u} e f) =
    either_run xs ys t u (depth e) (depth f) (runs e) (runs f)

-- ---- lines and faults of names

abbrev AreGood : (List ℕ → Option TextKind) → List Symbol → Type 0
AreGood fault xs = AllByRecursion (λ x. fault_in fault x ≡ None) xs

good_joined : (fault : List ℕ → Option TextKind) (m : ℕ) (xs ys : List Symbol) → AreGood fault xs → AreGood fault ys
    → AreGood fault (xs ++ Mark m ∷ ys)
good_joined fault m xs ys former latter =
    all_append (λ (x : Symbol). fault_in fault x ≡ None) xs (Mark m ∷ ys) former (refl, latter)

good_symbols : (fault : List ℕ → Option TextKind) {level : Level} {xs : List Symbol} {t : Tree}
    → Spells level xs t → HaveNoFault fault t → AreGood fault xs
good_symbols fault zero good = (refl, tt)
good_symbols fault one good = (refl, tt)
good_symbols fault (named name) good = (good, tt)
good_symbols fault (grouped {inner = xs} e) good = (refl, good_joined fault 41 xs [] (good_symbols fault e good) tt)
good_symbols fault (as_factor e) good = good_symbols fault e good
good_symbols fault (negated e) good = (refl, good_symbols fault e good)
good_symbols fault (as_term e) good = good_symbols fault e good
good_symbols fault (with_factor {xs = xs} {ys = ys} e f) good =
    good_joined fault 38 xs ys (good_symbols fault e good.0) (good_symbols fault f good.1)
good_symbols fault (as_expression e) good = good_symbols fault e good
good_symbols fault (with_term {xs = xs} {ys = ys} e f) good =
    good_joined fault 124 xs ys (good_symbols fault e good.0) (good_symbols fault f good.1)

abbrev state_in : State genlib.Tree → Outcome genlib.Tree → State genlib.Tree
state_in s (Goes t) = t
state_in s (Ends x) = s
state_in s (Stops kind) = s

-- what stands behind is read from where they lead
goes_on : (fault : List ℕ → Option TextKind) (ps rest : List Placed) (s t : State genlib.Tree)
    → AreGood fault (symbols ps) → run s (symbols ps) ≡ Goes t
    → expression_from fault s (ps ++ rest) ≡ expression_from fault t rest
goes_on fault [] rest s t good is =
    ap (λ (c : Outcome genlib.Tree). expression_from fault (state_in s c) rest) is
goes_on fault (p ∷ ps) rest s t good is =
    ap (λ (f : Option TextKind). if_good p.line f (ps ++ rest)
    >>= λ more. led (λ u. expression_from fault u (ps ++ rest)) p.line (ps ++ rest) (stepped s (meant p.symbol)))
    good.0
    ∙ by_outcome (λ u leads. goes_on fault ps rest u t good.1 leads) (stepped s (meant p.symbol)) is
  where
    by_outcome : ((u : State genlib.Tree) → run u (symbols ps) ≡ Goes t
        → expression_from fault u (ps ++ rest) ≡ expression_from fault t rest) → (c : Outcome genlib.Tree)
        → led_on (λ u. run u (symbols ps)) c ≡ Goes t
        → led (λ u. expression_from fault u (ps ++ rest)) p.line (ps ++ rest) c ≡ expression_from fault t rest
    by_outcome later (Goes u) leads = later u leads
    by_outcome later (Ends x) leads = absurd cc
    by_outcome later (Stops kind) leads = absurd cc

-- an expression and the `;` behind it are read as its tree
pub expression_read : (fault : List ℕ → Option TextKind) (xs : List Symbol) (t : Tree) (d : Spells Expression xs t)
    → depth d ≤ 64 → HaveNoFault fault t → (ps : List Placed) → Has xs ps → (line : ℕ) (rest : List Placed)
    → expression_at fault (ps ++ on_line line (Mark 59) ∷ rest) ≡ Ok (tree_as t, rest)
unfolding step stepped expression_at
expression_read fault xs t d shallow good ps has line rest =
    let r = runs d [] tt (omega (arith, shallow)) in
    let fine : AreGood fault (symbols ps) = subst (AreGood fault) (sym has) (good_symbols fault d good) in
    goes_on fault ps (on_line line (Mark 59) ∷ rest) start (at (Some r.x) r.left r.terms r.factors) fine
    (ap (run start) has ∙ r.leads) ∙ (rw (r.rest, r.value) refl)
