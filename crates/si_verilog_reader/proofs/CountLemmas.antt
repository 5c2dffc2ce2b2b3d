-- The text of a module begins one module: no other symbol of it is `module`.
use Rattle.std.proofs.Common.{◌≡◌, ℕ, ◌+◌, ◌-◌, not, Bool, true, false, List, [], ◌∷◌, ◌++◌, flat_map, codes}
use Rattle.std.proofs.Common.{refl, sym, ap, subst, ◌∙◌, arith, if◌then◌else◌}
use Rattle.std.specs.List.{AllByRecursion, list_all, join_by}
use Rattle.std.proofs.lemmas.Bool.{and_from, and_parts, not-true}
use Rattle.std.proofs.lemmas.List.Folds.{list_all-append}
use Rattle.std.proofs.lemmas.List.Sums.{sum_by-cons}
use Rattle.si_base.specs.declared.graph.Signal.{Signal}
use Rattle.si_verilog.specs.Symbols.{Symbol, Word, Mark}
use Rattle.si_verilog.specs.Grammar.{Tree, Level, Spells, zero, one, named, grouped, as_factor, complemented, as_term}
use Rattle.si_verilog.specs.Grammar.{with_factor, as_expression, with_term, Port, InputPort, OutputPort, port_symbols}
use Rattle.si_verilog.specs.Grammar.{wire_symbols}
use Rattle.si_verilog_reader.specs.Placed.{Placed}
use Rattle.si_verilog_reader.specs.Parts.{same_symbol}
use Rattle.si_verilog_reader.specs.Modules.{begins_module, modules}
use Rattle.si_verilog_reader.proofs.ExpressionLemmas.{symbols, Has}
use Rattle.si_verilog_reader.proofs.HeadLemmas.{begins}
use Rattle.si_verilog_reader.proofs.CircuitLemmas.{Item, IsItem, item_symbols}

abbrev pub is_other : Symbol → Bool
is_other x = not (same_symbol (Word (codes "module")) x)

-- none of them is `module`
abbrev pub AreOther : List Symbol → Type 0
AreOther xs = list_all is_other xs ≡ true

pub other_joined : (xs ys : List Symbol) → AreOther xs → AreOther ys → AreOther (xs ++ ys)
other_joined xs ys former latter = list_all-append is_other xs ys ∙ and_from _ _ former latter

pub expression_other : {level : Level} {xs : List Symbol} {t : Tree} → Spells level xs t → AreOther xs
expression_other zero = refl
expression_other one = refl
expression_other (named name) = refl
expression_other (grouped {inner = xs} e) = other_joined xs (Mark 41 ∷ []) (expression_other e) refl
expression_other (as_factor e) = expression_other e
expression_other (complemented e) = expression_other e
expression_other (as_term e) = expression_other e
expression_other (with_factor {xs = xs} {ys = ys} e f) =
    other_joined xs (Mark 38 ∷ ys) (expression_other e) (expression_other f)
expression_other (as_expression e) = expression_other e
expression_other (with_term {xs = xs} {ys = ys} e f) =
    other_joined xs (Mark 124 ∷ ys) (expression_other e) (expression_other f)

pub items_other : (signals : List Signal) (items : List Item) → AllByRecursion (IsItem signals) items
    → AreOther (flat_map item_symbols items)
items_other signals [] all = refl
items_other signals (q ∷ qs) all = other_joined (item_symbols q) (flat_map item_symbols qs)
    (other_joined q.symbols (Mark 59 ∷ []) (expression_other all.0.spells) refl) (items_other signals qs all.1)

port_other : (port : Port) (ys : List Symbol) → AreOther ys → AreOther (port_symbols port ++ ys)
port_other (InputPort name) ys other = other
port_other (OutputPort name) ys other = other

more_other : (ports : List Port) → AreOther (flat_map (λ port. (Mark 44 ∷ []) ++ port_symbols port) ports)
more_other [] = refl
more_other (InputPort name ∷ more) = more_other more
more_other (OutputPort name ∷ more) = more_other more

pub ports_other : (ports : List Port) → AreOther (join_by port_symbols (Mark 44 ∷ []) ports)
ports_other [] = refl
ports_other (port ∷ more) = port_other port (flat_map (λ next. (Mark 44 ∷ []) ++ port_symbols next) more)
    (more_other more)

pub wires_other : (names : List (List ℕ)) → AreOther (flat_map wire_symbols names)
wires_other [] = refl
wires_other (n ∷ names) = wires_other names

abbrev one_if : Bool → ℕ
one_if c = if c then 1 else 0

counted : (p : Placed) (ps : List Placed) (c : Bool) → begins_module p ≡ c → modules (p ∷ ps) ≡ one_if c + modules ps
counted p ps c is = sum_by-cons (λ (q : Placed). one_if (begins_module q)) p ps
    ∙ ap (λ (d : Bool). one_if d + modules ps) is

none_counted : (ps : List Placed) → AreOther (symbols ps) → modules ps ≡ 0
none_counted [] other = refl
none_counted (p ∷ ps) other =
    let parts = and_parts (is_other p.symbol) (list_all is_other (symbols ps)) other in
    let first = counted p ps false (not-true (begins_module p) parts.0) in
    omega (arith, first, none_counted ps parts.1)

-- so no module stands before it
pub one_module : (xs : List Symbol) (ps : List Placed) → Has (Word (codes "module") ∷ xs) ps → AreOther xs
    → modules ps - 1 ≡ 0
one_module xs ps has other =
    let word = begins (Word (codes "module")) xs ps has in
    let none = none_counted word.more (subst AreOther (sym word.behind) other) in
    let first = counted word.first word.more true (ap (same_symbol (Word (codes "module"))) word.here) in
    ap (λ (l : List Placed). modules l - 1) word.whole ∙ omega (arith, first, none)
