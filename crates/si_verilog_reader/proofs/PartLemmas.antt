-- Parts one after another: each takes at least one symbol of those that are left.
use Rattle.std.proofs.Common.{◌≡◌, ℕ, zero, suc, ◌<◌, ◌≤◌, Bool, true, false, List, [], ◌∷◌, length}
use Rattle.std.proofs.Common.{bytes_eq, codes, Option, Some, None, Ok, Err, refl, ap, ◌∙◌, arith}
use Rattle.std.proofs.Common.{if◌then◌else◌}
use Rattle.si_base.specs.declared.fault.TextKind.{TextKind}
use Rattle.si_base.specs.declared.fault.TextKind.TheVariants.{BadWord}
use Rattle.si_tokens.specs.declared.fault.Stop.{Stop}
use Rattle.si_tokens.specs.declared.fault.Stop.TheVariants.{Fault}
use Rattle.si_tokens.specs.Unread.{◌>>=◌}
use Rattle.si_genlib.specs.Expression.{Tree, State, Outcome, Goes, Ends, Stops, start, value_of}
use Rattle.si_equations.specs.Equations.{Equations}
use Rattle.si_equations.proofs.WholeLemmas.{bind_ok}
use Rattle.si_verilog.specs.Symbols.{Symbol, Name, Word, Mark}
use Rattle.si_verilog_reader.specs.Placed.{Placed}
use Rattle.si_verilog_reader.specs.Parts.{Reading, Named, if_good, next, same_symbol, due, named, name_at, repeated}
use Rattle.si_verilog_reader.specs.Parts.{all_parts, goes_on, part_of_list, closed, unless_closed, list_at}
use Rattle.si_verilog_reader.specs.Expressions.{meant, fault_in, stepped, led, expression_from, expression_at}
use Rattle.si_verilog_reader.specs.Modules.{Ports, direction, with_port, all_ports, port_at, Assign, assign_at, Cell}
use Rattle.si_verilog_reader.specs.Modules.{connected, Connection, net_of, signal_fault, connection_fault}
use Rattle.si_verilog_reader.specs.Modules.{connection_at, cell_named, connections_at, with_signal, assign_behind}
use Rattle.si_verilog_reader.specs.Modules.{instance_behind, wire_behind, and_more, item_behind, item_at}

abbrev left : {B : Type 0} → Reading B → List Placed
left (Ok read) = read.1
left (Err stop) = []

-- what is read leaves fewer symbols
abbrev pub Takes : {B : Type 0} → List Placed → Reading B → Type 0
Takes {B} ps read = (b : B) (rest : List Placed) → read ≡ Ok (b, rest) → length rest < length ps

-- each part takes a symbol
abbrev pub Shrinks : {A B : Type 0} → (A → List Placed → Reading B) → Type 0
Shrinks {A} {B} part = (a : A) (ps rest : List Placed) (b : B) → part a ps ≡ Ok (b, rest) → length rest < length ps

-- ---- one part after another

abbrev goes : {A : Type 0} → (A → List Placed → Reading (Bool × A)) → ℕ → (Bool × A) × List Placed → Reading A
goes part n new = if new.0.0 then repeated part n new.0.1 new.1 else Ok (new.0.1, new.1)

-- more parts than there are symbols left change nothing
enough : {A : Type 0} (part : A → List Placed → Reading (Bool × A)) → Shrinks part → (n m : ℕ) (a : A)
    (ps : List Placed) → length ps < n → length ps < m → repeated part n a ps ≡ repeated part m a ps
enough part fewer zero m a ps one other = absurd (omega arith)
enough part fewer (suc n) zero a ps one other = absurd (omega arith)
enough {A} part fewer (suc n) (suc m) a ps one other =
    by_result (λ b rest. enough part fewer n m b rest) (part a ps) refl
  where
    by_result : ((b : A) (rest : List Placed) → length rest < n → length rest < m
        → repeated part n b rest ≡ repeated part m b rest)
        → (r : Reading (Bool × A)) → part a ps ≡ r → (r >>= goes part n) ≡ (r >>= goes part m)
    by_result later (Ok ((true, b), rest)) is =
        let less = fewer a ps rest (true, b) is in
        later b rest (omega (arith, less, one)) (omega (arith, less, other))
    by_result later (Ok ((false, b), rest)) is = refl
    by_result later (Err stop) is = refl

pub one_more : {A : Type 0} (part : A → List Placed → Reading (Bool × A))
    → ((a : A) (ps rest : List Placed) (r : Bool × A) → part a ps ≡ Ok (r, rest) → length rest < length ps)
    → (a b : A) (ps rest : List Placed) → part a ps ≡ Ok ((true, b), rest)
    → all_parts part a ps ≡ all_parts part b rest
unfolding all_parts
one_more {A} part fewer a b ps rest is =
    let less = fewer a ps rest (true, b) is in
    ap (λ (r : Reading (Bool × A)). r >>= goes part (length ps)) is
    ∙ enough part fewer (length ps) (suc (length rest)) b rest less (omega arith)

pub last_part : {A : Type 0} (part : A → List Placed → Reading (Bool × A)) (a b : A) (ps rest : List Placed)
    → part a ps ≡ Ok ((false, b), rest) → all_parts part a ps ≡ Ok (b, rest)
unfolding all_parts
last_part {A} part a b ps rest is = ap (λ (r : Reading (Bool × A)). r >>= goes part (length ps)) is

pub part_fails : {A : Type 0} (part : A → List Placed → Reading (Bool × A)) (a : A) (ps : List Placed) (stop : Stop)
    → part a ps ≡ Err stop → all_parts part a ps ≡ Err stop
unfolding all_parts
part_fails {A} part a ps stop is = ap (λ (r : Reading (Bool × A)). r >>= goes part (length ps)) is

-- ---- one symbol

pub fewer_next : (ps : List Placed) → Takes ps (next ps)
fewer_next [] p rest is = absurd cc
fewer_next (q ∷ ps) p rest is =
    let same : length ps ≡ length rest = ap (λ (r : Reading Placed). length (left r)) is in
    omega (arith, same)

-- a value without fault is that value
pub good_same : {A : Type 0} (line : ℕ) (fault : Option TextKind) (x y : A) → if_good line fault x ≡ Ok y → x ≡ y
good_same line None x y is = cc
good_same line (Some kind) x y is = absurd cc

good_left : (line : ℕ) (fault : Option TextKind) (ps rest : List Placed) → if_good line fault ps ≡ Ok rest
    → length ps ≡ length rest
good_left line fault ps rest is = ap (λ (l : List Placed). length l) (good_same line fault ps rest is)

pub fewer_due : (symbol : Symbol) (ps rest : List Placed) → due symbol ps ≡ Ok rest → length rest < length ps
unfolding due
fewer_due symbol ps rest is =
    let p = bind_ok (next ps) _ rest is in
    let same = good_left p.0.0.line _ p.0.1 rest p.2 in
    omega (arith, same, fewer_next ps p.0.0 p.0.1 p.1)

same_left : (line : ℕ) (ps : List Placed) (symbol : Symbol) (n : Named) (rest : List Placed)
    → named line ps symbol ≡ Ok (n, rest) → length ps ≡ length rest
same_left line ps (Name name) n rest is =
    ap (λ (r : Reading Named). length (left r)) is
same_left line ps (Word word) n rest is = absurd cc
same_left line ps (Mark byte) n rest is = absurd cc

pub fewer_name : (ps : List Placed) → Takes ps (name_at ps)
unfolding name_at
fewer_name ps n rest is =
    let p = bind_ok (next ps) _ (n, rest) is in
    let same = same_left p.0.0.line p.0.1 p.0.0.symbol n rest p.2 in
    omega (arith, same, fewer_next ps p.0.0 p.0.1 p.1)

-- ---- lists in parentheses

abbrev by_mark : Placed → List Placed → (one other : Bool) → Reading Bool
by_mark p ps one other =
    if one then Ok (true, ps) else if other then Ok (false, ps) else Err (Fault p.line BadWord)

goes_on_left : (p : Placed) (ps : List Placed) (one other : Bool) (b : Bool) (rest : List Placed)
    → by_mark p ps one other ≡ Ok (b, rest) → length ps ≡ length rest
goes_on_left p ps true other b rest is = ap (λ (r : Reading Bool). length (left r)) is
goes_on_left p ps false true b rest is = ap (λ (r : Reading Bool). length (left r)) is
goes_on_left p ps false false b rest is = absurd cc

pub fewer_goes_on : (ps : List Placed) → Takes ps (goes_on ps)
unfolding goes_on
fewer_goes_on ps b rest is =
    let p = bind_ok (next ps) _ (b, rest) is in
    let same = goes_on_left p.0.0 p.0.1 _ _ b rest p.2 in
    omega (arith, same, fewer_next ps p.0.0 p.0.1 p.1)

-- a part takes no more than it is given, and the mark behind it is one symbol
fewer_part : {A : Type 0} (part : A → List Placed → Reading A) → Shrinks part → Shrinks (part_of_list part)
unfolding part_of_list
fewer_part part fewer a ps rest r is =
    let new = bind_ok (part a ps) _ (r, rest) is in
    let more = bind_ok (goes_on new.0.1) _ (r, rest) new.2 in
    let same = ap (λ (x : Reading _). length (left x)) more.2 in
    omega (arith, same, fewer a ps new.0.1 new.0.0 new.1, fewer_goes_on new.0.1 more.0.0 more.0.1 more.1)

fewer_repeated : {A : Type 0} (part : A → List Placed → Reading (Bool × A)) → Shrinks part → (n : ℕ) (a b : A)
    (ps rest : List Placed) → repeated part n a ps ≡ Ok (b, rest) → length rest < length ps
fewer_repeated part fewer zero a b ps rest is = absurd cc
fewer_repeated {A} part fewer (suc n) a b ps rest is =
    let new = bind_ok (part a ps) (goes part n) (b, rest) is in
    by_more new.0.0.0 new.0.0.1 new.0.1 new.1 new.2 (λ c more. fewer_repeated part fewer n c b more rest)
  where
    by_more : (more : Bool) (c : A) (behind : List Placed) → part a ps ≡ Ok ((more, c), behind)
        → goes part n ((more, c), behind) ≡ Ok (b, rest)
        → ((d : A) (qs : List Placed) → repeated part n d qs ≡ Ok (b, rest) → length rest < length qs)
        → length rest < length ps
    by_more true c behind one same later =
        omega (arith, fewer a ps behind (true, c) one, later c behind same)
    by_more false c behind one same later =
        let last = ap (λ (r : Reading A). length (left r)) same in
        omega (arith, last, fewer a ps behind (false, c) one)

fewer_closed : (ps rest : List Placed) → closed ps ≡ Some rest → length rest < length ps
fewer_closed [] rest is = absurd cc
fewer_closed (p ∷ ps) rest is = by (same_symbol (Mark 41) p.symbol) is
  where
    inner : Option (List Placed) → List Placed
    inner (Some ps) = ps
    inner None = []

    by : (c : Bool) → (if c then Some ps else None) ≡ Some rest → length rest < length (p ∷ ps)
    by true is =
        let same = ap (λ (o : Option (List Placed)). length (inner o)) is in
        omega (arith, same)
    by false is = absurd cc

pub fewer_list : {A : Type 0} (part : A → List Placed → Reading A) → Shrinks part → Shrinks (list_at part)
unfolding list_at all_parts
fewer_list {A} part fewer a ps rest b is = by (closed ps) refl is
  where
    by : (c : Option (List Placed)) → closed ps ≡ c
        → unless_closed c a (repeated (part_of_list part) (suc (length ps)) a ps) ≡ Ok (b, rest)
        → length rest < length ps
    by None none same =
        fewer_repeated (part_of_list part) (fewer_part part fewer) (suc (length ps)) a b ps rest same
    by (Some behind) found same =
        let last = ap (λ (r : Reading A). length (left r)) same in
        omega (arith, last, fewer_closed ps behind found)

-- ---- expressions

fewer_from : (fault : List ℕ → Option TextKind) (s : State Tree) (ps rest : List Placed) (t : Tree)
    → expression_from fault s ps ≡ Ok (t, rest) → length rest < length ps
fewer_from fault s [] rest t is = absurd cc
fewer_from fault s (p ∷ ps) rest t is =
    let good = bind_ok (if_good p.line (fault_in fault p.symbol) ps) _ (t, rest) is in
    by_outcome (λ next more. fewer_from fault next ps rest t more) (stepped s (meant p.symbol)) good.2
  where
    by_outcome : ((next : State Tree) → expression_from fault next ps ≡ Ok (t, rest) → length rest < length ps)
        → (c : Outcome Tree) → led (λ next. expression_from fault next ps) p.line ps c ≡ Ok (t, rest)
        → length rest < length (p ∷ ps)
    by_outcome later (Goes next) same = omega (arith, later next same)
    by_outcome later (Ends tree) same =
        let last = ap (λ (r : Reading Tree). length (left r)) same in
        omega (arith, last)
    by_outcome later (Stops kind) same = absurd cc

pub fewer_expression : (fault : List ℕ → Option TextKind) (ps : List Placed) → Takes ps (expression_at fault ps)
unfolding expression_at
fewer_expression fault ps t rest is = fewer_from fault start ps rest t is

pub fewer_assign : (fault : List ℕ → Option TextKind) (ps : List Placed) → Takes ps (assign_at fault ps)
unfolding assign_at
fewer_assign fault ps a rest is =
    let name = bind_ok (name_at ps) _ (a, rest) is in
    let body = bind_ok (due (Mark 61) name.0.1) _ (a, rest) name.2 in
    let tree = bind_ok (expression_at fault body.0) _ (a, rest) body.2 in
    let last = ap (λ (r : Reading Assign). length (left r)) tree.2 in
    omega (
      arith,
      last,
      fewer_name ps name.0.0 name.0.1 name.1,
      fewer_due (Mark 61) name.0.1 body.0 body.1,
      fewer_expression fault body.0 tree.0.0 tree.0.1 tree.1,
    )

-- ---- ports and connections

one_port : (fault : List (List ℕ) → List ℕ → Option TextKind) → Shrinks (port_at fault)
unfolding port_at
one_port fault ports ps rest new is =
    let word = bind_ok (next ps) _ (new, rest) is in
    let input = bind_ok (direction word.0.0.line word.0.0.symbol) _ (new, rest) word.2 in
    let name = bind_ok (name_at word.0.1) _ (new, rest) input.2 in
    let last = ap (λ (x : Ports × List Placed). length x.1)
    (good_same name.0.0.line (fault (all_ports ports) name.0.0.name)
    (with_port input.0 name.0.0.name ports, name.0.1) (new, rest) name.2) in
    omega (arith, last, fewer_next ps word.0.0 word.0.1 word.1, fewer_name word.0.1 name.0.0 name.0.1 name.1)

pub fewer_port : (fault : List (List ℕ) → List ℕ → Option TextKind) → Shrinks (part_of_list (port_at fault))
fewer_port fault = fewer_part (port_at fault) (one_port fault)

one_connection : (ports : List (List ℕ)) → Shrinks (connection_at ports)
unfolding connection_at
one_connection ports old ps rest new is =
    let dotted = bind_ok (due (Mark 46) ps) _ (new, rest) is in
    let port = bind_ok (name_at dotted.0) _ (new, rest) dotted.2 in
    let behind = bind_ok (if_good port.0.0.line (connection_fault ports old port.0.0.name) port.0.1) _ (new, rest)
    port.2 in
    let opened = bind_ok (due (Mark 40) behind.0) _ (new, rest) behind.2 in
    let net = bind_ok (name_at opened.0) _ (new, rest) opened.2 in
    let inner = bind_ok (if_good net.0.0.line (signal_fault net.0.0.name) net.0.1) _ (new, rest) net.2 in
    let closes = bind_ok (due (Mark 41) inner.0) _ (new, rest) inner.2 in
    let last = ap (λ (r : Reading (List Connection)). length (left r)) closes.2 in
    let same = good_left port.0.0.line _ port.0.1 behind.0 behind.1 in
    let also = good_left net.0.0.line _ net.0.1 inner.0 inner.1 in
    omega (
      arith,
      last,
      same,
      also,
      fewer_due (Mark 46) ps dotted.0 dotted.1,
      fewer_name dotted.0 port.0.0 port.0.1 port.1,
      fewer_due (Mark 40) behind.0 opened.0 opened.1,
      fewer_name opened.0 net.0.0 net.0.1 net.1,
      fewer_due (Mark 41) inner.0 closes.0 closes.1,
    )

pub fewer_connection : (ports : List (List ℕ)) → Shrinks (part_of_list (connection_at ports))
fewer_connection ports = fewer_part (connection_at ports) (one_connection ports)

fewer_connections : (line : ℕ) (ports : List (List ℕ)) (ps : List Placed) → Takes ps (connections_at line ports ps)
unfolding connections_at
fewer_connections line ports ps all rest is =
    let name = bind_ok (name_at ps) _ (all, rest) is in
    let opened = bind_ok (due (Mark 40) name.0.1) _ (all, rest) name.2 in
    let listed = bind_ok (list_at (connection_at ports) [] opened.0) _ (all, rest) opened.2 in
    let ended = bind_ok (due (Mark 59) listed.0.1) _ (all, rest) listed.2 in
    let last = ap (λ (x : List Connection × List Placed). length x.1)
    (good_same line _ (listed.0.0, ended.0) (all, rest) ended.2) in
    omega (
      arith,
      last,
      fewer_name ps name.0.0 name.0.1 name.1,
      fewer_due (Mark 40) name.0.1 opened.0 opened.1,
      fewer_list (connection_at ports) (one_connection ports) [] opened.0 listed.0.1 listed.0.0 listed.1,
      fewer_due (Mark 59) listed.0.1 ended.0 ended.1,
    )

-- ---- items

fewer_wire : (e : Equations) (ps : List Placed) → Takes ps (wire_behind e ps)
unfolding wire_behind
fewer_wire e ps new rest is =
    let name = bind_ok (name_at ps) _ (new, rest) is in
    let ended = bind_ok (due (Mark 59) name.0.1) _ (new, rest) name.2 in
    let last = ap (λ (r : Reading Equations). length (left r)) ended.2 in
    omega (arith, last, fewer_name ps name.0.0 name.0.1 name.1, fewer_due (Mark 59) name.0.1 ended.0 ended.1)

fewer_assign_behind : (e : Equations) (ps : List Placed) → Takes ps (assign_behind e ps)
unfolding assign_behind
fewer_assign_behind e ps new rest is =
    let assign = bind_ok (assign_at signal_fault ps) _ (new, rest) is in
    let more = bind_ok (with_signal e assign.0.0.line assign.0.0.name assign.0.0.tree) _ (new, rest) assign.2 in
    let last = ap (λ (r : Reading Equations). length (left r)) more.2 in
    omega (arith, last, fewer_assign signal_fault ps assign.0.0 assign.0.1 assign.1)

fewer_instance : (cells : List Cell) (e : Equations) (line : ℕ) (name : List ℕ) (ps : List Placed)
    → Takes ps (instance_behind cells e line name ps)
unfolding instance_behind
fewer_instance cells e line name ps new rest is =
    let cell = bind_ok (cell_named line cells name) _ (new, rest) is in
    let all = bind_ok (connections_at line cell.0.ports ps) _ (new, rest) cell.2 in
    let more = bind_ok (with_signal e line (net_of all.0.0 cell.0.output)
    (value_of (connected all.0.0) cell.0.tree)) _ (new, rest) all.2 in
    let last = ap (λ (r : Reading Equations). length (left r)) more.2 in
    omega (arith, last, fewer_connections line cell.0.ports ps all.0.0 all.0.1 all.1)

more_left : (r : Reading Equations) (more : Bool × Equations) (rest : List Placed) (ps : List Placed)
    → and_more r ≡ Ok (more, rest) → Takes ps r → length rest < length ps
more_left (Ok read) more rest ps is takes =
    let last = ap (λ (x : Reading (Bool × Equations)). length (left x)) is in
    omega (arith, last, takes read.0 read.1 refl)
more_left (Err stop) more rest ps is takes = absurd cc

fewer_word : (e : Equations) (line : ℕ) (wire assign end : Bool) (ps : List Placed) (more : Bool × Equations)
    (rest : List Placed)
    → (if wire then and_more (wire_behind e ps) else if assign then and_more (assign_behind e ps)
    else if end then Ok ((false, e), ps) else Err (Fault line BadWord)) ≡ Ok (more, rest)
    → length rest ≤ length ps
fewer_word e line true assign end ps more rest is =
    omega (arith, more_left (wire_behind e ps) more rest ps is (fewer_wire e ps))
fewer_word e line false true end ps more rest is =
    omega (arith, more_left (assign_behind e ps) more rest ps is (fewer_assign_behind e ps))
fewer_word e line false false true ps more rest is =
    let last = ap (λ (x : Reading (Bool × Equations)). length (left x)) is in
    omega (arith, last)
fewer_word e line false false false ps more rest is = absurd cc

fewer_behind : (cells : List Cell) (e : Equations) (line : ℕ) (symbol : Symbol) (ps : List Placed)
    (more : Bool × Equations) (rest : List Placed) → item_behind cells e line symbol ps ≡ Ok (more, rest)
    → length rest ≤ length ps
fewer_behind cells e line (Name name) ps more rest is =
    let less = more_left (instance_behind cells e line name ps) more rest ps is (fewer_instance cells e line name ps) in
    omega (arith, less)
fewer_behind cells e line (Word word) ps more rest is =
    fewer_word e line (bytes_eq (codes "wire") word) (bytes_eq (codes "assign") word)
    (bytes_eq (codes "endmodule") word) ps more rest is
fewer_behind cells e line (Mark byte) ps more rest is = absurd cc

pub fewer_item : (cells : List Cell) → Shrinks (item_at cells)
unfolding item_at
fewer_item cells e ps rest more is =
    let first = bind_ok (next ps) _ (more, rest) is in
    let behind = fewer_behind cells e first.0.0.line first.0.0.symbol first.0.1 more rest first.2 in
    omega (arith, behind, fewer_next ps first.0.0 first.0.1 first.1)
