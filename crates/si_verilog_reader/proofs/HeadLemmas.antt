-- Heads of modules are read: the name, and the ports.
use Rattle.std.proofs.Common.{◌≡◌, ℕ, true, false, List, [], ◌∷◌, ◌++◌, map, flat_map, codes, append_assoc}
use Rattle.std.proofs.Common.{if◌then◌else◌, Option, Some, None, Ok, refl, sym, ap, subst, ◌∙◌}
use Rattle.std.specs.List.{join_by}
use Rattle.std.proofs.lemmas.List.{append-nil}
use Rattle.si_base.specs.declared.fault.TextKind.{TextKind}
use Rattle.si_base.specs.Faults.{first_after}
use Rattle.si_equations.proofs.ListLemmas.{no_fault}
use Rattle.si_verilog.specs.Symbols.{Symbol, Name, Word, Mark}
use Rattle.si_verilog.specs.Grammar.{Port, InputPort, OutputPort, port_symbols}
use Rattle.si_verilog.specs.Declared.{port_name}
use Rattle.si_verilog_reader.specs.Placed.{Placed}
use Rattle.si_verilog_reader.specs.Parts.{next, same_symbol, due, name_at, goes_on, all_parts, part_of_list}
use Rattle.si_verilog_reader.specs.Parts.{closed, list_at}
use Rattle.si_verilog_reader.specs.Modules.{Ports, no_ports, all_ports, with_port, port_at, head_at, ports_at}
use Rattle.si_verilog_reader.proofs.ExpressionLemmas.{symbols, Has, has_parts}
use Rattle.si_verilog_reader.proofs.PartLemmas.{one_more, last_part, fewer_port}

-- ---- one symbol

-- the first of some symbols, and those behind it
pub record Begins (x : Symbol) (xs : List Symbol) (ps : List Placed) : Type 0 where
  pub first : Placed
  pub more : List Placed
  pub whole : ps ≡ first ∷ more
  pub here : first.symbol ≡ x
  pub behind : Has xs more
  pub taken : (rest : List Placed) → next (ps ++ rest) ≡ Ok (first, more ++ rest)
  pub shut : (rest : List Placed)
      → closed (ps ++ rest) ≡ (if same_symbol (Mark 41) x then Some (more ++ rest) else None)

pub begins : (x : Symbol) (xs : List Symbol) (ps : List Placed) → Has (x ∷ xs) ps → Begins x xs ps
begins x xs [] is = absurd cc
begins x xs (p ∷ ps) is =
    let here : p.symbol ≡ x = cc in
    let later : symbols ps ≡ xs = cc in record {
      first = p;
      more = ps;
      whole = refl;
      here = here;
      behind = later;
      taken = λ rest. refl;
      shut = λ rest. rw here refl;
    }

pub none_left : (ps : List Placed) → Has [] ps → ps ≡ []
none_left [] is = refl
none_left (p ∷ ps) is = absurd cc

-- it is the symbol that is due
pub record IsDue (x : Symbol) (xs : List Symbol) (ps rest : List Placed) : Type 0 where
  pub more : List Placed
  pub behind : Has xs more
  pub read_as : due x (ps ++ rest) ≡ Ok (more ++ rest)

pub is_due : (x : Symbol) (xs : List Symbol) (ps rest : List Placed) → same_symbol x x ≡ true → Has (x ∷ xs) ps
    → IsDue x xs ps rest
unfolding due
is_due x xs [] rest same is = absurd cc
is_due x xs (p ∷ ps) rest same is =
    let here : p.symbol ≡ x = cc in
    let later : symbols ps ≡ xs = cc in
    record { more = ps; behind = later; read_as = rw (here, same) refl }

-- it is a name
pub record IsName (name : List ℕ) (xs : List Symbol) (ps rest : List Placed) : Type 0 where
  pub line : ℕ
  pub more : List Placed
  pub behind : Has xs more
  pub read_as : name_at (ps ++ rest) ≡ Ok (record { line = line; name = name }, more ++ rest)

pub is_name : (name : List ℕ) (xs : List Symbol) (ps rest : List Placed) → Has (Name name ∷ xs) ps
    → IsName name xs ps rest
unfolding name_at
is_name name xs [] rest is = absurd cc
is_name name xs (p ∷ ps) rest is =
    let here : p.symbol ≡ Name name = cc in
    let later : symbols ps ≡ xs = cc in
    record { line = p.line; more = ps; behind = later; read_as = rw here refl }

-- ---- `module NAME(`

pub head_read : (name : List ℕ) (ps : List Placed) → Has (Word (codes "module") ∷ Name name ∷ Mark 40 ∷ []) ps
    → (rest : List Placed) → (line : ℕ) × (head_at (ps ++ rest) ≡ Ok (record { line = line; name = name }, rest))
unfolding head_at
head_read name ps has rest =
    let word = is_due (Word (codes "module")) (Name name ∷ Mark 40 ∷ []) ps rest refl has in
    let named = is_name name (Mark 40 ∷ []) word.more rest word.behind in
    let opens = is_due (Mark 40) [] named.more rest refl named.behind in
    let none = none_left opens.more opens.behind in
    (named.line, rw (word.read_as, named.read_as, opens.read_as, none) refl)

-- ---- one port

abbrev with_one : Port → Ports → Ports
with_one (InputPort name) old = with_port true name old
with_one (OutputPort name) old = with_port false name old

port_read : (fault : List (List ℕ) → List ℕ → Option TextKind) (old : Ports) (port : Port) (xs : List Symbol)
    (ps rest : List Placed) → fault (all_ports old) (port_name port) ≡ None → Has (port_symbols port ++ xs) ps
    → (more : List Placed) × Has xs more × (port_at fault old (ps ++ rest) ≡ Ok (with_one port old, more ++ rest))
unfolding port_at
port_read fault old (InputPort name) xs ps rest good has =
    let word = begins (Word (codes "input")) (Name name ∷ xs) ps has in
    let named = is_name name xs word.more rest word.behind in
    (named.more, named.behind, rw (word.taken rest, word.here, named.read_as, good) refl)
port_read fault old (OutputPort name) xs ps rest good has =
    let word = begins (Word (codes "output")) (Name name ∷ xs) ps has in
    let named = is_name name xs word.more rest word.behind in
    (named.more, named.behind, rw (word.taken rest, word.here, named.read_as, good) refl)

-- ---- all ports

abbrev HaveNoFault : (List (List ℕ) → List ℕ → Option TextKind) → Ports → List Port → Type 0
HaveNoFault fault old [] = Unit {0}
HaveNoFault fault old (port ∷ more) =
    (fault (all_ports old) (port_name port) ≡ None) × HaveNoFault fault (with_one port old) more

abbrev with_all : List Port → Ports → Ports
with_all [] old = old
with_all (port ∷ more) old = with_all more (with_one port old)

abbrev behind_comma : Port → List Symbol
behind_comma port = (Mark 44 ∷ []) ++ port_symbols port

-- a port, and more behind it
some_ports : (fault : List (List ℕ) → List ℕ → Option TextKind) (old : Ports) (port : Port) (more : List Port)
    (ps rest : List Placed) → HaveNoFault fault old (port ∷ more)
    → Has (port_symbols port ++ (flat_map behind_comma more ++ Mark 41 ∷ [])) ps
    → all_parts (part_of_list (port_at fault)) old (ps ++ rest) ≡ Ok (with_all (port ∷ more) old, rest)
unfolding part_of_list goes_on
some_ports fault old port [] ps rest good has =
    let one = port_read fault old port (Mark 41 ∷ []) ps rest good.0 has in
    let closes = begins (Mark 41) [] one.0 one.1 in
    let none = none_left closes.more closes.behind in
    last_part (part_of_list (port_at fault)) old (with_one port old) (ps ++ rest) rest
    (rw (one.2, closes.taken rest, closes.here, none) refl)
some_ports fault old port (next ∷ more) ps rest good has =
    let one = port_read fault old port (flat_map behind_comma (next ∷ more) ++ Mark 41 ∷ []) ps rest good.0 has in
    let left : List Symbol = (port_symbols next ++ flat_map behind_comma more) ++ Mark 41 ∷ [] in
    let comma = begins (Mark 44) left one.0 one.1 in
    let regrouped : Has (port_symbols next ++ (flat_map behind_comma more ++ Mark 41 ∷ [])) comma.more =
    comma.behind ∙ append_assoc (port_symbols next) (flat_map behind_comma more) (Mark 41 ∷ []) in
    one_more (part_of_list (port_at fault)) (fewer_port fault) old (with_one port old) (ps ++ rest)
    (comma.more ++ rest) (rw (one.2, comma.taken rest, comma.here) refl)
    ∙ some_ports fault (with_one port old) next more comma.more rest good.1 regrouped

list_read : (fault : List (List ℕ) → List ℕ → Option TextKind) (ports : List Port) (ps rest : List Placed)
    → HaveNoFault fault no_ports ports → Has (join_by port_symbols (Mark 44 ∷ []) ports ++ Mark 41 ∷ []) ps
    → list_at (port_at fault) no_ports (ps ++ rest) ≡ Ok (with_all ports no_ports, rest)
unfolding list_at
list_read fault [] ps rest good has =
    let closes = begins (Mark 41) [] ps has in
    let none = none_left closes.more closes.behind in
    rw (closes.shut rest, none) refl
list_read fault (InputPort name ∷ more) ps rest good has =
    let parted = has ∙ append_assoc (port_symbols (InputPort name)) (flat_map behind_comma more) (Mark 41 ∷ []) in
    let word = begins (Word (codes "input")) (Name name ∷ (flat_map behind_comma more ++ Mark 41 ∷ [])) ps parted in
    let all = some_ports fault no_ports (InputPort name) more ps rest good parted in
    rw (word.shut rest) all
list_read fault (OutputPort name ∷ more) ps rest good has =
    let parted = has ∙ append_assoc (port_symbols (OutputPort name)) (flat_map behind_comma more) (Mark 41 ∷ []) in
    let word = begins (Word (codes "output")) (Name name ∷ (flat_map behind_comma more ++ Mark 41 ∷ [])) ps parted in
    let all = some_ports fault no_ports (OutputPort name) more ps rest good parted in
    rw (word.shut rest) all

-- ---- inputs, and outputs behind them

abbrev ports_are : List (List ℕ) → List (List ℕ) → Ports
ports_are ins outs = record { inputs = ins; outputs = outs }

outputs_good : (fault : List (List ℕ) → List ℕ → Option TextKind) (ins before outs : List (List ℕ))
    → first_after fault (ins ++ before) outs ≡ None
    → HaveNoFault fault (ports_are ins before) (map OutputPort outs)
outputs_good fault ins before [] good = tt
outputs_good fault ins before (x ∷ outs) good =
    let parts = no_fault (fault (ins ++ before) x) (first_after fault ((ins ++ before) ++ x ∷ []) outs) good in (
      parts.0,
      outputs_good fault ins (before ++ x ∷ []) outs
          (subst (λ (l : List (List ℕ)). first_after fault l outs ≡ None) (append_assoc ins before (x ∷ [])) parts.1),
    )

ports_good : (fault : List (List ℕ) → List ℕ → Option TextKind) (before ins outs : List (List ℕ))
    → first_after fault before (ins ++ outs) ≡ None
    → HaveNoFault fault (ports_are before []) (map InputPort ins ++ map OutputPort outs)
ports_good fault before [] outs good = outputs_good fault before [] outs
    (subst (λ (l : List (List ℕ)). first_after fault l outs ≡ None) (sym (append-nil before)) good)
ports_good fault before (x ∷ ins) outs good =
    let parts = no_fault (fault before x) (first_after fault (before ++ x ∷ []) (ins ++ outs)) good in (
      ap (λ (l : List (List ℕ)). fault l x) (append-nil before) ∙ parts.0,
      ports_good fault (before ++ x ∷ []) ins outs parts.1,
    )

outputs_are : (ins before outs : List (List ℕ))
    → with_all (map OutputPort outs) (ports_are ins before) ≡ ports_are ins (before ++ outs)
outputs_are ins before [] = ap (ports_are ins) (sym (append-nil before))
outputs_are ins before (x ∷ outs) =
    outputs_are ins (before ++ x ∷ []) outs ∙ ap (ports_are ins) (append_assoc before (x ∷ []) outs)

all_are : (before ins outs : List (List ℕ))
    → with_all (map InputPort ins ++ map OutputPort outs) (ports_are before []) ≡ ports_are (before ++ ins) outs
all_are before [] outs =
    outputs_are before [] outs ∙ ap (λ (l : List (List ℕ)). ports_are l outs) (sym (append-nil before))
all_are before (x ∷ ins) outs = all_are (before ++ x ∷ []) ins outs
    ∙ ap (λ (l : List (List ℕ)). ports_are l outs) (append_assoc before (x ∷ []) ins)

-- `PORTS);`
pub ports_read : (fault : List (List ℕ) → List ℕ → Option TextKind) (ins outs : List (List ℕ))
    → first_after fault [] (ins ++ outs) ≡ None → (ps : List Placed)
    → Has (join_by port_symbols (Mark 44 ∷ []) (map InputPort ins ++ map OutputPort outs)
    ++ Mark 41 ∷ Mark 59 ∷ []) ps → (rest : List Placed)
    → ports_at fault (ps ++ rest) ≡ Ok (record { inputs = ins; outputs = outs }, rest)
unfolding ports_at
ports_read fault ins outs good ps has rest =
    let ports = map InputPort ins ++ map OutputPort outs in
    let listed : List Symbol = join_by port_symbols (Mark 44 ∷ []) ports in
    let split = has_parts (listed ++ Mark 41 ∷ []) (Mark 59 ∷ []) ps
    (has ∙ sym (append_assoc listed (Mark 41 ∷ []) (Mark 59 ∷ []))) in
    let ends = is_due (Mark 59) [] split.back rest refl split.second in
    let none = none_left ends.more ends.behind in
    let all = list_read fault ports split.front (split.back ++ rest) (ports_good fault [] ins outs good) split.first in
    let whole : ps ++ rest ≡ split.front ++ (split.back ++ rest) =
    ap (λ (l : List Placed). l ++ rest) split.whole ∙ append_assoc split.front split.back rest in
    rw (whole, all, ends.read_as, none, all_are [] ins outs) refl
