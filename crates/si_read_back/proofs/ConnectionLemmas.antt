-- The connections of an instance are read one after another.
use Rattle.std.proofs.Common.{◌≡◌, ℕ, ◌==◌, not, Bool, true, false, List, [], ◌∷◌, ◌++◌, length, map}
use Rattle.std.proofs.Common.{flat_map, None, Ok, refl, sym, ap, subst, ◌∙◌, append_assoc}
use Rattle.std.specs.List.{AllByRecursion, join_by}
use Rattle.std.proofs.lemmas.List.{map-append}
use Rattle.si_base.specs.Faults.{when, ◌otherwise◌}
use Rattle.si_base.specs.Words.{is_signal_name}
use Rattle.si_base.specs.declared.fault.TextKind.TheVariants.{BadName, Repeated, Undeclared}
use Rattle.si_words.specs.Names.{stands_in}
use Rattle.si_equations.proofs.NewLemmas.{AreNew}
use Rattle.si_verilog.specs.Symbols.{Symbol, Name, Mark}
use Rattle.si_verilog_reader.specs.Placed.{Placed, on_line}
use Rattle.si_verilog_reader.specs.Parts.{Reading, Named, due, name_at, goes_on, part_of_list, all_parts, list_at}
use Rattle.si_verilog_reader.specs.Parts.{closed}
use Rattle.si_verilog_reader.specs.Parts.{unless_closed}
use Rattle.si_verilog_reader.specs.Modules.{Connection, connection_at, connection_fault, connections_at, signal_fault}
use Rattle.si_structure.specs.Parts.{Connection as Wired, connection_symbols}
use Rattle.si_verilog_reader.proofs.ExpressionLemmas.{Has}
use Rattle.si_verilog_reader.proofs.PartLemmas.{one_more, last_part, fewer_connection}
use Rattle.si_read_back.proofs.SymbolParts.{first, Leaves, due_read, name_read}

abbrev pub read_one : Wired → Connection
read_one c = record { port = c.port; net = c.net }

abbrev pub read_as : List Wired → List Connection
read_as cs = map (λ (c : Wired). record { port = c.port; net = c.net }) cs

-- ---- one connection

five_symbols : (ports : List (List ℕ)) (old : List Connection) (c : Wired) (a b d e f : ℕ) (rest : List Placed)
    → connection_fault ports old c.port ≡ None → signal_fault c.net ≡ None
    → connection_at ports old (on_line a (Mark 46) ∷ on_line b (Name c.port) ∷ on_line d (Mark 40)
    ∷ on_line e (Name c.net) ∷ on_line f (Mark 41) ∷ rest)
    ≡ Ok (old ++ read_one c ∷ [], rest)
unfolding connection_at due name_at
five_symbols ports old c a b d e f rest good named = rw (good, named) refl

connection_read : (ports : List (List ℕ)) (old : List Connection) (c : Wired) (ys : List Symbol) (ps : List Placed)
    → connection_fault ports old c.port ≡ None → signal_fault c.net ≡ None → Has (connection_symbols c ++ ys) ps
    → Leaves (connection_at ports old ps) (old ++ read_one c ∷ []) ys
connection_read ports old c ys ps good named has =
    let a = first (Mark 46) (Name c.port ∷ Mark 40 ∷ Name c.net ∷ Mark 41 ∷ ys) ps has in
    let b = first (Name c.port) (Mark 40 ∷ Name c.net ∷ Mark 41 ∷ ys) a.rest a.has in
    let d = first (Mark 40) (Name c.net ∷ Mark 41 ∷ ys) b.rest b.has in
    let e = first (Name c.net) (Mark 41 ∷ ys) d.rest d.has in
    let f = first (Mark 41) ys e.rest e.has in
    let last = ap (λ (qs : List Placed). on_line e.line (Name c.net) ∷ qs) f.is in
    let opened = ap (λ (qs : List Placed). on_line d.line (Mark 40) ∷ qs) (e.is ∙ last) in
    let inner = ap (λ (qs : List Placed). on_line b.line (Name c.port) ∷ qs) (d.is ∙ opened) in
    let whole = a.is ∙ ap (λ (qs : List Placed). on_line a.line (Mark 46) ∷ qs) (b.is ∙ inner) in
    record {
      rest = f.rest;
      is = ap (connection_at ports old) whole
          ∙ five_symbols ports old c a.line b.line d.line e.line f.line f.rest good named;
      has = f.has;
    }

-- ---- one after another

part_by : {A : Type 0} (part : A → List Placed → Reading A) (old new : A) (ps behind rest : List Placed) (more : Bool)
    → part old ps ≡ Ok (new, behind) → goes_on behind ≡ Ok (more, rest)
    → part_of_list part old ps ≡ Ok ((more, new), rest)
unfolding part_of_list
part_by part old new ps behind rest more is goes = rw (is, goes) refl

comma_read : (line : ℕ) (rest : List Placed) → goes_on (on_line line (Mark 44) ∷ rest) ≡ Ok (true, rest)
unfolding goes_on
comma_read line rest = refl

closing_read : (line : ℕ) (rest : List Placed) → goes_on (on_line line (Mark 41) ∷ rest) ≡ Ok (false, rest)
unfolding goes_on
closing_read line rest = refl

-- the ports are others than those that are connected already, and the nets are signals
abbrev pub CanBeRead : (ports : List (List ℕ)) → List Connection → List Wired → Type 0
CanBeRead ports old [] = Unit {0}
CanBeRead ports old (c ∷ cs) = (connection_fault ports old c.port ≡ None) × (signal_fault c.net ≡ None)
    × CanBeRead ports (old ++ read_one c ∷ []) cs

abbrev more_symbols : List Wired → List Symbol
more_symbols cs = flat_map (λ c. (Mark 44 ∷ []) ++ connection_symbols c) cs

all_read : (ports : List (List ℕ)) (old : List Connection) (c : Wired) (cs : List Wired) (ys : List Symbol)
    (ps : List Placed) → CanBeRead ports old (c ∷ cs)
    → Has (connection_symbols c ++ (more_symbols cs ++ Mark 41 ∷ ys)) ps
    → Leaves (all_parts (part_of_list (connection_at ports)) old ps) (old ++ read_as (c ∷ cs)) ys
all_read ports old c [] ys ps good has =
    let new = old ++ read_one c ∷ [] in
    let one = connection_read ports old c (Mark 41 ∷ ys) ps good.0 good.1 has in
    let end = first (Mark 41) ys one.rest one.has in
    let closes = ap goes_on end.is ∙ closing_read end.line end.rest in
    record {
      rest = end.rest;
      is = last_part (part_of_list (connection_at ports)) old new ps end.rest
          (part_by (connection_at ports) old new ps one.rest end.rest false one.is closes);
      has = end.has;
    }
all_read ports old c (d ∷ cs) ys ps good has =
    let new = old ++ read_one c ∷ [] in
    let behind = connection_symbols d ++ (more_symbols cs ++ Mark 41 ∷ ys) in
    let one = connection_read ports old c (Mark 44 ∷ behind) ps good.0 good.1 has in
    let next = first (Mark 44) behind one.rest one.has in
    let goes = ap goes_on next.is ∙ comma_read next.line next.rest in
    let later = all_read ports new d cs ys next.rest good.2 next.has in
    record {
      rest = later.rest;
      is = one_more (part_of_list (connection_at ports)) (fewer_connection ports) old new ps next.rest
          (part_by (connection_at ports) old new ps one.rest next.rest true one.is goes)
          ∙ later.is
          ∙ ap (λ (l : List Connection). Ok (l, later.rest)) (append_assoc old (read_one c ∷ []) (read_as (d ∷ cs)));
      has = later.has;
    }

-- ---- all of an instance

not_closed : (ports : List (List ℕ)) (line : ℕ) (ps qs : List Placed) → ps ≡ on_line line (Mark 46) ∷ qs
    → list_at (connection_at ports) [] ps ≡ all_parts (part_of_list (connection_at ports)) [] ps
unfolding list_at
not_closed ports line ps qs is =
    ap (λ (rs : List Placed). unless_closed (closed rs) [] (all_parts (part_of_list (connection_at ports)) [] ps)) is

instance_by : (line : ℕ) (ports : List (List ℕ)) (ps behind opened ended rest : List Placed) (name : Named)
    (cs : List Connection) → name_at ps ≡ Ok (name, behind) → due (Mark 40) behind ≡ Ok opened
    → list_at (connection_at ports) [] opened ≡ Ok (cs, ended) → due (Mark 59) ended ≡ Ok rest
    → (length cs == length ports) ≡ true → connections_at line ports ps ≡ Ok (cs, rest)
unfolding connections_at
instance_by line ports ps behind opened ended rest name cs one two three four same =
    rw (one, two, three, four, same) refl

pub connections_read : (line : ℕ) (ports : List (List ℕ)) (name : List ℕ) (c : Wired) (cs : List Wired)
    (ys : List Symbol) (ps : List Placed) → CanBeRead ports [] (c ∷ cs)
    → (length (read_as (c ∷ cs)) == length ports) ≡ true
    → Has (Name name ∷ Mark 40 ∷ (join_by connection_symbols (Mark 44 ∷ []) (c ∷ cs) ++ (Mark 41 ∷ Mark 59 ∷ []))
    ++ ys) ps
    → Leaves (connections_at line ports ps) (read_as (c ∷ cs)) ys
connections_read line ports name c cs ys ps good count has =
    let marks : List Symbol = Mark 41 ∷ Mark 59 ∷ [] in
    let inner = connection_symbols c ++ (more_symbols cs ++ Mark 41 ∷ Mark 59 ∷ ys) in
    let one = name_read name _ ps has in
    let two = due_read (Mark 40) _ one.rest one.has in
    let regrouped : Has inner two.rest =
    two.has ∙ ap (λ (zs : List Symbol). connection_symbols c ++ zs) (append_assoc (more_symbols cs) marks ys) in
    let dot = first (Mark 46) (Name c.port ∷ Mark 40 ∷ Name c.net ∷ Mark 41 ∷ (more_symbols cs ++ marks ++ ys)) two.rest
    two.has in
    let all = all_read ports [] c cs (Mark 59 ∷ ys) two.rest good regrouped in
    let end = due_read (Mark 59) ys all.rest all.has in
    record {
      rest = end.rest;
      is = instance_by line ports ps one.rest two.rest all.rest end.rest (record { line = one.line; name = name })
          (read_as (c ∷ cs)) one.is two.is
          (not_closed ports dot.line two.rest dot.rest dot.is ∙ all.is) end.is count;
      has = end.has;
    }

-- ---- connections that can be read

pub can_be_read : (ports : List (List ℕ)) (old : List Connection) (cs : List Wired)
    → AllByRecursion (λ c. stands_in ports c.port ≡ true) cs
    → AreNew (map (λ (c : Connection). c.port) old) (map (λ (c : Wired). c.port) cs)
    → AllByRecursion (λ c. is_signal_name c.net ≡ true) cs → CanBeRead ports old cs
can_be_read ports old [] stand new named = tt
can_be_read ports old (c ∷ cs) stand new named =
    let here = stand.0 in
    let fresh = new.0 in
    let signal = named.0 in
    let more = map-append (λ (d : Connection). d.port) old (read_one c ∷ []) in (
      λ i. when (not (here i)) Undeclared otherwise when (fresh i) Repeated,
      λ i. when (not (signal i)) BadName,
      can_be_read ports (old ++ read_one c ∷ []) cs stand.1
          (subst (λ (l : List (List ℕ)). AreNew l (map (λ (d : Wired). d.port) cs)) (sym more) new.1) named.1,
    )
