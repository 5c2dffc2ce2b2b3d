-- The texts of literals, cubes, sums and gates spell shallow expressions, which name signals alone.
use Rattle.std.proofs.Common.{◌≡◌, ℕ, suc, ◌<◌, ◌≤◌, true, false, Bool, List, [], ◌∷◌, ◌++◌, length, flat_map}
use Rattle.std.proofs.Common.{refl, sym, ap, ◌∙◌, codes, append_assoc, arith, if◌then◌else◌}
use Rattle.std.specs.List.{AllByRecursion}
use Rattle.std.proofs.lemmas.List.{append-nil}
use Rattle.si_base.specs.declared.ids.Literal.{Literal}
use Rattle.si_base.specs.declared.graph.Signal.{Signal}
use Rattle.si_base.specs.Netlist.{Sum, Gate, SumGate, Gc, Cell}
use Rattle.si_base.specs.NetlistText.{name_of}
use Rattle.si_verilog.specs.Symbols.{Symbol, Name, Word, Mark, symbols_of}
use Rattle.si_verilog.specs.Grammar.{Tree, Constant, Named, Not, And, Or, Level, Primary, Factor, Term, Expression}
use Rattle.si_verilog.specs.Grammar.{Spells, zero, one, named, grouped, as_factor, complemented, as_term}
use Rattle.si_verilog.specs.Grammar.{with_factor, as_expression, with_term}
use Rattle.si_verilog.specs.ModuleText.{verilog_name, literal_text, cube_text, sum_text, gate_text}
use Rattle.si_verilog.proofs.SymbolLemmas.{ReadsBefore, read_then, parted_read, parted_then, opening_read, closing_read}
use Rattle.si_verilog.proofs.SymbolLemmas.{tilde_read, and_read, or_read, zero_read, one_read, written_read}
use Rattle.si_verilog.proofs.MeaningLemmas.{AreNamed, AreThere, HasThere}
use Rattle.si_verilog_reader.proofs.ExpressionLemmas.{depth}

abbrev pub NamesSignals : List Signal → Tree → Type 0
NamesSignals signals (Constant value) = Unit {0}
NamesSignals signals (Named name) = (z : ℕ) × (z < length signals) × (name ≡ name_of signals z)
NamesSignals signals (Not of) = NamesSignals signals of
NamesSignals signals (And left right) = NamesSignals signals left × NamesSignals signals right
NamesSignals signals (Or left right) = NamesSignals signals left × NamesSignals signals right

-- at that level the text has a tree, whose operators aren't unfinished in greater number, and which
-- names signals alone
record Spelled (signals : List Signal) (level : Level) (limit : ℕ) (text : List ℕ) : Type 0 where
  tree : Tree
  symbols : List Symbol
  spells : Spells level symbols tree
  reads : ReadsBefore text symbols
  shallow : depth spells ≤ limit
  named : NamesSignals signals tree

pub record SpelledGate (signals : List Signal) (text : List ℕ) : Type 0 where
  pub tree : Tree
  pub symbols : List Symbol
  pub spells : Spells Expression symbols tree
  pub reads : ReadsBefore text symbols
  pub shallow : depth spells ≤ 64
  pub named : NamesSignals signals tree

regrouped : (o s c b n a t r : List ℕ)
    → (o ++ s ++ c) ++ (b ++ (o ++ (n ++ (a ++ (t ++ (o ++ r ++ c)))) ++ c))
    ≡ o ++ s ++ ((c ++ b) ++ o) ++ n ++ ((a ++ t) ++ o) ++ r ++ (c ++ c)
regrouped o s c b n a t r = simp append_assoc

gc_text : (s n r : List ℕ)
    → (codes "(" ++ s ++ codes ")") ++ (codes " | " ++ (codes "(" ++ (n ++ (codes " & " ++ ((126 ∷ [])
    ++ (codes "(" ++ r ++ codes ")")))) ++ codes ")"))
    ≡ codes "(" ++ s ++ codes ") | (" ++ n ++ codes " & ~(" ++ r ++ codes "))"
gc_text s n r = regrouped (codes "(") s (codes ")") (codes " | ") n (codes " & ") (126 ∷ []) r

module _ (signals : List Signal) where
  spelled_as : (level : Level) (limit other : ℕ) (text longer : List ℕ) → Spelled signals level limit text
      → text ≡ longer → limit ≤ other → Spelled signals level other longer
  spelled_as level limit other text longer is same less = record {
    tree = is.tree;
    symbols = is.symbols;
    spells = is.spells;
    reads = λ rest ends. ap (λ (t : List ℕ). symbols_of (t ++ rest)) (sym same) ∙ is.reads rest ends;
    shallow = omega (arith, less, is.shallow);
    named = is.named;
  }

  factor : (limit : ℕ) (text : List ℕ) → Spelled signals Primary limit text → Spelled signals Factor limit text
  factor limit text is = record {
    tree = is.tree;
    symbols = is.symbols;
    spells = as_factor is.spells;
    reads = is.reads;
    shallow = is.shallow;
    named = is.named;
  }

  term : (limit : ℕ) (text : List ℕ) → Spelled signals Factor limit text → Spelled signals Term limit text
  term limit text is = record {
    tree = is.tree;
    symbols = is.symbols;
    spells = as_term is.spells;
    reads = is.reads;
    shallow = is.shallow;
    named = is.named;
  }

  expression : (limit : ℕ) (text : List ℕ) → Spelled signals Term limit text
      → Spelled signals Expression limit text
  expression limit text is = record {
    tree = is.tree;
    symbols = is.symbols;
    spells = as_expression is.spells;
    reads = is.reads;
    shallow = is.shallow;
    named = is.named;
  }

  never : Spelled signals Primary 0 (codes "1'b0")
  never = record {
    tree = Constant false;
    symbols = Word (codes "1'b0") ∷ [];
    spells = zero;
    reads = zero_read;
    shallow = omega arith;
    named = tt;
  }

  always : Spelled signals Primary 0 (codes "1'b1")
  always = record {
    tree = Constant true;
    symbols = Word (codes "1'b1") ∷ [];
    spells = one;
    reads = one_read;
    shallow = omega arith;
    named = tt;
  }

  complement : (limit : ℕ) (text : List ℕ) → Spelled signals Primary limit text
      → Spelled signals Factor (suc limit) ((126 ∷ []) ++ text)
  complement limit text is = record {
    tree = Not is.tree;
    symbols = (Mark 126 ∷ []) ++ is.symbols;
    spells = complemented is.spells;
    reads = read_then (126 ∷ []) text (Mark 126 ∷ []) is.symbols tilde_read is.reads;
    shallow = omega (arith, is.shallow);
    named = is.named;
  }

  group : (limit : ℕ) (text : List ℕ) → Spelled signals Expression limit text
      → Spelled signals Primary (suc limit) (codes "(" ++ text ++ codes ")")
  group limit text is = record {
    tree = is.tree;
    symbols = ((Mark 40 ∷ []) ++ is.symbols) ++ Mark 41 ∷ [];
    spells = grouped is.spells;
    reads = λ rest ends. parted_read (codes "(" ++ text) (codes ")") ((Mark 40 ∷ []) ++ is.symbols) (Mark 41 ∷ [])
        (read_then (codes "(") text (Mark 40 ∷ []) is.symbols opening_read is.reads)
        (λ more. refl) closing_read rest;
    shallow = omega (arith, is.shallow);
    named = is.named;
  }

  both : (limit : ℕ) (a b : List ℕ) → Spelled signals Term limit a → Spelled signals Factor limit b
      → Spelled signals Term limit (a ++ (codes " & " ++ b))
  both limit a b left right = record {
    tree = And left.tree right.tree;
    symbols = left.symbols ++ Mark 38 ∷ right.symbols;
    spells = with_factor left.spells right.spells;
    reads = parted_then a (codes " & " ++ b) left.symbols (Mark 38 ∷ right.symbols) left.reads (λ more. refl)
        (read_then (codes " & ") b (Mark 38 ∷ []) right.symbols and_read right.reads);
    shallow = omega (arith, left.shallow, right.shallow);
    named = (left.named, right.named);
  }

  either : (limit : ℕ) (a b : List ℕ) → Spelled signals Expression limit a → Spelled signals Term limit b
      → Spelled signals Expression limit (a ++ (codes " | " ++ b))
  either limit a b left right = record {
    tree = Or left.tree right.tree;
    symbols = left.symbols ++ Mark 124 ∷ right.symbols;
    spells = with_term left.spells right.spells;
    reads = parted_then a (codes " | " ++ b) left.symbols (Mark 124 ∷ right.symbols) left.reads (λ more. refl)
        (read_then (codes " | ") b (Mark 124 ∷ []) right.symbols or_read right.reads);
    shallow = omega (arith, left.shallow, right.shallow);
    named = (left.named, right.named);
  }

module _ (signals : List Signal) (are : AreNamed signals) where
  name : (z : ℕ) → z < length signals → Spelled signals Primary 0 (verilog_name (name_of signals z))
  name z there = record {
    tree = Named (name_of signals z);
    symbols = Name (name_of signals z) ∷ [];
    spells = named (name_of signals z);
    reads = written_read (name_of signals z) (are.writable z there);
    shallow = omega arith;
    named = (z, there, refl);
  }

  literal_by : (plain : Bool) (z : ℕ) → z < length signals
      → Spelled signals Factor 1 ((if plain then [] else 126 ∷ []) ++ verilog_name (name_of signals z))
  literal_by true z there =
      let text = verilog_name (name_of signals z) in
      spelled_as signals Factor 0 1 text text (factor signals 0 text (name z there)) refl (omega arith)
  literal_by false z there = complement signals 0 (verilog_name (name_of signals z)) (name z there)

  literal : (l : Literal) → l.sig < length signals → Spelled signals Factor 1 (literal_text signals l)
  literal l there = literal_by l.plain l.sig there

  -- more literals behind a term
  more_literals : (text : List ℕ) (ls : List Literal) → AreThere (length signals) ls → Spelled signals Term 1 text
      → Spelled signals Term 1 (text ++ flat_map (λ l. codes " & " ++ literal_text signals l) ls)
  more_literals text [] there is =
      spelled_as signals Term 1 1 text (text ++ []) is (sym (append-nil text)) (omega arith)
  more_literals text (l ∷ ls) there is =
      let last = codes " & " ++ literal_text signals l in
      let rest = flat_map (λ k. codes " & " ++ literal_text signals k) ls in
      spelled_as signals Term 1 1 ((text ++ last) ++ rest) (text ++ (last ++ rest))
      (more_literals (text ++ last) ls there.1
      (both signals 1 text (literal_text signals l) is (literal l there.0)))
      (append_assoc text last rest) (omega arith)

  cube : (ls : List Literal) → AreThere (length signals) ls → Spelled signals Factor 2 (cube_text signals ls)
  cube [] there = spelled_as signals Factor 0 2 (codes "1'b1") (codes "1'b1")
      (factor signals 0 (codes "1'b1") (always signals)) refl (omega arith)
  cube (l ∷ []) there = spelled_as signals Factor 1 2 (literal_text signals l) (literal_text signals l)
      (literal l there.0) refl (omega arith)
  cube (l ∷ k ∷ ls) there =
      let text = literal_text signals l ++ flat_map (λ m. codes " & " ++ literal_text signals m) (k ∷ ls) in
      factor signals 2 (codes "(" ++ text ++ codes ")")
      (group signals 1 text (expression signals 1 text
      (more_literals (literal_text signals l) (k ∷ ls) there.1
      (term signals 1 (literal_text signals l) (literal l there.0)))))

  more_cubes : (text : List ℕ) (cubes : Sum) → AllByRecursion (AreThere (length signals)) cubes
      → Spelled signals Expression 2 text
      → Spelled signals Expression 2 (text ++ flat_map (λ c. codes " | " ++ cube_text signals c) cubes)
  more_cubes text [] there is =
      spelled_as signals Expression 2 2 text (text ++ []) is (sym (append-nil text)) (omega arith)
  more_cubes text (c ∷ cubes) there is =
      let last = codes " | " ++ cube_text signals c in
      let rest = flat_map (λ d. codes " | " ++ cube_text signals d) cubes in
      spelled_as signals Expression 2 2 ((text ++ last) ++ rest) (text ++ (last ++ rest))
      (more_cubes (text ++ last) cubes there.1
      (either signals 2 text (cube_text signals c) is (term signals 2 (cube_text signals c) (cube c there.0))))
      (append_assoc text last rest) (omega arith)

  sum : (cubes : Sum) → AllByRecursion (AreThere (length signals)) cubes
      → Spelled signals Expression 2 (sum_text signals cubes)
  sum [] there =
      let text = codes "1'b0" in
      spelled_as signals Expression 0 2 text text
      (expression signals 0 text (term signals 0 text (factor signals 0 text (never signals)))) refl (omega arith)
  sum (c ∷ cubes) there = more_cubes (cube_text signals c) cubes there.1
      (expression signals 2 (cube_text signals c) (term signals 2 (cube_text signals c) (cube c there.0)))

  latch : (z : ℕ) (set reset : Sum) → z < length signals → AllByRecursion (AreThere (length signals)) set
      → AllByRecursion (AreThere (length signals)) reset
      → Spelled signals Expression 5 (gate_text signals (name_of signals z) (Gc set reset))
  latch z set reset there sets resets =
      let s = sum_text signals set in
      let r = sum_text signals reset in
      let n = verilog_name (name_of signals z) in
      let grouped_reset = codes "(" ++ r ++ codes ")" in
      let off = (126 ∷ []) ++ grouped_reset in
      let held = n ++ (codes " & " ++ off) in
      let on = codes "(" ++ s ++ codes ")" in
      let kept = codes "(" ++ held ++ codes ")" in
      let own : Spelled signals Term 4 n = spelled_as signals Term 0 4 n n
      (term signals 0 n (factor signals 0 n (name z there))) refl (omega arith) in
      let holds : Spelled signals Term 4 held = both signals 4 n off own
      (complement signals 3 grouped_reset (group signals 2 r (sum reset resets))) in
      let second : Spelled signals Term 5 kept = term signals 5 kept (factor signals 5 kept
      (group signals 4 held (expression signals 4 held holds))) in
      let first : Spelled signals Expression 3 on = expression signals 3 on (term signals 3 on
      (factor signals 3 on (group signals 2 s (sum set sets)))) in
      spelled_as signals Expression 5 5 (on ++ (codes " | " ++ kept))
      (gate_text signals (name_of signals z) (Gc set reset))
      (either signals 5 on kept (spelled_as signals Expression 3 5 on on first refl (omega arith)) second)
      (gc_text s n r) (omega arith)

as_gate : (signals : List Signal) (limit : ℕ) (text : List ℕ) → limit ≤ 64 → Spelled signals Expression limit text
    → SpelledGate signals text
as_gate signals limit text less is = record {
  tree = is.tree;
  symbols = is.symbols;
  spells = is.spells;
  reads = is.reads;
  shallow = omega (arith, less, is.shallow);
  named = is.named;
}

pub sum_spelled : (signals : List Signal) → AreNamed signals → (cubes : Sum)
    → AllByRecursion (AreThere (length signals)) cubes → SpelledGate signals (sum_text signals cubes)
sum_spelled signals are cubes there =
    as_gate signals 2 (sum_text signals cubes) (omega arith) (sum signals are cubes there)

-- the expression of the gate of signal z
pub gate_spelled : (signals : List Signal) → AreNamed signals → (z : ℕ) (gate : Gate) → z < length signals
    → HasThere (length signals) gate → SpelledGate signals (gate_text signals (name_of signals z) gate)
gate_spelled signals are z (SumGate cubes) there has = sum_spelled signals are cubes has
gate_spelled signals are z (Gc set reset) there has =
    as_gate signals 5 (gate_text signals (name_of signals z) (Gc set reset)) (omega arith)
    (latch signals are z set reset there has.0 has.1)
gate_spelled signals are z (Cell cell literals cubes) there has = sum_spelled signals are cubes has
