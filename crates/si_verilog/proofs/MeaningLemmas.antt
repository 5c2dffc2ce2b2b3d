-- The texts of literals, cubes, sums and gates say their values.
use Rattle.std.proofs.Common.{◌≡◌, ℕ, ◌<◌, ◌&&◌, ◌||◌, not, Bool, true, false, List, [], ◌∷◌, ◌++◌, length, flat_map}
use Rattle.std.proofs.Common.{refl, sym, ap, ◌∙◌, codes, append_assoc, if◌then◌else◌}
use Rattle.std.specs.List.{list_all, AllByRecursion}
use Rattle.std.proofs.lemmas.List.{append-nil}
use Rattle.std.proofs.Math.Bool.{and_assoc, or_assoc}
use mathlib.Core.Bool.{beq}
use Rattle.si_base.specs.declared.ids.Literal.{Literal}
use Rattle.si_base.specs.declared.graph.Signal.{Signal}
use Rattle.si_base.specs.Bits.{bit}
use Rattle.si_base.specs.Netlist.{Sum, Gate, SumGate, Gc, Cell, literal_value, sum_value, value_of}
use Rattle.si_base.specs.NetlistText.{name_of}
use Rattle.si_base.proofs.Booleans.{equals_true, equals_false}
use Rattle.si_verilog.specs.Symbols.{Symbol, Name, Word, Mark, symbols_of}
use Rattle.si_verilog.specs.Grammar.{Tree, Constant, Named, Not, And, Or, tree_value, Level, Primary, Factor, Term}
use Rattle.si_verilog.specs.Grammar.{Expression, Spells, zero, one, named, grouped, as_factor, complemented, as_term}
use Rattle.si_verilog.specs.Grammar.{with_factor, as_expression, with_term}
use Rattle.si_verilog.specs.Meaning.{named_value}
use Rattle.si_verilog.specs.ModuleText.{verilog_name, literal_text, cube_text, sum_text, gate_text}
use Rattle.si_verilog.proofs.NameLemmas.{IsWritable}
use Rattle.si_verilog.proofs.SymbolLemmas.{ReadsBefore, read_then, parted_read, parted_then, opening_read, closing_read}
use Rattle.si_verilog.proofs.SymbolLemmas.{tilde_read, and_read, or_read, zero_read, one_read, written_read}

-- at that level the text has a tree, which has these values, where names have those of the signals
pub record Says (signals : List Signal) (level : Level) (text : List ℕ) (value : ℕ → Bool) : Type 0 where
  pub tree : Tree
  pub symbols : List Symbol
  pub spells : Spells level symbols tree
  pub reads : ReadsBefore text symbols
  pub values : (v : ℕ) → tree_value (named_value signals v) tree ≡ value v

-- the names of the signals can be written, and have the values of their signals
pub record AreNamed (signals : List Signal) : Type 0 where
  pub writable : (z : ℕ) → z < length signals → IsWritable (name_of signals z)
  pub valued : (v z : ℕ) → z < length signals → named_value signals v (name_of signals z) ≡ bit v z

module _ (signals : List Signal) where
  pub says_as : (level : Level) (text other : List ℕ) (value also : ℕ → Bool) → Says signals level text value
      → text ≡ other → ((v : ℕ) → value v ≡ also v) → Says signals level other also
  says_as level text other value also says same agrees = record {
    tree = says.tree;
    symbols = says.symbols;
    spells = says.spells;
    reads = λ rest ends. ap (λ (t : List ℕ). symbols_of (t ++ rest)) (sym same) ∙ says.reads rest ends;
    values = λ v. says.values v ∙ agrees v;
  }

  -- what is said at one level is said at the next, where what spells a tree there spells it here
  raised : (lower level : Level)
      → ((symbols : List Symbol) (tree : Tree) → Spells lower symbols tree → Spells level symbols tree)
      → (text : List ℕ) (value : ℕ → Bool) → Says signals lower text value → Says signals level text value
  raised lower level next text value says = record {
    tree = says.tree;
    symbols = says.symbols;
    spells = next says.symbols says.tree says.spells;
    reads = says.reads;
    values = says.values;
  }

  pub factor : (text : List ℕ) (value : ℕ → Bool) → Says signals Primary text value → Says signals Factor text value
  factor = raised Primary Factor (λ symbols tree spelt. as_factor spelt)

  pub term : (text : List ℕ) (value : ℕ → Bool) → Says signals Factor text value → Says signals Term text value
  term = raised Factor Term (λ symbols tree spelt. as_term spelt)

  pub expression : (text : List ℕ) (value : ℕ → Bool) → Says signals Term text value
      → Says signals Expression text value
  expression = raised Term Expression (λ symbols tree spelt. as_expression spelt)

  constant : (b : Bool) (word : List ℕ) → Spells Primary (Word word ∷ []) (Constant b)
      → ReadsBefore word (Word word ∷ []) → Says signals Primary word (λ v. b)
  constant b word spelt read = record {
    tree = Constant b;
    symbols = Word word ∷ [];
    spells = spelt;
    reads = read;
    values = λ v. refl;
  }

  never : Says signals Primary (codes "1'b0") (λ v. false)
  never = constant false (codes "1'b0") zero zero_read

  always : Says signals Primary (codes "1'b1") (λ v. true)
  always = constant true (codes "1'b1") one one_read

  pub complement : (text : List ℕ) (value : ℕ → Bool) → Says signals Primary text value
      → Says signals Factor ((126 ∷ []) ++ text) (λ v. not (value v))
  complement text value says = record {
    tree = Not says.tree;
    symbols = (Mark 126 ∷ []) ++ says.symbols;
    spells = complemented says.spells;
    reads = read_then (126 ∷ []) text (Mark 126 ∷ []) says.symbols tilde_read says.reads;
    values = λ v. ap not (says.values v);
  }

  pub group : (text : List ℕ) (value : ℕ → Bool) → Says signals Expression text value
      → Says signals Primary (codes "(" ++ text ++ codes ")") value
  group text value says = record {
    tree = says.tree;
    symbols = ((Mark 40 ∷ []) ++ says.symbols) ++ Mark 41 ∷ [];
    spells = grouped says.spells;
    reads = λ rest ends. parted_read (codes "(" ++ text) (codes ")") ((Mark 40 ∷ []) ++ says.symbols) (Mark 41 ∷ [])
        (read_then (codes "(") text (Mark 40 ∷ []) says.symbols opening_read says.reads)
        (λ more. refl) closing_read rest;
    values = says.values;
  }

  pub both : (a b : List ℕ) (former latter : ℕ → Bool) → Says signals Term a former → Says signals Factor b latter
      → Says signals Term (a ++ (codes " & " ++ b)) (λ v. former v && latter v)
  both a b former latter left right = record {
    tree = And left.tree right.tree;
    symbols = left.symbols ++ Mark 38 ∷ right.symbols;
    spells = with_factor left.spells right.spells;
    reads = parted_then a (codes " & " ++ b) left.symbols (Mark 38 ∷ right.symbols) left.reads (λ more. refl)
        (read_then (codes " & ") b (Mark 38 ∷ []) right.symbols and_read right.reads);
    values = λ v i. left.values v i && right.values v i;
  }

  pub either : (a b : List ℕ) (former latter : ℕ → Bool) → Says signals Expression a former → Says signals Term b latter
      → Says signals Expression (a ++ (codes " | " ++ b)) (λ v. former v || latter v)
  either a b former latter left right = record {
    tree = Or left.tree right.tree;
    symbols = left.symbols ++ Mark 124 ∷ right.symbols;
    spells = with_term left.spells right.spells;
    reads = parted_then a (codes " | " ++ b) left.symbols (Mark 124 ∷ right.symbols) left.reads (λ more. refl)
        (read_then (codes " | ") b (Mark 124 ∷ []) right.symbols or_read right.reads);
    values = λ v i. left.values v i || right.values v i;
  }

and_true : (b : Bool) → b ≡ (b && true)
and_true true = refl
and_true false = refl

or_false : (b : Bool) → b ≡ (b || false)
or_false true = refl
or_false false = refl

regrouped : (o s c b n a t r : List ℕ)
    → (o ++ s ++ c) ++ (b ++ (o ++ (n ++ (a ++ (t ++ (o ++ r ++ c)))) ++ c))
    ≡ o ++ s ++ ((c ++ b) ++ o) ++ n ++ ((a ++ t) ++ o) ++ r ++ (c ++ c)
regrouped o s c b n a t r = simp append_assoc

gc_text : (s n r : List ℕ)
    → (codes "(" ++ s ++ codes ")") ++ (codes " | " ++ (codes "(" ++ (n ++ (codes " & " ++ ((126 ∷ [])
    ++ (codes "(" ++ r ++ codes ")")))) ++ codes ")"))
    ≡ codes "(" ++ s ++ codes ") | (" ++ n ++ codes " & ~(" ++ r ++ codes "))"
gc_text s n r = regrouped (codes "(") s (codes ")") (codes " | ") n (codes " & ") (126 ∷ []) r

abbrev pub AreThere : ℕ → List Literal → Type 0
AreThere count cube = AllByRecursion (λ l. l.sig < count) cube

module _ (signals : List Signal) (are : AreNamed signals) where
  pub name : (z : ℕ) → z < length signals → Says signals Primary (verilog_name (name_of signals z)) (λ v. bit v z)
  name z there = record {
    tree = Named (name_of signals z);
    symbols = Name (name_of signals z) ∷ [];
    spells = named (name_of signals z);
    reads = written_read (name_of signals z) (are.writable z there);
    values = λ v. are.valued v z there;
  }

  literal_by : (plain : Bool) (z : ℕ) → z < length signals
      → Says signals Factor ((if plain then [] else 126 ∷ []) ++ verilog_name (name_of signals z))
      (λ v. beq (bit v z) plain)
  literal_by true z there =
      let text = verilog_name (name_of signals z) in
      says_as signals Factor text text (λ v. bit v z) (λ v. beq (bit v z) true)
      (factor signals text (λ v. bit v z) (name z there)) refl (λ v. equals_true (bit v z))
  literal_by false z there =
      let text = verilog_name (name_of signals z) in
      says_as signals Factor ((126 ∷ []) ++ text) ((126 ∷ []) ++ text) (λ v. not (bit v z)) (λ v. beq (bit v z) false)
      (complement signals text (λ v. bit v z) (name z there)) refl (λ v. equals_false (bit v z))

  literal : (l : Literal) → l.sig < length signals
      → Says signals Factor (literal_text signals l) (λ v. literal_value v l)
  literal l there = literal_by l.plain l.sig there

  -- more literals behind a term
  more_literals : (text : List ℕ) (value : ℕ → Bool) (ls : List Literal) → AreThere (length signals) ls
      → Says signals Term text value
      → Says signals Term (text ++ flat_map (λ l. codes " & " ++ literal_text signals l) ls)
      (λ v. value v && list_all (literal_value v) ls)
  more_literals text value [] there says =
      says_as signals Term text (text ++ []) value (λ v. value v && true) says (sym (append-nil text))
      (λ v. and_true (value v))
  more_literals text value (l ∷ ls) there says =
      let last = codes " & " ++ literal_text signals l in
      let rest = flat_map (λ k. codes " & " ++ literal_text signals k) ls in
      let longer : ℕ → Bool = λ v. value v && literal_value v l in
      says_as signals Term ((text ++ last) ++ rest) (text ++ (last ++ rest))
      (λ v. longer v && list_all (literal_value v) ls)
      (λ v. value v && (literal_value v l && list_all (literal_value v) ls))
      (more_literals (text ++ last) longer ls there.1
      (both signals text (literal_text signals l) value (λ v. literal_value v l) says (literal l there.0)))
      (append_assoc text last rest)
      (λ v. and_assoc (value v) (literal_value v l) (list_all (literal_value v) ls))

  cube : (ls : List Literal) → AreThere (length signals) ls
      → Says signals Factor (cube_text signals ls) (λ v. list_all (literal_value v) ls)
  cube [] there = factor signals (codes "1'b1") (λ v. true) (always signals)
  cube (l ∷ []) there =
      says_as signals Factor (literal_text signals l) (literal_text signals l) (λ v. literal_value v l)
      (λ v. literal_value v l && true) (literal l there.0) refl (λ v. and_true (literal_value v l))
  cube (l ∷ k ∷ ls) there =
      let text = literal_text signals l ++ flat_map (λ m. codes " & " ++ literal_text signals m) (k ∷ ls) in
      let value : ℕ → Bool = λ v. literal_value v l && list_all (literal_value v) (k ∷ ls) in
      factor signals (codes "(" ++ text ++ codes ")") value
      (group signals text value (expression signals text value
      (more_literals (literal_text signals l) (λ v. literal_value v l) (k ∷ ls) there.1
      (term signals (literal_text signals l) (λ v. literal_value v l) (literal l there.0)))))

  more_cubes : (text : List ℕ) (value : ℕ → Bool) (cubes : Sum) → AllByRecursion (AreThere (length signals)) cubes
      → Says signals Expression text value
      → Says signals Expression (text ++ flat_map (λ c. codes " | " ++ cube_text signals c) cubes)
      (λ v. value v || sum_value v cubes)
  more_cubes text value [] there says =
      says_as signals Expression text (text ++ []) value (λ v. value v || false) says (sym (append-nil text))
      (λ v. or_false (value v))
  more_cubes text value (c ∷ cubes) there says =
      let last = codes " | " ++ cube_text signals c in
      let rest = flat_map (λ d. codes " | " ++ cube_text signals d) cubes in
      let longer : ℕ → Bool = λ v. value v || list_all (literal_value v) c in
      says_as signals Expression ((text ++ last) ++ rest) (text ++ (last ++ rest))
      (λ v. longer v || sum_value v cubes) (λ v. value v || (list_all (literal_value v) c || sum_value v cubes))
      (more_cubes (text ++ last) longer cubes there.1
      (either signals text (cube_text signals c) value (λ v. list_all (literal_value v) c) says
      (term signals (cube_text signals c) (λ v. list_all (literal_value v) c) (cube c there.0))))
      (append_assoc text last rest)
      (λ v. or_assoc (value v) (list_all (literal_value v) c) (sum_value v cubes))

  sum : (cubes : Sum) → AllByRecursion (AreThere (length signals)) cubes
      → Says signals Expression (sum_text signals cubes) (λ v. sum_value v cubes)
  sum [] there = expression signals (codes "1'b0") (λ v. false)
      (term signals (codes "1'b0") (λ v. false) (factor signals (codes "1'b0") (λ v. false) (never signals)))
  sum (c ∷ cubes) there =
      let value : ℕ → Bool = λ v. list_all (literal_value v) c in
      more_cubes (cube_text signals c) value cubes there.1
      (expression signals (cube_text signals c) value (term signals (cube_text signals c) value (cube c there.0)))

  latch : (z : ℕ) (set reset : Sum) → z < length signals → AllByRecursion (AreThere (length signals)) set
      → AllByRecursion (AreThere (length signals)) reset
      → Says signals Expression (gate_text signals (name_of signals z) (Gc set reset))
      (λ v. sum_value v set || (bit v z && not (sum_value v reset)))
  latch z set reset there sets resets =
      let s = sum_text signals set in
      let r = sum_text signals reset in
      let n = verilog_name (name_of signals z) in
      let sv : ℕ → Bool = λ v. sum_value v set in
      let rv : ℕ → Bool = λ v. sum_value v reset in
      let zv : ℕ → Bool = λ v. bit v z in
      let off = (126 ∷ []) ++ (codes "(" ++ r ++ codes ")") in
      let held = n ++ (codes " & " ++ off) in
      let keeps : ℕ → Bool = λ v. zv v && not (rv v) in
      let on = codes "(" ++ s ++ codes ")" in
      let kept = codes "(" ++ held ++ codes ")" in
      let holds : Says signals Term held keeps = both signals n off zv (λ v. not (rv v))
      (term signals n zv (factor signals n zv (name z there)))
      (complement signals (codes "(" ++ r ++ codes ")") rv (group signals r rv (sum reset resets))) in
      let second : Says signals Term kept keeps = term signals kept keeps (factor signals kept keeps
      (group signals held keeps (expression signals held keeps holds))) in
      let first : Says signals Expression on sv = expression signals on sv (term signals on sv
      (factor signals on sv (group signals s sv (sum set sets)))) in
      says_as signals Expression (on ++ (codes " | " ++ kept)) (gate_text signals (name_of signals z) (Gc set reset))
      (λ v. sv v || keeps v) (λ v. sum_value v set || (bit v z && not (sum_value v reset)))
      (either signals on kept sv keeps first second) (gc_text s n r) (λ v. refl)

abbrev pub HasThere : ℕ → Gate → Type 0
HasThere count (SumGate sum) = AllByRecursion (AreThere count) sum
HasThere count (Gc set reset) = AllByRecursion (AreThere count) set × AllByRecursion (AreThere count) reset
HasThere count (Cell name literals sum) = AllByRecursion (AreThere count) sum

-- the expression of the gate of signal z has the values of the gate
pub says_gate : (signals : List Signal) → AreNamed signals → (z : ℕ) (gate : Gate) → z < length signals
    → HasThere (length signals) gate
    → Says signals Expression (gate_text signals (name_of signals z) gate) (λ v. value_of gate z v)
says_gate signals are z (SumGate cubes) there has = sum signals are cubes has
says_gate signals are z (Gc set reset) there has = latch signals are z set reset there has.0 has.1
says_gate signals are z (Cell cell literals cubes) there has = sum signals are cubes has
