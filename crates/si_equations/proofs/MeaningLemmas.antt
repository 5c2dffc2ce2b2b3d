-- The texts of literals, cubes, sums and gates have their values.
use Rattle.std.proofs.Common.{◌≡◌, ℕ, suc, ◌<◌, ◌≤◌, ◌&&◌, ◌||◌, not, Bool, true, false, List, [], ◌∷◌, ◌++◌, length}
use Rattle.std.proofs.Common.{flat_map, refl, sym, ap, ◌∙◌, codes, append_assoc, if◌then◌else◌, arith}
use Rattle.std.specs.List.{list_all, AllByRecursion}
use Rattle.std.proofs.lemmas.List.{append-nil}
use Rattle.std.proofs.Math.Bool.{and_assoc, or_assoc}
use mathlib.Core.Bool.{beq}
use Rattle.si_base.specs.declared.ids.Literal.{Literal}
use Rattle.si_base.specs.declared.graph.Signal.{Signal}
use Rattle.si_base.specs.Bits.{bit}
use Rattle.si_base.specs.Graph.{names_in}
use Rattle.si_base.specs.Netlist.{Sum, Gate, SumGate, Gc, Cell, literal_value, sum_value, value_of as gate_value_of}
use Rattle.si_base.specs.NetlistText.{name_of}
use Rattle.si_base.specs.Words.{is_signal_name}
use Rattle.si_base.proofs.Booleans.{equals_true, equals_false}
use Rattle.si_words.specs.Names.{stands_in}
use Rattle.si_words.proofs.WrittenLineLemmas.{AreInLine, append_in_line}
use Rattle.si_genlib.specs.Expression.{Pin, trees, leaf, is_constant, value_of}
use Rattle.si_genlib.specs.Grammar.{Syntax, Word, InParens, Primed, Beside, Plus, strength, IsExpression, written}
use Rattle.si_genlib.specs.Grammar.{tree_of, height}
use Rattle.si_equations.specs.Names.{named_value}
use Rattle.si_equations.specs.Equations.{expression_value, known}
use Rattle.si_equations.specs.Written.{shown, literal_text, cube_text, sum_text, gate_text}
use Rattle.si_equations.proofs.TokenLemmas.{ReadsBefore, read_then, parted_then, name_read}
use Rattle.si_equations.proofs.NameLemmas.{fixed_in_line, shown_token}

-- the text is that of an expression which holds together so strongly, has so many unfinished
-- operators at most, names signals alone, and has these values
pub record Says (signals : List Signal) (level depth : ℕ) (text : List ℕ) (value : ℕ → Bool) : Type 0 where
  pub syntax : Syntax
  pub is : IsExpression syntax
  pub strong : level ≤ strength syntax
  pub low : height syntax ≤ depth
  pub reads : ReadsBefore text (written syntax)
  pub in_line : AreInLine text
  pub knows : value_of (known (names_in signals)) (tree_of syntax) ≡ true
  pub values : (v : ℕ) → expression_value (names_in signals) v (tree_of syntax) ≡ value v

-- the names of the signals are signal names, and have the values of their signals
pub record AreNamed (signals : List Signal) : Type 0 where
  pub good : (z : ℕ) → z < length signals → is_signal_name (name_of signals z) ≡ true
  pub valued : (v z : ℕ) → z < length signals → named_value (names_in signals) v (name_of signals z) ≡ bit v z
  pub stands : (z : ℕ) → z < length signals → stands_in (names_in signals) (name_of signals z) ≡ true

and_true : (b : Bool) → b ≡ (b && true)
and_true true = refl
and_true false = refl

or_false : (b : Bool) → b ≡ (b || false)
or_false true = refl
or_false false = refl

regrouped : (s p n b o r c q : List ℕ)
    → s ++ (p ++ (n ++ (b ++ ((o ++ r ++ c) ++ q)))) ≡ s ++ p ++ n ++ (b ++ o) ++ r ++ (c ++ q)
regrouped s p n b o r c q = simp append_assoc

gc_text : (s n r : List ℕ)
    → s ++ (codes " + " ++ (n ++ (codes " " ++ ((codes "(" ++ r ++ codes ")") ++ 39 ∷ []))))
    ≡ s ++ codes " + " ++ n ++ codes " (" ++ r ++ codes ")'"
gc_text s n r = regrouped s (codes " + ") n (codes " ") (codes "(") r (codes ")") (39 ∷ [])

leaf_is : (w : List ℕ) → is_constant w ≡ false → leaf trees w ≡ Pin w
leaf_is w plain = rw plain refl

module _ (signals : List Signal) where
  says_as : (level other depth : ℕ) (text longer : List ℕ) (value also : ℕ → Bool)
      → Says signals level depth text value → other ≤ level → text ≡ longer → ((v : ℕ) → value v ≡ also v)
      → Says signals other depth longer also
  says_as level other depth text longer value also says weaker same agrees = record {
    syntax = says.syntax;
    is = says.is;
    strong = omega (arith, weaker, says.strong);
    low = says.low;
    reads = rw (← same) says.reads;
    in_line = rw (← same) says.in_line;
    knows = says.knows;
    values = λ v. says.values v ∙ agrees v;
  }

  weaker : (level other depth : ℕ) (text : List ℕ) (value : ℕ → Bool) → other ≤ level
      → Says signals level depth text value → Says signals other depth text value
  weaker level other depth text value less says =
      says_as level other depth text text value value says less refl (λ v. refl)

  never : Says signals 3 0 (codes "CONST0") (λ v. false)
  never = record {
    syntax = Word (codes "CONST0");
    is = refl;
    strong = omega arith;
    low = omega arith;
    reads = name_read 67 (codes "ONST0") refl;
    in_line = fixed_in_line (codes "CONST0") refl;
    knows = refl;
    values = λ v. refl;
  }

  always : Says signals 3 0 (codes "CONST1") (λ v. true)
  always = record {
    syntax = Word (codes "CONST1");
    is = refl;
    strong = omega arith;
    low = omega arith;
    reads = name_read 67 (codes "ONST1") refl;
    in_line = fixed_in_line (codes "CONST1") refl;
    knows = refl;
    values = λ v. refl;
  }

  complement : (depth : ℕ) (text : List ℕ) (value : ℕ → Bool) → Says signals 3 depth text value
      → Says signals 3 depth (text ++ 39 ∷ []) (λ v. not (value v))
  complement depth text value says = record {
    syntax = Primed says.syntax;
    is = (says.is, says.strong);
    strong = omega arith;
    low = says.low;
    reads = parted_then text (39 ∷ []) (written says.syntax) ((39 ∷ []) ∷ []) says.reads (λ more. refl)
        (λ rest ends. refl);
    in_line = append_in_line text (39 ∷ []) says.in_line (fixed_in_line (39 ∷ []) refl);
    knows = says.knows;
    values = λ v. ap not (says.values v);
  }

  group : (depth : ℕ) (text : List ℕ) (value : ℕ → Bool) → Says signals 0 depth text value
      → Says signals 3 (suc depth) (codes "(" ++ text ++ codes ")") value
  group depth text value says = record {
    syntax = InParens says.syntax;
    is = says.is;
    strong = omega arith;
    low = omega (arith, says.low);
    reads = parted_then (codes "(" ++ text) (codes ")") ((codes "(" ∷ []) ++ written says.syntax) (codes ")" ∷ [])
        (read_then (codes "(") text (codes "(" ∷ []) (written says.syntax) (λ rest. refl) says.reads)
        (λ more. refl) (λ rest ends. refl);
    in_line = append_in_line (codes "(" ++ text) (codes ")")
        (append_in_line (codes "(") text (fixed_in_line (codes "(") refl) says.in_line)
        (fixed_in_line (codes ")") refl);
    knows = says.knows;
    values = says.values;
  }

  both : (depth : ℕ) (a b : List ℕ) (former latter : ℕ → Bool) → Says signals 1 depth a former
      → Says signals 2 depth b latter → Says signals 1 depth (a ++ (codes " " ++ b)) (λ v. former v && latter v)
  both depth a b former latter left right = record {
    syntax = Beside left.syntax right.syntax;
    is = (left.is, right.is, left.strong, right.strong);
    strong = omega arith;
    low = omega (arith, left.low, right.low);
    reads = parted_then a (codes " " ++ b) (written left.syntax) (written right.syntax) left.reads (λ more. refl)
        (read_then (codes " ") b [] (written right.syntax) (λ rest. refl) right.reads);
    in_line = append_in_line a (codes " " ++ b) left.in_line
        (append_in_line (codes " ") b (fixed_in_line (codes " ") refl) right.in_line);
    knows = λ i. left.knows i && right.knows i;
    values = λ v i. left.values v i && right.values v i;
  }

  either : (depth : ℕ) (a b : List ℕ) (former latter : ℕ → Bool) → Says signals 0 depth a former
      → Says signals 1 depth b latter → Says signals 0 depth (a ++ (codes " + " ++ b)) (λ v. former v || latter v)
  either depth a b former latter left right = record {
    syntax = Plus left.syntax right.syntax;
    is = (left.is, right.is, right.strong);
    strong = omega arith;
    low = omega (arith, left.low, right.low);
    reads = parted_then a (codes " + " ++ b) (written left.syntax) (codes "+" ∷ written right.syntax) left.reads
        (λ more. refl)
        (read_then (codes " + ") b (codes "+" ∷ []) (written right.syntax) (λ rest. refl) right.reads);
    in_line = append_in_line a (codes " + " ++ b) left.in_line
        (append_in_line (codes " + ") b (fixed_in_line (codes " + ") refl) right.in_line);
    knows = λ i. left.knows i && right.knows i;
    values = λ v i. left.values v i || right.values v i;
  }

abbrev pub AreThere : ℕ → List Literal → Type 0
AreThere count cube = AllByRecursion (λ l. l.sig < count) cube

module _ (signals : List Signal) (are : AreNamed signals) where
  name : (z : ℕ) → z < length signals → Says signals 3 0 (shown (name_of signals z)) (λ v. bit v z)
  name z there =
      let word = shown (name_of signals z) in
      let token = shown_token (name_of signals z) (are.good z there) in
      let pin : leaf trees word ≡ Pin word = leaf_is word token.1 in record {
        syntax = Word word;
        is = token.0.named;
        strong = omega arith;
        low = omega arith;
        reads = token.0.reads;
        in_line = token.0.in_line;
        knows = ap (value_of (known (names_in signals))) pin ∙ ap (stands_in (names_in signals)) token.0.bare_is
            ∙ are.stands z there;
        values = λ v. ap (expression_value (names_in signals) v) pin
            ∙ ap (named_value (names_in signals) v) token.0.bare_is ∙ are.valued v z there;
      }

  literal_by : (plain : Bool) (z : ℕ) → z < length signals
      → Says signals 3 0 (shown (name_of signals z) ++ (if plain then [] else 39 ∷ [])) (λ v. beq (bit v z) plain)
  literal_by true z there =
      let text = shown (name_of signals z) in
      says_as signals 3 3 0 text (text ++ []) (λ v. bit v z) (λ v. beq (bit v z) true) (name z there) (omega arith)
      (sym (append-nil text)) (λ v. equals_true (bit v z))
  literal_by false z there =
      let text = shown (name_of signals z) in
      says_as signals 3 3 0 (text ++ 39 ∷ []) (text ++ 39 ∷ []) (λ v. not (bit v z)) (λ v. beq (bit v z) false)
      (complement signals 0 text (λ v. bit v z) (name z there)) (omega arith) refl (λ v. equals_false (bit v z))

  literal : (l : Literal) → l.sig < length signals
      → Says signals 3 0 (literal_text signals l) (λ v. literal_value v l)
  literal l there = literal_by l.plain l.sig there

  -- more literals behind a term
  more_literals : (text : List ℕ) (value : ℕ → Bool) (ls : List Literal) → AreThere (length signals) ls
      → Says signals 1 0 text value
      → Says signals 1 0 (text ++ flat_map (λ l. codes " " ++ literal_text signals l) ls)
      (λ v. value v && list_all (literal_value v) ls)
  more_literals text value [] there says =
      says_as signals 1 1 0 text (text ++ []) value (λ v. value v && true) says (omega arith)
      (sym (append-nil text)) (λ v. and_true (value v))
  more_literals text value (l ∷ ls) there says =
      let last = codes " " ++ literal_text signals l in
      let rest = flat_map (λ k. codes " " ++ literal_text signals k) ls in
      let longer : ℕ → Bool = λ v. value v && literal_value v l in
      says_as signals 1 1 0 ((text ++ last) ++ rest) (text ++ (last ++ rest))
      (λ v. longer v && list_all (literal_value v) ls)
      (λ v. value v && (literal_value v l && list_all (literal_value v) ls))
      (more_literals (text ++ last) longer ls there.1
      (both signals 0 text (literal_text signals l) value (λ v. literal_value v l) says
      (weaker signals 3 2 0 (literal_text signals l) (λ v. literal_value v l) (omega arith) (literal l there.0))))
      (omega arith) (append_assoc text last rest)
      (λ v. and_assoc (value v) (literal_value v l) (list_all (literal_value v) ls))

  cube : (ls : List Literal) → AreThere (length signals) ls
      → Says signals 1 0 (cube_text signals ls) (λ v. list_all (literal_value v) ls)
  cube [] there = weaker signals 3 1 0 (codes "CONST1") (λ v. true) (omega arith) (always signals)
  cube (l ∷ ls) there = more_literals (literal_text signals l) (λ v. literal_value v l) ls there.1
      (weaker signals 3 1 0 (literal_text signals l) (λ v. literal_value v l) (omega arith) (literal l there.0))

  more_cubes : (text : List ℕ) (value : ℕ → Bool) (cubes : Sum) → AllByRecursion (AreThere (length signals)) cubes
      → Says signals 0 0 text value
      → Says signals 0 0 (text ++ flat_map (λ c. codes " + " ++ cube_text signals c) cubes)
      (λ v. value v || sum_value v cubes)
  more_cubes text value [] there says =
      says_as signals 0 0 0 text (text ++ []) value (λ v. value v || false) says (omega arith)
      (sym (append-nil text)) (λ v. or_false (value v))
  more_cubes text value (c ∷ cubes) there says =
      let last = codes " + " ++ cube_text signals c in
      let rest = flat_map (λ d. codes " + " ++ cube_text signals d) cubes in
      let longer : ℕ → Bool = λ v. value v || list_all (literal_value v) c in
      says_as signals 0 0 0 ((text ++ last) ++ rest) (text ++ (last ++ rest))
      (λ v. longer v || sum_value v cubes) (λ v. value v || (list_all (literal_value v) c || sum_value v cubes))
      (more_cubes (text ++ last) longer cubes there.1
      (either signals 0 text (cube_text signals c) value (λ v. list_all (literal_value v) c) says
      (cube c there.0)))
      (omega arith) (append_assoc text last rest)
      (λ v. or_assoc (value v) (list_all (literal_value v) c) (sum_value v cubes))

  sum : (cubes : Sum) → AllByRecursion (AreThere (length signals)) cubes
      → Says signals 0 0 (sum_text signals cubes) (λ v. sum_value v cubes)
  sum [] there = weaker signals 3 0 0 (codes "CONST0") (λ v. false) (omega arith) (never signals)
  sum (c ∷ cubes) there =
      let value : ℕ → Bool = λ v. list_all (literal_value v) c in
      more_cubes (cube_text signals c) value cubes there.1
      (weaker signals 1 0 0 (cube_text signals c) value (omega arith) (cube c there.0))

  deeper : (text : List ℕ) (value : ℕ → Bool) (level : ℕ) → Says signals level 0 text value
      → Says signals level 1 text value
  deeper text value level says = record {
    syntax = says.syntax;
    is = says.is;
    strong = says.strong;
    low = omega (arith, says.low);
    reads = says.reads;
    in_line = says.in_line;
    knows = says.knows;
    values = says.values;
  }

  latch : (z : ℕ) (set reset : Sum) → z < length signals → AllByRecursion (AreThere (length signals)) set
      → AllByRecursion (AreThere (length signals)) reset
      → Says signals 0 1 (gate_text signals (name_of signals z) (Gc set reset))
      (λ v. sum_value v set || (bit v z && not (sum_value v reset)))
  latch z set reset there sets resets =
      let s = sum_text signals set in
      let r = sum_text signals reset in
      let n = shown (name_of signals z) in
      let sv : ℕ → Bool = λ v. sum_value v set in
      let rv : ℕ → Bool = λ v. sum_value v reset in
      let zv : ℕ → Bool = λ v. bit v z in
      let grouped = codes "(" ++ r ++ codes ")" in
      let off = grouped ++ 39 ∷ [] in
      let keeps : ℕ → Bool = λ v. zv v && not (rv v) in
      let stays : Says signals 2 1 off (λ v. not (rv v)) = weaker signals 3 2 1 off (λ v. not (rv v)) (omega arith)
      (complement signals 1 grouped rv (group signals 0 r rv (sum reset resets))) in
      let own : Says signals 1 1 n zv = weaker signals 3 1 1 n zv (omega arith) (deeper n zv 3 (name z there)) in
      let held = n ++ (codes " " ++ off) in
      let holds : Says signals 1 1 held keeps = both signals 1 n off zv (λ v. not (rv v)) own stays in
      says_as signals 0 0 1 (s ++ (codes " + " ++ held)) (gate_text signals (name_of signals z) (Gc set reset))
      (λ v. sv v || keeps v) (λ v. sum_value v set || (bit v z && not (sum_value v reset)))
      (either signals 1 s held sv keeps (deeper s sv 0 (sum set sets)) holds) (omega arith) (gc_text s n r) (λ v. refl)

abbrev pub HasThere : ℕ → Gate → Type 0
HasThere count (SumGate sum) = AllByRecursion (AreThere count) sum
HasThere count (Gc set reset) = AllByRecursion (AreThere count) set × AllByRecursion (AreThere count) reset
HasThere count (Cell name literals sum) = AllByRecursion (AreThere count) sum

-- the expression of the gate of signal z has the values of the gate
pub says_gate : (signals : List Signal) → AreNamed signals → (z : ℕ) (gate : Gate) → z < length signals
    → HasThere (length signals) gate
    → Says signals 0 1 (gate_text signals (name_of signals z) gate) (λ v. gate_value_of gate z v)
says_gate signals are z (SumGate cubes) there has =
    deeper signals are (sum_text signals cubes) (λ v. sum_value v cubes) 0 (sum signals are cubes has)
says_gate signals are z (Gc set reset) there has = latch signals are z set reset there has.0 has.1
says_gate signals are z (Cell cell literals cubes) there has =
    deeper signals are (sum_text signals cubes) (λ v. sum_value v cubes) 0 (sum signals are cubes has)
