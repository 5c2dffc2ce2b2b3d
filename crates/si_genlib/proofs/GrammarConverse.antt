-- What is read of tokens has a syntax: each state keeps that of what was read so far.
use Rattle.std.proofs.Common.{◌≡◌, ℕ, suc, ◌+◌, ◌≤◌, ◌⊎◌, List, [], ◌∷◌, ◌++◌, length, codes, Option, Some, None, refl}
use Rattle.std.proofs.Common.{sym, ap, subst, ◌∙◌, arith, ⊎_elim, append_assoc, append-nil}
use Rattle.si_genlib.specs.declared.symbol.Operator.{Operator}
use Rattle.si_genlib.specs.declared.symbol.Operator.TheVariants as operators
use Rattle.si_genlib.specs.Expression.{Tree, Not, And, trees, after, complemented, still, leaf}
use Rattle.si_genlib.specs.Grammar.{Syntax, Word, InParens, Complemented, Beside, Times, Plus, strength, IsExpression}
use Rattle.si_genlib.specs.Grammar.{written, tree_of, height, IsBeginning}

-- ---- what the parts of a state spell

-- this expression has the tree, holds together so strongly, and is not too high for its split
pub record Reads (limit least depth : ℕ) (x : Tree) (s : Syntax) : Type 0 where
  pub is : IsExpression s
  pub strong : least ≤ strength s
  pub room : depth + height s ≤ limit
  pub tree : tree_of s ≡ x

-- terms with the `+` behind them
pub record SpellsTerms (limit depth : ℕ) (x : Tree) (tokens : List (List ℕ)) : Type 0 where
  pub s : Syntax
  pub reads : Reads limit 0 depth x s
  pub same : tokens ≡ written s ++ codes "+" ∷ []

-- factors, maybe with a `*` behind them
pub record SpellsFactors (limit depth : ℕ) (x : Tree) (tokens : List (List ℕ)) : Type 0 where
  pub s : Syntax
  pub reads : Reads limit 1 depth x s
  pub same : (tokens ≡ written s) ⊎ (tokens ≡ written s ++ codes "*" ∷ [])

abbrev pub IfAny : (Tree → List (List ℕ) → Type 0) → Option Tree → List (List ℕ) → Type 0
IfAny Spells None tokens = tokens ≡ []
IfAny Spells (Some x) tokens = Spells x tokens

-- terms and factors of parentheses, behind what stands outside of them
pub record Stands (limit : ℕ) (Outer : List (List ℕ) → Type 0) (depth : ℕ) (terms factors : Option Tree)
    (tokens : List (List ℕ)) : Type 0 where
  pub front : List (List ℕ)
  pub outer : Outer front
  pub first : List (List ℕ)
  pub second : List (List ℕ)
  pub terms_read : IfAny (SpellsTerms limit depth) terms first
  pub factors_read : IfAny (SpellsFactors limit depth) factors second
  pub same : tokens ≡ front ++ (first ++ second)

-- the token stands last
pub record EndsIn (token : List ℕ) (Before : List (List ℕ) → Type 0) (tokens : List (List ℕ)) : Type 0 where
  pub front : List (List ℕ)
  pub before : Before front
  pub same : tokens ≡ front ++ token ∷ []

-- what stands before an operand
abbrev pub Before : ℕ → List (Operator Tree) → Option Tree → Option Tree → List (List ℕ) → Type 0
Before limit [] terms factors = Stands limit (λ front. front ≡ []) 0 terms factors
Before limit (operators.Complement ∷ ops) terms factors = EndsIn (codes "!") (Before limit ops terms factors)
Before limit (operators.Paren outer_terms outer_factors ∷ ops) terms factors =
    Stands limit (EndsIn (codes "(") (Before limit ops outer_terms outer_factors)) (suc (length ops)) terms factors

-- what stands before the innermost parentheses' terms, where no `!` is unfinished
abbrev pub Outside : ℕ → List (Operator Tree) → List (List ℕ) → Type 0
Outside limit [] front = front ≡ []
Outside limit (operators.Complement ∷ ops) front = ⊥
Outside limit (operators.Paren terms factors ∷ ops) front = EndsIn (codes "(") (Before limit ops terms factors) front

module _ (limit : ℕ) where
  pub parted : (ops : List (Operator Tree)) (terms factors : Option Tree) (tokens : List (List ℕ))
      → Before limit (still ops) terms factors tokens
      → Stands limit (Outside limit (still ops)) (length (still ops)) terms factors tokens
  parted [] terms factors tokens before = before
  parted (operators.Complement ∷ ops) terms factors tokens before = parted ops terms factors tokens before
  parted (operators.Paren outer_terms outer_factors ∷ ops) terms factors tokens before = before

  pub rejoined : (ops : List (Operator Tree)) (terms factors : Option Tree) (tokens : List (List ℕ))
      → Stands limit (Outside limit (still ops)) (length (still ops)) terms factors tokens
      → Before limit (still ops) terms factors tokens
  rejoined [] terms factors tokens stands = stands
  rejoined (operators.Complement ∷ ops) terms factors tokens stands = rejoined ops terms factors tokens stands
  rejoined (operators.Paren outer_terms outer_factors ∷ ops) terms factors tokens stands = stands

  -- ---- an operand ends a factor, a term, and the terms
  pub record EndsFactor (ops : List (Operator Tree)) (terms factors : Option Tree) (x : Tree)
      (tokens : List (List ℕ)) : Type 0 where
    pub s : Syntax
    pub reads : Reads limit 2 (length (still ops)) (complemented trees x ops) s
    pub front : List (List ℕ)
    pub before : Before limit (still ops) terms factors front
    pub same : tokens ≡ front ++ written s

  regrouped : (tokens front more : List (List ℕ)) (token : List ℕ) → tokens ≡ front ++ token ∷ []
      → tokens ++ more ≡ front ++ token ∷ more
  regrouped tokens front more token same = rw same (append_assoc front (token ∷ []) more)

  pub factor_ends : (ops : List (Operator Tree)) (terms factors : Option Tree) (x : Tree) (tokens : List (List ℕ))
      (s : Syntax) → Reads limit 2 (length ops) x s → Before limit ops terms factors tokens
      → EndsFactor ops terms factors x (tokens ++ written s)
  factor_ends [] terms factors x tokens s reads before =
      record { s = s; reads = reads; front = tokens; before = before; same = refl }
  factor_ends (operators.Complement ∷ ops) terms factors x tokens s reads before =
      let inner = factor_ends ops terms factors (Not x) before.front (Complemented s) (record {
        is = (reads.is, reads.strong);
        strong = omega arith;
        room = omega (arith, reads.room);
        tree = ap (λ (t : Tree). Not t) reads.tree;
      }) before.before in
      record {
        s = inner.s;
        reads = inner.reads;
        front = inner.front;
        before = inner.before;
        same = regrouped tokens before.front (written s) (codes "!") before.same ∙ inner.same;
      }
  factor_ends (operators.Paren outer_terms outer_factors ∷ ops) terms factors x tokens s reads before =
      record { s = s; reads = reads; front = tokens; before = before; same = refl }

  pub record EndsTerm (Outer : List (List ℕ) → Type 0) (depth : ℕ) (terms : Option Tree) (x : Tree)
      (tokens : List (List ℕ)) : Type 0 where
    pub s : Syntax
    pub reads : Reads limit 1 depth x s
    pub front : List (List ℕ)
    pub outer : Outer front
    pub first : List (List ℕ)
    pub terms_read : IfAny (SpellsTerms limit depth) terms first
    pub same : tokens ≡ front ++ (first ++ written s)

  pub record EndsTerms (Outer : List (List ℕ) → Type 0) (depth : ℕ) (x : Tree) (tokens : List (List ℕ)) : Type 0 where
    pub s : Syntax
    pub reads : Reads limit 0 depth x s
    pub front : List (List ℕ)
    pub outer : Outer front
    pub same : tokens ≡ front ++ written s

  -- the factors before it, and this factor
  product : (depth : ℕ) (factors : Option Tree) (x : Tree) (second : List (List ℕ)) (s : Syntax)
      → IfAny (SpellsFactors limit depth) factors second → Reads limit 2 depth x s
      → (t : Syntax) × Reads limit 1 depth (after trees.both factors x) t × (second ++ written s ≡ written t)
  product depth None x second s empty reads = (
    s,
    record { is = reads.is; strong = omega (arith, reads.strong); room = reads.room; tree = reads.tree },
    ap (λ (tokens : List (List ℕ)). tokens ++ written s) empty,
  )
  product depth (Some y) x second s spells reads = ⊎_elim beside times spells.same
    where
      f : Syntax
      f = spells.s

      beside : second ≡ written f
          → (t : Syntax) × Reads limit 1 depth (And y x) t × (second ++ written s ≡ written t)
      beside same = (
        Beside f s,
        record {
          is = (spells.reads.is, reads.is, spells.reads.strong, reads.strong);
          strong = omega arith;
          room = omega (arith, spells.reads.room, reads.room);
          tree = rw (spells.reads.tree, reads.tree) refl;
        },
        ap (λ (tokens : List (List ℕ)). tokens ++ written s) same,
      )

      times : second ≡ written f ++ codes "*" ∷ []
          → (t : Syntax) × Reads limit 1 depth (And y x) t × (second ++ written s ≡ written t)
      times same = (
        Times f s,
        record {
          is = (spells.reads.is, reads.is, spells.reads.strong, reads.strong);
          strong = omega arith;
          room = omega (arith, spells.reads.room, reads.room);
          tree = rw (spells.reads.tree, reads.tree) refl;
        },
        regrouped second (written f) (written s) (codes "*") same,
      )

  -- the terms before it, and this term
  sum : (depth : ℕ) (terms : Option Tree) (x : Tree) (first : List (List ℕ)) (s : Syntax)
      → IfAny (SpellsTerms limit depth) terms first → Reads limit 1 depth x s
      → (t : Syntax) × Reads limit 0 depth (after trees.either terms x) t × (first ++ written s ≡ written t)
  sum depth None x first s empty reads = (
    s,
    record { is = reads.is; strong = omega arith; room = reads.room; tree = reads.tree },
    ap (λ (tokens : List (List ℕ)). tokens ++ written s) empty,
  )
  sum depth (Some y) x first s spells reads = (
    Plus spells.s s,
    record {
      is = (spells.reads.is, reads.is, reads.strong);
      strong = omega arith;
      room = omega (arith, spells.reads.room, reads.room);
      tree = rw (spells.reads.tree, reads.tree) refl;
    },
    regrouped first (written spells.s) (written s) (codes "+") spells.same,
  )

  pub term_ends : (Outer : List (List ℕ) → Type 0) (depth : ℕ) (terms factors : Option Tree) (x : Tree)
      (tokens : List (List ℕ)) (s : Syntax) → Stands limit Outer depth terms factors tokens
      → Reads limit 2 depth x s → EndsTerm Outer depth terms (after trees.both factors x) (tokens ++ written s)
  term_ends Outer depth terms factors x tokens s stands reads =
      let p = product depth factors x stands.second s stands.factors_read reads in record {
        s = p.0;
        reads = p.1;
        front = stands.front;
        outer = stands.outer;
        first = stands.first;
        terms_read = stands.terms_read;
        same = rw stands.same (append_assoc stands.front (stands.first ++ stands.second) (written s)
            ∙ ap (λ (more : List (List ℕ)). stands.front ++ more)
            (append_assoc stands.first stands.second (written s)
            ∙ ap (λ (more : List (List ℕ)). stands.first ++ more) p.2));
      }

  pub terms_end : (Outer : List (List ℕ) → Type 0) (depth : ℕ) (terms : Option Tree) (x : Tree) (tokens : List (List ℕ))
      → EndsTerm Outer depth terms x tokens → EndsTerms Outer depth (after trees.either terms x) tokens
  terms_end Outer depth terms x tokens term =
      let p = sum depth terms x term.first term.s term.terms_read term.reads in record {
        s = p.0;
        reads = p.1;
        front = term.front;
        outer = term.outer;
        same = term.same ∙ ap (λ (more : List (List ℕ)). term.front ++ more) p.2;
      }

  -- ---- from each state an expression goes on
  pub cut_short : (tokens more : List (List ℕ)) → IsBeginning limit (tokens ++ more) → IsBeginning limit tokens
  cut_short tokens more b = record {
    whole = b.whole;
    is = b.is;
    within = b.within;
    begins = (more ++ b.begins.0, b.begins.1 ∙ append_assoc tokens more b.begins.0);
  }

  pub moved : (xs ys : List (List ℕ)) → xs ≡ ys → IsBeginning limit ys → IsBeginning limit xs
  moved xs ys same = subst (IsBeginning limit) (sym same)

  pub in_parens : (tokens front outer inner : List (List ℕ)) → tokens ≡ front ++ inner → front ≡ outer ++ codes "(" ∷ []
      → tokens ++ codes ")" ∷ [] ≡ outer ++ (codes "(" ∷ inner ++ codes ")" ∷ [])
  in_parens tokens front outer inner same opens = rw (same, opens)
      (append_assoc (outer ++ codes "(" ∷ []) inner (codes ")" ∷ [])
      ∙ append_assoc outer (codes "(" ∷ []) (inner ++ codes ")" ∷ []))

  pub parens_read : (depth : ℕ) (x : Tree) (s : Syntax) → Reads limit 0 (suc depth) x s
      → Reads limit 3 depth x (InParens s)
  parens_read depth x s reads = record {
    is = reads.is;
    strong = omega arith;
    room = omega (arith, reads.room);
    tree = reads.tree;
  }

  pub weaker : (depth : ℕ) (x : Tree) (s : Syntax) → Reads limit 3 depth x s → Reads limit 2 depth x s
  weaker depth x s reads = record {
    is = reads.is;
    strong = omega (arith, reads.strong);
    room = reads.room;
    tree = reads.tree;
  }

  -- with a `)` for each that is open
  pub completed : (ops : List (Operator Tree)) (terms factors : Option Tree) (tokens : List (List ℕ))
      (x : Tree) (s : Syntax) → Reads limit 2 (length ops) x s → Before limit ops terms factors tokens
      → IsBeginning limit (tokens ++ written s)
  completed [] terms factors tokens x s reads before =
      let all = terms_end (λ front. front ≡ []) 0 terms (after trees.both factors x) (tokens ++ written s)
      (term_ends (λ front. front ≡ []) 0 terms factors x tokens s before reads) in
      record {
        whole = all.s;
        is = all.reads.is;
        within = omega (arith, all.reads.room);
        begins = (
          [],
          sym (append-nil (tokens ++ written s) ∙ all.same
              ∙ ap (λ (front : List (List ℕ)). front ++ written all.s) all.outer),
        );
      }
  completed (operators.Complement ∷ ops) terms factors tokens x s reads before =
      moved (tokens ++ written s) (before.front ++ written (Complemented s))
      (regrouped tokens before.front (written s) (codes "!") before.same)
      (completed ops terms factors before.front (Not x) (Complemented s) (record {
        is = (reads.is, reads.strong);
        strong = omega arith;
        room = omega (arith, reads.room);
        tree = ap (λ (t : Tree). Not t) reads.tree;
      }) before.before)
  completed (operators.Paren outer_terms outer_factors ∷ ops) terms factors tokens x s reads before =
      let y : Tree = after trees.either terms (after trees.both factors x) in
      let Outer : List (List ℕ) → Type 0 = EndsIn (codes "(") (Before limit ops outer_terms outer_factors) in
      let all = terms_end Outer (suc (length ops)) terms (after trees.both factors x) (tokens ++ written s)
      (term_ends Outer (suc (length ops)) terms factors x tokens s before reads) in
      cut_short (tokens ++ written s) (codes ")" ∷ [])
      (moved ((tokens ++ written s) ++ codes ")" ∷ []) (all.outer.front ++ written (InParens all.s))
      (in_parens (tokens ++ written s) all.front all.outer.front (written all.s) all.same all.outer.same)
      (completed ops outer_terms outer_factors all.outer.front y (InParens all.s)
      (weaker (length ops) y (InParens all.s) (parens_read (length ops) y all.s all.reads)) all.outer.before))

  -- where an operand is due, `CONST0` may stand
  pub due_begins : (ops : List (Operator Tree)) (terms factors : Option Tree) (tokens : List (List ℕ))
      → length ops ≤ limit → Before limit ops terms factors tokens → IsBeginning limit tokens
  due_begins ops terms factors tokens few before = cut_short tokens (written (Word (codes "CONST0")))
      (completed ops terms factors tokens (leaf trees (codes "CONST0")) (Word (codes "CONST0")) (record {
        is = refl;
        strong = omega arith;
        room = omega (arith, few);
        tree = refl;
      }) before)
