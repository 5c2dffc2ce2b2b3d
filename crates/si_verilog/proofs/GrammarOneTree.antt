-- Symbols spell one tree at most: taken one after another, they rebuild it.
use Rattle.std.proofs.Common.{◌≡◌, ℕ, ◌==◌, not, Bool, true, false, List, [], ◌∷◌, ◌++◌, Option, Some, None, refl, sym}
use Rattle.std.proofs.Common.{ap, ◌∙◌, codes, bytes_eq, if◌then◌else◌}
use Rattle.std.specs.List.{list_all}
use Rattle.std.proofs.lemmas.Bool.{true≢false, and_from, and_parts}
use Rattle.std.proofs.lemmas.List.Folds.{list_all-append}
use Rattle.si_verilog.specs.Symbols.{Symbol, Name, Word, Mark}
use Rattle.si_verilog.specs.Grammar.{Tree, Constant, Named, Not, And, Or, Level, Primary, Factor, Term, Expression}
use Rattle.si_verilog.specs.Grammar.{Spells, zero, one, named, grouped, as_factor, complemented, as_term, with_factor}
use Rattle.si_verilog.specs.Grammar.{as_expression, with_term}

-- inside a parenthesis: the sum so far, the product so far, and whether a complement stands before
-- what comes
record Frame : Type 0 where
  sum : Option Tree
  product : Option Tree
  negated : Bool

-- inside parentheses, the last opened first
record State : Type 0 where
  top : Frame
  below : List Frame

abbrev state : Option Tree → Option Tree → Bool → List Frame → State
state sum product negated below =
    record { top = record { sum = sum; product = product; negated = negated }; below = below }

abbrev and_with : Option Tree → Tree → Tree
and_with None t = t
and_with (Some left) t = And left t

abbrev or_with : Option Tree → Option Tree → Tree
or_with sum None = Constant false
or_with None (Some t) = t
or_with (Some left) (Some t) = Or left t

abbrev put : Tree → State → State
put t s = state s.top.sum (Some (and_with s.top.product (if s.top.negated then Not t else t))) false s.below

abbrev close : List Frame → State → State
close [] s = s
close (f ∷ fs) s = put (or_with s.top.sum s.top.product) (record { top = f; below = fs })

abbrev marked : ℕ → State → State
marked m s =
    if m == 126 then state s.top.sum s.top.product true s.below
    else if m == 40 then state None None false (s.top ∷ s.below)
    else if m == 41 then close s.below s
    else if m == 124 then state (Some (or_with s.top.sum s.top.product)) None false s.below
    else s

abbrev step : State → Symbol → State
step s (Name name) = put (Named name) s
step s (Word word) = put (Constant (bytes_eq word (codes "1'b1"))) s
step s (Mark m) = marked m s

abbrev run : State → List Symbol → State
run s [] = s
run s (x ∷ xs) = run (step s x) xs

run-append : (s : State) (xs ys : List Symbol) → run s (xs ++ ys) ≡ run (run s xs) ys
run-append s [] ys = refl
run-append s (x ∷ xs) ys = run-append (step s x) xs ys

-- what the symbols of a tree do
abbrev Runs : Level → List Symbol → Tree → Type 0
Runs Primary xs t = (s : State) → run s xs ≡ put t s
Runs Factor xs t = (sum product : Option Tree) (below : List Frame)
    → run (state sum product false below) xs ≡ put t (state sum product false below)
Runs Term xs t = (sum : Option Tree) (below : List Frame)
    → run (state sum None false below) xs ≡ state sum (Some t) false below
Runs Expression xs t = (below : List Frame) → (sum : Option Tree) × (product : Tree)
    × (run (state None None false below) xs ≡ state sum (Some product) false below)
    × (or_with sum (Some product) ≡ t)

runs : {level : Level} {xs : List Symbol} {t : Tree} → Spells level xs t → Runs level xs t
runs zero = λ s. refl
runs one = λ s. refl
runs (named name) = λ s. refl
runs (grouped {inner = xs} {tree = t} e) = λ s.
    let inside = runs e (s.top ∷ s.below) in
    run-append (state None None false (s.top ∷ s.below)) xs (Mark 41 ∷ [])
    ∙ ap (λ (u : State). step u (Mark 41)) inside.2 ∙ ap (λ (u : Tree). put u s) inside.3
runs (as_factor e) = λ sum product below. runs e (state sum product false below)
runs (complemented e) = λ sum product below. runs e (state sum product true below)
runs (as_term e) = λ sum below. runs e sum None below
runs (with_factor {xs = xs} {ys = ys} {left = t} e f) = λ sum below.
    run-append (state sum None false below) xs (Mark 38 ∷ ys)
    ∙ ap (λ (s : State). run s (Mark 38 ∷ ys)) (runs e sum below) ∙ runs f sum (Some t) below
runs (as_expression {tree = t} e) = λ below. (None, t, runs e None below, refl)
runs (with_term {xs = xs} {ys = ys} {left = t} {right = u} e f) = λ below.
    let former = runs e below in (
      Some t,
      u,
      run-append (state None None false below) xs (Mark 124 ∷ ys)
          ∙ ap (λ (s : State). run s (Mark 124 ∷ ys)) former.2
          ∙ ap (λ (o : Tree). run (state (Some o) None false below) ys) former.3
          ∙ runs f (Some t) below,
      refl,
    )

abbrev outcome : State → Tree
outcome s = or_with s.top.sum s.top.product

-- the tree of an expression is what its symbols come to
pub one_tree : (xs : List Symbol) (t u : Tree) → Spells Expression xs t → Spells Expression xs u → t ≡ u
one_tree xs t u e f =
    let former = runs e [] in
    let latter = runs f [] in
    sym former.3 ∙ ap outcome (sym former.2 ∙ latter.2) ∙ latter.3

-- ---- an expression has no `;`

abbrev pub no_end : Symbol → Bool
no_end (Name name) = true
no_end (Word word) = true
no_end (Mark m) = not (m == 59)

around : (x y : Symbol) (xs : List Symbol) → no_end x ≡ true → no_end y ≡ true → list_all no_end xs ≡ true
    → list_all no_end (x ∷ (xs ++ y ∷ [])) ≡ true
around x y xs first last none =
    and_from _ _ first (list_all-append no_end xs (y ∷ []) ∙ and_from _ _ none (and_from _ _ last refl))

between : (x : Symbol) (xs ys : List Symbol) → no_end x ≡ true → list_all no_end xs ≡ true
    → list_all no_end ys ≡ true → list_all no_end (xs ++ x ∷ ys) ≡ true
between x xs ys mark former latter =
    list_all-append no_end xs (x ∷ ys) ∙ and_from _ _ former (and_from _ _ mark latter)

pub has_no_end : {level : Level} {xs : List Symbol} {t : Tree} → Spells level xs t → list_all no_end xs ≡ true
has_no_end zero = refl
has_no_end one = refl
has_no_end (named name) = refl
has_no_end (grouped {inner = xs} e) = around (Mark 40) (Mark 41) xs refl refl (has_no_end e)
has_no_end (as_factor e) = has_no_end e
has_no_end (complemented e) = and_from _ _ refl (has_no_end e)
has_no_end (as_term e) = has_no_end e
has_no_end (with_factor {xs = xs} {ys = ys} e f) = between (Mark 38) xs ys refl (has_no_end e) (has_no_end f)
has_no_end (as_expression e) = has_no_end e
has_no_end (with_term {xs = xs} {ys = ys} e f) = between (Mark 124) xs ys refl (has_no_end e) (has_no_end f)

-- what stands before the first `;`, and what stands behind it
pub parted : (xs ys rest more : List Symbol) → list_all no_end xs ≡ true → list_all no_end ys ≡ true
    → xs ++ Mark 59 ∷ rest ≡ ys ++ Mark 59 ∷ more → (xs ≡ ys) × (rest ≡ more)
parted [] [] rest more none also same = (refl, cc)
parted [] (y ∷ ys) rest more none also same =
    let first : y ≡ Mark 59 = cc in
    let ends = rw first at also in
    absurd (true≢false (sym ends))
parted (x ∷ xs) [] rest more none also same =
    let first : x ≡ Mark 59 = cc in
    let ends = rw first at none in
    absurd (true≢false (sym ends))
parted (x ∷ xs) (y ∷ ys) rest more none also same =
    let here : x ≡ y = cc in
    let left : xs ++ Mark 59 ∷ rest ≡ ys ++ Mark 59 ∷ more = cc in
    let later = parted xs ys rest more (and_parts _ _ none).1 (and_parts _ _ also).1 left in
    let rest_is = later.0 in
    (cc, later.1)
