-- Tokens are written by one expression at most: read from right to left, each is taken apart in one way.
use Rattle.std.proofs.Common.{◌≡◌, ℕ, suc, zero, ◌<◌, ◌≤◌, List, [], ◌∷◌, ◌++◌, codes, bytes_eq, if◌then◌else◌, refl}
use Rattle.std.proofs.Common.{sym, ap, ◌∙◌, arith}
use Rattle.si_genlib.specs.Expression.{is_name}
use Rattle.si_genlib.specs.Grammar.{Syntax, Word, InParens, Primed, Complemented, Beside, Times, Plus, strength}
use Rattle.si_genlib.specs.Grammar.{IsExpression, written}

-- ---- the tokens from right to left, before what stands to the left

abbrev mirror : Syntax → List (List ℕ) → List (List ℕ)
mirror (Word bytes) left = bytes ∷ left
mirror (InParens s) left = codes ")" ∷ mirror s (codes "(" ∷ left)
mirror (Primed s) left = codes "'" ∷ mirror s left
mirror (Complemented s) left = mirror s (codes "!" ∷ left)
mirror (Beside s t) left = mirror t (mirror s left)
mirror (Times s t) left = mirror t (codes "*" ∷ mirror s left)
mirror (Plus s t) left = mirror t (codes "+" ∷ mirror s left)

abbrev turned : List (List ℕ) → List (List ℕ) → List (List ℕ)
turned [] left = left
turned (token ∷ tokens) left = turned tokens (token ∷ left)

turned-append : (xs ys left : List (List ℕ)) → turned (xs ++ ys) left ≡ turned ys (turned xs left)
turned-append [] ys left = refl
turned-append (x ∷ xs) ys left = turned-append xs ys (x ∷ left)

turned_written : (s : Syntax) (left : List (List ℕ)) → turned (written s) left ≡ mirror s left
turned_written (Word bytes) left = refl
turned_written (InParens s) left = turned-append (written s) (codes ")" ∷ []) (codes "(" ∷ left)
    ∙ ap (λ (more : List (List ℕ)). codes ")" ∷ more) (turned_written s (codes "(" ∷ left))
turned_written (Primed s) left = turned-append (written s) (codes "'" ∷ []) left
    ∙ ap (λ (more : List (List ℕ)). codes "'" ∷ more) (turned_written s left)
turned_written (Complemented s) left = turned_written s (codes "!" ∷ left)
turned_written (Beside s t) left = turned-append (written s) (written t) left
    ∙ ap (turned (written t)) (turned_written s left) ∙ turned_written t (mirror s left)
turned_written (Times s t) left = turned-append (written s) (codes "*" ∷ written t) left
    ∙ ap (λ (more : List (List ℕ)). turned (written t) (codes "*" ∷ more)) (turned_written s left)
    ∙ turned_written t (codes "*" ∷ mirror s left)
turned_written (Plus s t) left = turned-append (written s) (codes "+" ∷ written t) left
    ∙ ap (λ (more : List (List ℕ)). turned (written t) (codes "+" ∷ more)) (turned_written s left)
    ∙ turned_written t (codes "+" ∷ mirror s left)

-- ---- what the next token to the left is

-- 0 where the terms begin, 1 for `+`, 2 for `*`, 3 where an operand ends, 4 for `!`
abbrev bond : List (List ℕ) → ℕ
bond [] = 0
bond (token ∷ left) = if is_name token then 3 else if bytes_eq (codes "(") token then 0
    else if bytes_eq (codes "+") token then 1 else if bytes_eq (codes "*") token then 2
    else if bytes_eq (codes "!") token then 4 else 3

operand_bond : (s : Syntax) (left : List (List ℕ)) → IsExpression s → bond (mirror s left) ≡ 3
operand_bond (Word bytes) left is = rw is refl
operand_bond (InParens s) left is = refl
operand_bond (Primed s) left is = refl
operand_bond (Complemented s) left is = operand_bond s (codes "!" ∷ left) is.0
operand_bond (Beside s t) left is = operand_bond t (mirror s left) is.1
operand_bond (Times s t) left is = operand_bond t (codes "*" ∷ mirror s left) is.1
operand_bond (Plus s t) left is = operand_bond t (codes "+" ∷ mirror s left) is.1

-- what a primary ends in
abbrev last_kind : List (List ℕ) → ℕ
last_kind [] = 3
last_kind (token ∷ left) = if is_name token then 0 else if bytes_eq (codes ")") token then 1 else 2

-- ---- one way to take tokens apart

-- no other syntax with this strength, behind what stands to the left, has the same tokens
abbrev IsOnly : ℕ → (List (List ℕ) → Type 0) → Syntax → Type 0
IsOnly least Stops s = (t : Syntax) → IsExpression t → least ≤ strength t → (x y : List (List ℕ)) → Stops x → Stops y
    → mirror s x ≡ mirror t y → (s ≡ t) × (x ≡ y)

abbrev IsOnlyPrimary : Syntax → Type 0
IsOnlyPrimary = IsOnly 3 (λ x. Unit {0})

abbrev IsOnlyFactor : Syntax → Type 0
IsOnlyFactor = IsOnly 2 (λ x. bond x ≤ 3)

abbrev IsOnlyTerm : Syntax → Type 0
IsOnlyTerm = IsOnly 1 (λ x. bond x ≤ 1)

abbrev IsOnlyWhole : Syntax → Type 0
IsOnlyWhole = IsOnly 0 (λ x. bond x ≤ 0)

tail_same : (token : List ℕ) (x y : List (List ℕ)) → ◌≡◌ {A = List (List ℕ)} (token ∷ x) (token ∷ y) → x ≡ y
tail_same token x y same = cc

differ : (f : List (List ℕ) → ℕ) (m n : ℕ) (x y : List (List ℕ)) → f x ≡ m → f y ≡ n → m < n → x ≡ y → ⊥
differ f m n x y left right less same = omega (arith, ap f same)

-- ---- primaries

word_kind : (bytes : List ℕ) (left : List (List ℕ)) → IsExpression (Word bytes) → last_kind (bytes ∷ left) ≡ 0
word_kind bytes left is = rw is refl

word_only : (bytes : List ℕ) → IsExpression (Word bytes) → IsOnlyPrimary (Word bytes)
word_only bytes is (Word other) known strong x y free also same = (cc, cc)
word_only bytes is (InParens t) known strong x y free also same = absurd (differ last_kind 0 1
    (bytes ∷ x) (mirror (InParens t) y) (word_kind bytes x is) refl (omega arith) same)
word_only bytes is (Primed t) known strong x y free also same = absurd (differ last_kind 0 2
    (bytes ∷ x) (mirror (Primed t) y) (word_kind bytes x is) refl (omega arith) same)
word_only bytes is t known strong x y free also same = absurd (omega (arith, strong))

parens_only : (s : Syntax) → IsOnlyWhole s → IsOnlyPrimary (InParens s)
parens_only s only (Word bytes) known strong x y free also same = absurd (differ last_kind 0 1
    (bytes ∷ y) (mirror (InParens s) x) (word_kind bytes y known) refl (omega arith) (sym same))
parens_only s only (InParens t) known strong x y free also same =
    let inner = only t known (omega arith) (codes "(" ∷ x) (codes "(" ∷ y) (omega arith) (omega arith)
    (tail_same (codes ")") (mirror s (codes "(" ∷ x)) (mirror t (codes "(" ∷ y)) same) in
    (ap (λ (u : Syntax). InParens u) inner.0, tail_same (codes "(") x y inner.1)
parens_only s only (Primed t) known strong x y free also same = absurd (differ last_kind 1 2
    (mirror (InParens s) x) (mirror (Primed t) y) refl refl (omega arith) same)
parens_only s only t known strong x y free also same = absurd (omega (arith, strong))

primed_only : (s : Syntax) → IsOnlyPrimary s → IsOnlyPrimary (Primed s)
primed_only s only (Word bytes) known strong x y free also same = absurd (differ last_kind 0 2
    (bytes ∷ y) (mirror (Primed s) x) (word_kind bytes y known) refl (omega arith) (sym same))
primed_only s only (InParens t) known strong x y free also same = absurd (differ last_kind 1 2
    (mirror (InParens t) y) (mirror (Primed s) x) refl refl (omega arith) (sym same))
primed_only s only (Primed t) known strong x y free also same =
    let inner = only t known.0 known.1 x y tt tt (tail_same (codes "'") (mirror s x) (mirror t y) same) in
    (ap (λ (u : Syntax). Primed u) inner.0, inner.1)
primed_only s only t known strong x y free also same = absurd (omega (arith, strong))

-- ---- factors: a primary, and each `!` before it

abbrev banged : ℕ → Syntax → Syntax
banged zero s = s
banged (suc n) s = Complemented (banged n s)

abbrev bangs : ℕ → List (List ℕ) → List (List ℕ)
bangs zero left = left
bangs (suc n) left = codes "!" ∷ bangs n left

bangs_last : (n : ℕ) (left : List (List ℕ)) → bangs n (codes "!" ∷ left) ≡ codes "!" ∷ bangs n left
bangs_last zero left = refl
bangs_last (suc n) left = ap (λ (more : List (List ℕ)). codes "!" ∷ more) (bangs_last n left)

banged_mirror : (n : ℕ) (s : Syntax) (left : List (List ℕ)) → mirror (banged n s) left ≡ mirror s (bangs n left)
banged_mirror zero s left = refl
banged_mirror (suc n) s left = banged_mirror n s (codes "!" ∷ left) ∙ ap (mirror s) (bangs_last n left)

bangs_same : (m n : ℕ) (x y : List (List ℕ)) → bond x ≤ 3 → bond y ≤ 3 → bangs m x ≡ bangs n y → (m ≡ n) × (x ≡ y)
bangs_same zero zero x y free also same = (refl, same)
bangs_same zero (suc n) x y free also same = absurd (omega (arith, ap bond same, free))
bangs_same (suc m) zero x y free also same = absurd (omega (arith, ap bond same, also))
bangs_same (suc m) (suc n) x y free also same =
    let inner = bangs_same m n x y free also (tail_same (codes "!") (bangs m x) (bangs n y) same) in
    (ap suc inner.0, inner.1)

-- the primary of a factor, and how many `!` stand before it
record Core (s : Syntax) : Type 0 where
  count : ℕ
  primary : Syntax
  is : IsExpression primary
  strong : 3 ≤ strength primary
  same : s ≡ banged count primary

core_of : (s : Syntax) → IsExpression s → 2 ≤ strength s → Core s
core_of (Complemented s) is strong = let inner = core_of s is.0 is.1 in record {
  count = suc inner.count;
  primary = inner.primary;
  is = inner.is;
  strong = inner.strong;
  same = ap (λ (u : Syntax). Complemented u) inner.same;
}
core_of (Word bytes) is strong = record { count = 0; primary = Word bytes; is = is; strong = omega arith; same = refl }
core_of (InParens s) is strong = record { count = 0; primary = InParens s; is = is; strong = omega arith; same = refl }
core_of (Primed s) is strong = record { count = 0; primary = Primed s; is = is; strong = omega arith; same = refl }
core_of s is strong = absurd (omega (arith, strong))

core_only : (s : Syntax) (c : Core s) → IsOnlyPrimary c.primary → IsOnlyFactor s
core_only s c only t known strong x y free also same =
    let d = core_of t known strong in
    let parts : mirror c.primary (bangs c.count x) ≡ mirror d.primary (bangs d.count y) =
    sym (banged_mirror c.count c.primary x) ∙ ap (λ (u : Syntax). mirror u x) (sym c.same) ∙ same
    ∙ ap (λ (u : Syntax). mirror u y) d.same ∙ banged_mirror d.count d.primary y in
    let inner = only d.primary d.is d.strong (bangs c.count x) (bangs d.count y) tt tt parts in
    let counts = bangs_same c.count d.count x y free also inner.1 in
    (c.same ∙ ap (λ (n : ℕ). banged n c.primary) counts.0 ∙ ap (banged d.count) inner.0 ∙ sym d.same, counts.1)

-- ---- terms

stop_operand : (s : Syntax) (x y : List (List ℕ)) → IsExpression s → bond y ≤ 1 → y ≡ mirror s x → ⊥
stop_operand s x y is stops same = omega (arith, ap bond same, operand_bond s x is, stops)

stop_times : (x y : List (List ℕ)) → bond y ≤ 1 → y ≡ codes "*" ∷ x → ⊥
stop_times x y stops same = omega (arith, ap bond same, stops)

times_operand : (s : Syntax) (x y : List (List ℕ)) → IsExpression s → codes "*" ∷ y ≡ mirror s x → ⊥
times_operand s x y is same = omega (arith, ap bond same, operand_bond s x is)

behind_operand : (s : Syntax) (left : List (List ℕ)) → IsExpression s → bond (mirror s left) ≤ 3
behind_operand s left is = omega (arith, operand_bond s left is)

factor_only : (s : Syntax) → IsOnlyFactor s → IsOnlyTerm s
factor_only s only (Beside a t) known strong x y free also same = absurd (stop_operand a y x known.0 free
    (only t known.1 known.3 x (mirror a y) (omega (arith, free)) (behind_operand a y known.0) same).1)
factor_only s only (Times a t) known strong x y free also same = absurd (stop_times (mirror a y) x free
    (only t known.1 known.3 x (codes "*" ∷ mirror a y) (omega (arith, free)) (omega arith) same).1)
factor_only s only (Plus a t) known strong x y free also same = absurd (omega (arith, strong))
factor_only s only t known strong x y free also same =
    only t known (omega arith) x y (omega (arith, free)) (omega (arith, also)) same

beside_only : (a s : Syntax) → IsExpression a → IsOnlyTerm a → IsOnlyFactor s → IsOnlyTerm (Beside a s)
beside_only a s is first only (Beside b t) known strong x y free also same =
    let last = only t known.1 known.3 (mirror a x) (mirror b y) (behind_operand a x is)
    (behind_operand b y known.0) same in
    let front = first b known.0 known.2 x y free also last.1 in
    (ap (λ (u : Syntax). Beside u s) front.0 ∙ ap (λ (u : Syntax). Beside b u) last.0, front.1)
beside_only a s is first only (Times b t) known strong x y free also same = absurd (times_operand a x (mirror b y) is
    (sym (only t known.1 known.3 (mirror a x) (codes "*" ∷ mirror b y) (behind_operand a x is) (omega arith) same).1))
beside_only a s is first only (Plus b t) known strong x y free also same = absurd (omega (arith, strong))
beside_only a s is first only t known strong x y free also same = absurd (stop_operand a x y is also
    (sym (only t known (omega arith) (mirror a x) y (behind_operand a x is) (omega (arith, also)) same).1))

times_only : (a s : Syntax) → IsExpression a → IsOnlyTerm a → IsOnlyFactor s → IsOnlyTerm (Times a s)
times_only a s is first only (Beside b t) known strong x y free also same =
    absurd (times_operand b y (mirror a x) known.0 (only t known.1 known.3
    (codes "*" ∷ mirror a x) (mirror b y) (omega arith) (behind_operand b y known.0) same).1)
times_only a s is first only (Times b t) known strong x y free also same =
    let last = only t known.1 known.3 (codes "*" ∷ mirror a x) (codes "*" ∷ mirror b y)
    (omega arith) (omega arith) same in
    let front = first b known.0 known.2 x y free also (tail_same (codes "*") (mirror a x) (mirror b y) last.1) in
    (ap (λ (u : Syntax). Times u s) front.0 ∙ ap (λ (u : Syntax). Times b u) last.0, front.1)
times_only a s is first only (Plus b t) known strong x y free also same = absurd (omega (arith, strong))
times_only a s is first only t known strong x y free also same = absurd (stop_times (mirror a x) y also
    (sym (only t known (omega arith) (codes "*" ∷ mirror a x) y (omega arith) (omega (arith, also)) same).1))

-- ---- sums of terms

stop_plus : (x y : List (List ℕ)) → bond y ≤ 0 → y ≡ codes "+" ∷ x → ⊥
stop_plus x y stops same = omega (arith, ap bond same, stops)

term_only : (s : Syntax) → IsOnlyTerm s → IsOnlyWhole s
term_only s only (Plus a t) known strong x y free also same = absurd (stop_plus (mirror a y) x free
    (only t known.1 known.2 x (codes "+" ∷ mirror a y) (omega (arith, free)) (omega arith) same).1)
term_only s only t known strong x y free also same =
    only t known (omega arith) x y (omega (arith, free)) (omega (arith, also)) same

plus_only : (a s : Syntax) → IsOnlyWhole a → IsOnlyTerm s → IsOnlyWhole (Plus a s)
plus_only a s first only (Plus b t) known strong x y free also same =
    let last = only t known.1 known.2 (codes "+" ∷ mirror a x) (codes "+" ∷ mirror b y)
    (omega arith) (omega arith) same in
    let front = first b known.0 (omega arith) x y free also (tail_same (codes "+") (mirror a x) (mirror b y) last.1) in
    (ap (λ (u : Syntax). Plus u s) front.0 ∙ ap (λ (u : Syntax). Plus b u) last.0, front.1)
plus_only a s first only t known strong x y free also same = absurd (stop_plus (mirror a x) y also
    (sym (only t known (omega arith) (codes "+" ∷ mirror a x) y (omega arith) (omega (arith, also)) same).1))

-- ---- each expression

abbrev IsOnlyCore : Syntax → Type 0
IsOnlyCore s = (c : Core s) × IsOnlyPrimary c.primary

record Onlys (s : Syntax) : Type 0 where
  primary : 3 ≤ strength s → IsOnlyPrimary s
  factor : 2 ≤ strength s → IsOnlyCore s
  term : 1 ≤ strength s → IsOnlyTerm s
  whole : IsOnlyWhole s

core_factor : (s : Syntax) → IsOnlyCore s → IsOnlyFactor s
core_factor s core = core_only s core.0 core.1

from_core : (s : Syntax) → (3 ≤ strength s → IsOnlyPrimary s) → IsOnlyCore s → Onlys s
from_core s primary core = record {
  primary = primary;
  factor = λ strong. core;
  term = λ strong. factor_only s (core_factor s core);
  whole = term_only s (factor_only s (core_factor s core));
}

from_primary : (s : Syntax) → IsExpression s → 3 ≤ strength s → IsOnlyPrimary s → Onlys s
from_primary s is strong only = from_core s (λ known. only)
    (record { count = 0; primary = s; is = is; strong = strong; same = refl }, only)

from_term : (s : Syntax) → (2 ≤ strength s → ⊥) → IsOnlyTerm s → Onlys s
from_term s no_factor only = record {
  primary = λ strong. absurd (no_factor (omega (arith, strong)));
  factor = λ strong. absurd (no_factor strong);
  term = λ strong. only;
  whole = term_only s only;
}

complemented_core : (s : Syntax) → IsOnlyCore s → IsOnlyCore (Complemented s)
complemented_core s core = (
  record {
    count = suc core.0.count;
    primary = core.0.primary;
    is = core.0.is;
    strong = core.0.strong;
    same = ap (λ (u : Syntax). Complemented u) core.0.same;
  },
  core.1,
)

onlys : (s : Syntax) → IsExpression s → Onlys s
onlys (Word bytes) is = from_primary (Word bytes) is (omega arith) (word_only bytes is)
onlys (InParens s) is = from_primary (InParens s) is (omega arith) (parens_only s (onlys s is).whole)
onlys (Primed s) is = from_primary (Primed s) is (omega arith) (primed_only s ((onlys s is.0).primary is.1))
onlys (Complemented s) is = from_core (Complemented s) (λ strong. absurd (omega (arith, strong)))
    (complemented_core s ((onlys s is.0).factor is.1))
onlys (Beside s t) is = from_term (Beside s t) (λ strong. omega (arith, strong))
    (beside_only s t is.0 ((onlys s is.0).term is.2) (core_factor t ((onlys t is.1).factor is.3)))
onlys (Times s t) is = from_term (Times s t) (λ strong. omega (arith, strong))
    (times_only s t is.0 ((onlys s is.0).term is.2) (core_factor t ((onlys t is.1).factor is.3)))
onlys (Plus s t) is = record {
  primary = λ strong. absurd (omega (arith, strong));
  factor = λ strong. absurd (omega (arith, strong));
  term = λ strong. absurd (omega (arith, strong));
  whole = plus_only s t (onlys s is.0).whole ((onlys t is.1).term is.2);
}

-- the same tokens are written by the same expression
pub one_way : (s t : Syntax) → IsExpression s → IsExpression t → written s ≡ written t → s ≡ t
one_way s t is known same = ((onlys s is).whole t known (omega arith) [] [] (omega arith) (omega arith)
    (sym (turned_written s []) ∙ ap (λ (tokens : List (List ℕ)). turned tokens []) same ∙ turned_written t [])).0
