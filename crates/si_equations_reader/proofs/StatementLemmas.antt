-- One equation after another.
use Rattle.std.proofs.Common.{◌≡◌, ℕ, zero, suc, ◌<◌, List, [], ◌∷◌, length, codes, bytes_eq, Bool, true, false}
use Rattle.std.proofs.Common.{Option, Some, None, Result, Ok, Err, refl, sym, ap, subst, ◌∙◌, arith, if◌then◌else◌}
use Rattle.si_base.specs.declared.fault.TextKind.{TextKind}
use Rattle.si_base.specs.declared.fault.TextKind.TheVariants.{BadWord}
use Rattle.si_words.specs.Sums.{is_empty}
use Rattle.si_tokens.specs.declared.fault.ReadFault.{ReadFault}
use Rattle.si_tokens.specs.declared.fault.ReadFault.TheVariants as faults
use Rattle.si_tokens.specs.declared.fault.Stop.{Stop}
use Rattle.si_tokens.specs.Loops.Parts.{Shows}
use Rattle.si_tokens.specs.Unread.{◌>>=◌, Unread, Piece, first_of, tokens, token_at}
use Rattle.si_genlib.specs.Expression.{Tree, trees, State, Outcome, Goes, Ends, Stops, start, symbol, step, led, read}
use Rattle.si_genlib.specs.Statements.{if_passes}
use Rattle.si_equations.specs.Names.{bare}
use Rattle.si_equations.specs.Equations.{Equations, driven, equation_fault, if_good, mark_at, with_equation}
use Rattle.si_equations.specs.Equations.{lists_at, equation_at, equations_from, statements_at}
use Rattle.si_equations.proofs.ChainLemmas.{Follows, follows}
use Rattle.si_equations_reader.specs.Loops.Statements.{equation_behind, all_equations}

-- both parts of a reading gave something
bind_ok : {A B : Type 0} (r : Result A Stop) (k : A → Result B Stop) (y : B) → (r >>= k) ≡ Ok y
    → (x : A) × (r ≡ Ok x) × (k x ≡ Ok y)
bind_ok (Ok x) k y is = (x, refl, is)
bind_ok (Err stop) k y is = absurd cc

-- ---- what is left has fewer tokens
abbrev count : Unread → ℕ
count u = length (tokens u)

fewer_first : (ps : List Piece) (p : Piece) → Follows ps → first_of ps ≡ Ok p → count p.rest < length ps
fewer_first [] p all is = absurd cc
fewer_first (q ∷ ps) p all is =
    let same : q ≡ p = cc in
    let rest : count p.rest ≡ length ps = ap (λ (x : Piece). count x.rest) (sym same) ∙ ap length all.0 in
    omega (arith, rest)

fewer_token : (u : Unread) (p : Piece) → token_at u ≡ Ok p → count p.rest < count u
fewer_token u p is = fewer_first (tokens u) p (follows u) is

good_rest : (fault : Option TextKind) (p : Piece) (v : Unread) → if_good fault p ≡ Ok v → v ≡ p.rest
good_rest None p v is = cc
good_rest (Some kind) p v is = absurd cc

passed_rest : (passes : Bool) (kind : TextKind) (p : Piece) (v : Unread) → if_passes passes kind p ≡ Ok v → v ≡ p.rest
passed_rest true kind p v is = cc
passed_rest false kind p v is = absurd cc

fewer_mark : (word : List ℕ) (u v : Unread) → mark_at word u ≡ Ok v → count v < count u
unfolding mark_at
fewer_mark word u v is =
    let token = bind_ok (token_at u) _ v is in
    let rest = passed_rest (bytes_eq word token.0.bytes) BadWord token.0 v token.2 in
    let less = fewer_token u token.0 token.1 in
    rw rest less

fewer_read : (s : State Tree) (ps : List Piece) (x : Tree × Unread) → Follows ps → read trees s ps ≡ Ok x
    → count x.1 < length ps
fewer_read s [] x all is = absurd cc
fewer_read s (p ∷ ps) x all is = by_outcome (λ t. fewer_read t ps x all.1) (step trees s (symbol trees p.bytes)) is
  where
    by_outcome : ((t : State Tree) → read trees t ps ≡ Ok x → count x.1 < length ps) → (c : Outcome Tree)
        → led (λ t. read trees t ps) p c ≡ Ok x → count x.1 < length (p ∷ ps)
    by_outcome later (Goes t) is = omega (arith, later t is)
    by_outcome later (Ends y) is =
        let same : (y, p.rest) ≡ x = cc in
        let rest : count x.1 ≡ length ps = ap (λ (z : Tree × Unread). count z.1) (sym same) ∙ ap length all.0 in
        omega (arith, rest)
    by_outcome later (Stops kind) is = absurd cc

fewer_behind : (old : Equations) (p : Piece) (x : Equations × Unread) → equation_behind old p ≡ Ok x
    → count x.1 < suc (count p.rest)
fewer_behind old p x is =
    let equals = bind_ok (if_good (equation_fault old.inputs old.outputs (driven old) (bare p.bytes)) p) _ x is in
    let body = bind_ok (mark_at (codes "=") equals.0) _ x equals.2 in
    let expression = bind_ok (read trees start (tokens body.0)) _ x body.2 in
    let one = ap count (good_rest _ p equals.0 equals.1) in
    let two = fewer_mark (codes "=") equals.0 body.0 body.1 in
    let three = fewer_read start (tokens body.0) expression.0 (follows body.0) expression.1 in
    let made : (with_equation old p.line (bare p.bytes) expression.0.0, expression.0.1) ≡ x = cc in
    let four : count expression.0.1 ≡ count x.1 = ap (λ (z : Equations × Unread). count z.1) made in
    omega (arith, one, two, three, four)

-- ---- one equation
equation_is : (old : Equations) (u : Unread) (p : Piece) (ps : List Piece) → tokens u ≡ p ∷ ps
    → equation_at old u ≡ equation_behind old p
unfolding equation_at
equation_is old u p ps first = ap (λ (qs : List Piece). first_of qs >>= equation_behind old) first

some_left : (n : ℕ) (old : Equations) (u : Unread) (p : Piece) (ps : List Piece) → tokens u ≡ p ∷ ps
    → equations_from (suc n) old u ≡ (equation_behind old p >>= λ new. equations_from n new.0 new.1)
some_left n old u p ps first =
    ap (λ (qs : List Piece). if is_empty qs then Ok old else equation_at old u >>= λ new. equations_from n new.0 new.1)
    first
    ∙ ap (λ (r : Result (Equations × Unread) Stop). r >>= λ new. equations_from n new.0 new.1)
    (equation_is old u p ps first)

fewer_rest : (u : Unread) (p : Piece) (ps : List Piece) → tokens u ≡ p ∷ ps → suc (count p.rest) ≡ count u
fewer_rest u p ps first =
    let chain : Follows (p ∷ ps) = subst Follows first (follows u) in
    ap (λ (qs : List Piece). suc (length qs)) chain.0 ∙ sym (ap length first)

-- the equations behind one
abbrev AreSame : ℕ → ℕ → Type 0
AreSame n m = (new : Equations) (rest : Unread) → count rest < n → count rest < m
    → equations_from n new rest ≡ equations_from m new rest

by_result : (n m : ℕ) (old : Equations) (u : Unread) (p : Piece) → count u < suc n → count u < suc m → AreSame n m
    → suc (count p.rest) ≡ count u → (r : Result (Equations × Unread) Stop) → equation_behind old p ≡ r
    → (r >>= λ new. equations_from n new.0 new.1) ≡ (r >>= λ new. equations_from m new.0 new.1)
by_result n m old u p one other later size (Ok x) is =
    let less = fewer_behind old p x is in
    later x.0 x.1 (omega (arith, less, size, one)) (omega (arith, less, size, other))
by_result n m old u p one other later size (Err stop) is = refl

by_tokens : (n m : ℕ) (old : Equations) (u : Unread) → count u < suc n → count u < suc m → AreSame n m
    → (ps : List Piece) → tokens u ≡ ps → equations_from (suc n) old u ≡ equations_from (suc m) old u
by_tokens n m old u one other later [] none = rw none refl
by_tokens n m old u one other later (p ∷ ps) first = some_left n old u p ps first
    ∙ by_result n m old u p one other later (fewer_rest u p ps first) (equation_behind old p) refl
    ∙ sym (some_left m old u p ps first)

-- more equations than there are tokens left change nothing
enough : (n m : ℕ) (old : Equations) (u : Unread) → count u < n → count u < m
    → equations_from n old u ≡ equations_from m old u
enough zero m old u one other = absurd (omega arith)
enough (suc n) zero old u one other = absurd (omega arith)
enough (suc n) (suc m) old u one other = by_tokens n m old u one other (λ new rest. enough n m new rest) (tokens u) refl

pub no_equation : (old : Equations) (u : Unread) → tokens u ≡ [] → all_equations old u ≡ Ok old
unfolding all_equations
no_equation old u none = rw none refl

pub next_equation : (old new : Equations) (u rest : Unread) (p : Piece) (ps : List Piece) → tokens u ≡ p ∷ ps
    → equation_behind old p ≡ Ok (new, rest)
    → (all_equations old u ≡ all_equations new rest) × (count rest < count u)
unfolding all_equations
next_equation old new u rest p ps first is =
    let less = fewer_behind old p (new, rest) is in
    let size = fewer_rest u p ps first in
    let fewer : count rest < count u = omega (arith, less, size) in (
      some_left (count u) old u p ps first
          ∙ ap (λ (r : Result (Equations × Unread) Stop). r >>= λ new. equations_from (count u) new.0 new.1) is
          ∙ enough (count u) (suc (count rest)) new rest fewer (omega arith),
      fewer,
    )

pub equation_fails : (old : Equations) (u : Unread) (p : Piece) (ps : List Piece) (f : ReadFault) → tokens u ≡ p ∷ ps
    → Shows f (equation_behind old p) → Shows f (all_equations old u)
unfolding all_equations
equation_fails old u p ps faults.NoMemory first shows = tt
equation_fails old u p ps (faults.Stop stop) first shows = some_left (count u) old u p ps first
    ∙ ap (λ (r : Result (Equations × Unread) Stop). r >>= λ new. equations_from (count u) new.0 new.1) shows

-- ---- all statements
pub statements_begin : (u rest : Unread) (lists : Equations) → lists_at u ≡ Ok (lists, rest)
    → all_equations lists rest ≡ statements_at u
unfolding all_equations statements_at
statements_begin u rest lists is = rw is refl

pub lists_fail : (u : Unread) (f : ReadFault) → Shows f (lists_at u) → Shows f (statements_at u)
unfolding statements_at
lists_fail u faults.NoMemory shows = tt
lists_fail u (faults.Stop stop) shows = rw shows refl
