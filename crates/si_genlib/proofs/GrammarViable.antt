-- Where no expression goes on, and where only expressions do that have too many unfinished operators.
use Rattle.std.proofs.Common.{◌≡◌, ℕ, suc, zero, Bool, true, false, List, [], ◌∷◌, ◌++◌, length, nat_le, codes, Option}
use Rattle.std.proofs.Common.{Some, None, refl, sym, ap, ◌∙◌, inl, inr, subst}
use Rattle.std.proofs.lemmas.Bool.{cases_Bool}
use Rattle.si_base.specs.declared.fault.TextKind.{TextKind}
use Rattle.si_base.specs.declared.fault.TextKind.TheVariants.{BadExpression}
use Rattle.si_genlib.specs.declared.symbol.Symbol.{Symbol}
use Rattle.si_genlib.specs.declared.symbol.Symbol.TheVariants as symbols
use Rattle.si_genlib.specs.declared.symbol.Operator.{Operator}
use Rattle.si_genlib.specs.declared.symbol.Operator.TheVariants as operators
use Rattle.si_genlib.specs.Expression.{Tree, trees, State, Outcome, Goes, Ends, Stops, start, still, next_factor}
use Rattle.si_genlib.specs.Expression.{opened, due, closed, ended, all_terms, behind, step_at, step, symbol}
use Rattle.si_genlib.specs.Grammar.{Syntax, Word, InParens, Primed, Complemented, Beside, Times, Plus, IsExpression}
use Rattle.si_genlib.specs.Grammar.{written, NoneBegins, sentence}
use Rattle.si_genlib.proofs.GrammarLemmas.{steps, led_on}

-- ---- the outline of a state: whether an operand is due, and how many parentheses are open

abbrev at_operand : ℕ → Symbol Tree → Option (Bool × ℕ)
at_operand n (symbols.Leaf x) = Some (false, n)
at_operand n symbols.Complement = Some (true, n)
at_operand n symbols.Open = Some (true, suc n)
at_operand n _ = None

abbrev at_close : ℕ → Option (Bool × ℕ)
at_close zero = None
at_close (suc n) = Some (false, n)

abbrev at_end : ℕ → Option (Bool × ℕ)
at_end zero = Some (true, 0)
at_end (suc n) = None

abbrev after_operand : ℕ → Symbol Tree → Option (Bool × ℕ)
after_operand n symbols.Prime = Some (false, n)
after_operand n symbols.Times = Some (true, n)
after_operand n symbols.Plus = Some (true, n)
after_operand n symbols.Close = at_close n
after_operand n symbols.End = at_end n
after_operand n sign = at_operand n sign

-- the next outline, where the symbol may stand
abbrev outline : Bool → ℕ → Symbol Tree → Option (Bool × ℕ)
outline true n sign = at_operand n sign
outline false n sign = after_operand n sign

abbrev onward : (Bool → ℕ → Option (Bool × ℕ)) → Option (Bool × ℕ) → Option (Bool × ℕ)
onward next None = None
onward next (Some p) = next p.0 p.1

abbrev run : List (List ℕ) → Bool → ℕ → Option (Bool × ℕ)
run [] is_due n = Some (is_due, n)
run (token ∷ tokens) is_due n = onward (run tokens) (outline is_due n (symbol trees token))

run-append : (xs ys : List (List ℕ)) (is_due : Bool) (n : ℕ)
    → run (xs ++ ys) is_due n ≡ onward (run ys) (run xs is_due n)
run-append [] ys is_due n = refl
run-append (x ∷ xs) ys is_due n = by_next (outline is_due n (symbol trees x)) (run-append xs ys)
  where
    by_next : (next : Option (Bool × ℕ))
        → ((is_due : Bool) (n : ℕ) → run (xs ++ ys) is_due n ≡ onward (run ys) (run xs is_due n))
        → onward (run (xs ++ ys)) next ≡ onward (run ys) (onward (run xs) next)
    by_next None later = refl
    by_next (Some p) later = later p.0 p.1

two_runs : (xs ys : List (List ℕ)) (is_due : Bool) (n : ℕ) (p : Bool × ℕ) → run xs is_due n ≡ Some p
    → run (xs ++ ys) is_due n ≡ run ys p.0 p.1
two_runs xs ys is_due n p first = run-append xs ys is_due n ∙ ap (onward (run ys)) first

joined_run : (xs ys : List (List ℕ)) (n : ℕ) → run xs false n ≡ run xs true n
    → run (xs ++ ys) false n ≡ run (xs ++ ys) true n
joined_run xs ys n same = run-append xs ys false n ∙ ap (onward (run ys)) same ∙ sym (run-append xs ys true n)

-- an operand may follow an operand: it begins the next factor
same_run : (t : Syntax) → IsExpression t → (n : ℕ) → run (written t) false n ≡ run (written t) true n
same_run (Word bytes) is n = rw is refl
same_run (InParens t) is n = refl
same_run (Complemented t) is n = refl
same_run (Primed t) is n = joined_run (written t) (codes "'" ∷ []) n (same_run t is.0 n)
same_run (Beside t u) is n = joined_run (written t) (written u) n (same_run t is.0 n)
same_run (Times t u) is n = joined_run (written t) (codes "*" ∷ written u) n (same_run t is.0 n)
same_run (Plus t u) is n = joined_run (written t) (codes "+" ∷ written u) n (same_run t is.0 n)

-- the outlines on the way of an expression
pub expression_run : (s : Syntax) → IsExpression s → (n : ℕ) → run (written s) true n ≡ Some (false, n)
expression_run (Word bytes) is n = rw is refl
expression_run (InParens s) is n =
    two_runs (written s) (codes ")" ∷ []) true (suc n) (false, suc n) (expression_run s is (suc n))
expression_run (Primed s) is n = two_runs (written s) (codes "'" ∷ []) true n (false, n) (expression_run s is.0 n)
expression_run (Complemented s) is n = expression_run s is.0 n
expression_run (Beside s t) is n = two_runs (written s) (written t) true n (false, n) (expression_run s is.0 n)
    ∙ same_run t is.1 n ∙ expression_run t is.1 n
expression_run (Times s t) is n =
    two_runs (written s) (codes "*" ∷ written t) true n (false, n) (expression_run s is.0 n)
    ∙ expression_run t is.1 n
expression_run (Plus s t) is n =
    two_runs (written s) (codes "+" ∷ written t) true n (false, n) (expression_run s is.0 n)
    ∙ expression_run t is.1 n

sentence_run : (s : Syntax) → IsExpression s → run (sentence s) true 0 ≡ Some (true, 0)
sentence_run s is = two_runs (written s) (codes ";" ∷ []) true 0 (false, 0) (expression_run s is 0)

-- ---- a step leads from outline to outline

abbrev is_due : Option Tree → Bool
is_due None = true
is_due (Some x) = false

abbrev parens : List (Operator Tree) → ℕ
parens [] = 0
parens (operators.Complement ∷ ops) = parens ops
parens (operators.Paren terms factors ∷ ops) = suc (parens ops)

still_parens : (ops : List (Operator Tree)) → parens (still ops) ≡ parens ops
still_parens [] = refl
still_parens (operators.Complement ∷ ops) = still_parens ops
still_parens (operators.Paren terms factors ∷ ops) = refl

abbrev StopFits : Option (Bool × ℕ) → TextKind → Type 0
StopFits next BadExpression = next ≡ None
StopFits next _ = Unit {0}

-- this is the next outline, if any
abbrev OutlineFits : Option (Bool × ℕ) → Outcome Tree → Type 0
OutlineFits next (Goes t) = next ≡ Some (is_due t.operand, parens t.unfinished)
OutlineFits next (Ends x) = Unit {0}
OutlineFits next (Stops kind) = StopFits next kind

opened_fits : (n : ℕ) (s t : State Tree) → is_due t.operand ≡ true → parens t.unfinished ≡ n
    → OutlineFits (Some (true, n)) (opened s t)
opened_fits n s t operand count = elim (cases_Bool (nat_le 64 (length s.unfinished))) [
  | inl full ↦ rw full tt
  | inr room ↦ rw (room, operand, count) refl
]

due_fits : (n : ℕ) (s : State Tree) → parens s.unfinished ≡ n → (sign : Symbol Tree)
    → OutlineFits (at_operand n sign) (due s sign)
due_fits n s count (symbols.Leaf x) = rw count refl
due_fits n s count symbols.Complement = opened_fits n s _ refl count
due_fits n s count symbols.Open = opened_fits (suc n) s _ refl (ap suc count)
due_fits n s count symbols.Prime = refl
due_fits n s count symbols.Times = refl
due_fits n s count symbols.Plus = refl
due_fits n s count symbols.Close = refl
due_fits n s count symbols.End = refl
due_fits n s count symbols.Other = refl

closed_fits : (n : ℕ) (x : Tree) (ops : List (Operator Tree)) → parens (still ops) ≡ n
    → OutlineFits (at_close n) (closed x (still ops))
closed_fits n x [] count = subst (λ (k : ℕ). at_close k ≡ None) count refl
closed_fits n x (operators.Complement ∷ ops) count = closed_fits n x ops count
closed_fits n x (operators.Paren terms factors ∷ ops) count =
    subst (λ (k : ℕ). at_close k ≡ Some (false, parens ops)) count refl

ended_fits : (n : ℕ) (x : Tree) (ops : List (Operator Tree)) → parens (still ops) ≡ n
    → OutlineFits (at_end n) (ended x (still ops))
ended_fits n x [] count = tt
ended_fits n x (operators.Complement ∷ ops) count = ended_fits n x ops count
ended_fits n x (operators.Paren terms factors ∷ ops) count = subst (λ (k : ℕ). at_end k ≡ None) count refl

module _ (s : State Tree) where
  all_parens : parens (still s.unfinished) ≡ parens s.unfinished
  all_parens = still_parens s.unfinished

  next_fits : (x : Tree) (sign : Symbol Tree)
      → OutlineFits (at_operand (parens s.unfinished) sign) (due (next_factor trees s x) sign)
  next_fits x sign = due_fits (parens s.unfinished) (next_factor trees s x) all_parens sign

  behind_fits : (x : Tree) (sign : Symbol Tree)
      → OutlineFits (after_operand (parens s.unfinished) sign) (behind trees s x sign)
  behind_fits x symbols.Prime = refl
  behind_fits x symbols.Times = rw all_parens refl
  behind_fits x symbols.Plus = rw all_parens refl
  behind_fits x symbols.Close = closed_fits (parens s.unfinished) (all_terms trees s x) s.unfinished all_parens
  behind_fits x symbols.End = ended_fits (parens s.unfinished) (all_terms trees s x) s.unfinished all_parens
  behind_fits x (symbols.Leaf y) = next_fits x (symbols.Leaf y)
  behind_fits x symbols.Complement = next_fits x symbols.Complement
  behind_fits x symbols.Open = next_fits x symbols.Open
  behind_fits x symbols.Other = next_fits x symbols.Other

  at_fits : (m : Option Tree) (sign : Symbol Tree)
      → OutlineFits (outline (is_due m) (parens s.unfinished) sign) (step_at trees s m sign)
  at_fits None sign = due_fits (parens s.unfinished) s refl sign
  at_fits (Some x) sign = behind_fits x sign

  step_fits : (token : List ℕ) → OutlineFits (outline (is_due s.operand) (parens s.unfinished) (symbol trees token))
      (step trees s (symbol trees token))
  unfolding step
  step_fits token = at_fits s.operand (symbol trees token)

steps_run : (tokens : List (List ℕ)) (s t : State Tree) → steps trees s tokens ≡ Goes t
    → run tokens (is_due s.operand) (parens s.unfinished) ≡ Some (is_due t.operand, parens t.unfinished)
steps_run [] s t leads = subst (OutlineFits (Some (is_due s.operand, parens s.unfinished))) leads refl
steps_run (token ∷ tokens) s t leads = by_outcome (step trees s (symbol trees token)) leads (step_fits s token)
    (λ u. steps_run tokens u t)
  where
    by_outcome : (c : Outcome Tree) → led_on (λ u. steps trees u tokens) c ≡ Goes t
        → OutlineFits (outline (is_due s.operand) (parens s.unfinished) (symbol trees token)) c
        → ((u : State Tree) → steps trees u tokens ≡ Goes t
        → run tokens (is_due u.operand) (parens u.unfinished) ≡ Some (is_due t.operand, parens t.unfinished))
        → onward (run tokens) (outline (is_due s.operand) (parens s.unfinished) (symbol trees token))
        ≡ Some (is_due t.operand, parens t.unfinished)
    by_outcome (Goes u) leads fits later = ap (onward (run tokens)) fits ∙ later u leads
    by_outcome (Ends x) leads fits later = absurd (cc leads)
    by_outcome (Stops kind) leads fits later = absurd (cc leads)

-- ---- no expression goes on with a token that is bad

next_none : (tokens more : List (List ℕ)) (token : List ℕ) (p : Bool × ℕ) → run tokens true 0 ≡ Some p
    → outline p.0 p.1 (symbol trees token) ≡ None → run ((tokens ++ token ∷ []) ++ more) true 0 ≡ None
next_none tokens more token p leads stops = run-append (tokens ++ token ∷ []) more true 0
    ∙ ap (onward (run more)) (two_runs tokens (token ∷ []) true 0 p leads ∙ ap (onward (run [])) stops)

pub dead_behind : (tokens : List (List ℕ)) (token : List ℕ) (s : State Tree) → steps trees start tokens ≡ Goes s
    → step trees s (symbol trees token) ≡ Stops BadExpression → NoneBegins (tokens ++ token ∷ [])
dead_behind tokens token s leads stops e is begins =
    apart (sym (sentence_run e is) ∙ ap (λ (all : List (List ℕ)). run all true 0) begins.1
    ∙ next_none tokens begins.0 token (is_due s.operand, parens s.unfinished) (steps_run tokens start s leads)
    (subst (OutlineFits (outline (is_due s.operand) (parens s.unfinished) (symbol trees token))) stops
    (step_fits s token)))
  where
    apart : ◌≡◌ {A = Option (Bool × ℕ)} (Some (true, 0)) None → ⊥
    apart same = cc
