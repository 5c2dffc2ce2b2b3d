-- Each step keeps what a state tells of the tokens that led to it.
use Rattle.std.proofs.Common.{◌≡◌, ℕ, suc, ◌<◌, ◌≤◌, ◌==◌, if◌then◌else◌, Bool, true, false, List, [], ◌∷◌, ◌++◌}
use Rattle.std.proofs.Common.{length, nat_le, codes, Option, Some, None, IsTrue, refl, sym, ap, ◌∙◌, arith, inl, inr}
use Rattle.std.proofs.Common.{subst, ◌⊎◌, append_assoc, append-nil, leb-false, eqb-true}
use Rattle.std.proofs.lemmas.Bool.{cases_Bool}
use Rattle.si_base.specs.declared.fault.TextKind.{TextKind}
use Rattle.si_base.specs.declared.fault.TextKind.TheVariants.{BadExpression, TooDeep}
use Rattle.si_genlib.specs.declared.symbol.Symbol.{Symbol}
use Rattle.si_genlib.specs.declared.symbol.Symbol.TheVariants as symbols
use Rattle.si_genlib.specs.declared.symbol.Operator.{Operator}
use Rattle.si_genlib.specs.declared.symbol.Operator.TheVariants as operators
use Rattle.si_genlib.specs.Expression.{Tree, Not, trees, State, Outcome, Goes, Ends, Stops, start, complemented, still}
use Rattle.si_genlib.specs.Expression.{term, all_terms, next_factor, opened, due, closed, ended, behind, step_at, step}
use Rattle.si_genlib.specs.Expression.{leaf, mark, symbol, is_name}
use Rattle.si_genlib.specs.Grammar.{Syntax, Word, InParens, Primed, written, IsBeginning, IsOpening}
use Rattle.si_genlib.proofs.GrammarLemmas.{steps, led_on}
use Rattle.si_genlib.proofs.GrammarConverse.{Reads, Stands, Before, Outside, parted, rejoined, EndsFactor, factor_ends}
use Rattle.si_genlib.proofs.GrammarConverse.{EndsTerm, term_ends, EndsTerms, terms_end, moved, in_parens}
use Rattle.si_genlib.proofs.GrammarConverse.{parens_read, weaker, completed, due_begins}

-- ---- what a state tells of the tokens that led to it

pub record IsDue (limit : ℕ) (ops : List (Operator Tree)) (terms factors : Option Tree)
    (tokens : List (List ℕ)) : Type 0 where
  pub before : Before limit ops terms factors tokens
  pub few : length ops ≤ 64

pub record IsBehind (limit : ℕ) (x : Tree) (ops : List (Operator Tree)) (terms factors : Option Tree)
    (tokens : List (List ℕ)) : Type 0 where
  pub s : Syntax
  pub reads : Reads limit 3 (length ops) x s
  pub few : length ops ≤ 64
  pub front : List (List ℕ)
  pub before : Before limit ops terms factors front
  pub same : tokens ≡ front ++ written s

abbrev pub HoldsAt : ℕ → Option Tree → List (Operator Tree) → Option Tree → Option Tree → List (List ℕ) → Type 0
HoldsAt limit None ops terms factors tokens = IsDue limit ops terms factors tokens
HoldsAt limit (Some x) ops terms factors tokens = IsBehind limit x ops terms factors tokens

abbrev pub Holds : ℕ → State Tree → List (List ℕ) → Type 0
Holds limit s tokens = HoldsAt limit s.operand s.unfinished s.terms s.factors tokens

-- ---- what tokens are

abbrev pub IsSymbol : List ℕ → Symbol Tree → Type 0
IsSymbol bytes (symbols.Leaf x) = IsTrue (is_name bytes) × (x ≡ leaf trees bytes)
IsSymbol bytes symbols.Complement = bytes ≡ codes "!"
IsSymbol bytes symbols.Prime = bytes ≡ codes "'"
IsSymbol bytes symbols.Times = bytes ≡ codes "*"
IsSymbol bytes symbols.Plus = bytes ≡ codes "+"
IsSymbol bytes symbols.Open = bytes ≡ codes "("
IsSymbol bytes symbols.Close = bytes ≡ codes ")"
IsSymbol bytes symbols.End = bytes ≡ codes ";"
IsSymbol bytes symbols.Other = Unit {0}

mark_of : (b : ℕ) (c1 c2 c3 c4 c5 c6 c7 : Bool) → (c1 ≡ true → b ≡ 33) → (c2 ≡ true → b ≡ 39) → (c3 ≡ true → b ≡ 42)
    → (c4 ≡ true → b ≡ 43) → (c5 ≡ true → b ≡ 40) → (c6 ≡ true → b ≡ 41) → (c7 ≡ true → b ≡ 59)
    → IsSymbol (b ∷ []) (if c1 then symbols.Complement else if c2 then symbols.Prime else if c3 then symbols.Times
    else if c4 then symbols.Plus else if c5 then symbols.Open else if c6 then symbols.Close
    else if c7 then symbols.End else symbols.Other)
mark_of b true c2 c3 c4 c5 c6 c7 is1 is2 is3 is4 is5 is6 is7 = rw (is1 refl) refl
mark_of b false true c3 c4 c5 c6 c7 is1 is2 is3 is4 is5 is6 is7 = rw (is2 refl) refl
mark_of b false false true c4 c5 c6 c7 is1 is2 is3 is4 is5 is6 is7 = rw (is3 refl) refl
mark_of b false false false true c5 c6 c7 is1 is2 is3 is4 is5 is6 is7 = rw (is4 refl) refl
mark_of b false false false false true c6 c7 is1 is2 is3 is4 is5 is6 is7 = rw (is5 refl) refl
mark_of b false false false false false true c7 is1 is2 is3 is4 is5 is6 is7 = rw (is6 refl) refl
mark_of b false false false false false false true is1 is2 is3 is4 is5 is6 is7 = rw (is7 refl) refl
mark_of b false false false false false false false is1 is2 is3 is4 is5 is6 is7 = tt

mark_is : (bytes : List ℕ) → IsSymbol bytes (mark bytes)
mark_is [] = tt
mark_is (b ∷ c ∷ bytes) = tt
mark_is (b ∷ []) = mark_of b (b == 33) (b == 39) (b == 42) (b == 43) (b == 40) (b == 41) (b == 59)
    (λ is. eqb-true b 33 is) (λ is. eqb-true b 39 is) (λ is. eqb-true b 42 is) (λ is. eqb-true b 43 is)
    (λ is. eqb-true b 40 is) (λ is. eqb-true b 41 is) (λ is. eqb-true b 59 is)

pub symbol_is : (bytes : List ℕ) → IsSymbol bytes (symbol trees bytes)
symbol_is bytes = elim (cases_Bool (is_name bytes)) [
  | inl is ↦ rw is (is, refl)
  | inr other ↦ rw other (mark_is bytes)
]

-- ---- a step

abbrev pub StopMeans : ℕ → List (List ℕ) → List ℕ → TextKind → Type 0
StopMeans limit tokens token TooDeep = IsOpening token × (64 < limit → IsBeginning limit (tokens ++ token ∷ []))
StopMeans limit tokens token BadExpression = Unit {0}
StopMeans limit tokens token _ = ⊥

pub record IsWhole (limit : ℕ) (x : Tree) (tokens : List (List ℕ)) (token : List ℕ) : Type 0 where
  pub s : Syntax
  pub reads : Reads limit 0 0 x s
  pub same : tokens ≡ written s
  pub ends : token ≡ codes ";"

-- a token behind these leads so
abbrev pub StepMeans : ℕ → List (List ℕ) → List ℕ → Outcome Tree → Type 0
StepMeans limit tokens token (Goes s) = Holds limit s (tokens ++ token ∷ [])
StepMeans limit tokens token (Ends x) = IsWhole limit x tokens token
StepMeans limit tokens token (Stops kind) = StopMeans limit tokens token kind

still_short : (ops : List (Operator Tree)) → length (still ops) ≤ length ops
still_short [] = omega arith
still_short (operators.Complement ∷ ops) = omega (arith, still_short ops)
still_short (operators.Paren terms factors ∷ ops) = omega arith

longer : (tokens front more last : List (List ℕ)) → tokens ≡ front ++ more → tokens ++ last ≡ front ++ (more ++ last)
longer tokens front more last same = rw same (append_assoc front more last)

longest : (tokens front first second last : List (List ℕ)) → tokens ≡ front ++ (first ++ second)
    → tokens ++ last ≡ front ++ (first ++ (second ++ last))
longest tokens front first second last same = longer tokens front (first ++ second) last same
    ∙ ap (λ (more : List (List ℕ)). front ++ more) (append_assoc first second last)

pub same_state : (s t : State Tree) → Goes s ≡ Goes t → s ≡ t
same_state s t same = cc

module _ (limit : ℕ) (enough : 64 ≤ limit) (tokens : List (List ℕ)) (token : List ℕ) where
  spelled : {bytes : List ℕ} → token ≡ bytes → tokens ++ token ∷ [] ≡ tokens ++ bytes ∷ []
  spelled same = ap (λ (last : List ℕ). tokens ++ last ∷ []) same

  opens : (old : State Tree) (ops : List (Operator Tree)) (terms factors : Option Tree)
      → Before limit ops terms factors (tokens ++ token ∷ []) → length ops ≡ suc (length old.unfinished)
      → length old.unfinished ≤ 64 → IsOpening token
      → StepMeans limit tokens token
      (opened old (record { operand = None; unfinished = ops; terms = terms; factors = factors }))
  opens old ops terms factors before one_more few opening = elim (cases_Bool (nat_le 64 (length old.unfinished))) [
    | inl full ↦ rw full (
      opening,
      λ deeper.
          due_begins limit ops terms factors (tokens ++ token ∷ []) (omega arith) before,
    )
    | inr room ↦ rw room (record { before = before; few = omega (arith, leb-false 64 (length old.unfinished) room) })
  ]

  due_step : (s : State Tree) → IsDue limit s.unfinished s.terms s.factors tokens
      → (sign : Symbol Tree) → IsSymbol token sign → StepMeans limit tokens token (due s sign)
  due_step s held (symbols.Leaf x) is = record {
    s = Word token;
    reads = record { is = is.0; strong = omega arith; room = omega (arith, held.few); tree = sym is.1 };
    few = held.few;
    front = tokens;
    before = held.before;
    same = refl;
  }
  due_step s held symbols.Complement is = opens s (operators.Complement ∷ s.unfinished) s.terms s.factors
      (record { front = tokens; before = held.before; same = spelled is }) refl held.few (inr is)
  due_step s held symbols.Open is = opens s (operators.Paren s.terms s.factors ∷ s.unfinished) None None (record {
    front = tokens ++ token ∷ [];
    outer = record { front = tokens; before = held.before; same = spelled is };
    first = [];
    second = [];
    terms_read = refl;
    factors_read = refl;
    same = sym (append-nil (tokens ++ token ∷ []));
  }) refl held.few (inl is)
  due_step s held symbols.Prime is = tt
  due_step s held symbols.Times is = tt
  due_step s held symbols.Plus is = tt
  due_step s held symbols.Close is = tt
  due_step s held symbols.End is = tt
  due_step s held symbols.Other is = tt

  closes : (ops : List (Operator Tree)) (x : Tree) → EndsTerms limit (Outside limit ops) (length ops) x tokens
      → length ops ≤ 64 → token ≡ codes ")" → StepMeans limit tokens token (closed x ops)
  closes [] x all few is = tt
  closes (operators.Complement ∷ ops) x all few is = tt
  closes (operators.Paren terms factors ∷ ops) x all few is = record {
    s = InParens all.s;
    reads = parens_read limit (length ops) x all.s all.reads;
    few = omega (arith, few);
    front = all.outer.front;
    before = all.outer.before;
    same = spelled is ∙ in_parens limit tokens all.front all.outer.front (written all.s) all.same all.outer.same;
  }

  ends : (ops : List (Operator Tree)) (x : Tree) → EndsTerms limit (Outside limit ops) (length ops) x tokens
      → token ≡ codes ";" → StepMeans limit tokens token (ended x ops)
  ends [] x all is = record {
    s = all.s;
    reads = all.reads;
    same = all.same ∙ ap (λ (front : List (List ℕ)). front ++ written all.s) all.outer;
    ends = is;
  }
  ends (operator ∷ ops) x all is = tt

  -- ---- behind an operand
  module _ (s : State Tree) (x : Tree) (held : IsBehind limit x s.unfinished s.terms s.factors tokens) where
    abbrev ops : List (Operator Tree)
    ops = still s.unfinished

    factor : EndsFactor limit s.unfinished s.terms s.factors x tokens
    factor =
        let f = factor_ends limit s.unfinished s.terms s.factors x held.front held.s
        (weaker limit (length s.unfinished) x held.s held.reads) held.before in
        record { s = f.s; reads = f.reads; front = f.front; before = f.before; same = held.same ∙ f.same }

    stands : Stands limit (Outside limit ops) (length ops) s.terms s.factors factor.front
    stands = parted limit s.unfinished s.terms s.factors factor.front factor.before

    term_read : EndsTerm limit (Outside limit ops) (length ops) s.terms (term trees s x) tokens
    term_read =
        let t = term_ends limit (Outside limit ops) (length ops) s.terms s.factors (complemented trees x s.unfinished)
        factor.front factor.s stands factor.reads in
        record {
          s = t.s;
          reads = t.reads;
          front = t.front;
          outer = t.outer;
          first = t.first;
          terms_read = t.terms_read;
          same = factor.same ∙ t.same;
        }

    all_read : EndsTerms limit (Outside limit ops) (length ops) (all_terms trees s x) tokens
    all_read = terms_end limit (Outside limit ops) (length ops) s.terms (term trees s x) tokens term_read

    few_left : length ops ≤ 64
    few_left = omega (arith, still_short s.unfinished, held.few)

    factor_due : (tail all : List (List ℕ))
        → (tail ≡ written term_read.s) ⊎ (tail ≡ written term_read.s ++ codes "*" ∷ [])
        → all ≡ term_read.front ++ (term_read.first ++ tail)
        → IsDue limit ops s.terms (Some (term trees s x)) all
    factor_due tail all joined same = record {
      before = rejoined limit s.unfinished s.terms (Some (term trees s x)) all (record {
        front = term_read.front;
        outer = term_read.outer;
        first = term_read.first;
        second = tail;
        terms_read = term_read.terms_read;
        factors_read = record { s = term_read.s; reads = term_read.reads; same = joined };
        same = same;
      });
      few = few_left;
    }

    next_to : (sign : Symbol Tree) → IsSymbol token sign
        → StepMeans limit tokens token (due (next_factor trees s x) sign)
    next_to sign is =
        due_step (next_factor trees s x) (factor_due (written term_read.s) tokens (inl refl) term_read.same) sign is

    term_due : token ≡ codes "+" → IsDue limit ops (Some (all_terms trees s x)) None (tokens ++ token ∷ [])
    term_due is = record {
      before = rejoined limit s.unfinished (Some (all_terms trees s x)) None (tokens ++ token ∷ []) (record {
        front = all_read.front;
        outer = all_read.outer;
        first = written all_read.s ++ codes "+" ∷ [];
        second = [];
        terms_read = record { s = all_read.s; reads = all_read.reads; same = refl };
        factors_read = refl;
        same = spelled is ∙ longer tokens all_read.front (written all_read.s) (codes "+" ∷ []) all_read.same
            ∙ ap (λ (more : List (List ℕ)). all_read.front ++ more)
            (sym (append-nil (written all_read.s ++ codes "+" ∷ [])));
      });
      few = few_left;
    }

    behind_step : (sign : Symbol Tree) → IsSymbol token sign → StepMeans limit tokens token (behind trees s x sign)
    behind_step symbols.Prime is = record {
      s = Primed held.s;
      reads = record {
        is = (held.reads.is, held.reads.strong);
        strong = omega arith;
        room = held.reads.room;
        tree = ap (λ (t : Tree). Not t) held.reads.tree;
      };
      few = held.few;
      front = held.front;
      before = held.before;
      same = spelled is ∙ longer tokens held.front (written held.s) (codes "'" ∷ []) held.same;
    }
    behind_step symbols.Times is = factor_due (written term_read.s ++ codes "*" ∷ []) (tokens ++ token ∷ []) (inr refl)
        (spelled is
        ∙ longest tokens term_read.front term_read.first (written term_read.s) (codes "*" ∷ []) term_read.same)
    behind_step symbols.Plus is = term_due is
    behind_step symbols.Close is = closes ops (all_terms trees s x) all_read few_left is
    behind_step symbols.End is = ends ops (all_terms trees s x) all_read is
    behind_step (symbols.Leaf y) is = next_to (symbols.Leaf y) is
    behind_step symbols.Complement is = next_to symbols.Complement is
    behind_step symbols.Open is = next_to symbols.Open is
    behind_step symbols.Other is = tt

  at_step : (s : State Tree) (m : Option Tree) → HoldsAt limit m s.unfinished s.terms s.factors tokens
      → (sign : Symbol Tree) → IsSymbol token sign → StepMeans limit tokens token (step_at trees s m sign)
  at_step s None holds sign is = due_step s holds sign is
  at_step s (Some x) holds sign is = behind_step s x holds sign is

  pub step_means : (s : State Tree) → Holds limit s tokens
      → StepMeans limit tokens token (step trees s (symbol trees token))
  unfolding step
  step_means s holds = at_step s s.operand holds (symbol trees token) (symbol_is token)

-- ---- from the start

pub start_holds : (limit : ℕ) → Holds limit start []
start_holds limit = record {
  before = record {
    front = [];
    outer = refl;
    first = [];
    second = [];
    terms_read = refl;
    factors_read = refl;
    same = refl;
  };
  few = omega arith;
}

module _ (limit : ℕ) (enough : 64 ≤ limit) where
  holds_on : (tokens done : List (List ℕ)) (s t : State Tree) → Holds limit s done → steps trees s tokens ≡ Goes t
      → Holds limit t (done ++ tokens)
  holds_on [] done s t holds leads =
      subst (λ (u : State Tree). Holds limit u (done ++ [])) (same_state s t leads)
      (subst (λ (all : List (List ℕ)). Holds limit s all) (sym (append-nil done)) holds)
  holds_on (token ∷ tokens) done s t holds leads =
      by_outcome (step trees s (symbol trees token)) (step_means limit enough done token s holds) leads
      (λ u. holds_on tokens (done ++ token ∷ []) u t)
    where
      by_outcome : (c : Outcome Tree) → StepMeans limit done token c → led_on (λ u. steps trees u tokens) c ≡ Goes t
          → ((u : State Tree) → Holds limit u (done ++ token ∷ []) → steps trees u tokens ≡ Goes t
          → Holds limit t ((done ++ token ∷ []) ++ tokens))
          → Holds limit t (done ++ token ∷ tokens)
      by_outcome (Goes u) holds leads later =
          subst (Holds limit t) (append_assoc done (token ∷ []) tokens) (later u holds leads)
      by_outcome (Ends x) whole leads later = absurd (cc leads)
      by_outcome (Stops kind) means leads later = absurd (cc leads)

  -- what reading comes to tells of the tokens
  pub reached : (tokens : List (List ℕ)) (s : State Tree) → steps trees start tokens ≡ Goes s → Holds limit s tokens
  reached tokens s leads = holds_on tokens [] start s (start_holds limit) leads

  pub begins : (m : Option Tree) (ops : List (Operator Tree)) (terms factors : Option Tree) (tokens : List (List ℕ))
      → HoldsAt limit m ops terms factors tokens → IsBeginning limit tokens
  begins None ops terms factors tokens held =
      due_begins limit ops terms factors tokens (omega (arith, held.few)) held.before
  begins (Some x) ops terms factors tokens held = moved limit tokens (held.front ++ written held.s) held.same
      (completed limit ops terms factors held.front x held.s (weaker limit (length ops) x held.s held.reads)
      held.before)

  pub reached_begins : (tokens : List (List ℕ)) (s : State Tree) → steps trees start tokens ≡ Goes s
      → IsBeginning limit tokens
  reached_begins tokens s leads = begins s.operand s.unfinished s.terms s.factors tokens (reached tokens s leads)
