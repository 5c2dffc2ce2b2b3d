-- What is read of the same tokens over other values.
use Rattle.std.proofs.Common.{◌≡◌, ℕ, ◌==◌, Bool, true, false, not, List, [], ◌∷◌, length, map, nat_le, if◌then◌else◌}
use Rattle.std.proofs.Common.{Option, Some, None, Result, Ok, Err, refl, sym, ap, ◌∙◌, inl, inr, option_map}
use Rattle.std.proofs.lemmas.Bool.{cases_Bool}
use Rattle.std.proofs.lemmas.List.{length-map}
use Rattle.si_base.specs.declared.fault.TextKind.TheVariants.{TooDeep}
use Rattle.si_tokens.specs.declared.fault.Stop.{Stop}
use Rattle.si_genlib.specs.declared.symbol.Symbol.{Symbol}
use Rattle.si_genlib.specs.declared.symbol.Symbol.TheVariants.{Leaf, Complement, Prime, Times, Plus, Open, Close, End}
use Rattle.si_genlib.specs.declared.symbol.Symbol.TheVariants.{Other}
use Rattle.si_genlib.specs.declared.symbol.Operator.{Operator}
use Rattle.si_genlib.specs.declared.symbol.Operator.TheVariants as operators
use Rattle.si_tokens.specs.Unread.{Unread, Piece}
use Rattle.si_genlib.specs.Expression.{Operations, Tree, trees, value_of, State, Outcome, Goes, Ends, Stops, start}
use Rattle.si_genlib.specs.Expression.{symbol, leaf, mark, is_name, is_constant, is_zero, after, opened, due}
use Rattle.si_genlib.specs.Expression.{complemented, still, term, all_terms, next_factor, next_term, closed, ended}
use Rattle.si_genlib.specs.Expression.{behind, step_at, step, led, read}

pub record Respects {X Y : Type 0} (o : Operations X) (p : Operations Y) (f : X → Y) : Type 0 where
  pub pin : (name : List ℕ) → f (o.pin name) ≡ p.pin name
  pub constant : (value : Bool) → f (o.constant value) ≡ p.constant value
  pub complement : (x : X) → f (o.complement x) ≡ p.complement (f x)
  pub both : (x y : X) → f (o.both x y) ≡ p.both (f x) (f y)
  pub either : (x y : X) → f (o.either x y) ≡ p.either (f x) (f y)

abbrev pub op_of : {X Y : Type 0} → (X → Y) → Operator X → Operator Y
op_of f operators.Complement = operators.Complement
op_of f (operators.Paren terms factors) = operators.Paren (option_map f terms) (option_map f factors)

abbrev pub state_of : {X Y : Type 0} → (X → Y) → State X → State Y
state_of f s = record {
  operand = option_map f s.operand;
  unfinished = map (op_of f) s.unfinished;
  terms = option_map f s.terms;
  factors = option_map f s.factors;
}

abbrev pub outcome_of : {X Y : Type 0} → (X → Y) → Outcome X → Outcome Y
outcome_of f (Goes s) = Goes (state_of f s)
outcome_of f (Ends x) = Ends (f x)
outcome_of f (Stops kind) = Stops kind

abbrev pub symbol_of : {X Y : Type 0} → (X → Y) → Symbol X → Symbol Y
symbol_of f (Leaf x) = Leaf (f x)
symbol_of f Complement = Complement
symbol_of f Prime = Prime
symbol_of f Times = Times
symbol_of f Plus = Plus
symbol_of f Open = Open
symbol_of f Close = Close
symbol_of f End = End
symbol_of f Other = Other

abbrev pub result_of : {X Y : Type 0} → (X → Y) → Result (X × Unread) Stop → Result (Y × Unread) Stop
result_of f (Ok x) = Ok (f x.0, x.1)
result_of f (Err stop) = Err stop

module _ (X Y : Type 0) (o : Operations X) (p : Operations Y) (f : X → Y) (r : Respects o p f) where
  mark_of : (c1 c2 c3 c4 c5 c6 c7 : Bool) → symbol_of f
      (if c1 then Complement else if c2 then Prime else if c3 then Times
      else if c4 then Plus else if c5 then Open else if c6 then Close else if c7 then End else Other)
      ≡ (if c1 then Complement else if c2 then Prime else if c3 then Times
      else if c4 then Plus else if c5 then Open else if c6 then Close else if c7 then End else Other)
  mark_of true c2 c3 c4 c5 c6 c7 = refl
  mark_of false true c3 c4 c5 c6 c7 = refl
  mark_of false false true c4 c5 c6 c7 = refl
  mark_of false false false true c5 c6 c7 = refl
  mark_of false false false false true c6 c7 = refl
  mark_of false false false false false true c7 = refl
  mark_of false false false false false false true = refl
  mark_of false false false false false false false = refl

  mark_same : (bytes : List ℕ) → symbol_of f (mark bytes) ≡ mark bytes
  mark_same [] = refl
  mark_same (b ∷ c ∷ bs) = refl
  mark_same (b ∷ []) = mark_of (b == 33) (b == 39) (b == 42) (b == 43) (b == 40) (b == 41) (b == 59)

  leaf_same : (name : List ℕ) → f (leaf o name) ≡ leaf p name
  leaf_same name = elim (cases_Bool (is_constant name)) [
    | inl is ↦ rw is (r.constant (not (is_zero name)))
    | inr other ↦ rw other (r.pin name)
  ]

  pub symbol_same : (bytes : List ℕ) → symbol_of f (symbol o bytes) ≡ symbol p bytes
  symbol_same bytes = elim (cases_Bool (is_name bytes)) [
    | inl is ↦ rw is (ap (λ (y : Y). Leaf y) (leaf_same bytes))
    | inr other ↦ rw other (mark_same bytes)
  ]

  complemented_same : (x : X) (ops : List (Operator X)) → f (complemented o x ops)
      ≡ complemented p (f x) (map (op_of f) ops)
  complemented_same x [] = refl
  complemented_same x (operators.Complement ∷ ops) =
      complemented_same (o.complement x) ops ∙ ap (λ (y : Y). complemented p y (map (op_of f) ops)) (r.complement x)
  complemented_same x (operators.Paren terms factors ∷ ops) = refl

  still_same : (ops : List (Operator X)) → map (op_of f) (still ops) ≡ still (map (op_of f) ops)
  still_same [] = refl
  still_same (operators.Complement ∷ ops) = still_same ops
  still_same (operators.Paren terms factors ∷ ops) = refl

  both_same : (m : Option X) (x : X) → f (after o.both m x) ≡ after p.both (option_map f m) (f x)
  both_same None x = refl
  both_same (Some y) x = r.both y x

  either_same : (m : Option X) (x : X) → f (after o.either m x) ≡ after p.either (option_map f m) (f x)
  either_same None x = refl
  either_same (Some y) x = r.either y x

  term_same : (s : State X) (x : X) → f (term o s x) ≡ term p (state_of f s) (f x)
  term_same s x = both_same s.factors (complemented o x s.unfinished)
      ∙ ap (after p.both (option_map f s.factors)) (complemented_same x s.unfinished)

  terms_same : (s : State X) (x : X) → f (all_terms o s x) ≡ all_terms p (state_of f s) (f x)
  terms_same s x = either_same s.terms (term o s x) ∙ ap (after p.either (option_map f s.terms)) (term_same s x)

  factor_same : (s : State X) (x : X) → state_of f (next_factor o s x) ≡ next_factor p (state_of f s) (f x)
  factor_same s x = let one = still_same s.unfinished in let two = term_same s x in cc

  next_term_same : (s : State X) (x : X) → state_of f (next_term o s x) ≡ next_term p (state_of f s) (f x)
  next_term_same s x = let one = still_same s.unfinished in let two = terms_same s x in cc

  opened_same : (s t : State X) → outcome_of f (opened s t) ≡ opened (state_of f s) (state_of f t)
  opened_same s t = rw (length-map s.unfinished (op_of f)) (by_room (nat_le 64 (length s.unfinished)))
    where
      by_room : (c : Bool) → outcome_of f (if c then Stops TooDeep else Goes t)
          ≡ (if c then Stops TooDeep else Goes (state_of f t))
      by_room true = refl
      by_room false = refl

  due_same : (s : State X) (sym : Symbol X) → outcome_of f (due s sym) ≡ due (state_of f s) (symbol_of f sym)
  due_same s (Leaf x) = refl
  due_same s Complement = opened_same s _
  due_same s Open = opened_same s _
  due_same s Prime = refl
  due_same s Times = refl
  due_same s Plus = refl
  due_same s Close = refl
  due_same s End = refl
  due_same s Other = refl

  closed_same : (x : X) (ops : List (Operator X)) → outcome_of f (closed x ops) ≡ closed (f x) (map (op_of f) ops)
  closed_same x [] = refl
  closed_same x (operators.Complement ∷ ops) = refl
  closed_same x (operators.Paren terms factors ∷ ops) = refl

  ended_same : (x : X) (ops : List (Operator X)) → outcome_of f (ended x ops) ≡ ended (f x) (map (op_of f) ops)
  ended_same x [] = refl
  ended_same x (op ∷ ops) = refl

  behind_due : (s : State X) (x : X) (sym : Symbol X) → outcome_of f (due (next_factor o s x) sym)
      ≡ due (next_factor p (state_of f s) (f x)) (symbol_of f sym)
  behind_due s x sym = due_same (next_factor o s x) sym
      ∙ ap (λ (t : State Y). due t (symbol_of f sym)) (factor_same s x)

  behind_same : (s : State X) (x : X) (sym : Symbol X) → outcome_of f (behind o s x sym)
      ≡ behind p (state_of f s) (f x) (symbol_of f sym)
  behind_same s x Prime = rw (r.complement x) refl
  behind_same s x Times = ap (λ (t : State Y). Goes t) (factor_same s x)
  behind_same s x Plus = ap (λ (t : State Y). Goes t) (next_term_same s x)
  behind_same s x Close = closed_same (all_terms o s x) (still s.unfinished)
      ∙ ap (λ (y : Y). closed y (map (op_of f) (still s.unfinished))) (terms_same s x)
      ∙ ap (closed (all_terms p (state_of f s) (f x))) (still_same s.unfinished)
  behind_same s x End = ended_same (all_terms o s x) (still s.unfinished)
      ∙ ap (λ (y : Y). ended y (map (op_of f) (still s.unfinished))) (terms_same s x)
      ∙ ap (ended (all_terms p (state_of f s) (f x))) (still_same s.unfinished)
  behind_same s x (Leaf y) = behind_due s x (Leaf y)
  behind_same s x Complement = behind_due s x Complement
  behind_same s x Open = behind_due s x Open
  behind_same s x Other = behind_due s x Other

  at_same : (s : State X) (m : Option X) (sym : Symbol X) → outcome_of f (step_at o s m sym)
      ≡ step_at p (state_of f s) (option_map f m) (symbol_of f sym)
  at_same s None sym = due_same s sym
  at_same s (Some x) sym = behind_same s x sym

  step_same : (s : State X) (bytes : List ℕ) → outcome_of f (step o s (symbol o bytes))
      ≡ step p (state_of f s) (symbol p bytes)
  unfolding step
  step_same s bytes = at_same s s.operand (symbol o bytes)
      ∙ ap (step_at p (state_of f s) (option_map f s.operand)) (symbol_same bytes)

  -- the values of what is read are read
  pub read_same : (s : State X) (tokens : List Piece) → read p (state_of f s) tokens ≡ result_of f (read o s tokens)
  read_same s [] = refl
  read_same s (t ∷ ts) = ap (led (λ u. read p u ts) t) (sym (step_same s t.bytes))
      ∙ by_outcome (λ u. read_same u ts) (step o s (symbol o t.bytes))
    where
      by_outcome : ((u : State X) → read p (state_of f u) ts ≡ result_of f (read o u ts)) → (c : Outcome X)
          → led (λ u. read p u ts) t (outcome_of f c) ≡ result_of f (led (λ u. read o u ts) t c)
      by_outcome later (Goes u) = later u
      by_outcome later (Ends x) = refl
      by_outcome later (Stops kind) = refl

pub tree_values : {X : Type 0} (o : Operations X) → Respects trees o (value_of o)
tree_values o = record {
  pin = λ name. refl;
  constant = λ value. refl;
  complement = λ t. refl;
  both = λ t u. refl;
  either = λ t u. refl;
}

-- what the tokens are read as is the value of their tree
pub value_read : {X : Type 0} (o : Operations X) (tokens : List Piece)
    → read o start tokens ≡ result_of (value_of o) (read trees start tokens)
value_read {X} o tokens = read_same Tree X trees o (value_of o) (tree_values o) start tokens
