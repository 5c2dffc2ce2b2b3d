-- The meaning of what is read, both ways.
use Rattle.std.proofs.Common.{◌≡◌, ℕ, ◌≤◌, ◌⊎◌, ◌↔◌, List, [], ◌∷◌, ◌++◌, codes, Ok, Err, refl, sym, ap, ◌∙◌, arith}
use Rattle.std.proofs.Common.{inl, inr, subst, append_assoc, append-nil}
use Rattle.si_base.specs.declared.fault.TextKind.{TextKind}
use Rattle.si_base.specs.declared.fault.TextKind.TheVariants.{BadExpression, TooDeep}
use Rattle.si_tokens.specs.declared.fault.Stop.TheVariants.{Cut, Fault}
use Rattle.si_genlib.specs.Limits.{max_unfinished}
use Rattle.si_tokens.specs.Unread.{Unread, Piece}
use Rattle.si_genlib.specs.Expression.{Tree, trees, State, Outcome, Goes, Ends, Stops, start, step, symbol, led, read}
use Rattle.si_genlib.specs.Grammar.{Syntax, IsExpression, written, tree_of, height, IsBeginning, BeginsWith, NoneBegins}
use Rattle.si_genlib.specs.Grammar.{OnlyDeeperBegin, sentence, Split, bytes_of, ahead, IsSentence, CannotGoOn}
use Rattle.si_genlib.specs.Grammar.{GoesTooDeep}
use Rattle.si_genlib.proofs.GrammarLemmas.{steps, led_on, steps-append, each_read, tree_read}
use Rattle.si_genlib.proofs.GrammarConverseSteps.{IsWhole, same_state, reached_begins}
use Rattle.si_genlib.proofs.GrammarViableReads.{StopVerdict, Verdict, verdict, one_more, Means, FaultMeans, read_means}

-- ---- reading comes to the end of each beginning

goes_before : (more : List (List ℕ)) (t : State Tree) (c : Outcome Tree) → led_on (λ u. steps trees u more) c ≡ Goes t
    → (s : State Tree) × (c ≡ Goes s)
goes_before more t (Goes s) leads = (s, refl)
goes_before more t (Ends x) leads = absurd (cc leads)
goes_before more t (Stops kind) leads = absurd (cc leads)

beginning_goes : (tokens : List (List ℕ)) → IsBeginning max_unfinished tokens
    → (s : State Tree) × (steps trees start tokens ≡ Goes s)
beginning_goes tokens b =
    let r = (each_read trees b.whole b.is).whole [] tt (omega (arith, b.within)) in
    goes_before b.begins.0 _ (steps trees start tokens)
    (sym (steps-append trees start tokens b.begins.0) ∙ ap (steps trees start) (sym b.begins.1) ∙ r.run)

read_past : (before more : List Piece) (s t : State Tree) → steps trees s (bytes_of before) ≡ Goes t
    → read trees s (before ++ more) ≡ read trees t more
read_past [] more s t leads = ap (λ (u : State Tree). read trees u more) (same_state s t leads)
read_past (token ∷ before) more s t leads =
    by_outcome (step trees s (symbol trees token.bytes)) leads (λ u. read_past before more u t)
  where
    by_outcome : (c : Outcome Tree) → led_on (λ u. steps trees u (bytes_of before)) c ≡ Goes t
        → ((u : State Tree) → steps trees u (bytes_of before) ≡ Goes t
        → read trees u (before ++ more) ≡ read trees t more)
        → led (λ u. read trees u (before ++ more)) token c ≡ read trees t more
    by_outcome (Goes u) leads later = later u leads
    by_outcome (Ends x) leads later = absurd (cc leads)
    by_outcome (Stops kind) leads later = absurd (cc leads)

-- ---- an expression is read

ends_with : (x : Tree) (c : Outcome Tree) → led_on (λ t. Goes t) c ≡ Ends x → c ≡ Ends x
ends_with x (Goes s) same = absurd (cc same)
ends_with x (Ends y) same = same
ends_with x (Stops kind) same = absurd (cc same)

end_step : (e : Syntax) (s : State Tree) → IsExpression e → height e ≤ max_unfinished
    → steps trees start (written e) ≡ Goes s → step trees s (symbol trees (codes ";")) ≡ Ends (tree_of e)
end_step e s is low leads = ends_with (tree_of e) (step trees s (symbol trees (codes ";")))
    (sym (one_more (written e) (codes ";") s leads) ∙ tree_read e is low)

sentence_read : (tokens : List Piece) (tree : Tree) (rest : Unread) → IsSentence tokens tree rest
    → read trees start tokens ≡ Ok (tree, rest)
sentence_read tokens tree rest found =
    let all = written found.expression in
    let begun : IsBeginning max_unfinished all = record {
      whole = found.expression;
      is = found.is;
      within = found.within;
      begins = ([], sym (append-nil all));
    } in
    let s = beginning_goes all begun in
    let ended : step trees s.0 (symbol trees found.end.token.bytes) ≡ Ends (tree_of found.expression) =
    ap (λ (bytes : List ℕ). step trees s.0 (symbol trees bytes)) found.ends
    ∙ end_step found.expression s.0 found.is found.within s.1 in
    ap (read trees start) found.end.parts
    ∙ read_past found.end.before (found.end.token ∷ found.end.behind) start s.0
    (ap (steps trees start) found.spelled ∙ s.1)
    ∙ ap (led (λ t. read trees t found.end.behind) found.end.token) ended
    ∙ ap (λ (u : Unread). Ok (tree_of found.expression, u)) found.left
    ∙ ap (λ (t : Tree). Ok (t, rest)) found.means

-- ---- faults

sentence_begins : (e : Syntax) (tokens : List (List ℕ)) → BeginsWith (written e) tokens → BeginsWith (sentence e) tokens
sentence_begins e tokens b = (
  b.0 ++ codes ";" ∷ [],
  ap (λ (all : List (List ℕ)). all ++ codes ";" ∷ []) b.1
      ∙ append_assoc tokens b.0 (codes ";" ∷ []),
)

whole_begins : (limit : ℕ) (x : Tree) (tokens : List (List ℕ)) (token : List ℕ) (w : IsWhole limit x tokens token)
    → BeginsWith (sentence w.s) (tokens ++ token ∷ [])
whole_begins limit x tokens token w = (
  [],
  sym (append-nil (tokens ++ token ∷ [])
      ∙ ap (λ (all : List (List ℕ)). all ++ token ∷ []) w.same
      ∙ ap (λ (last : List ℕ). written w.s ++ last ∷ []) w.ends),
)

-- a beginning isn't dead
live : (limit : ℕ) (tokens : List (List ℕ)) → IsBeginning limit tokens → NoneBegins tokens → ⊥
live limit tokens b dead = dead b.whole b.is (sentence_begins b.whole tokens b.begins)

-- nor deep, within the limit
shallow : (tokens : List (List ℕ)) → IsBeginning max_unfinished tokens → OnlyDeeperBegin tokens → ⊥
shallow tokens b deep = omega (arith, b.within, deep b.whole b.is (sentence_begins b.whole tokens b.begins))

module _ (tokens : List (List ℕ)) (token : List ℕ) where
  bad_stop : (kind : TextKind) → StopVerdict tokens token kind
      → NoneBegins (tokens ++ token ∷ []) → kind ≡ BadExpression
  bad_stop BadExpression stops dead = refl
  bad_stop TooDeep stops dead = absurd (live 65 (tokens ++ token ∷ []) stops.1 dead)
  bad_stop kind stops dead = absurd stops

  deep_stop : (kind : TextKind) → StopVerdict tokens token kind → IsBeginning 65 (tokens ++ token ∷ [])
      → kind ≡ TooDeep
  deep_stop BadExpression stops deeper = absurd (live 65 (tokens ++ token ∷ []) deeper stops)
  deep_stop TooDeep stops deeper = refl
  deep_stop kind stops deeper = absurd stops

  bad_outcome : (c : Outcome Tree) → Verdict tokens token c → NoneBegins (tokens ++ token ∷ [])
      → c ≡ Stops BadExpression
  bad_outcome (Goes s) leads dead = absurd (live 64 (tokens ++ token ∷ [])
      (reached_begins 64 (omega arith) (tokens ++ token ∷ []) s leads) dead)
  bad_outcome (Ends x) whole dead = absurd (dead whole.s whole.reads.is (whole_begins 64 x tokens token whole))
  bad_outcome (Stops kind) stops dead = ap (λ (k : TextKind). Stops k) (bad_stop kind stops dead)

  deep_outcome : (c : Outcome Tree) → Verdict tokens token c → IsBeginning 65 (tokens ++ token ∷ [])
      → OnlyDeeperBegin (tokens ++ token ∷ []) → c ≡ Stops TooDeep
  deep_outcome (Goes s) leads deeper deep = absurd (shallow (tokens ++ token ∷ [])
      (reached_begins 64 (omega arith) (tokens ++ token ∷ []) s leads) deep)
  deep_outcome (Ends x) whole deeper deep = absurd (omega (
    arith,
    whole.reads.room,
    deep whole.s whole.reads.is (whole_begins 64 x tokens token whole),
  ))
  deep_outcome (Stops kind) stops deeper deep = ap (λ (k : TextKind). Stops k) (deep_stop kind stops deeper)

module _ (tokens : List Piece) (split : Split tokens) (begun : IsBeginning max_unfinished (ahead split)) where
  fault_read : (kind : TextKind)
      → ((c : Outcome Tree) → Verdict (ahead split) split.token.bytes c → c ≡ Stops kind)
      → read trees start tokens ≡ Err (Fault split.token.line kind)
  fault_read kind stops =
      let s = beginning_goes (ahead split) begun in
      ap (read trees start) split.parts
      ∙ read_past split.before (split.token ∷ split.behind) start s.0 s.1
      ∙ ap (led (λ t. read trees t split.behind) split.token)
      (stops (step trees s.0 (symbol trees split.token.bytes)) (verdict (ahead split) split.token.bytes s.0 s.1))

bad_read : (tokens : List Piece) (line : ℕ) → CannotGoOn tokens line
    → read trees start tokens ≡ Err (Fault line BadExpression)
bad_read tokens line found = fault_read tokens found.split found.begun BadExpression
    (λ c means. bad_outcome (ahead found.split) found.split.token.bytes c means found.none)
    ∙ ap (λ (n : ℕ). Err (Fault n BadExpression)) found.here

deep_read : (tokens : List Piece) (line : ℕ) → GoesTooDeep tokens line
    → read trees start tokens ≡ Err (Fault line TooDeep)
deep_read tokens line found = fault_read tokens found.split found.begun TooDeep
    (λ c means. deep_outcome (ahead found.split) found.split.token.bytes c means found.deeper found.only)
    ∙ ap (λ (n : ℕ). Err (Fault n TooDeep)) found.here

cut_read : (tokens : List Piece) → IsBeginning max_unfinished (bytes_of tokens) → read trees start tokens ≡ Err Cut
cut_read tokens b = let s = beginning_goes (bytes_of tokens) b in
    ap (read trees start) (sym (append-nil tokens)) ∙ read_past tokens [] start s.0 s.1

-- ---- the laws

pub sentences : (tokens : List Piece) (tree : Tree) (rest : Unread)
    → (read trees start tokens ≡ Ok (tree, rest)) ↔ IsSentence tokens tree rest
sentences tokens tree rest =
    ((λ same. subst (Means tokens) same (read_means tokens)), sentence_read tokens tree rest)

pub cuts : (tokens : List Piece) → (read trees start tokens ≡ Err Cut) ↔ IsBeginning max_unfinished (bytes_of tokens)
cuts tokens = ((λ same. subst (Means tokens) same (read_means tokens)), cut_read tokens)

pub bad_expressions : (tokens : List Piece) (line : ℕ)
    → (read trees start tokens ≡ Err (Fault line BadExpression)) ↔ CannotGoOn tokens line
bad_expressions tokens line = ((λ same. subst (Means tokens) same (read_means tokens)), bad_read tokens line)

pub deep_expressions : (tokens : List Piece) (line : ℕ)
    → (read trees start tokens ≡ Err (Fault line TooDeep)) ↔ GoesTooDeep tokens line
deep_expressions tokens line = ((λ same. subst (Means tokens) same (read_means tokens)), deep_read tokens line)

kind_of : (tokens : List Piece) (line : ℕ) (kind : TextKind) → FaultMeans tokens line kind
    → (kind ≡ BadExpression) ⊎ (kind ≡ TooDeep)
kind_of tokens line BadExpression means = inl refl
kind_of tokens line TooDeep means = inr refl
kind_of tokens line kind means = absurd means

pub kinds : (tokens : List Piece) (line : ℕ) (kind : TextKind) → read trees start tokens ≡ Err (Fault line kind)
    → (kind ≡ BadExpression) ⊎ (kind ≡ TooDeep)
kinds tokens line kind same = kind_of tokens line kind (subst (Means tokens) same (read_means tokens))
