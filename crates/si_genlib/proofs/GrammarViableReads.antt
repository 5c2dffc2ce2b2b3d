-- What is read of the tokens of a text, in the words of the grammar.
use Rattle.std.proofs.Common.{◌≡◌, ℕ, suc, List, [], ◌∷◌, ◌++◌, Result, Ok, Err, refl, sym, ap, ◌∙◌, arith, inl, inr}
use Rattle.std.proofs.Common.{subst, append_assoc, append-nil}
use Rattle.std.proofs.lemmas.Bool.{cases_lt}
use Rattle.std.proofs.lemmas.List.{map-append}
use Rattle.si_base.specs.declared.fault.TextKind.{TextKind}
use Rattle.si_base.specs.declared.fault.TextKind.TheVariants.{BadExpression, TooDeep}
use Rattle.si_tokens.specs.declared.fault.Stop.{Stop}
use Rattle.si_tokens.specs.declared.fault.Stop.TheVariants.{Cut, Fault}
use Rattle.si_genlib.specs.Limits.{max_unfinished}
use Rattle.si_tokens.specs.Unread.{Unread, Piece}
use Rattle.si_genlib.specs.Expression.{Tree, trees, State, Outcome, Goes, Ends, Stops, start, step, symbol, led, read}
use Rattle.si_genlib.specs.Grammar.{tree_of, height, IsBeginning, NoneBegins, OnlyDeeperBegin, IsOpening, Split}
use Rattle.si_genlib.specs.Grammar.{bytes_of, IsSentence, CannotGoOn, GoesTooDeep}
use Rattle.si_genlib.proofs.GrammarLemmas.{steps, led_on, steps-append, tree_read}
use Rattle.si_genlib.proofs.GrammarConverseSteps.{IsWhole, StepMeans, step_means, reached, reached_begins}
use Rattle.si_genlib.proofs.GrammarViable.{dead_behind}

-- ---- what a token does behind tokens that reading comes to

abbrev pub StopVerdict : List (List ℕ) → List ℕ → TextKind → Type 0
StopVerdict tokens token BadExpression = NoneBegins (tokens ++ token ∷ [])
StopVerdict tokens token TooDeep = IsOpening token × IsBeginning (suc max_unfinished) (tokens ++ token ∷ [])
    × OnlyDeeperBegin (tokens ++ token ∷ [])
StopVerdict tokens token _ = ⊥

abbrev pub Verdict : List (List ℕ) → List ℕ → Outcome Tree → Type 0
Verdict tokens token (Goes s) = steps trees start (tokens ++ token ∷ []) ≡ Goes s
Verdict tokens token (Ends x) = IsWhole max_unfinished x tokens token
Verdict tokens token (Stops kind) = StopVerdict tokens token kind

pub one_more : (tokens : List (List ℕ)) (token : List ℕ) (s : State Tree) → steps trees start tokens ≡ Goes s
    → steps trees start (tokens ++ token ∷ []) ≡ led_on (λ t. Goes t) (step trees s (symbol trees token))
one_more tokens token s leads = steps-append trees start tokens (token ∷ [])
    ∙ ap (led_on (λ t. steps trees t (token ∷ []))) leads

-- what is read to its end has no stop
deep_behind : (tokens : List (List ℕ)) → steps trees start tokens ≡ Stops TooDeep → OnlyDeeperBegin tokens
deep_behind tokens stops s is begins = elim (cases_lt 64 (height s)) [
  | inl high ↦ high
  | inr low ↦ absurd (apart (sym (tree_read s is low) ∙ ap (steps trees start) begins.1
      ∙ steps-append trees start tokens begins.0 ∙ ap (led_on (λ t. steps trees t begins.0)) stops))
]
  where
    apart : Ends (tree_of s) ≡ Stops TooDeep → ⊥
    apart same = cc

verdict_of : (tokens : List (List ℕ)) (token : List ℕ) (s : State Tree) → steps trees start tokens ≡ Goes s
    → (c : Outcome Tree) → step trees s (symbol trees token) ≡ c
    → StepMeans 64 tokens token c → StepMeans 65 tokens token c → Verdict tokens token c
verdict_of tokens token s leads (Goes t) same low high = one_more tokens token s leads ∙ ap (led_on (λ u. Goes u)) same
verdict_of tokens token s leads (Ends x) same low high = low
verdict_of tokens token s leads (Stops BadExpression) same low high = dead_behind tokens token s leads same
verdict_of tokens token s leads (Stops TooDeep) same low high = (
  high.0,
  high.1 (omega arith),
  deep_behind (tokens ++ token ∷ []) (one_more tokens token s leads ∙ ap (led_on (λ u. Goes u)) same),
)
verdict_of tokens token s leads (Stops kind) same low high = absurd low

pub verdict : (tokens : List (List ℕ)) (token : List ℕ) (s : State Tree) → steps trees start tokens ≡ Goes s
    → Verdict tokens token (step trees s (symbol trees token))
verdict tokens token s leads = verdict_of tokens token s leads (step trees s (symbol trees token)) refl
    (step_means 64 (omega arith) tokens token s (reached 64 (omega arith) tokens s leads))
    (step_means 65 (omega arith) tokens token s (reached 65 (omega arith) tokens s leads))

-- ---- what is read

abbrev pub FaultMeans : List Piece → ℕ → TextKind → Type 0
FaultMeans tokens line BadExpression = CannotGoOn tokens line
FaultMeans tokens line TooDeep = GoesTooDeep tokens line
FaultMeans tokens line _ = ⊥

abbrev pub Means : List Piece → Result (Tree × Unread) Stop → Type 0
Means tokens (Ok x) = IsSentence tokens x.0 x.1
Means tokens (Err Cut) = IsBeginning max_unfinished (bytes_of tokens)
Means tokens (Err (Fault line kind)) = FaultMeans tokens line kind

module _ (before : List Piece) (token : Piece) (behind : List Piece) (s : State Tree)
    (leads : steps trees start (bytes_of before) ≡ Goes s) where
  split : Split (before ++ token ∷ behind)
  split = record { before = before; token = token; behind = behind; parts = refl }

  abbrev last_of : Outcome Tree → Type 0
  last_of c = Means (before ++ token ∷ behind) (led (λ t. read trees t behind) token c)

  stop_means : (kind : TextKind) → StopVerdict (bytes_of before) token.bytes kind
      → FaultMeans (before ++ token ∷ behind) token.line kind
  unfolding split
  stop_means BadExpression dead = record {
    split = split;
    here = refl;
    begun = reached_begins 64 (omega arith) (bytes_of before) s leads;
    none = dead;
  }
  stop_means TooDeep deep = record {
    split = split;
    here = refl;
    begun = reached_begins 64 (omega arith) (bytes_of before) s leads;
    opens = deep.0;
    deeper = deep.1;
    only = deep.2;
  }
  stop_means kind none = absurd none

  token_means : (c : Outcome Tree) → Verdict (bytes_of before) token.bytes c
      → ((t : State Tree) → steps trees start (bytes_of before ++ token.bytes ∷ []) ≡ Goes t
      → Means (before ++ token ∷ behind) (read trees t behind))
      → last_of c
  unfolding split
  token_means (Goes t) leads_on later = later t leads_on
  token_means (Ends x) whole later = record {
    expression = whole.s;
    is = whole.reads.is;
    within = omega (arith, whole.reads.room);
    means = whole.reads.tree;
    end = split;
    spelled = whole.same;
    ends = whole.ends;
    left = refl;
  }
  token_means (Stops kind) stops later = stop_means kind stops

means_from : (before : List Piece) (s : State Tree) → steps trees start (bytes_of before) ≡ Goes s
    → (more : List Piece) → Means (before ++ more) (read trees s more)
means_from before s leads [] = subst (λ (tokens : List Piece). IsBeginning max_unfinished (bytes_of tokens))
    (sym (append-nil before)) (reached_begins 64 (omega arith) (bytes_of before) s leads)
means_from before s leads (token ∷ more) =
    token_means before token more s leads (step trees s (symbol trees token.bytes))
    (verdict (bytes_of before) token.bytes s leads)
    (λ t leads_on. subst (λ (tokens : List Piece). Means tokens (read trees t more))
    (append_assoc before (token ∷ []) more)
    (means_from (before ++ token ∷ []) t
    (ap (steps trees start) (map-append (λ p. p.bytes) before (token ∷ [])) ∙ leads_on) more))

-- whatever is read of tokens has a meaning in the grammar
pub read_means : (tokens : List Piece) → Means tokens (read trees start tokens)
read_means tokens = means_from [] start refl tokens
