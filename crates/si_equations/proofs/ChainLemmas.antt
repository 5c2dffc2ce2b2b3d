-- What is read of a text, token by token, where its tokens are known.
use Rattle.std.proofs.Common.{◌≡◌, ℕ, ◌≤◌, ◌&&◌, Bool, true, false, List, [], ◌∷◌, ◌++◌, refl, sym, ap}
use Rattle.std.proofs.Common.{subst, ◌∙◌, append_assoc, if◌then◌else◌, inl, inr, codes, bytes_eq, Option, None, Result}
use Rattle.std.proofs.Common.{Ok}
use Rattle.std.proofs.lemmas.Bool.{cases_Bool}
use Rattle.std.proofs.lemmas.List.{append-nil}
use Rattle.si_base.specs.Lines.{Line, is_blank, begins}
use Rattle.si_base.specs.Words.{is_name_byte}
use Rattle.si_base.specs.declared.fault.TextKind.{TextKind}
use Rattle.si_base.specs.declared.fault.TextKind.TheVariants.{BadWord}
use Rattle.si_words.proofs.NameWords.{same_bytes}
use Rattle.si_tokens.specs.declared.fault.Stop.{Stop}
use Rattle.si_tokens.specs.Unread.{◌>>=◌, Unread, Piece, joined, tokens_in, tokens_of_lines, tokens, first_of, token_at}
use Rattle.si_genlib.specs.Expression.{trees, start, read}
use Rattle.si_genlib.specs.Gate.{ends_expression}
use Rattle.si_genlib.specs.Grammar.{Syntax, IsExpression, written, tree_of, height, bytes_of, Split, IsSentence}
use Rattle.si_genlib.specs.Limits.{max_unfinished}
use Rattle.si_genlib.specs.Statements.{if_passes}
use Rattle.si_genlib.proofs.GrammarViableLaws.{sentences}
use Rattle.si_equations.specs.Names.{bare}
use Rattle.si_equations.specs.Equations.{list_fault, if_good, mark_at, names_from}

-- ---- what is left behind a token has the tokens behind it

abbrev pub Follows : List Piece → Type 0
Follows [] = Unit {0}
Follows (p ∷ ps) = (tokens p.rest ≡ ps) × Follows ps

tokens_are : (n : ℕ) (lines : List Line) (bs : List ℕ)
    → tokens (record { number = n; here = bs; lines = lines }) ≡ tokens_in n lines bs ++ tokens_of_lines lines
unfolding tokens
tokens_are n lines bs = refl

follows_joined : (b : ℕ) (ps qs : List Piece) → Follows (ps ++ qs) → Follows (joined b ps ++ qs)
follows_joined b [] qs all = all
follows_joined b (p ∷ ps) qs all = all

follows_first : (c : Bool) (n : ℕ) (lines : List Line) (b : ℕ) (bs : List ℕ)
    → Follows (tokens_in n lines bs ++ tokens_of_lines lines)
    → Follows ((if c then joined b (tokens_in n lines bs) else
    record { line = n; bytes = b ∷ []; rest = record { number = n; here = bs; lines = lines } }
    ∷ tokens_in n lines bs) ++ tokens_of_lines lines)
follows_first true n lines b bs rest = follows_joined b (tokens_in n lines bs) (tokens_of_lines lines) rest
follows_first false n lines b bs rest = (tokens_are n lines bs, rest)

follows_in : (n : ℕ) (lines : List Line) → Follows (tokens_of_lines lines) → (bs : List ℕ)
    → Follows (tokens_in n lines bs ++ tokens_of_lines lines)
follows_in n lines later [] = later
follows_in n lines later (b ∷ bs) = elim (cases_Bool (is_blank b)) [
  | inl blank ↦ rw blank (follows_in n lines later bs)
  | inr dark ↦ rw dark (follows_first (is_name_byte b && begins is_name_byte bs) n lines b bs
      (follows_in n lines later bs))
]

follows_lines : (lines : List Line) → Follows (tokens_of_lines lines)
follows_lines [] = tt
follows_lines (line ∷ lines) = follows_in line.0 lines (follows_lines lines) line.1

pub follows : (u : Unread) → Follows (tokens u)
unfolding tokens
follows u = follows_in u.number u.lines (follows_lines u.lines) u.here

-- ---- the next token

-- the tokens that are left
abbrev pub IsAt : Unread → List (List ℕ) → Type 0
IsAt u ws = bytes_of (tokens u) ≡ ws

pub record Next (u : Unread) (w : List ℕ) (ws : List (List ℕ)) : Type 0 where
  pub token : Piece
  pub taken : tokens u ≡ token ∷ tokens token.rest
  pub bytes : token.bytes ≡ w
  pub rest : IsAt token.rest ws

head_same : {A : Type 0} (x y : A) (xs ys : List A) → x ∷ xs ≡ y ∷ ys → x ≡ y
head_same x y xs ys same = cc

tail_same : {A : Type 0} (x y : A) (xs ys : List A) → x ∷ xs ≡ y ∷ ys → xs ≡ ys
tail_same x y xs ys same = cc

next_of : (u : Unread) (w : List ℕ) (ws : List (List ℕ)) (ps : List Piece) → tokens u ≡ ps → bytes_of ps ≡ w ∷ ws
    → Next u w ws
next_of u w ws [] is at = absurd cc
next_of u w ws (p ∷ ps) is at =
    let chain : Follows (p ∷ ps) = subst Follows is (follows u) in record {
      token = p;
      taken = is ∙ ap (λ (t : List Piece). p ∷ t) (sym chain.0);
      bytes = head_same p.bytes w (bytes_of ps) ws at;
      rest = ap bytes_of chain.0 ∙ tail_same p.bytes w (bytes_of ps) ws at;
    }

pub next : (u : Unread) (w : List ℕ) (ws : List (List ℕ)) → IsAt u (w ∷ ws) → Next u w ws
next u w ws at = next_of u w ws (tokens u) refl at

pub token_is : (u : Unread) (p : Piece) (ps : List Piece) → tokens u ≡ p ∷ ps → token_at u ≡ Ok p
token_is u p ps is = ap first_of is

pub none_left : (ps : List Piece) → bytes_of ps ≡ [] → ps ≡ []
none_left [] none = refl
none_left (p ∷ ps) none = absurd cc

-- a mark that is due
pub mark_read : (w : List ℕ) (u : Unread) (ws : List (List ℕ)) → IsAt u (w ∷ ws)
    → (r : Unread) × (mark_at w u ≡ Ok r) × IsAt r ws
unfolding mark_at
mark_read w u ws at =
    let n = next u w ws at in
    let same : bytes_eq w n.token.bytes ≡ true = ap (bytes_eq w) n.bytes ∙ same_bytes w in (
      n.token.rest,
      ap (λ (r : Result Piece Stop). r >>= λ token. if_passes (bytes_eq w token.bytes) BadWord token)
          (token_is u n.token (tokens n.token.rest) n.taken)
          ∙ ap (λ (c : Bool). if_passes c BadWord n.token) same,
      n.rest,
    )

-- ---- a list of names

abbrev after_name : List (List ℕ) → List (List ℕ) → Piece → List Piece → Bool → List ℕ → Option TextKind
    → Result (List (List ℕ) × Unread) Stop
after_name others names p ps ends name fault =
    if ends then Ok (names, p.rest)
    else if_good fault p >>= λ rest. names_from others (names ++ name ∷ []) ps

-- names without fault behind these, which no brackets stand around
abbrev pub NewNames : List (List ℕ) → List (List ℕ) → List (List ℕ) → Type 0
NewNames others names [] = Unit {0}
NewNames others names (x ∷ xs) = (list_fault others names x ≡ None) × (bare x ≡ x) × (ends_expression x ≡ false)
    × NewNames others (names ++ x ∷ []) xs

one_name : (others names : List (List ℕ)) (p : Piece) (ps : List Piece) (x : List ℕ) → p.bytes ≡ x
    → ends_expression x ≡ false → bare x ≡ x → list_fault others names x ≡ None
    → names_from others names (p ∷ ps) ≡ names_from others (names ++ x ∷ []) ps
one_name others names p ps x is goes plain good =
    let e1 : ends_expression p.bytes ≡ false = ap ends_expression is ∙ goes in
    let e2 : bare p.bytes ≡ x = ap bare is ∙ plain in
    let e3 : list_fault others names (bare p.bytes) ≡ None = ap (list_fault others names) e2 ∙ good in
    λ i. after_name others names p ps (e1 i) (e2 i) (e3 i)

abbrev ReadNames : List (List ℕ) → List (List ℕ) → List (List ℕ) → List Piece → List (List ℕ) → Type 0
ReadNames others names more ps ws =
    (r : Unread) × (names_from others names ps ≡ Ok (names ++ more, r)) × IsAt r ws

list_end : (others names : List (List ℕ)) (p : Piece) (ps : List Piece) (ws : List (List ℕ)) → p.bytes ≡ codes ";"
    → bytes_of ps ≡ ws → tokens p.rest ≡ ps → ReadNames others names [] (p ∷ ps) ws
list_end others names p ps ws is at chain =
    let ends : ends_expression p.bytes ≡ true = ap ends_expression is in (
      p.rest,
      ap (λ (c : Bool). after_name others names p ps c (bare p.bytes) (list_fault others names (bare p.bytes))) ends
          ∙ ap (λ (ns : List (List ℕ)). Ok (ns, p.rest)) (sym (append-nil names)),
      ap bytes_of chain ∙ at,
    )

pub names_read : (others names more : List (List ℕ)) (ps : List Piece) (ws : List (List ℕ))
    → bytes_of ps ≡ more ++ codes ";" ∷ ws → Follows ps → NewNames others names more
    → ReadNames others names more ps ws
names_read others names [] [] ws at chain new = absurd cc
names_read others names [] (p ∷ ps) ws at chain new = list_end others names p ps ws
    (head_same p.bytes (codes ";") (bytes_of ps) ws at) (tail_same p.bytes (codes ";") (bytes_of ps) ws at) chain.0
names_read others names (x ∷ xs) [] ws at chain new = absurd cc
names_read others names (x ∷ xs) (p ∷ ps) ws at chain new =
    let rest = xs ++ codes ";" ∷ ws in
    let one = one_name others names p ps x (head_same p.bytes x (bytes_of ps) rest at) new.2 new.1 new.0 in
    let more = names_read others (names ++ x ∷ []) xs ps ws (tail_same p.bytes x (bytes_of ps) rest at) chain.1 new.3 in
    (more.0, one ∙ more.1 ∙ ap (λ (ns : List (List ℕ)). Ok (ns, more.0)) (append_assoc names (x ∷ []) xs), more.2)

-- ---- an expression

pub record SplitAt (ps : List Piece) (xs : List (List ℕ)) (y : List ℕ) (ys : List (List ℕ)) : Type 0 where
  pub before : List Piece
  pub token : Piece
  pub behind : List Piece
  pub parts : ps ≡ before ++ token ∷ behind
  pub front : bytes_of before ≡ xs
  pub here : token.bytes ≡ y
  pub rest : bytes_of behind ≡ ys

split_at : (ps : List Piece) (xs : List (List ℕ)) (y : List ℕ) (ys : List (List ℕ)) → bytes_of ps ≡ xs ++ y ∷ ys
    → SplitAt ps xs y ys
split_at [] [] y ys at = absurd cc
split_at [] (x ∷ xs) y ys at = absurd cc
split_at (p ∷ ps) [] y ys at = record {
  before = [];
  token = p;
  behind = ps;
  parts = refl;
  front = refl;
  here = head_same p.bytes y (bytes_of ps) ys at;
  rest = tail_same p.bytes y (bytes_of ps) ys at;
}
split_at (p ∷ ps) (x ∷ xs) y ys at =
    let later = split_at ps xs y ys (tail_same p.bytes x (bytes_of ps) (xs ++ y ∷ ys) at) in
    let first : p.bytes ≡ x = head_same p.bytes x (bytes_of ps) (xs ++ y ∷ ys) at in record {
      before = p ∷ later.before;
      token = later.token;
      behind = later.behind;
      parts = ap (λ (t : List Piece). p ∷ t) later.parts;
      front = λ i. first i ∷ later.front i;
      here = later.here;
      rest = later.rest;
    }

follows_at : (before : List Piece) (p : Piece) (behind : List Piece) → Follows (before ++ p ∷ behind)
    → tokens p.rest ≡ behind
follows_at [] p behind chain = chain.0
follows_at (q ∷ before) p behind chain = follows_at before p behind chain.1

pub expression_read : (s : Syntax) (u : Unread) (ws : List (List ℕ)) → IsExpression s → height s ≤ max_unfinished
    → IsAt u (written s ++ codes ";" ∷ ws)
    → (r : Unread) × (read trees start (tokens u) ≡ Ok (tree_of s, r)) × IsAt r ws
expression_read s u ws is low at =
    let cut = split_at (tokens u) (written s) (codes ";") ws at in
    let end : Split (tokens u) = record {
      before = cut.before;
      token = cut.token;
      behind = cut.behind;
      parts = cut.parts;
    } in
    let sentence : IsSentence (tokens u) (tree_of s) cut.token.rest = record {
      expression = s;
      is = is;
      within = low;
      means = refl;
      end = end;
      spelled = cut.front;
      ends = cut.here;
      left = refl;
    } in
    let chain : Follows (cut.before ++ cut.token ∷ cut.behind) = subst Follows cut.parts (follows u) in (
      cut.token.rest,
      (sentences (tokens u) (tree_of s) cut.token.rest).1 sentence,
      ap bytes_of (follows_at cut.before cut.token cut.behind chain) ∙ cut.rest,
    )
