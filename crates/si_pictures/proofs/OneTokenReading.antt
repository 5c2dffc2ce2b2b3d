-- Tokens are those of one graph at most.
use Rattle.std.proofs.Common.{◌≡◌, ℕ, List, [], ◌∷◌, ◌++◌, flat_map, refl, sym, ap, ap₂, ◌∙◌, append_assoc}
use Rattle.std.proofs.Common.{◌⊎◌, arith, drop, get_or, inl, inr}
use Rattle.si_pictures.specs.Tokens.{Token, Id, Keyword, Quoted, Arrow, Mark, Unread}
use Rattle.si_pictures.specs.Grammar.{Attribute, Statement, Setting, Node, Link}
use Rattle.si_pictures.specs.Grammar.{attribute_tokens, later_tokens, list_tokens}
use Rattle.si_pictures.specs.Grammar.{statement_tokens, graph_tokens, IsReadAs}

-- ---- what a token is

abbrev bytes_of : Token → List ℕ
bytes_of (Id word) = word
bytes_of (Keyword word) = word
bytes_of (Quoted label) = label
bytes_of Arrow = []
bytes_of (Mark byte) = []
bytes_of Unread = []

-- a number for each token that may follow another: which mark it is, or what else
abbrev kind_of : Token → ℕ
kind_of (Id word) = 1
kind_of (Keyword word) = 2
kind_of (Quoted label) = 3
kind_of Arrow = 4
kind_of (Mark byte) = byte
kind_of Unread = 5

abbrev token_at : ℕ → List Token → Token
token_at n xs = get_or xs n Unread

same_bytes : (n : ℕ) (xs ys : List Token) → xs ≡ ys → bytes_of (token_at n xs) ≡ bytes_of (token_at n ys)
same_bytes n xs ys same = ap (λ (l : List Token). bytes_of (token_at n l)) same

same_kind : (n : ℕ) (xs ys : List Token) → xs ≡ ys → kind_of (token_at n xs) ≡ kind_of (token_at n ys)
same_kind n xs ys same = ap (λ (l : List Token). kind_of (token_at n l)) same

same_rest : (n : ℕ) (xs ys : List Token) → xs ≡ ys → drop n xs ≡ drop n ys
same_rest n xs ys same = ap (λ (l : List Token). drop n l) same

-- ---- attributes

-- what is read first is the same, and so is what is left
Same : {A : Type 0} → A → A → List Token → List Token → Type 0
Same x y r s = (x ≡ y) × (r ≡ s)

one_attribute : (a b : Attribute) (r s : List Token) → attribute_tokens a ++ r ≡ attribute_tokens b ++ s
    → Same a b r s
unfolding Same
one_attribute a b r s same =
    let name = same_bytes 0 (attribute_tokens a ++ r) (attribute_tokens b ++ s) same in
    let value = same_bytes 2 (attribute_tokens a ++ r) (attribute_tokens b ++ s) same in (
      ap₂ (λ (n v : List ℕ). record { name = n; value = v }) name value,
      same_rest 3 (attribute_tokens a ++ r) (attribute_tokens b ++ s) same,
    )

-- the attributes behind the first, and the bracket
abbrev others : List Attribute → List Token → List Token
others xs r = flat_map later_tokens xs ++ Mark 93 ∷ r

others_next : (x : Attribute) (xs : List Attribute) (r : List Token)
    → others (x ∷ xs) r ≡ Mark 44 ∷ attribute_tokens x ++ others xs r
others_next x xs r = append_assoc (Mark 44 ∷ attribute_tokens x) (flat_map later_tokens xs)
    (Mark 93 ∷ r)

one_row : (xs ys : List Attribute) (r s : List Token) → others xs r ≡ others ys s → Same xs ys r s
unfolding Same
one_row [] [] r s same = (refl, same_rest 1 (Mark 93 ∷ r) (Mark 93 ∷ s) same)
one_row [] (y ∷ ys) r s same =
    absurd (let kind = same_kind 0 (Mark 93 ∷ r) (others (y ∷ ys) s) same in omega (arith, kind))
one_row (x ∷ xs) [] r s same =
    absurd (let kind = same_kind 0 (others (x ∷ xs) r) (Mark 93 ∷ s) same in omega (arith, kind))
one_row (x ∷ xs) (y ∷ ys) r s same =
    let both = sym (others_next x xs r) ∙ same ∙ others_next y ys s in
    let first = one_attribute x y (others xs r) (others ys s)
    (same_rest 1 (Mark 44 ∷ attribute_tokens x ++ others xs r) (Mark 44 ∷ attribute_tokens y ++ others ys s) both) in
    let later = one_row xs ys r s first.1 in
    (ap₂ (λ (z : Attribute) (zs : List Attribute). z ∷ zs) first.0 later.0, later.1)

-- the list, and the semicolon
abbrev ended : List Attribute → List Token → List Token
ended xs r = (list_tokens xs ++ Mark 59 ∷ []) ++ r

ended_next : (x : Attribute) (xs : List Attribute) (r : List Token)
    → ended (x ∷ xs) r ≡ Mark 91 ∷ attribute_tokens x ++ others xs (Mark 59 ∷ r)
ended_next x xs r = regrouped (attribute_tokens x) (flat_map later_tokens xs)
  where
    regrouped : (a b : List Token) → ((Mark 91 ∷ a ++ (b ++ Mark 93 ∷ [])) ++ Mark 59 ∷ []) ++ r
        ≡ Mark 91 ∷ a ++ (b ++ Mark 93 ∷ Mark 59 ∷ r)
    regrouped a b = simp append_assoc

one_list : (xs ys : List Attribute) (r s : List Token) → ended xs r ≡ ended ys s → Same xs ys r s
unfolding Same
one_list [] [] r s same = (refl, same_rest 1 (Mark 59 ∷ r) (Mark 59 ∷ s) same)
one_list [] (y ∷ ys) r s same =
    absurd (let kind = same_kind 0 (Mark 59 ∷ r) (ended (y ∷ ys) s) same in omega (arith, kind))
one_list (x ∷ xs) [] r s same =
    absurd (let kind = same_kind 0 (ended (x ∷ xs) r) (Mark 59 ∷ s) same in omega (arith, kind))
one_list (x ∷ xs) (y ∷ ys) r s same =
    let both = sym (ended_next x xs r) ∙ same ∙ ended_next y ys s in
    let first = one_attribute x y (others xs (Mark 59 ∷ r)) (others ys (Mark 59 ∷ s))
    (same_rest 1 (Mark 91 ∷ attribute_tokens x ++ others xs (Mark 59 ∷ r))
    (Mark 91 ∷ attribute_tokens y ++ others ys (Mark 59 ∷ s)) both) in
    let later = one_row xs ys (Mark 59 ∷ r) (Mark 59 ∷ s) first.1 in (
      ap₂ (λ (z : Attribute) (zs : List Attribute). z ∷ zs) first.0 later.0,
      same_rest 1 (Mark 59 ∷ r) (Mark 59 ∷ s) later.1,
    )

-- ---- statements

-- a statement and what stands behind it
abbrev on : Statement → List Token → List Token
on x r = statement_tokens x ++ r

-- what stands behind the first token tells what a statement is
kind_of_node : (id : List ℕ) (xs : List Attribute) (r : List Token)
    → (kind_of (token_at 1 (on (Node id xs) r)) ≡ 91) ⊎ (kind_of (token_at 1 (on (Node id xs) r)) ≡ 59)
kind_of_node id [] r = inr refl
kind_of_node id (x ∷ xs) r = inl refl

neither : (k m : ℕ) → k ≡ m → (k ≡ 91) ⊎ (k ≡ 59) → (m ≡ 91 → ⊥) → (m ≡ 59 → ⊥) → ⊥
neither k m same (inl bracket) one other = one (sym same ∙ bracket)
neither k m same (inr end) one other = other (sym same ∙ end)

-- no node is a setting or an edge
node_apart : (id : List ℕ) (xs : List Attribute) (r tokens : List Token) (m : ℕ) → on (Node id xs) r ≡ tokens
    → kind_of (token_at 1 tokens) ≡ m → (m ≡ 91 → ⊥) → (m ≡ 59 → ⊥) → ⊥
node_apart id xs r tokens m same kind one other =
    neither (kind_of (token_at 1 (on (Node id xs) r))) m (same_kind 1 (on (Node id xs) r) tokens same ∙ kind)
    (kind_of_node id xs r) one other

one_statement : (x y : Statement) (r s : List Token) → on x r ≡ on y s → Same x y r s
unfolding Same
one_statement (Setting a) (Setting b) r s same =
    let first = one_attribute a b (Mark 59 ∷ r) (Mark 59 ∷ s) same in
    (ap Setting first.0, same_rest 1 (Mark 59 ∷ r) (Mark 59 ∷ s) first.1)
one_statement (Node id xs) (Node other ys) r s same =
    let name = same_bytes 0 (on (Node id xs) r) (on (Node other ys) s) same in
    let later = one_list xs ys r s (same_rest 1 (on (Node id xs) r) (on (Node other ys) s) same) in
    (ap₂ Node name later.0, later.1)
one_statement (Link from to xs) (Link source target ys) r s same =
    let first = same_bytes 0 (on (Link from to xs) r) (on (Link source target ys) s) same in
    let last = same_bytes 2 (on (Link from to xs) r) (on (Link source target ys) s) same in
    let later = one_list xs ys r s (same_rest 3 (on (Link from to xs) r) (on (Link source target ys) s) same) in (
      ap₂ (λ (p : List ℕ × List ℕ) (l : List Attribute). Link p.0 p.1 l)
          (ap₂ (λ (p q : List ℕ). (p, q)) first last) later.0,
      later.1,
    )
one_statement (Setting a) (Link from to xs) r s same =
    absurd (let kind = same_kind 1 (on (Setting a) r) (on (Link from to xs) s) same in omega (arith, kind))
one_statement (Link from to xs) (Setting a) r s same =
    absurd (let kind = same_kind 1 (on (Link from to xs) r) (on (Setting a) s) same in omega (arith, kind))
one_statement (Node id xs) (Setting a) r s same =
    absurd (node_apart id xs r (on (Setting a) s) 61 same refl (λ e. omega (arith, e)) (λ e. omega (arith, e)))
one_statement (Setting a) (Node id xs) r s same =
    absurd (node_apart id xs s (on (Setting a) r) 61 (sym same) refl (λ e. omega (arith, e)) (λ e. omega (arith, e)))
one_statement (Node id xs) (Link from to ys) r s same =
    absurd (node_apart id xs r (on (Link from to ys) s) 4 same refl (λ e. omega (arith, e)) (λ e. omega (arith, e)))
one_statement (Link from to ys) (Node id xs) r s same =
    absurd (node_apart id xs s (on (Link from to ys) r) 4 (sym same) refl (λ e. omega (arith, e))
    (λ e. omega (arith, e)))

-- ---- graphs

-- statements, and the brace behind them
abbrev closed : List Statement → List Token
closed xs = flat_map statement_tokens xs ++ Mark 125 ∷ []

closed_next : (x : Statement) (xs : List Statement) → closed (x ∷ xs) ≡ on x (closed xs)
closed_next x xs = append_assoc (statement_tokens x) (flat_map statement_tokens xs) (Mark 125 ∷ [])

-- a statement begins with a name
starts : (x : Statement) (xs : List Statement) → kind_of (token_at 0 (closed (x ∷ xs))) ≡ 1
starts (Setting a) xs = refl
starts (Node id attributes) xs = refl
starts (Link from to attributes) xs = refl

one_sequence : (xs ys : List Statement) → closed xs ≡ closed ys → xs ≡ ys
unfolding Same
one_sequence [] [] same = refl
one_sequence [] (y ∷ ys) same =
    absurd (let kind = same_kind 0 (closed []) (closed (y ∷ ys)) same ∙ starts y ys in omega (arith, kind))
one_sequence (x ∷ xs) [] same =
    absurd (let kind = same_kind 0 (closed []) (closed (x ∷ xs)) (sym same) ∙ starts x xs in omega (arith, kind))
one_sequence (x ∷ xs) (y ∷ ys) same =
    let first = one_statement x y (closed xs) (closed ys) (sym (closed_next x xs) ∙ same ∙ closed_next y ys) in
    ap₂ (λ (z : Statement) (zs : List Statement). z ∷ zs) first.0 (one_sequence xs ys first.1)

pub one_reading : (text : List ℕ) (xs ys : List Statement) → IsReadAs text xs → IsReadAs text ys → xs ≡ ys
one_reading text xs ys first other =
    one_sequence xs ys (same_rest 2 (graph_tokens xs) (graph_tokens ys) (sym first ∙ other))
