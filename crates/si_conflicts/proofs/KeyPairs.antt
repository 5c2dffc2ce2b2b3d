-- As many pairs of keys clash as states are a conflict.
use Rattle.std.proofs.Common.{◌≡◌, ℕ, zero, suc, ◌+◌, ◌<◌, ◌≤◌, ◌⊎◌, Bool, true, false, cond, List, [], ◌∷◌, ◌++◌}
use Rattle.std.proofs.Common.{length, get_or, refl, sym, ap₂, subst, ◌∙◌, arith, inl, inr, count_by}
use Rattle.std.proofs.lemmas.Bool.{cases_eq}
use Rattle.std.proofs.lemmas.List.{length-append}
use Rattle.std.proofs.lemmas.List.Elements.{Contains-get_or}
use Rattle.std.proofs.lemmas.List.Sums.{sum_by-cons}
use Rattle.si_base.specs.Order.{Before}
use Rattle.si_base.specs.Codes.{CodedGraph}
use Rattle.si_base.specs.Proper.{IsConflict, pair_place}
use Rattle.si_base.proofs.OrderAscending.{In}
use Rattle.si_base.proofs.GivenGraphUnique.{contains_from_in}
use Rattle.si_base.proofs.OrderLemmas.{InOrder, in_contains}
use Rattle.si_conflicts.specs.declared.keys.Key.{Key}
use Rattle.si_conflicts.specs.Conflicts.{HasConflicts}
use Rattle.si_conflicts.specs.Loops.Keys.{IsKey, AreKeys, clashes, clash_count, no_key}
use Rattle.si_conflicts.proofs.KeyLemmas.{HaveValues, clash_conflict, conflict_clash}

-- ---- pairs in order, one by one
abbrev Ordered : List (ℕ × ℕ) → Type 0
Ordered [] = Unit {0}
Ordered (x ∷ xs) = ((y : ℕ × ℕ) → In y xs → Before (pair_place x) (pair_place y)) × Ordered xs

ordered_pairs : (xs : List (ℕ × ℕ)) → Ordered xs → InOrder pair_place xs
ordered_pairs [] order i j d less within = absurd (omega arith)
ordered_pairs (x ∷ xs) order zero zero d less within = absurd (omega arith)
ordered_pairs (x ∷ xs) order zero (suc j) d less within =
    order.0 (get_or xs j d) (in_contains xs (get_or xs j d) (Contains-get_or xs j d (omega arith)))
ordered_pairs (x ∷ xs) order (suc i) zero d less within = absurd (omega arith)
ordered_pairs (x ∷ xs) order (suc i) (suc j) d less within =
    ordered_pairs xs order.1 i j d (omega arith) (omega arith)

in_append : (xs ys : List (ℕ × ℕ)) (a : ℕ × ℕ) → In a (xs ++ ys) → In a xs ⊎ In a ys
in_append [] ys a there = inr there
in_append (x ∷ xs) ys a (inl same) = inl (inl same)
in_append (x ∷ xs) ys a (inr later) = elim (in_append xs ys a later) [
  | inl left ↦ inl (inr left)
  | inr right ↦ inr right
]

pub in_left : (xs ys : List (ℕ × ℕ)) (a : ℕ × ℕ) → In a xs → In a (xs ++ ys)
in_left [] ys a there = absurd there
in_left (x ∷ xs) ys a (inl same) = inl same
in_left (x ∷ xs) ys a (inr later) = inr (in_left xs ys a later)

pub in_right : (xs ys : List (ℕ × ℕ)) (a : ℕ × ℕ) → In a ys → In a (xs ++ ys)
in_right [] ys a there = there
in_right (x ∷ xs) ys a there = inr (in_right xs ys a there)

ordered_append : (xs ys : List (ℕ × ℕ)) → Ordered xs → Ordered ys
    → ((a b : ℕ × ℕ) → In a xs → In b ys → Before (pair_place a) (pair_place b)) → Ordered (xs ++ ys)
ordered_append [] ys one two before = two
ordered_append (x ∷ xs) ys one two before = (
  λ y there. elim (in_append xs ys y there) [
    | inl left ↦ one.0 y left
    | inr right ↦ before x y (inl refl) right
  ],
  ordered_append xs ys one.1 two (λ a b left right. before a b (inr left) right),
)

-- ---- the pairs of one state with those from n on, and of all states from p on
abbrev pub with_last : Bool → ℕ × ℕ → List (ℕ × ℕ) → List (ℕ × ℕ)
with_last true pair pairs = pair ∷ pairs
with_last false pair pairs = pairs

abbrev row : Key → ℕ → ℕ → List Key → List (ℕ × ℕ)
row k p n [] = []
row k p n (x ∷ xs) = with_last (clashes k x) (p, n) (row k p (n + 1) xs)

abbrev rows : ℕ → List Key → List (ℕ × ℕ)
rows p [] = []
rows p (k ∷ ks) = row k p (p + 1) ks ++ rows (p + 1) ks

with_length : (b : Bool) (pair : ℕ × ℕ) (pairs : List (ℕ × ℕ))
    → length (with_last b pair pairs) ≡ cond b 1 0 + length pairs
with_length true pair pairs = omega arith
with_length false pair pairs = omega arith

row_length : (k : Key) (p n : ℕ) (xs : List Key) → length (row k p n xs) ≡ count_by (clashes k) xs
row_length k p n [] = refl
row_length k p n (x ∷ xs) =
    let here = with_length (clashes k x) (p, n) (row k p (n + 1) xs) in
    let rest = row_length k p (n + 1) xs in
    let first = sum_by-cons (λ y. cond (clashes k y) 1 0) x xs in
    omega (arith, here, rest, first)

rows_length : (p : ℕ) (ks : List Key) → length (rows p ks) ≡ clash_count ks
rows_length p [] = refl
rows_length p (k ∷ ks) =
    length-append (row k p (p + 1) ks) (rows (p + 1) ks)
    ∙ ap₂ (λ a b. a + b) (row_length k p (p + 1) ks) (rows_length (p + 1) ks)

-- ---- which pairs they are
-- the keys of the states from n on
record KeysFrom (c : CodedGraph) (n : ℕ) (keys : List Key) : Type 0 where
  count : n + length keys ≡ c.graph.states
  each : (j : ℕ) → j < length keys → IsKey c (n + j) (get_or keys j no_key)

keys_head : (c : CodedGraph) (n : ℕ) (x : Key) (xs : List Key) → KeysFrom c n (x ∷ xs) → IsKey c n x
keys_head c n x xs from =
    let same : n + 0 ≡ n = omega arith in
    subst (λ s. IsKey c s x) same (from.each 0 (omega arith))

keys_tail : (c : CodedGraph) (n : ℕ) (x : Key) (xs : List Key) → KeysFrom c n (x ∷ xs) → KeysFrom c (n + 1) xs
keys_tail c n x xs from = record {
  count = (let k = from.count in omega arith);
  each = λ j inside. (
      let same : n + suc j ≡ n + 1 + j = omega arith in
      subst (λ s. IsKey c s (get_or xs j no_key)) same (from.each (suc j) (omega arith)));
}

same_pair : (a : ℕ × ℕ) (p q : ℕ) → a.0 ≡ p → a.1 ≡ q → a ≡ (p, q)
same_pair a p q one two = λ i. (one i, two i)

module _ (c : CodedGraph) (values : HaveValues c) (p : ℕ) (k : Key) (is_k : IsKey c p k) where
  -- what a pair of the row is
  abbrev IsOfRow : ℕ → ℕ × ℕ → Type 0
  IsOfRow n pair = (pair.0 ≡ p) × (n ≤ pair.1) × IsConflict c pair

  further : (n : ℕ) (pair : ℕ × ℕ) → IsOfRow (n + 1) pair → IsOfRow n pair
  further n pair is = (is.0, (let l = is.1 in omega arith), is.2)

  -- one key more in front: x is that of n
  module _ (n : ℕ) (x : Key) (is_x : IsKey c n x) (order : p < n) (within : n < c.graph.states) (rest : List (ℕ × ℕ))
    where
      sound_more : (pair : ℕ × ℕ) → (In pair rest → IsOfRow (n + 1) pair) → (b : Bool) → clashes k x ≡ b
          → In pair (with_last b (p, n) rest) → IsOfRow n pair
      sound_more pair sound true clash (inl same) =
          let is = clash_conflict c values p n k x is_k is_x order within clash in
          subst (λ a. IsOfRow n a) (sym same) (refl, omega arith, is)
      sound_more pair sound true clash (inr later) = further n pair (sound later)
      sound_more pair sound false none later = further n pair (sound later)

      complete_here : (pair : ℕ × ℕ) → pair ≡ (p, n) → IsConflict c pair → In pair (with_last (clashes k x) (p, n) rest)
      complete_here pair same is =
          let clash = conflict_clash c values p n k x is_k is_x (subst (λ a. IsConflict c a) same is) in
          subst (λ b. In pair (with_last b (p, n) rest)) (sym clash) (inl same)

      ordered_more : ((y : ℕ × ℕ) → In y rest → IsOfRow (n + 1) y) → Ordered rest → (b : Bool)
          → Ordered (with_last b (p, n) rest)
      ordered_more sound order_rest true = (λ y there. after y (sound y there), order_rest)
        where
          after : (y : ℕ × ℕ) → IsOfRow (n + 1) y → Before (p ∷ n ∷ []) (pair_place y)
          after y is = inr (sym is.0, inl (let l = is.1 in omega arith))
      ordered_more sound order_rest false = order_rest

  behind : (b : Bool) (first : ℕ × ℕ) (rest : List (ℕ × ℕ)) (pair : ℕ × ℕ) → In pair rest
      → In pair (with_last b first rest)
  behind true first rest pair later = inr later
  behind false first rest pair later = later

  below_states : (n : ℕ) (x : Key) (xs : List Key) → KeysFrom c n (x ∷ xs) → n < c.graph.states
  below_states n x xs from = let l = from.count in omega arith

  row_sound : (n : ℕ) (xs : List Key) → p < n → KeysFrom c n xs → (pair : ℕ × ℕ) → In pair (row k p n xs)
      → IsOfRow n pair
  row_sound n [] order from pair there = absurd there
  row_sound n (x ∷ xs) order from pair there =
      sound_more n x (keys_head c n x xs from) order (below_states n x xs from) (row k p (n + 1) xs) pair
      (λ later. row_sound (n + 1) xs (omega arith) (keys_tail c n x xs from) pair later) (clashes k x) refl there

  row_complete : (n : ℕ) (xs : List Key) → p < n → KeysFrom c n xs → (pair : ℕ × ℕ) → IsOfRow n pair
      → In pair (row k p n xs)
  row_complete n [] order from pair is =
      absurd (let w = is.2.within in let l = is.1 in let s = from.count in omega arith)
  row_complete n (x ∷ xs) order from pair is = elim (cases_eq pair.1 n) [
    | inl same ↦ complete_here n x (keys_head c n x xs from) order (below_states n x xs from) (row k p (n + 1) xs) pair
        (same_pair pair p n is.0 same) is.2
    | inr other ↦ (
        let more : n + 1 ≤ pair.1 = (let l = is.1 in omega arith) in
        behind (clashes k x) (p, n) (row k p (n + 1) xs) pair
        (row_complete (n + 1) xs (omega arith) (keys_tail c n x xs from) pair (is.0, more, is.2)))
  ]

  row_ordered : (n : ℕ) (xs : List Key) → p < n → KeysFrom c n xs → Ordered (row k p n xs)
  row_ordered n [] order from = tt
  row_ordered n (x ∷ xs) order from =
      let tail = keys_tail c n x xs from in
      ordered_more n x (keys_head c n x xs from) order (below_states n x xs from) (row k p (n + 1) xs)
      (λ y there. row_sound (n + 1) xs (omega arith) tail y there) (row_ordered (n + 1) xs (omega arith) tail)
      (clashes k x)

module _ (c : CodedGraph) (values : HaveValues c) where
  abbrev IsFrom : ℕ → ℕ × ℕ → Type 0
  IsFrom p pair = IsConflict c pair × (p ≤ pair.0)

  rows_sound : (p : ℕ) (ks : List Key) → KeysFrom c p ks → (pair : ℕ × ℕ) → In pair (rows p ks) → IsFrom p pair
  rows_sound p [] from pair there = absurd there
  rows_sound p (k ∷ ks) from pair there =
      let tail = keys_tail c p k ks from in
      elim (in_append (row k p (p + 1) ks) (rows (p + 1) ks) pair there) [
        | inl left ↦ (
            let is = row_sound c values p k (keys_head c p k ks from) (p + 1) ks (omega arith) tail pair left in
            (is.2, (let l = is.0 in omega arith)))
        | inr right ↦ (
            let is = rows_sound (p + 1) ks tail pair right in
            (is.0, (let l = is.1 in omega arith)))
      ]

  rows_complete : (p : ℕ) (ks : List Key) → KeysFrom c p ks → (pair : ℕ × ℕ) → IsFrom p pair → In pair (rows p ks)
  rows_complete p [] from pair is =
      absurd (let o = is.0.order in let w = is.0.within in let l = is.1 in let s = from.count in omega arith)
  rows_complete p (k ∷ ks) from pair is =
      let tail = keys_tail c p k ks from in
      elim (cases_eq pair.0 p) [
        | inl same ↦ (
            let later : p + 1 ≤ pair.1 = (let o = is.0.order in omega arith) in
            in_left (row k p (p + 1) ks) (rows (p + 1) ks) pair
            (row_complete c values p k (keys_head c p k ks from) (p + 1) ks (omega arith) tail pair
            (same, later, is.0)))
        | inr other ↦ (
            let more : p + 1 ≤ pair.0 = (let l = is.1 in omega arith) in
            in_right (row k p (p + 1) ks) (rows (p + 1) ks) pair (rows_complete (p + 1) ks tail pair (is.0, more)))
      ]

  rows_ordered : (p : ℕ) (ks : List Key) → KeysFrom c p ks → Ordered (rows p ks)
  rows_ordered p [] from = tt
  rows_ordered p (k ∷ ks) from =
      let tail = keys_tail c p k ks from in
      let head = keys_head c p k ks from in
      ordered_append (row k p (p + 1) ks) (rows (p + 1) ks)
      (row_ordered c values p k head (p + 1) ks (omega arith) tail) (rows_ordered (p + 1) ks tail)
      (λ a b left right. (
      let one = row_sound c values p k head (p + 1) ks (omega arith) tail a left in
      let two = rows_sound (p + 1) ks tail b right in
      inl (let l = one.0 in let m = two.1 in omega arith)))

  pub as_many : (keys : List Key) (n : ℕ) → AreKeys c keys → n ≡ clash_count keys → HasConflicts c n
  as_many keys n are count =
      let from : KeysFrom c 0 keys = record {
        count = omega (arith, are.count);
        each = λ j inside. (
            let same : j ≡ 0 + j = omega arith in
            subst (λ s. IsKey c s (get_or keys j no_key)) same (are.each j (omega (arith, are.count))));
      } in
      record {
        pairs = rows 0 keys;
        are = record {
          exactly = λ pair. (
            λ there. (rows_sound 0 keys from pair (in_contains (rows 0 keys) pair there)).0,
            λ is. contains_from_in (rows 0 keys) pair (rows_complete 0 keys from pair (is, omega arith)),
          );
          in_order = ordered_pairs (rows 0 keys) (rows_ordered 0 keys from);
        };
        count = count ∙ sym (rows_length 0 keys);
      }
