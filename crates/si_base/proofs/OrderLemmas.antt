-- Lists in an order of places: two with the same elements are equal.
use Rattle.std.proofs.Common.{◌≡◌, ℕ, suc, List, [], ◌∷◌, get_or, Contains, AllPairs, refl, sym, ap₂, subst, ◌∙◌, arith}
use Rattle.std.proofs.Common.{inl, inr, ◌<◌, ◌⊎◌}
use Rattle.si_base.specs.Order.{Before}
use Rattle.si_base.proofs.OrderAscending.{In}
use Rattle.si_base.proofs.GivenGraphUnique.{in_from_contains, contains_from_in}

pub before_apart : (xs ys : List ℕ) → Before xs ys → Before ys xs → ⊥
before_apart [] ys h k = h
before_apart (x ∷ xs) [] h k = h
before_apart (x ∷ xs) (y ∷ ys) (inl h) (inl k) = omega arith
before_apart (x ∷ xs) (y ∷ ys) (inl h) (inr k) = omega (arith, k.0)
before_apart (x ∷ xs) (y ∷ ys) (inr h) (inl k) = omega (arith, h.0)
before_apart (x ∷ xs) (y ∷ ys) (inr h) (inr k) = before_apart xs ys h.1 k.1

pub before_itself : (xs : List ℕ) → Before xs xs → ⊥
before_itself xs h = before_apart xs xs h h

pub at_places : (a b x y : ℕ) → Before (a ∷ b ∷ []) (x ∷ y ∷ []) → (a < x) ⊎ ((a ≡ x) × (b < y))
at_places a b x y (inl h) = inl h
at_places a b x y (inr (same, inl h)) = inr (same, h)
at_places a b x y (inr (same, inr h)) = absurd h.1

abbrev pub InOrder : {A : Type 0} → (A → List ℕ) → List A → Type 0
InOrder place xs = AllPairs (λ x y. Before (place x) (place y)) xs

pub in_contains : {A : Type 0} (xs : List A) (a : A) → Contains xs a → In a xs
in_contains xs a there = in_from_contains xs a there.0 there.1 there.2

pub order_tail : {A : Type 0} (place : A → List ℕ) (x : A) (xs : List A) → InOrder place (x ∷ xs) → InOrder place xs
order_tail place x xs h = λ i j d less within. h (suc i) (suc j) d (omega arith) (omega arith)

pub order_head : {A : Type 0} (place : A → List ℕ) (x : A) (xs : List A) (a : A) → InOrder place (x ∷ xs) → In a xs
    → Before (place x) (place a)
order_head place x xs a h there =
    let c = contains_from_in xs a there in
    let less : Before (place x) (place (get_or xs c.0 a)) = h 0 (suc c.0) a (omega arith) (omega (arith, c.1)) in
    subst (λ y. Before (place x) (place y)) c.2 less

head_same : {A : Type 0} (place : A → List ℕ) (x y : A) (xs ys : List A) → InOrder place (x ∷ xs)
    → InOrder place (y ∷ ys) → In x (y ∷ ys) → In y (x ∷ xs) → x ≡ y
head_same place x y xs ys h k (inl e) other = e
head_same place x y xs ys h k (inr there) (inl e) = sym e
head_same place x y xs ys h k (inr there) (inr back) =
    absurd (before_apart (place x) (place y) (order_head place x xs y h back) (order_head place y ys x k there))

tail_in : {A : Type 0} (place : A → List ℕ) (x y : A) (xs ys : List A) → x ≡ y → InOrder place (x ∷ xs) → (a : A)
    → In a xs → In a (y ∷ ys) → In a ys
tail_in place x y xs ys e h a there (inl same) =
    absurd (before_itself (place x)
    (subst (λ z. Before (place x) (place z)) (same ∙ sym e) (order_head place x xs a h there)))
tail_in place x y xs ys e h a there (inr found) = found

same_in : {A : Type 0} (place : A → List ℕ) (xs ys : List A) → InOrder place xs → InOrder place ys
    → ((a : A) → In a xs → In a ys) → ((a : A) → In a ys → In a xs) → xs ≡ ys
same_in place [] [] h k to back = refl
same_in place [] (y ∷ ys) h k to back = absurd (back y (inl refl))
same_in place (x ∷ xs) [] h k to back = absurd (to x (inl refl))
same_in place (x ∷ xs) (y ∷ ys) h k to back =
    let e = head_same place x y xs ys h k (to x (inl refl)) (back y (inl refl)) in
    ap₂ (λ a b. a ∷ b) e (same_in place xs ys (order_tail place x xs h) (order_tail place y ys k)
    (λ a there. tail_in place x y xs ys e h a there (to a (inr there)))
    (λ a there. tail_in place y x ys xs (sym e) k a there (back a (inr there))))

pub same_in_order : {A : Type 0} (place : A → List ℕ) (xs ys : List A) → InOrder place xs → InOrder place ys
    → ((a : A) → Contains xs a → Contains ys a) → ((a : A) → Contains ys a → Contains xs a) → xs ≡ ys
same_in_order place xs ys h k to back = same_in place xs ys h k
    (λ a there. in_contains ys a (to a (contains_from_in xs a there)))
    (λ a there. in_contains xs a (back a (contains_from_in ys a there)))
