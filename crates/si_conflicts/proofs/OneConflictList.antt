-- The conflicts of a coded graph are one list, and have one number.
use Rattle.std.proofs.Common.{◌≡◌, ℕ, ◌<◌, ◌≤◌, ◌↔◌, List, [], ◌∷◌, length, Contains, refl, sym, ap, subst, ◌∙◌, arith}
use Rattle.std.proofs.Common.{inl, inr}
use Rattle.si_base.specs.Order.{Before, IsFirst}
use Rattle.si_base.specs.Codes.{CodedGraph}
use Rattle.si_base.specs.Proper.{IsConflict, HasNoConflict, pair_place}
use Rattle.si_base.proofs.OrderAscending.{In}
use Rattle.si_base.proofs.GivenGraphUnique.{contains_from_in}
use Rattle.si_conflicts.specs.Conflicts.{AreConflicts, HasConflicts, AreFirstConflicts}
use Rattle.si_base.proofs.OrderLemmas.{InOrder, in_contains, same_in_order, before_apart, before_itself, order_head}
use Rattle.si_base.proofs.OrderLemmas.{order_tail}
use Rattle.si_base.proofs.ListLemmas.{Once, at_most}

pub one_list : (c : CodedGraph) (xs ys : List (ℕ × ℕ)) → AreConflicts c xs → AreConflicts c ys → xs ≡ ys
one_list c xs ys a b = same_in_order pair_place xs ys a.in_order b.in_order
    (λ p there. (b.exactly p).1 ((a.exactly p).0 there)) (λ p there. (a.exactly p).1 ((b.exactly p).0 there))

pub one_count : (c : CodedGraph) (n m : ℕ) → HasConflicts c n → HasConflicts c m → n ≡ m
one_count c n m a b = a.count ∙ ap length (one_list c a.pairs b.pairs a.are b.are) ∙ sym b.count

empty : (xs : List (ℕ × ℕ)) → ((p : ℕ × ℕ) → Contains xs p → ⊥) → length xs ≡ 0
empty [] none = refl
empty (x ∷ xs) none = absurd (none x (contains_from_in (x ∷ xs) x (inl refl)))

none_in : (xs : List (ℕ × ℕ)) → length xs ≡ 0 → (p : ℕ × ℕ) → Contains xs p → ⊥
none_in xs e p there = omega (arith, there.1)

pub none_is_none : (c : CodedGraph) (n : ℕ) → HasConflicts c n → HasNoConflict c ↔ (n ≡ 0)
none_is_none c n h = (
  (λ none. h.count ∙ empty h.pairs (λ p there. none p ((h.are.exactly p).0 there))),
  (λ e p is. none_in h.pairs (sym h.count ∙ e) p ((h.are.exactly p).1 is)),
)

head_first : (xs : List (ℕ × ℕ)) (x : ℕ × ℕ) → InOrder pair_place (x ∷ xs) → (p : ℕ × ℕ) → In p (x ∷ xs)
    → Before (pair_place p) (pair_place x) → ⊥
head_first xs x order p (inl same) before = before_itself (pair_place p)
    (subst (λ z. Before (pair_place p) (pair_place z)) (sym same) before)
head_first xs x order p (inr there) before = before_apart (pair_place p) (pair_place x) before
    (order_head pair_place x xs p order there)

pub first_is_first : (c : CodedGraph) (xs : List (ℕ × ℕ)) → AreConflicts c xs → 0 < length xs
    → (pair : ℕ × ℕ) × Contains xs pair × IsFirst pair_place (IsConflict c) pair
first_is_first c [] a some = absurd (omega arith)
first_is_first c (x ∷ xs) a some =
    let there : Contains (x ∷ xs) x = contains_from_in (x ∷ xs) x (inl refl) in (
      x,
      there,
      record {
        holds = (a.exactly x).0 there;
        none_before = λ p is before. head_first xs x a.in_order p
            (in_contains (x ∷ xs) p ((a.exactly p).1 is)) before;
      },
    )

pub once_in_order : {A : Type 0} (place : A → List ℕ) (xs : List A) → InOrder place xs → Once xs
once_in_order place [] order = tt
once_in_order place (x ∷ xs) order = (
  (λ there. before_itself (place x) (order_head place x xs x order there)),
  once_in_order place xs (order_tail place x xs order),
)

pub some_are_fewer : (c : CodedGraph) (n : ℕ) (xs : List (ℕ × ℕ)) → HasConflicts c n
    → ((pair : ℕ × ℕ) → Contains xs pair → IsConflict c pair) → InOrder pair_place xs → length xs ≤ n
some_are_fewer c n xs h each order =
    let few : length xs ≤ length h.pairs = at_most xs h.pairs (once_in_order pair_place xs order)
    (λ p there. in_contains h.pairs p ((h.are.exactly p).1 (each p (contains_from_in xs p there)))) in
    omega (arith, h.count)

-- ---- the first of them are one list, too
in_other : (c : CodedGraph) (limit : ℕ) (xs ys : List (ℕ × ℕ)) → AreFirstConflicts c limit xs
    → AreFirstConflicts c limit ys → (p : ℕ × ℕ) → Contains xs p → Contains ys p
in_other c limit xs ys a b p there = elim (b.first p (a.each p there)) [
  | inl found ↦ found
  | inr full ↦ absurd (too_many full.0 full.1)
]
  where
    too_many : length ys ≡ limit → ((y : ℕ × ℕ) → Contains ys y → Before (pair_place y) (pair_place p)) → ⊥
    too_many size before =
        let all : (q : ℕ × ℕ) → In q (p ∷ ys) → In q xs = λ q here. into q here in
        let once : Once (p ∷ ys) = (
          (λ here. before_itself (pair_place p) (before p (contains_from_in ys p here))),
          once_in_order pair_place ys b.in_order,
        ) in
        let more : length (p ∷ ys) ≤ length xs = at_most (p ∷ ys) xs once all in
        let few = a.few in
        omega (arith, more, few, size)
      where
        mine : (q : ℕ × ℕ) → Contains ys q → Contains xs q
        mine q here = elim (a.first q (b.each q here)) [
          | inl found ↦ found
          | inr full ↦ absurd (before_apart (pair_place p) (pair_place q) (full.1 p there) (before q here))
        ]

        into : (q : ℕ × ℕ) → In q (p ∷ ys) → In q xs
        into q (inl same) = in_contains xs q (subst (λ z. Contains xs z) (sym same) there)
        into q (inr here) = in_contains xs q (mine q (contains_from_in ys q here))

pub first_unique : (c : CodedGraph) (limit : ℕ) (xs ys : List (ℕ × ℕ)) → AreFirstConflicts c limit xs
    → AreFirstConflicts c limit ys → xs ≡ ys
first_unique c limit xs ys a b = same_in_order pair_place xs ys a.in_order b.in_order (in_other c limit xs ys a b)
    (in_other c limit ys xs b a)
