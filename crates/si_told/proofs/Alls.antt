-- Lists of all that have a property, in order: one at most, and how a search adds to them.
use Rattle.std.proofs.Common.{◌≡◌, ℕ, ◌+◌, ◌<◌, ◌≤◌, ◌⊎◌, List, [], ◌∷◌, ◌++◌, length, take, get_or, Contains, sym}
use Rattle.std.proofs.Common.{All, ap, subst, ◌∙◌, arith, inl, inr, append_assoc}
use Rattle.std.proofs.lemmas.Bool.{cases_lt}
use Rattle.std.proofs.lemmas.List.{append-nil, take_more, take_all, get_or_default, get_or-take, length-take}
use Rattle.std.proofs.lemmas.List.Elements.{Contains-append_left, Contains-append_right, Contains-append_cases}
use Rattle.std.proofs.lemmas.List.Elements.{Contains-push, Contains-push_cases, Contains-get_or}
use Rattle.std.proofs.lemmas.List.Quantifiers.{all_pairs_push}
use Rattle.si_base.specs.Order.{Before}
use Rattle.si_base.proofs.OrderLemmas.{InOrder, same_in_order, order_tail, order_head, in_contains}
use Rattle.si_graph.proofs.ListMembers.{Contains-nil, Contains-here, Contains-there, Contains-cons_cases}
use Rattle.si_told.specs.All.{AreAll}
use Rattle.si_told.specs.Loops.Search.{Adds, IsBelow, IsOfFirst}

-- ---- one list at most
pub one_all : {A : Type 0} (place : A → List ℕ) (P : A → Type 0) (xs ys : List A) → AreAll place P xs
    → AreAll place P ys → xs ≡ ys
one_all place P xs ys a b = same_in_order place xs ys a.in_order b.in_order
    (λ x there. (b.exactly x).1 ((a.exactly x).0 there)) (λ x there. (a.exactly x).1 ((b.exactly x).0 there))

-- what holds of all that have a property holds of the items of their list
pub all_hold : {A : Type 0} (place : A → List ℕ) (P Q : A → Type 0) (xs : List A) → AreAll place P xs
    → ((x : A) → P x → Q x) → All Q xs
all_hold {A} place P Q xs are to k d within =
    let x : A = get_or xs k d in
    to x ((are.exactly x).0 (k, within, get_or_default xs k x d within))

-- ---- small lists
pub none_are : {A : Type 0} (place : A → List ℕ) (P : A → Type 0) → ((x : A) → P x → ⊥) → AreAll place P []
none_are place P none = record {
  exactly = λ x. ((λ there. absurd (Contains-nil x there)), (λ is. absurd (none x is)));
  in_order = λ i j d less within. absurd (omega arith);
}

pub one_is : {A : Type 0} (place : A → List ℕ) (P : A → Type 0) (x : A) → P x → ((y : A) → P y → x ≡ y)
    → AreAll place P (x ∷ [])
one_is place P x is same = record {
  exactly = λ y. (
    (λ there. elim (Contains-cons_cases x [] y there) [
      | inl here ↦ subst P here is
      | inr later ↦ absurd (Contains-nil y later)
    ]),
    (λ also. subst (Contains (x ∷ [])) (same y also) (Contains-here x [])),
  );
  in_order = λ i j d less within. absurd (omega arith);
}

-- ---- lists side by side
pub two_in_order : {A : Type 0} (place : A → List ℕ) (xs ys : List A) → InOrder place xs → InOrder place ys
    → ((x y : A) → Contains xs x → Contains ys y → Before (place x) (place y)) → InOrder place (xs ++ ys)
two_in_order place xs [] one other between = subst (InOrder place) (sym (append-nil xs)) one
two_in_order {A} place xs (y ∷ ys) one other between = subst (InOrder place) (append_assoc xs (y ∷ []) ys)
    (two_in_order place (xs ++ y ∷ []) ys pushed (order_tail place y ys other) later)
  where
    pushed : InOrder place (xs ++ y ∷ [])
    pushed = all_pairs_push (λ u v. Before (place u) (place v)) xs y one
        (λ k d within. between (get_or xs k d) y (Contains-get_or xs k d within) (Contains-here y ys))

    later : (x z : A) → Contains (xs ++ y ∷ []) x → Contains ys z → Before (place x) (place z)
    later x z there after = elim (Contains-push_cases xs y x there) [
      | inl earlier ↦ between x z earlier (Contains-there y ys z after)
      | inr same ↦ subst (λ (u : A). Before (place u) (place z)) same
          (order_head place y ys z other (in_contains ys z after))
    ]

pub both_are : {A : Type 0} (place : A → List ℕ) (P Q R : A → Type 0) (xs ys : List A) → AreAll place P xs
    → AreAll place Q ys → ((x y : A) → P x → Q y → Before (place x) (place y)) → ((x : A) → P x → R x)
    → ((x : A) → Q x → R x) → ((x : A) → R x → P x ⊎ Q x) → AreAll place R (xs ++ ys)
both_are place P Q R xs ys one other before from also cases = record {
  exactly = λ x. (
    (λ there. elim (Contains-append_cases xs ys x there) [
      | inl first ↦ from x ((one.exactly x).0 first)
      | inr later ↦ also x ((other.exactly x).0 later)
    ]),
    (λ is. elim (cases x is) [
      | inl p ↦ Contains-append_left xs ys x ((one.exactly x).1 p)
      | inr q ↦ Contains-append_right xs ys x ((other.exactly x).1 q)
    ]),
  );
  in_order = two_in_order place xs ys one.in_order other.in_order
      (λ x y here there. before x y ((one.exactly x).0 here) ((other.exactly y).0 there));
}

-- the same by other words
pub same_are : {A : Type 0} (place : A → List ℕ) (P Q : A → Type 0) (xs : List A) → ((x : A) → P x → Q x)
    → ((x : A) → Q x → P x) → AreAll place P xs → AreAll place Q xs
same_are place P Q xs to back are = record {
  exactly = λ x. ((λ there. to x ((are.exactly x).0 there)), (λ is. (are.exactly x).1 (back x is)));
  in_order = are.in_order;
}

-- ---- what is added
pub adds_none : {A : Type 0} (place : A → List ℕ) (P : A → Type 0) (old : List A) → ((x : A) → P x → ⊥)
    → Adds place P old old
adds_none place P old none = record {
  more = [];
  new_is = sym (append-nil old);
  are = none_are place P none;
}

pub adds_one : {A : Type 0} (place : A → List ℕ) (P : A → Type 0) (old new : List A) (x : A) → P x
    → ((y : A) → P y → x ≡ y) → new ≡ old ++ x ∷ [] → Adds place P old new
adds_one place P old new x is same pushed = record {
  more = x ∷ [];
  new_is = pushed;
  are = one_is place P x is same;
}

pub adds_both : {A : Type 0} (place : A → List ℕ) (P Q R : A → Type 0) (old mid new : List A) → Adds place P old mid
    → Adds place Q mid new → ((x y : A) → P x → Q y → Before (place x) (place y)) → ((x : A) → P x → R x)
    → ((x : A) → Q x → R x) → ((x : A) → R x → P x ⊎ Q x) → Adds place R old new
adds_both place P Q R old mid new one other before from also cases = record {
  more = one.more ++ other.more;
  new_is = other.new_is ∙ ap (λ l. l ++ other.more) one.new_is ∙ append_assoc old one.more other.more;
  are = both_are place P Q R one.more other.more one.are other.are before from also cases;
}

pub adds_same : {A : Type 0} (place : A → List ℕ) (P Q : A → Type 0) (old new : List A) → ((x : A) → P x → Q x)
    → ((x : A) → Q x → P x) → Adds place P old new → Adds place Q old new
adds_same place P Q old new to back adds = record {
  more = adds.more;
  new_is = adds.new_is;
  are = same_are place P Q adds.more to back adds.are;
}

-- what is added to an empty list is the list
pub all_added : {A : Type 0} (place : A → List ℕ) (P : A → Type 0) (new : List A) → Adds place P [] new
    → AreAll place P new
all_added place P new adds = subst (AreAll place P) (sym adds.new_is) adds.are

-- ---- by numbers
module _ {A : Type 0} (place : A → List ℕ) (P : A → Type 0) (number : A → ℕ)
    (order : (x y : A) → P x → P y → number x < number y → Before (place x) (place y)) where
  pub below_none : (old : List A) → Adds place (IsBelow P number 0) old old
  below_none old = adds_none place (IsBelow P number 0) old (λ x is. omega (arith, is.1))

  pub below_more : (k : ℕ) (old mid new : List A) → Adds place (IsBelow P number k) old mid
      → Adds place (λ x. P x × (number x ≡ k)) mid new → Adds place (IsBelow P number (k + 1)) old new
  below_more k old mid new so_far here =
      adds_both place (IsBelow P number k) (λ x. P x × (number x ≡ k)) (IsBelow P number (k + 1)) old mid new
      so_far here (λ x y p q. order x y p.0 q.0 (omega (arith, p.1, q.1))) (λ x p. (p.0, omega (arith, p.1)))
      (λ x q. (q.0, omega (arith, q.1))) cases
    where
      cases : (x : A) → IsBelow P number (k + 1) x → IsBelow P number k x ⊎ (P x × (number x ≡ k))
      cases x is = elim (cases_lt (number x) k) [
        | inl less ↦ inl (is.0, less)
        | inr more ↦ inr (is.0, omega (arith, is.1))
      ]

  pub below_all : (n : ℕ) (new : List A) → ((x : A) → P x → number x < n) → Adds place (IsBelow P number n) [] new
      → AreAll place P new
  below_all n new all adds = all_added place P new
      (adds_same place (IsBelow P number n) P [] new (λ x p. p.0) (λ x p. (p, all x p)) adds)

-- ---- by the items of a list
module _ {A B : Type 0} (place : A → List ℕ) (P : A → Type 0) (IsItemOf : B → A → Type 0) (items : List B)
    (order : (i j : ℕ) (d : B) → i < j → j < length items → (x y : A) → P x → P y → IsItemOf (get_or items i d) x
    → IsItemOf (get_or items j d) y → Before (place x) (place y)) where
  pub first_none : (old : List A) → Adds place (IsOfFirst P IsItemOf items 0) old old
  first_none old = adds_none place (IsOfFirst P IsItemOf items 0) old (λ x is. absurd (Contains-nil is.1.0 is.1.1))

  pub first_more : (k : ℕ) (b : B) (old mid new : List A) → k < length items → b ≡ get_or items k b
      → Adds place (IsOfFirst P IsItemOf items k) old mid → Adds place (λ x. P x × IsItemOf b x) mid new
      → Adds place (IsOfFirst P IsItemOf items (k + 1)) old new
  first_more k b old mid new within at so_far here =
      adds_both place (IsOfFirst P IsItemOf items k) (λ x. P x × IsItemOf b x) (IsOfFirst P IsItemOf items (k + 1)) old
      mid new so_far here before (λ x p. (p.0, (p.1.0, more p.1.0 p.1.1, p.1.2))) (λ x q. (q.0, (b, last, q.1))) cases
    where
      longer : take k items ++ b ∷ [] ≡ take (k + 1) items
      longer = ap (λ (c : B). take k items ++ c ∷ []) at ∙ sym (take_more items k b within)

      more : (c : B) → Contains (take k items) c → Contains (take (k + 1) items) c
      more c there = subst (λ l. Contains l c) longer (Contains-append_left (take k items) (b ∷ []) c there)

      last : Contains (take (k + 1) items) b
      last = subst (λ l. Contains l b) longer (Contains-push (take k items) b)

      cases : (x : A) → IsOfFirst P IsItemOf items (k + 1) x → IsOfFirst P IsItemOf items k x ⊎ (P x × IsItemOf b x)
      cases x is = elim (Contains-push_cases (take k items) b is.1.0
          (subst (λ l. Contains l is.1.0) (sym longer) is.1.1)) [
            | inl there ↦ inl (is.0, (is.1.0, there, is.1.2))
            | inr same ↦ inr (is.0, subst (λ c. IsItemOf c x) (sym same) is.1.2)
          ]

      before : (x y : A) → IsOfFirst P IsItemOf items k x → P y × IsItemOf b y → Before (place x) (place y)
      before x y p q =
          let c : B = p.1.0 in
          let i : ℕ = p.1.1.0 in
          let size = length-take k items in
          let less : i < k = omega (arith, p.1.1.1) in
          let is : get_or items i b ≡ c =
          get_or_default items i b c (omega arith) ∙ sym (get_or-take k items i c less) ∙ p.1.1.2 in
          order i k b less within x y p.0 q.0 (subst (λ z. IsItemOf z x) (sym is) p.1.2)
          (subst (λ z. IsItemOf z y) at q.1)

  pub first_all : (k : ℕ) (old new : List A) → length items ≤ k
      → ((x : A) → P x → (b : B) × Contains items b × IsItemOf b x)
      → Adds place (IsOfFirst P IsItemOf items k) old new → Adds place P old new
  first_all k old new all each adds =
      adds_same place (IsOfFirst P IsItemOf items k) P old new (λ x p. p.0)
      (λ x p. (let e = each x p in
      (p, (e.0, subst (λ l. Contains l e.0) (sym (take_all k items all)) e.1, e.2)))) adds
