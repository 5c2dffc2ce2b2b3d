-- Conflicts found place by place.
use Rattle.std.proofs.Common.{◌≡◌, ℕ, ◌+◌, ◌-◌, ◌<◌, ◌≤◌, ◌⊎◌, List, [], ◌∷◌, ◌++◌, length, get_or, Contains, Option}
use Rattle.std.proofs.Common.{Some, None, refl, sym, subst, ◌∙◌, arith, inl, inr}
use Rattle.std.proofs.lemmas.Bool.{cases_lt, cases_eq}
use Rattle.std.proofs.lemmas.List.Elements.{Contains-push, Contains-push_cases, Contains-append_left, Contains-get_or}
use Rattle.std.proofs.lemmas.List.Quantifiers.{all_pairs_push}
use Rattle.si_base.specs.Order.{Before}
use Rattle.si_base.specs.Codes.{CodedGraph}
use Rattle.si_base.specs.Proper.{IsConflict, pair_place}
use Rattle.si_base.proofs.OrderLemmas.{at_places}
use Rattle.si_conflicts.specs.Conflicts.{AreConflicts, AreFirstConflicts}
use Rattle.si_conflicts.specs.Loops.Links.{IsFirstClash}
use Rattle.si_conflicts.specs.Loops.Search.{AreBelow}

-- ---- where a walk along the conflicts of a state stands
abbrev pub low : ℕ → Option ℕ → ℕ
low n None = n
low n (Some q) = q

-- what is left of it
abbrev pub left : ℕ → Option ℕ → ℕ
left n None = 0
left n (Some q) = n - q

-- it stands at a conflict of p
abbrev pub IsAt : CodedGraph → ℕ → Option ℕ → Type 0
IsAt c p None = Unit {0}
IsAt c p (Some q) = IsConflict c (p, q)

pub at_first : (c : CodedGraph) (p from : ℕ) (o : Option ℕ) → IsFirstClash c p from o → IsAt c p o
at_first c p from None first = tt
at_first c p from (Some q) first = first.holds

low_more : (c : CodedGraph) (p from : ℕ) (o : Option ℕ) → from ≤ c.graph.states → IsFirstClash c p from o
    → from ≤ low c.graph.states o
low_more c p from None within first = within
low_more c p from (Some q) within first = first.from

none_between : (c : CodedGraph) (p from : ℕ) (o : Option ℕ) → IsFirstClash c p from o → (t : ℕ) → from ≤ t
    → t < low c.graph.states o → IsConflict c (p, t) → ⊥
none_between c p from None first t more less is = first t more less is
none_between c p from (Some q) first t more less is = first.none_before t more less is

-- ---- places of pairs
same_pair : (a b : ℕ × ℕ) → a.0 ≡ b.0 → a.1 ≡ b.1 → a ≡ b
same_pair a b p q = λ i. (p i, q i)

pub weaker : (pair : ℕ × ℕ) (p k m : ℕ) → k ≤ m → Before (pair_place pair) (p ∷ k ∷ [])
    → Before (pair_place pair) (p ∷ m ∷ [])
weaker pair p k m more before = pick (at_places pair.0 pair.1 p k before)
  where
    pick : (pair.0 < p) ⊎ ((pair.0 ≡ p) × (pair.1 < k)) → Before (pair_place pair) (p ∷ m ∷ [])
    pick (inl less) = inl less
    pick (inr both) = inr (both.0, inl (omega (arith, both.1)))

-- ---- steps
pub below_none : (c : CodedGraph) → AreBelow c 0 0 []
below_none c = record {
  exactly = λ pair. ((λ there. absurd (omega (arith, there.1))), (λ is. none pair (at_places pair.0 pair.1 0 0 is.1)));
  in_order = λ i j d less within. absurd (omega arith);
}
  where
    none : (pair : ℕ × ℕ) → (pair.0 < 0) ⊎ ((pair.0 ≡ 0) × (pair.1 < 0)) → Contains {X = ℕ × ℕ} [] pair
    none pair (inl less) = absurd (omega (arith, less))
    none pair (inr both) = absurd (omega (arith, both.1))

-- no conflict of p from k up to m
pub below_gap : (c : CodedGraph) (p k m : ℕ) (pairs : List (ℕ × ℕ)) → k ≤ m
    → ((t : ℕ) → k ≤ t → t < m → IsConflict c (p, t) → ⊥) → AreBelow c p k pairs → AreBelow c p m pairs
below_gap c p k m pairs more gap are = record {
  exactly = λ pair. (
    (λ there. (let is = (are.exactly pair).0 there in (is.0, weaker pair p k m more is.1))),
    (λ is. (are.exactly pair).1 (is.0, back pair is.0 (at_places pair.0 pair.1 p m is.1) (cases_lt pair.1 k))),
  );
  in_order = are.in_order;
}
  where
    back : (pair : ℕ × ℕ) → IsConflict c pair → (pair.0 < p) ⊎ ((pair.0 ≡ p) × (pair.1 < m))
        → (pair.1 < k) ⊎ (k ≤ pair.1)
        → Before (pair_place pair) (p ∷ k ∷ [])
    back pair is (inl less) other = inl less
    back pair is (inr both) (inl below) = inr (both.0, inl below)
    back pair is (inr both) (inr above) =
        let here : IsConflict c (p, pair.1) =
        subst (λ x. IsConflict c x) (same_pair pair (p, pair.1) both.0 refl) is in
        absurd (gap pair.1 above both.1 here)

pub below_take : (c : CodedGraph) (p q : ℕ) (pairs : List (ℕ × ℕ)) → IsConflict c (p, q) → AreBelow c p q pairs
    → AreBelow c p (q + 1) (pairs ++ (p, q) ∷ [])
below_take c p q pairs here are = record {
  exactly = λ pair. (
    (λ there. elim (Contains-push_cases pairs (p, q) pair there) [
      | inl old ↦ (let is = (are.exactly pair).0 old in (is.0, weaker pair p q (q + 1) (omega arith) is.1))
      | inr new ↦ subst (λ x. IsConflict c x × Before (pair_place x) (p ∷ (q + 1) ∷ [])) new
          (here, inr (refl, inl (omega arith)))
    ]),
    (λ is. back pair is.0 (at_places pair.0 pair.1 p (q + 1) is.1) (cases_lt pair.1 q)),
  );
  in_order = all_pairs_push (λ x y. Before (pair_place x) (pair_place y)) pairs (p, q) are.in_order
      (λ k d within. ((are.exactly (get_or pairs k d)).0 (Contains-get_or pairs k d within)).1);
}
  where
    back : (pair : ℕ × ℕ) → IsConflict c pair → (pair.0 < p) ⊎ ((pair.0 ≡ p) × (pair.1 < q + 1))
        → (pair.1 < q) ⊎ (q ≤ pair.1) → Contains (pairs ++ (p, q) ∷ []) pair
    back pair is (inl less) other = Contains-append_left pairs ((p, q) ∷ []) pair ((are.exactly pair).1 (is, inl less))
    back pair is (inr both) (inl below) = Contains-append_left pairs ((p, q) ∷ []) pair
        ((are.exactly pair).1 (is, inr (both.0, inl below)))
    back pair is (inr both) (inr above) = subst (λ x. Contains (pairs ++ (p, q) ∷ []) x)
        (sym (same_pair pair (p, q) both.0 (omega (arith, both.1, above)))) (Contains-push pairs (p, q))

pub below_row : (c : CodedGraph) (p : ℕ) (pairs : List (ℕ × ℕ)) → AreBelow c p c.graph.states pairs
    → AreBelow c (p + 1) 0 pairs
below_row c p pairs are = record {
  exactly = λ pair. (
    (λ there. (let is = (are.exactly pair).0 there in (is.0, on pair (at_places pair.0 pair.1 p c.graph.states is.1)))),
    (λ is. (are.exactly pair).1 (is.0, back pair is.0 (at_places pair.0 pair.1 (p + 1) 0 is.1) (cases_lt pair.0 p))),
  );
  in_order = are.in_order;
}
  where
    on : (pair : ℕ × ℕ) → (pair.0 < p) ⊎ ((pair.0 ≡ p) × (pair.1 < c.graph.states))
        → Before (pair_place pair) ((p + 1) ∷ 0 ∷ [])
    on pair (inl less) = inl (omega (arith, less))
    on pair (inr both) = inl (omega (arith, both.0))

    back : (pair : ℕ × ℕ) → IsConflict c pair → (pair.0 < p + 1) ⊎ ((pair.0 ≡ p + 1) × (pair.1 < 0))
        → (pair.0 < p) ⊎ (p ≤ pair.0) → Before (pair_place pair) (p ∷ c.graph.states ∷ [])
    back pair is (inl less) (inl below) = inl below
    back pair is (inl less) (inr above) = inr (omega (arith, less, above), inl is.within)
    back pair is (inr both) other = absurd (omega (arith, both.1))

pub below_all : (c : CodedGraph) (k : ℕ) (pairs : List (ℕ × ℕ)) → c.graph.states ≤ k → AreBelow c k 0 pairs
    → AreConflicts c pairs
below_all c k pairs all are = record {
  exactly = λ pair. (
    (λ there. ((are.exactly pair).0 there).0),
    (λ is. (are.exactly pair).1 (is, inl (let order = is.order in let within = is.within in omega arith))),
  );
  in_order = are.in_order;
}

-- ---- steps of the walk
pub walk_starts : (c : CodedGraph) (p : ℕ) (pairs : List (ℕ × ℕ)) (o : Option ℕ) → p < c.graph.states
    → IsFirstClash c p (p + 1) o → AreBelow c p 0 pairs → AreBelow c p (low c.graph.states o) pairs
walk_starts c p pairs o within first are =
    let more = low_more c p (p + 1) o (omega arith) first in
    below_gap c p 0 (low c.graph.states o) pairs (omega arith)
    (λ t _ less is. (let order : p < t = is.order in none_between c p (p + 1) o first t (omega arith) less is)) are

pub walk_goes_on : (c : CodedGraph) (p q : ℕ) (pairs : List (ℕ × ℕ)) (o : Option ℕ) → IsConflict c (p, q)
    → IsFirstClash c p (q + 1) o → AreBelow c p q pairs → AreBelow c p (low c.graph.states o) (pairs ++ (p, q) ∷ [])
walk_goes_on c p q pairs o is first are =
    below_gap c p (q + 1) (low c.graph.states o) (pairs ++ (p, q) ∷ [])
    (low_more c p (q + 1) o (let w = is.within in omega arith) first) (none_between c p (q + 1) o first)
    (below_take c p q pairs is are)

-- ---- a pair stands before a place, or behind all that do
before_or : (pair : ℕ × ℕ) (p k : ℕ) → Before (pair_place pair) (p ∷ k ∷ []) ⊎ ((x : ℕ × ℕ)
    → Before (pair_place x) (p ∷ k ∷ []) → Before (pair_place x) (pair_place pair))
before_or pair p k = elim (cases_lt pair.0 p) [
  | inl less ↦ inl (inl less)
  | inr more ↦ elim (cases_eq pair.0 p) [
    | inl same ↦ elim (cases_lt pair.1 k) [
      | inl less ↦ inl (inr (same, inl less))
      | inr above ↦ inr (λ x before. on_row x same above (at_places x.0 x.1 p k before))
    ]
    | inr other ↦ inr (λ x before. later x (omega (arith, more, other)) (at_places x.0 x.1 p k before))
  ]
]
  where
    on_row : (x : ℕ × ℕ) → pair.0 ≡ p → k ≤ pair.1 → (x.0 < p) ⊎ ((x.0 ≡ p) × (x.1 < k))
        → Before (pair_place x) (pair_place pair)
    on_row x same above (inl less) = inl (omega (arith, less, same))
    on_row x same above (inr both) = inr (both.0 ∙ sym same, inl (omega (arith, both.1, above)))

    later : (x : ℕ × ℕ) → p < pair.0 → (x.0 < p) ⊎ ((x.0 ≡ p) × (x.1 < k)) → Before (pair_place x) (pair_place pair)
    later x more (inl less) = inl (omega (arith, less, more))
    later x more (inr both) = inl (omega (arith, both.0, more))

pub first_full : (c : CodedGraph) (p k limit : ℕ) (xs : List (ℕ × ℕ)) → length xs ≡ limit → AreBelow c p k xs
    → AreFirstConflicts c limit xs
first_full c p k limit xs full are = record {
  each = λ pair there. ((are.exactly pair).0 there).0;
  in_order = are.in_order;
  few = omega arith;
  first = λ pair is. elim (before_or pair p k) [
    | inl before ↦ inl ((are.exactly pair).1 (is, before))
    | inr behind ↦ inr (full, λ x there. behind x ((are.exactly x).0 there).1)
  ];
}

pub first_all : (c : CodedGraph) (k limit : ℕ) (xs : List (ℕ × ℕ)) → c.graph.states ≤ k → length xs ≤ limit
    → AreBelow c k 0 xs → AreFirstConflicts c limit xs
first_all c k limit xs all few are =
    let whole = below_all c k xs all are in
    record {
      each = λ pair there. (whole.exactly pair).0 there;
      in_order = whole.in_order;
      few = few;
      first = λ pair is.
          inl ((whole.exactly pair).1 is);
    }
