-- A search row after row comes to the first item of least weight.
use Rattle.std.proofs.Common.{◌≡◌, ℕ, zero, suc, ◌+◌, ◌<◌, ◌≤◌, ◌⊎◌, List, [], ◌∷◌, Option, Some, None, get_or, refl}
use Rattle.std.proofs.Common.{sym, ap, subst, subst₂, ◌∙◌, arith, inl, inr}
use Rattle.std.proofs.lemmas.Bool.{cases_lt}
use Rattle.si_base.specs.Order.{Before, IsFirst}
use Rattle.si_base.proofs.OrderLemmas.{before_apart, before_itself}
use Rattle.si_checks.specs.Loops.Searches.{IsFirstOrNone}
use Rattle.si_checks.proofs.SearchDecisions.{Decided}
use Rattle.si_checks.proofs.SearchFirst.{firsts_at_one_place}
use Rattle.si_insert.specs.Loops.RowSearch.{weight_order, IsSeen, IsLeastSeen, bar}

-- ---- the order of places in rows
abbrev at : ℕ → ℕ → List ℕ
at r k = r ∷ k ∷ []

places : (a b r k : ℕ) → Before (at a b) (at r k) → (a < r) ⊎ ((a ≡ r) × (b < k))
places a b r k (inl less) = inl less
places a b r k (inr (same, inl less)) = inr (same, less)
places a b r k (inr (same, inr never)) = absurd never.1

-- before the next place: before this one, or here
before_next : (a b r k : ℕ) → Before (at a b) (at r (k + 1)) → Before (at a b) (at r k) ⊎ ((a ≡ r) × (b ≡ k))
before_next a b r k h = pick (places a b r (k + 1) h) (cases_lt b k)
  where
    pick : (a < r) ⊎ ((a ≡ r) × (b < k + 1)) → (b < k) ⊎ (k ≤ b) → Before (at a b) (at r k) ⊎ ((a ≡ r) × (b ≡ k))
    pick (inl less) other = inl (inl less)
    pick (inr both) (inl below) = inl (inr (both.0, inl below))
    pick (inr both) (inr above) = inr (both.0, omega (arith, both.1, above))

then_next : (a b r k : ℕ) → Before (at a b) (at r k) → Before (at a b) (at r (k + 1))
then_next a b r k h = pick (places a b r k h)
  where
    pick : (a < r) ⊎ ((a ≡ r) × (b < k)) → Before (at a b) (at r (k + 1))
    pick (inl less) = inl less
    pick (inr both) = inr (both.0, inl (omega (arith, both.1)))

-- before the next row: before this place, or in this row
before_row : (a b r k : ℕ) → Before (at a b) (at (r + 1) 0) → Before (at a b) (at r k) ⊎ (a ≡ r)
before_row a b r k h = pick (places a b (r + 1) 0 h) (cases_lt a r)
  where
    pick : (a < r + 1) ⊎ ((a ≡ r + 1) × (b < 0)) → (a < r) ⊎ (r ≤ a) → Before (at a b) (at r k) ⊎ (a ≡ r)
    pick (inl less) (inl below) = inl (inl below)
    pick (inl less) (inr above) = inr (omega (arith, less, above))
    pick (inr both) other = absurd (omega (arith, both.1))

then_row : (a b r k : ℕ) → Before (at a b) (at r k) → Before (at a b) (at (r + 1) 0)
then_row a b r k h = pick (places a b r k h)
  where
    pick : (a < r) ⊎ ((a ≡ r) × (b < k)) → Before (at a b) (at (r + 1) 0)
    pick (inl less) = inl (omega (arith, less))
    pick (inr both) = inl (omega (arith, both.0))

-- what stands in a row, but not before the place, stands after all that does
after_all : (a b c d r k : ℕ) → Before (at a b) (at c d) → Before (at c d) (at r k) → a ≡ r
    → Before (at a b) (at r k)
after_all a b c d r k one other in_row = pick (places a b c d one) (places c d r k other)
  where
    pick : (a < c) ⊎ ((a ≡ c) × (b < d)) → (c < r) ⊎ ((c ≡ r) × (d < k)) → Before (at a b) (at r k)
    pick (inl h) (inl i) = absurd (omega (arith, h, i, in_row))
    pick (inl h) (inr i) = absurd (omega (arith, h, i.0, in_row))
    pick (inr h) (inl i) = absurd (omega (arith, h.0, i, in_row))
    pick (inr h) (inr i) = inr (in_row, inl (omega (arith, h.1, i.1)))

pub lighter_or_even : (a b : ℕ) (xs ys : List ℕ) → Before (a ∷ xs) (b ∷ ys) → a ≤ b
lighter_or_even a b xs ys (inl less) = omega arith
lighter_or_even a b xs ys (inr tied) = omega (arith, tied.0)

module _ {A : Type 0} (P : A → Type 0) (weight row place : A → ℕ) where
  abbrev order : A → List ℕ
  order x = weight_order weight row place x

  abbrev Earlier : A → ℕ → ℕ → Type 0
  Earlier x r k = Before (at (row x) (place x)) (at r k)

  abbrev Seen : ℕ → ℕ → A → Type 0
  Seen r k x = IsSeen P row place r k x

  abbrev LeastSeen : ℕ → ℕ → Option A → Type 0
  LeastSeen r k found = IsLeastSeen P weight row place r k found

  -- ---- two that come first have one weight and stand at one place
  pub one_least : (x y : A) → IsFirst order P x → IsFirst order P y
      → (weight x ≡ weight y) × (row x ≡ row y) × (place x ≡ place y)
  one_least x y one other =
      let same = firsts_at_one_place order P x y refl one other in
      let number : ℕ → List ℕ → ℕ = λ k xs. get_or xs k 0 in
      (ap (number 0) same, ap (number 1) same, ap (number 2) same)

  -- ---- steps of the search, where all items weigh less than the bound
  module _ (bound : ℕ) (lower : (x : A) → P x → weight x < bound) where
    pub search_start : LeastSeen 0 0 None
    search_start = λ y seen. none (places (row y) (place y) 0 0 seen.earlier)
      where
        none : {a b : ℕ} → (a < 0) ⊎ ((a ≡ 0) × (b < 0)) → ⊥
        none (inl less) = omega (arith, less)
        none (inr both) = omega (arith, both.1)

    pub bar_low : (r k : ℕ) (found : Option A) → LeastSeen r k found → bar weight bound found ≤ bound
    bar_low r k None so = omega arith
    bar_low r k (Some x) so = let less = lower x so.holds.holds in omega (arith, less)

    -- an item that doesn't get below the bar changes nothing
    pub search_skip : (r k : ℕ) (found : Option A)
        → ((y : A) → P y → row y ≡ r → place y ≡ k → bar weight bound found ≤ weight y) → LeastSeen r k found
        → LeastSeen r (k + 1) found
    search_skip r k None high so = λ y seen. elim (before_next (row y) (place y) r k seen.earlier) [
      | inl before ↦ so y (record { holds = seen.holds; earlier = before })
      | inr here ↦ (
          let more = high y seen.holds here.0 here.1 in
          let less = lower y seen.holds in
          omega (arith, more, less))
    ]
    search_skip r k (Some x) high so = record {
      holds = record {
        holds = so.holds.holds;
        earlier = then_next (row x) (place x) r k so.holds.earlier;
      };
      none_before = λ y seen before. elim (before_next (row y) (place y) r k seen.earlier) [
        | inl earlier ↦ so.none_before y (record { holds = seen.holds; earlier = earlier }) before
        | inr here ↦ behind y here (high y seen.holds here.0 here.1) before
      ];
    }
      where
        behind : (y : A) → (row y ≡ r) × (place y ≡ k) → weight x ≤ weight y → Before (order y) (order x) → ⊥
        behind y here more (inl less) = omega (arith, more, less)
        behind y here more (inr (same, before)) =
            let Q : ℕ → ℕ → Type 0 = λ a b. Before (at (row x) (place x)) (at a b) in
            before_apart (at (row y) (place y)) (at (row x) (place x)) before
            (subst₂ Q (sym here.0) (sym here.1) so.holds.earlier)

    -- the rest of a row is passed over where none of it gets below the bar, as at its end
    pub search_row : (r k : ℕ) (found : Option A)
        → ((y : A) → P y → row y ≡ r → Earlier y r k ⊎ ((Earlier y r k → ⊥) × (bar weight bound found ≤ weight y)))
        → LeastSeen r k found → LeastSeen (r + 1) 0 found
    search_row r k None high so = λ y seen. elim (before_row (row y) (place y) r k seen.earlier) [
      | inl before ↦ so y (record { holds = seen.holds; earlier = before })
      | inr in_row ↦ elim (high y seen.holds in_row) [
        | inl before ↦ so y (record { holds = seen.holds; earlier = before })
        | inr late ↦ (let more = late.1 in let less = lower y seen.holds in omega (arith, more, less))
      ]
    ]
    search_row r k (Some x) high so = record {
      holds = record {
        holds = so.holds.holds;
        earlier = then_row (row x) (place x) r k so.holds.earlier;
      };
      none_before = λ y seen before. elim (before_row (row y) (place y) r k seen.earlier) [
        | inl earlier ↦ so.none_before y (record { holds = seen.holds; earlier = earlier }) before
        | inr in_row ↦ elim (high y seen.holds in_row) [
          | inl earlier ↦ so.none_before y (record { holds = seen.holds; earlier = earlier }) before
          | inr late ↦ behind y in_row late.0 late.1 before
        ]
      ];
    }
      where
        behind : (y : A) → row y ≡ r → (Earlier y r k → ⊥) → weight x ≤ weight y → Before (order y) (order x) → ⊥
        behind y in_row late more (inl less) = omega (arith, more, less)
        behind y in_row late more (inr (same, before)) =
            late (after_all (row y) (place y) (row x) (place x) r k before so.holds.earlier in_row)

    -- at the end of all rows the item found so far is the first of all
    pub search_ends : (rows : ℕ) (found : Option A) → ((y : A) → P y → row y < rows) → LeastSeen rows 0 found
        → IsFirstOrNone order P found
    search_ends rows None all so = λ y is. so y (record { holds = is; earlier = inl (all y is) })
    search_ends rows (Some x) all so = record {
      holds = so.holds.holds;
      none_before = λ y is before. so.none_before y (record { holds = is; earlier = inl (all y is) }) before;
    }

    -- ---- where the items of one place have one weight
    module _ (one : (x y : A) → P x → P y → row x ≡ row y → place x ≡ place y → weight x ≡ weight y) where
      -- one that gets below the bar is the least so far
      pub search_take : (r k : ℕ) (found : Option A) (x : A) → P x → row x ≡ r → place x ≡ k
          → weight x < bar weight bound found → LeastSeen r k found → LeastSeen r (k + 1) (Some x)
      search_take r k found x is in_row at_place below so = record {
        holds = record { holds = is; earlier = inr (in_row, inl (omega (arith, at_place))) };
        none_before = λ y seen before. elim (before_next (row y) (place y) r k seen.earlier) [
          | inl earlier ↦ ahead found below so y (record { holds = seen.holds; earlier = earlier }) before
          | inr here ↦ same y seen.holds here before
        ];
      }
        where
          ahead : (o : Option A) → weight x < bar weight bound o → LeastSeen r k o → (y : A) → Seen r k y
              → Before (order y) (order x) → ⊥
          ahead None below so y seen before = so y seen
          ahead (Some z) below so y seen before =
              (let low = lighter_or_even (weight y) (weight x) (at (row y) (place y)) (at (row x) (place x)) before in
              so.none_before y seen (inl (omega (arith, low, below))))

          same : (y : A) → P y → (row y ≡ r) × (place y ≡ k) → Before (order y) (order x) → ⊥
          same y also here before =
              let rows : row y ≡ row x = here.0 ∙ sym in_row in
              let places : place y ≡ place x = here.1 ∙ sym at_place in
              let weights = one y x also is rows places in
              let triple : ℕ → ℕ → ℕ → List ℕ = λ a b c. a ∷ b ∷ c ∷ [] in
              let orders : order y ≡ order x = λ i. triple (weights i) (rows i) (places i) in
              before_itself (order x) (subst (λ xs. Before xs (order x)) orders before)

      -- ---- there is a first, or nothing has P
      module _ (item_or_none : (r k : ℕ) → Decided ((x : A) × P x × (row x ≡ r) × (place x ≡ k)))
          (width : (r : ℕ) → (n : ℕ) × ((y : A) → P y → row y ≡ r → place y < n)) where
        abbrev Found : ℕ → ℕ → Type 0
        Found r k = (found : Option A) × LeastSeen r k found

        next_place : (r k : ℕ) → Found r k → Found r (k + 1)
        next_place r k (found, so) = elim (item_or_none r k) [
          | inr none ↦
              (found, search_skip r k found (λ y is in_row at_place. absurd (none (y, is, in_row, at_place))) so)
          | inl (x, is, in_row, at_place) ↦ elim (cases_lt (weight x) (bar weight bound found)) [
            | inl below ↦ (Some x, search_take r k found x is in_row at_place below so)
            | inr above ↦ (
                let high : (y : A) → P y → row y ≡ r → place y ≡ k → bar weight bound found ≤ weight y =
                λ y also row_y place_y. (
                let even = one x y is also (in_row ∙ sym row_y) (at_place ∙ sym place_y) in
                omega (arith, even, above)) in
                (found, search_skip r k found high so))
          ]
        ]

        along_row : (r k : ℕ) → Found r 0 → Found r k
        along_row r zero found = found
        along_row r (suc k) found =
            let next : k + 1 ≡ suc k = omega arith in
            subst (Found r) next (next_place r k (along_row r k found))

        next_row : (r : ℕ) → Found r 0 → Found (r + 1) 0
        next_row r found =
            let n = (width r).0 in
            let all = along_row r n found in
            (all.0, search_row r n all.0 (λ y is in_row. inl (inr (in_row, inl ((width r).1 y is in_row)))) all.1)

        all_rows : (r : ℕ) → Found r 0
        all_rows zero = (None, search_start)
        all_rows (suc r) =
            let Q : ℕ → Type 0 = λ k. Found k 0 in
            let next : r + 1 ≡ suc r = omega arith in
            subst Q next (next_row r (all_rows r))

        pub first_or_none : (rows : ℕ) → ((y : A) → P y → row y < rows)
            → (found : Option A) × IsFirstOrNone order P found
        first_or_none rows all =
            let found = all_rows rows in
            (found.0, search_ends rows found.0 all found.1)
