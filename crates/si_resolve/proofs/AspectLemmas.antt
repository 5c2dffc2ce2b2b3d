-- Conflicts whose states two blocks don't part stay, whatever classes the blocks have.
use Rattle.std.proofs.Common.{◌≡◌, ◌⊎◌, ℕ, zero, suc, ◌+◌, ◌<◌, ◌≤◌, ◌∙◌, Bool, true, false, not, cond, List, []}
use Rattle.std.proofs.Common.{◌∷◌, ◌++◌, length, map, take, drop, filter, get_or, refl, sym, ap, ap₂}
use Rattle.std.proofs.Common.{arith, inl, inr}
use Rattle.std.proofs.lemmas.Bool.{cases_Bool, true≢false}
use Rattle.std.proofs.lemmas.List.{take_more, length-take-le}
use Rattle.si_base.specs.Sets.{is_in}
use Rattle.si_base.proofs.OrderAscending.{In}
use Rattle.si_insert.specs.declared.partition.Class.{Class}
use Rattle.si_insert.specs.declared.partition.Class.TheVariants.{Low, Rising, High, Falling}
use Rattle.si_insert.specs.Partition.{class_of}
use Rattle.si_candidates.specs.Loops.Sides.{between, class_by, differ}
use Rattle.si_candidates.proofs.SideLemmas.{differ_group, differ_swap, high_is, low_is}
use Rattle.si_conflicts.specs.Left.{are_parted, stays}
use Rattle.si_resolve.specs.declared.aspects.Aspect.{Aspect}
use Rattle.si_resolve.specs.declared.aspects.Aspect.TheVariants.{Together, Apart}
use Rattle.si_resolve.specs.Loops.Aspects.{aspect_by, aspect_of, part, stays_by, unparted_count}

-- ---- the count, place after place
unparted_push : (xs ys : List Aspect) (x y : Aspect) → length ys ≡ length xs
    → unparted_count (xs ++ x ∷ []) (ys ++ y ∷ []) ≡ unparted_count xs ys + stays_by x y
unparted_push [] [] x y same = omega arith
unparted_push [] (b ∷ ys) x y same = absurd (omega (arith, same))
unparted_push (a ∷ xs) [] x y same = absurd (omega (arith, same))
unparted_push (a ∷ xs) (b ∷ ys) x y same =
    let rest = unparted_push xs ys x y (omega (arith, same)) in
    omega (arith, rest)

pub unparted_more : (xs ys : List Aspect) (k : ℕ) → length ys ≡ length xs → k < length xs
    → unparted_count (take (k + 1) xs) (take (k + 1) ys)
    ≡ unparted_count (take k xs) (take k ys) + stays_by (get_or xs k Together) (get_or ys k Together)
unparted_more xs ys k same inside =
    ap₂ unparted_count (take_more xs k Together inside) (take_more ys k Together (omega (arith, same, inside)))
    ∙ unparted_push (take k xs) (take k ys) (get_or xs k Together) (get_or ys k Together)
    (length-take-le k ys (omega (arith, same, inside)) ∙ sym (length-take-le k xs (omega (arith, inside))))

none_left : (xs : List Aspect) → unparted_count xs [] ≡ 0
none_left [] = refl
none_left (x ∷ xs) = refl

-- they are no more than the conflicts
one_stays : (x y : Aspect) → stays_by x y ≤ 1
one_stays x y = elim (cases_Bool (part x y)) [
  | inl parts ↦ rw parts (omega arith)
  | inr stay ↦ rw stay (omega arith)
]

pub unparted_few : (xs ys : List Aspect) → unparted_count xs ys ≤ length xs
unparted_few [] ys = omega arith
unparted_few (x ∷ xs) [] = omega arith
unparted_few (x ∷ xs) (y ∷ ys) =
    let rest = unparted_few xs ys in
    omega (arith, one_stays x y, rest)

-- the first n conflicts, and the others
unparted_split : (n : ℕ) (xs ys : List Aspect)
    → unparted_count xs ys ≡ unparted_count (take n xs) (take n ys) + unparted_count (drop n xs) (drop n ys)
unparted_split zero xs ys = omega arith
unparted_split (suc n) [] ys = omega arith
unparted_split (suc n) (x ∷ xs) [] =
    let rest : unparted_count (drop (suc n) (x ∷ xs)) (drop {A = Aspect} (suc n) []) ≡ 0 = none_left (drop n xs) in
    omega (arith, rest)
unparted_split (suc n) (x ∷ xs) (y ∷ ys) =
    let rest = unparted_split n xs ys in
    omega (arith, rest)

pub unparted_parts : (n : ℕ) (xs ys first_xs later_xs first_ys later_ys : List Aspect)
    → first_xs ≡ take n xs → later_xs ≡ drop n xs → first_ys ≡ take n ys → later_ys ≡ drop n ys
    → unparted_count xs ys ≡ unparted_count first_xs first_ys + unparted_count later_xs later_ys
unparted_parts n xs ys first_xs later_xs first_ys later_ys first_x later_x first_y later_y =
    let parts = unparted_split n xs ys in
    let first = ap₂ unparted_count first_x first_y in
    let later = ap₂ unparted_count later_x later_y in
    omega (arith, parts, first, later)

-- ---- classes that are parted
parted_cases : (c d : Class) → are_parted c d ≡ true → ((c ≡ Low) × (d ≡ High)) ⊎ ((c ≡ High) × (d ≡ Low))
parted_cases Low Low h = absurd (true≢false (sym h))
parted_cases Low Rising h = absurd (true≢false (sym h))
parted_cases Low High h = inl (refl, refl)
parted_cases Low Falling h = absurd (true≢false (sym h))
parted_cases Rising Low h = absurd (true≢false (sym h))
parted_cases Rising Rising h = absurd (true≢false (sym h))
parted_cases Rising High h = absurd (true≢false (sym h))
parted_cases Rising Falling h = absurd (true≢false (sym h))
parted_cases High Low h = inr (refl, refl)
parted_cases High Rising h = absurd (true≢false (sym h))
parted_cases High High h = absurd (true≢false (sym h))
parted_cases High Falling h = absurd (true≢false (sym h))
parted_cases Falling Low h = absurd (true≢false (sym h))
parted_cases Falling Rising h = absurd (true≢false (sym h))
parted_cases Falling High h = absurd (true≢false (sym h))
parted_cases Falling Falling h = absurd (true≢false (sym h))

-- ---- sides that differ
turn_off : (turn a b : Bool) → differ turn a ≡ false → differ turn b ≡ true → differ a b ≡ true
turn_off true true true h k = absurd (true≢false (sym k))
turn_off true true false h k = refl
turn_off true false b h k = absurd (true≢false h)
turn_off false true b h k = absurd (true≢false h)
turn_off false false b h k = k

turn_on : (turn a b : Bool) → differ turn a ≡ true → differ turn b ≡ false → differ a b ≡ true
turn_on true true b h k = absurd (true≢false (sym h))
turn_on true false true h k = refl
turn_on true false false h k = absurd (true≢false k)
turn_on false true true h k = absurd (true≢false k)
turn_on false true false h k = refl
turn_on false false b h k = absurd (true≢false (sym h))

-- by states or by blocks
differ_turned : (a b d e : Bool) → differ (differ a d) (differ b e) ≡ differ (differ a b) (differ d e)
differ_turned a b d e =
    differ_group a d (differ b e) ∙ ap (differ a) (differ_swap d b e) ∙ sym (differ_group a b (differ d e))

part_by : (x y : Bool) → part (cond x Apart Together) (cond y Apart Together) ≡ differ x y
part_by true true = refl
part_by true false = refl
part_by false true = refl
part_by false false = refl

module _ (states : ℕ) (plus minus plus_sides minus_sides : List Bool) (turn : Bool) (classes : List Class)
    (each : (s : ℕ) → s < states → class_of classes s
    ≡ class_by (is_in plus s) (is_in minus s) (differ turn (between plus_sides minus_sides s))) where
  abbrev by_plus : ℕ × ℕ → Aspect
  by_plus pair = aspect_of plus plus_sides pair

  abbrev by_minus : ℕ × ℕ → Aspect
  by_minus pair = aspect_of minus minus_sides pair

  abbrev turned : ℕ → Bool
  turned s = between plus_sides minus_sides s

  -- states in neither block that lie on different sides of just one
  sides_part : (p q : ℕ) → is_in plus p ≡ false → is_in plus q ≡ false → is_in minus p ≡ false → is_in minus q ≡ false
      → differ (turned p) (turned q) ≡ true → part (by_plus (p, q)) (by_minus (p, q)) ≡ true
  sides_part p q plus_p plus_q minus_p minus_q odd =
      ap₂ part
      (ap₂ (λ a b. aspect_by a b (is_in plus_sides p) (is_in plus_sides q)) plus_p plus_q)
      (ap₂ (λ a b. aspect_by a b (is_in minus_sides p) (is_in minus_sides q)) minus_p minus_q)
      ∙ part_by (differ (is_in plus_sides p) (is_in plus_sides q)) (differ (is_in minus_sides p) (is_in minus_sides q))
      ∙ sym (differ_turned (is_in plus_sides p) (is_in plus_sides q) (is_in minus_sides p) (is_in minus_sides q))
      ∙ odd

  classes_part : (p q : ℕ) → p < states → q < states → are_parted (class_of classes p) (class_of classes q) ≡ true
      → part (by_plus (p, q)) (by_minus (p, q)) ≡ true
  classes_part p q p_in q_in parted = elim (parted_cases (class_of classes p) (class_of classes q) parted) [
    | inl at ↦ (
        let low = (low_is (is_in plus p) (is_in minus p) (differ turn (turned p))).0 (sym (each p p_in) ∙ at.0) in
        let high = (high_is (is_in plus q) (is_in minus q) (differ turn (turned q))).0 (sym (each q q_in) ∙ at.1) in
        sides_part p q low.0 high.0 low.1 high.1 (turn_off turn (turned p) (turned q) low.2 high.2))
    | inr at ↦ (
        let high = (high_is (is_in plus p) (is_in minus p) (differ turn (turned p))).0 (sym (each p p_in) ∙ at.0) in
        let low = (low_is (is_in plus q) (is_in minus q) (differ turn (turned q))).0 (sym (each q q_in) ∙ at.1) in
        sides_part p q high.0 low.0 high.1 low.1 (turn_on turn (turned p) (turned q) high.2 low.2))
  ]

  one_more : (pair : ℕ × ℕ) (pairs : List (ℕ × ℕ)) (n : ℕ) → pair.0 < states → pair.1 < states
      → n ≤ length (filter (stays classes) pairs)
      → stays_by (by_plus pair) (by_minus pair) + n ≤ length (filter (stays classes) (pair ∷ pairs))
  one_more pair pairs n p_in q_in few =
      elim (cases_Bool (are_parted (class_of classes pair.0) (class_of classes pair.1))) [
        | inl parted ↦ (
            let apart = ap {B = ℕ} (λ b. cond b 0 1) (classes_part pair.0 pair.1 p_in q_in parted) in
            let list = ap with_pair parted in
            omega (arith, few, apart, list))
        | inr together ↦ (
            let at_most = some_stay (part (by_plus pair) (by_minus pair)) in
            let list = ap with_pair together in
            omega (arith, few, at_most, list))
      ]
    where
      with_pair : Bool → ℕ
      with_pair b = length (cond (not b) (pair ∷ filter (stays classes) pairs) (filter (stays classes) pairs))

      some_stay : (b : Bool) → cond b 0 1 ≤ 1
      some_stay true = omega arith
      some_stay false = omega arith

  pub unparted_stay : (pairs : List (ℕ × ℕ)) → ((pair : ℕ × ℕ) → In pair pairs → (pair.0 < states) × (pair.1 < states))
      → unparted_count (map by_plus pairs) (map by_minus pairs) ≤ length (filter (stays classes) pairs)
  unparted_stay [] within = omega arith
  unparted_stay (pair ∷ pairs) within =
      let here = within pair (inl refl) in
      one_more pair pairs (unparted_count (map by_plus pairs) (map by_minus pairs)) here.0 here.1
      (unparted_stay pairs (λ a there. within a (inr there)))
