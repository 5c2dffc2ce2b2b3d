-- Conflicts whose states an insertion doesn't part stay, so that as many are left at least.
use Rattle.std.proofs.Common.{◌≡◌, ◌≢◌, ◌⊎◌, ℕ, ◌+◌, ◌<◌, ◌≤◌, ◌==◌, ◌&&◌, ◌∙◌, Bool, true, false, not, cond}
use Rattle.std.proofs.Common.{List, [], ◌∷◌, ◌++◌, length, map, filter, slice_index, Contains, refl, sym, ap}
use Rattle.std.proofs.Common.{subst, arith, inl, inr, ltb, lt-ltb, le-ltb, eqb-true}
use Rattle.std.proofs.lemmas.Bool.{cases_Bool, cases_lt, true≢false}
use Rattle.std.proofs.lemmas.List.{length-append}
use Rattle.std.proofs.lemmas.List.Sorted.{Contains-permutation}
use Rattle.std.proofs.lemmas.List.Sums.{sum_by-cons}
use Rattle.std.specs.List.{sum_by, range_with_len}
use Rattle.si_base.specs.Codes.{CodedGraph, IsCoded, code}
use Rattle.si_base.specs.Proper.{IsConflict, pair_place}
use Rattle.si_base.proofs.ListLemmas.{Once, at_most, in_range}
use Rattle.si_base.proofs.OrderLemmas.{InOrder, in_contains}
use Rattle.si_base.proofs.OrderAscending.{In}
use Rattle.si_base.proofs.GivenGraphUnique.{contains_from_in}
use Rattle.si_base.proofs.Booleans.{one_if}
use Rattle.si_insert.specs.declared.partition.Class.{Class}
use Rattle.si_insert.specs.declared.partition.Class.TheVariants.{Low, Rising, High, Falling}
use Rattle.si_insert.specs.Partition.{class_of, IsLawful}
use Rattle.si_conflicts.specs.declared.keys.Key.{Key}
use Rattle.si_conflicts.specs.declared.members.Member.{Member}
use Rattle.si_conflicts.specs.Loops.Apart.{are_apart, pair_sum, role_at, stable_count}
use Rattle.si_conflicts.specs.Loops.Chains.{Chains, AreChains, IsNextInRing, has_equal, with_equals}
use Rattle.si_conflicts.specs.Loops.Keys.{IsKey, clashes}
use Rattle.si_conflicts.specs.Left.{LeavesConflicts, are_parted, stays}
use Rattle.si_conflicts.proofs.ApartCopyCount.{alone}
use Rattle.si_conflicts.proofs.OneConflictList.{once_in_order}
use Rattle.si_conflicts.proofs.CountLemmas.{clash_back}
use Rattle.si_conflicts.proofs.KeyLemmas.{conflict_clash}
use Rattle.si_conflicts.proofs.LeftCount.{at_least}
use Rattle.si_conflicts.proofs.KeyPairs.{in_left, in_right, with_last}
use Rattle.si_conflicts.proofs.ApartPairSums.{all_in}

-- ---- two keys that clash, of states that aren't parted
one_holds : (a b : Bool) → (a ≡ true) ⊎ (b ≡ true) → 1 ≤ one_if a + one_if b
one_holds a b (inl is) = (let one = ap one_if is in omega (arith, one))
one_holds a b (inr is) = (let one = ap one_if is in omega (arith, one))

-- at one value of the new signal at least they are a conflict
apart_at : (x y : Key) → (x.code == y.code) ≡ true → clashes x y ≡ true → (c d : Class) → are_parted c d ≡ false
    → (are_apart (role_at false c, x) (role_at false d, y) ≡ true)
    ⊎ (are_apart (role_at true c, x) (role_at true d, y) ≡ true)
apart_at x y codes clash Low Low h = inl clash
apart_at x y codes clash Low Rising h = inl codes
apart_at x y codes clash Low High h = absurd (true≢false h)
apart_at x y codes clash Low Falling h = inl clash
apart_at x y codes clash Rising Low h = inl codes
apart_at x y codes clash Rising Rising h = inr clash
apart_at x y codes clash Rising High h = inr clash
apart_at x y codes clash Rising Falling h = inl codes
apart_at x y codes clash High Low h = absurd (true≢false h)
apart_at x y codes clash High Rising h = inr clash
apart_at x y codes clash High High h = inr clash
apart_at x y codes clash High Falling h = inr codes
apart_at x y codes clash Falling Low h = inl clash
apart_at x y codes clash Falling Rising h = inl codes
apart_at x y codes clash Falling High h = inr codes
apart_at x y codes clash Falling Falling h = inl clash

parted_back : (c d : Class) → are_parted c d ≡ are_parted d c
parted_back Low Low = refl
parted_back Low Rising = refl
parted_back Low High = refl
parted_back Low Falling = refl
parted_back Rising Low = refl
parted_back Rising Rising = refl
parted_back Rising High = refl
parted_back Rising Falling = refl
parted_back High Low = refl
parted_back High Rising = refl
parted_back High High = refl
parted_back High Falling = refl
parted_back Falling Low = refl
parted_back Falling Rising = refl
parted_back Falling High = refl
parted_back Falling Falling = refl

same_codes : (x y : Key) → clashes x y ≡ true → (x.code == y.code) ≡ true
same_codes x y clash = elim (cases_Bool (x.code == y.code)) [
  | inl is ↦ is
  | inr other ↦ absurd (true≢false (sym clash ∙ ap (λ b. b && not (x.excited == y.excited)) other))
]

-- ---- the pairs of a list with a weight, each as the pair of its states in order
abbrev place : ℕ → ℕ → ℕ × ℕ
place s t = cond (ltb s t) (s, t) (t, s)

place_up : (s t : ℕ) → s < t → place s t ≡ (s, t)
place_up s t less = ap (λ b. cond b (s, t) (t, s)) (lt-ltb s t less)

place_down : (s t : ℕ) → s < t → place t s ≡ (s, t)
place_down s t less = ap (λ b. cond b (t, s) (s, t)) (le-ltb t s (omega (arith, less)))

module _ (weight : Member → Member → ℕ) where
  abbrev row : Member → List Member → List (ℕ × ℕ)
  row x [] = []
  row x (y ∷ ys) = with_last (ltb 0 (weight x y)) (place x.state y.state) (row x ys)

  abbrev rows : List Member → List (ℕ × ℕ)
  rows [] = []
  rows (x ∷ xs) = row x xs ++ rows xs

  put_length : (n : ℕ) (pair : ℕ × ℕ) (pairs : List (ℕ × ℕ)) (b : Bool) → ltb 0 n ≡ b
      → length (with_last b pair pairs) ≤ n + length pairs
  put_length n pair pairs true is = elim (cases_lt 0 n) [
    | inl some ↦ omega (arith, some)
    | inr none ↦ absurd (true≢false (sym is ∙ le-ltb 0 n none))
  ]
  put_length n pair pairs false is = omega arith

  row_few : (x : Member) (ys : List Member) → length (row x ys) ≤ sum_by (weight x) ys
  row_few x [] = omega arith
  row_few x (y ∷ ys) =
      let here = put_length (weight x y) (place x.state y.state) (row x ys) (ltb 0 (weight x y)) refl in
      let rest = row_few x ys in
      omega (arith, here, rest, sum_by-cons (weight x) y ys)

  rows_few : (xs : List Member) → length (rows xs) ≤ pair_sum weight xs
  rows_few [] = omega arith
  rows_few (x ∷ xs) =
      let here = row_few x xs in
      let rest = rows_few xs in
      omega (arith, here, rest, length-append (row x xs) (rows xs))

  put_there : (pair : ℕ × ℕ) (pairs : List (ℕ × ℕ)) (b : Bool) → b ≡ true → In pair (with_last b pair pairs)
  put_there pair pairs true is = inl refl
  put_there pair pairs false is = absurd (true≢false (sym is))

  put_behind : (a pair : ℕ × ℕ) (pairs : List (ℕ × ℕ)) (b : Bool) → In a pairs → In a (with_last b pair pairs)
  put_behind a pair pairs true there = inr there
  put_behind a pair pairs false there = there

  in_row : (x y : Member) (ys : List Member) → In y ys → 0 < weight x y → In (place x.state y.state) (row x ys)
  in_row x y [] there some = absurd there
  in_row x y (z ∷ ys) (inl same) some =
      subst (λ (u : Member). In (place x.state y.state) (with_last (ltb 0 (weight x u)) (place x.state u.state)
      (row x ys))) same (put_there (place x.state y.state) (row x ys) (ltb 0 (weight x y)) (lt-ltb 0 (weight x y) some))
  in_row x y (z ∷ ys) (inr later) some =
      put_behind (place x.state y.state) (place x.state z.state) (row x ys) (ltb 0 (weight x z))
      (in_row x y ys later some)

  in_rows : (x y : Member) (ms : List Member) → In x ms → In y ms → x.state < y.state → 0 < weight x y
      → 0 < weight y x → In (x.state, y.state) (rows ms)
  in_rows x y [] there also order one other = absurd there
  in_rows x y (m ∷ ms) (inl same) (inl also) order one other =
      absurd (let states = ap (λ (u : Member). u.state) (same ∙ sym also) in omega (arith, order, states))
  in_rows x y (m ∷ ms) (inl same) (inr also) order one other =
      in_left (row m ms) (rows ms) (x.state, y.state)
      (subst (λ (u : Member). In (x.state, y.state) (row u ms)) same
      (subst (λ a. In a (row x ms)) (place_up x.state y.state order) (in_row x y ms also one)))
  in_rows x y (m ∷ ms) (inr there) (inl also) order one other =
      in_left (row m ms) (rows ms) (x.state, y.state)
      (subst (λ (u : Member). In (x.state, y.state) (row u ms)) also
      (subst (λ a. In a (row y ms)) (place_down x.state y.state order) (in_row y x ms there other)))
  in_rows x y (m ∷ ms) (inr there) (inr also) order one other =
      in_right (row m ms) (rows ms) (x.state, y.state) (in_rows x y ms there also order one other)

-- ---- states of one code are members
in_filter : (q : ℕ → Bool) (xs : List ℕ) (a : ℕ) → In a xs → q a ≡ true → In a (filter q xs)
in_filter q [] a there is = absurd there
in_filter q (x ∷ xs) a (inl same) is =
    subst (λ b. In a (cond b (x ∷ filter q xs) (filter q xs))) (sym (ap q (sym same) ∙ is)) (inl same)
in_filter q (x ∷ xs) a (inr later) is = elim (cases_Bool (q x)) [
  | inl kept ↦ subst (λ b. In a (cond b (x ∷ filter q xs) (filter q xs))) (sym kept)
      (inr (in_filter q xs a later is))
  | inr left_out ↦ subst (λ b. In a (cond b (x ∷ filter q xs) (filter q xs))) (sym left_out)
      (in_filter q xs a later is)
]

from_map : (ms : List Member) (s : ℕ) → In s (map (λ (m : Member). m.state) ms)
    → (m : Member) × In m ms × (m.state ≡ s)
from_map [] s there = absurd there
from_map (m ∷ ms) s (inl same) = (m, inl refl, sym same)
from_map (m ∷ ms) s (inr later) = (let found = from_map ms s later in (found.0, inr found.1, found.2))

module _ (c : CodedGraph) (chains : Chains) (are : AreChains c chains) where
  pub member_of : (s t : ℕ) → s < c.graph.states → t < c.graph.states → code c t ≡ code c s → t ≢ s
      → (m : Member) × In m chains.members × (m.state ≡ s)
  member_of s t s_in t_in same apart =
      from_map chains.members s (in_contains (map (λ (m : Member). m.state) chains.members) s
      (Contains-permutation (with_equals chains.next c.graph.states) (map (λ (m : Member). m.state) chains.members) s
      are.members_are.states (contains_from_in (with_equals chains.next c.graph.states) s
      (in_filter (has_equal chains.next) (range_with_len 0 c.graph.states) s
      (in_range 0 c.graph.states s (omega arith) (omega (arith, s_in))) has_other))))
    where
      has_other : has_equal chains.next s ≡ true
      has_other = elim (cases_Bool (slice_index chains.next s == s)) [
        | inl own ↦ absurd (apart (alone c s t
            (subst (IsNextInRing c s) (eqb-true (slice_index chains.next s) s own) (are.rings.each s s_in)) t_in same))
        | inr other ↦ ap not other
      ]

-- ---- the conflicts that stay
module _ (c : CodedGraph) (is : IsCoded c) (classes : List Class) (chains : Chains) (are : AreChains c chains) where
  weighs : (x y : Member) → clashes x.key y.key ≡ true
      → are_parted (class_of classes x.state) (class_of classes y.state) ≡ false → 0 < stable_count classes x y
  weighs x y clash together =
      let one = one_holds _ _ (apart_at x.key y.key (same_codes x.key y.key clash) clash (class_of classes x.state)
      (class_of classes y.state) together) in
      omega (arith, one)

  stays_in : (pair : ℕ × ℕ) → IsConflict c pair → stays classes pair ≡ true
      → In pair (rows (stable_count classes) chains.members)
  stays_in pair conflict stay =
      let order = conflict.order in
      let first = member_of c chains are pair.0 pair.1 (omega (arith, order, conflict.within)) conflict.within
      (sym conflict.same_code) (λ same. omega (arith, order, same)) in
      let second = member_of c chains are pair.1 pair.0 conflict.within (omega (arith, order, conflict.within))
      conflict.same_code (λ same. omega (arith, order, same)) in
      at first.0 second.0 first.1 second.1 first.2 second.2
    where
      key_of : (m : Member) → In m chains.members → IsKey c m.state m.key
      key_of m there = all_in (λ (x : Member). IsKey c x.state x.key) chains.members m are.members_are.keys there

      at : (x y : Member) → In x chains.members → In y chains.members → x.state ≡ pair.0 → y.state ≡ pair.1
          → In pair (rows (stable_count classes) chains.members)
      at x y x_in y_in x_is y_is =
          let same : (x.state, y.state) ≡ pair = (λ i. (x_is i, y_is i)) in
          let clash = conflict_clash c is.values x.state y.state x.key y.key (key_of x x_in) (key_of y y_in)
          (subst (IsConflict c) (sym same) conflict) in
          let together : are_parted (class_of classes x.state) (class_of classes y.state) ≡ false =
          not_parted _ (ap (stays classes) same ∙ stay) in
          subst (λ a. In a (rows (stable_count classes) chains.members)) same
          (in_rows (stable_count classes) x y chains.members x_in y_in (omega (arith, conflict.order, x_is, y_is))
          (weighs x y clash together)
          (weighs y x (clash_back y.key x.key ∙ clash) (parted_back _ _ ∙ together)))
        where
          not_parted : (b : Bool) → not b ≡ true → b ≡ false
          not_parted true h = absurd (true≢false (sym h))
          not_parted false h = refl

  from_filter : (q : ℕ × ℕ → Bool) (pairs : List (ℕ × ℕ)) (a : ℕ × ℕ) → In a (filter q pairs)
      → In a pairs × (q a ≡ true)
  from_filter q [] a there = absurd there
  from_filter q (x ∷ pairs) a there = elim (cases_Bool (q x)) [
    | inl kept ↦ here kept (λ later. from_filter q pairs a later)
        (subst (λ b. In a (cond b (x ∷ filter q pairs) (filter q pairs))) kept there)
    | inr out ↦ (
        let found = from_filter q pairs a
        (subst (λ b. In a (cond b (x ∷ filter q pairs) (filter q pairs))) out there) in (inr found.0, found.1))
  ]
    where
      here : q x ≡ true → (In a (filter q pairs) → In a pairs × (q a ≡ true)) → In a (x ∷ filter q pairs)
          → In a (x ∷ pairs) × (q a ≡ true)
      here kept rest (inl same) = (inl same, ap q same ∙ kept)
      here kept rest (inr later) = (let found = rest later in (inr found.0, found.1))

  once_filter : (q : ℕ × ℕ → Bool) (pairs : List (ℕ × ℕ)) → Once pairs → Once (filter q pairs)
  once_filter q [] once = tt
  once_filter q (x ∷ pairs) once = elim (cases_Bool (q x)) [
    | inl kept ↦ subst (λ b. Once (cond b (x ∷ filter q pairs) (filter q pairs))) (sym kept)
        ((λ there. once.0 (from_filter q pairs x there).0), once_filter q pairs once.1)
    | inr out ↦ subst (λ b. Once (cond b (x ∷ filter q pairs) (filter q pairs))) (sym out)
        (once_filter q pairs once.1)
  ]

  -- at least as many are left as of some conflicts, each once, stay
  pub stay_left : (pairs : List (ℕ × ℕ)) → ((pair : ℕ × ℕ) → Contains pairs pair → IsConflict c pair)
      → InOrder pair_place pairs → IsLawful c.graph classes → (n : ℕ) → LeavesConflicts c classes n
      → length (filter (stays classes) pairs) ≤ n
  stay_left pairs each order lawful n left =
      let few : length (filter (stays classes) pairs) ≤ length (rows (stable_count classes) chains.members) =
      at_most (filter (stays classes) pairs) (rows (stable_count classes) chains.members)
      (once_filter (stays classes) pairs (once_in_order pair_place pairs order))
      (λ pair there. (let found = from_filter (stays classes) pairs pair there in
      stays_in pair (each pair (contains_from_in pairs pair found.0)) found.1)) in
      let sum = rows_few (stable_count classes) chains.members in
      at_least c is classes lawful chains.next chains.members (length (filter (stays classes) pairs)) n
      are.rings are.members_are (omega (arith, few, sum)) left
