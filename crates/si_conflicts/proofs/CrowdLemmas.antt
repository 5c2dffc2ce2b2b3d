-- Codes that many states share: their states are counted, and as many conflicts stay where the new signal rises at one
-- of them and falls at another.
use Rattle.std.proofs.Common.{◌≡◌, ℕ, ◌+◌, ◌<◌, ◌≤◌, ◌==◌, ◌&&◌, ◌⊎◌, Bool, true, false, cond, List, [], ◌∷◌, ◌++◌}
use Rattle.std.proofs.Common.{All, length, map, filter, take, get_or, Contains, refl, sym, ap, ap₂, subst, ◌∙◌}
use Rattle.std.proofs.Common.{arith, inl, inr}
use Rattle.std.proofs.lemmas.Bool.{cases_Bool}
use Rattle.std.proofs.lemmas.List.{append-nil, map-append}
use Rattle.std.proofs.lemmas.List.Elements.{All-filter, All-map, filter_more}
use Rattle.std.proofs.lemmas.List.Sums.{sum_by-cons, sum_by-le-sum_by}
use Rattle.std.specs.List.{sum_by}
use Rattle.si_base.specs.Codes.{CodedGraph, IsCoded}
use Rattle.si_base.specs.Sets.{IsIn}
use Rattle.si_base.proofs.OrderLemmas.{in_contains}
use Rattle.si_base.proofs.OrderAscending.{In}
use Rattle.si_base.proofs.GivenGraphUnique.{contains_from_in}
use Rattle.si_base.proofs.Booleans.{one_if}
use Rattle.si_insert.specs.declared.partition.Class.{Class}
use Rattle.si_insert.specs.declared.partition.Class.TheVariants.{Low, Rising, High, Falling}
use Rattle.si_insert.specs.Partition.{class_of, IsLawful}
use Rattle.si_conflicts.specs.declared.crowds.Crowd.{Crowd}
use Rattle.si_conflicts.specs.declared.crowds.Crowded.{Crowded}
use Rattle.si_conflicts.specs.declared.keys.Key.{Key}
use Rattle.si_conflicts.specs.declared.members.Member.{Member}
use Rattle.si_conflicts.specs.declared.tally.Role.{Role}
use Rattle.si_conflicts.specs.declared.tally.Role.TheVariants.{Absent, Plain, Switching}
use Rattle.si_conflicts.specs.Loops.Apart.{are_apart, pair_sum, role_at, stable_count}
use Rattle.si_conflicts.specs.Loops.Chains.{AreChains, Chains}
use Rattle.si_conflicts.specs.Loops.Crowds.{HasOfCrowd, code_count, crowd_of, crowded_of, is_crowded}
use Rattle.si_conflicts.specs.Left.{LeavesConflicts}
use Rattle.si_conflicts.proofs.ApartConflicts.{clashes_itself, itself}
use Rattle.si_conflicts.proofs.ApartPairSums.{sum_two}
use Rattle.si_conflicts.proofs.CountLemmas.{clash_back, eq_back}
use Rattle.si_conflicts.proofs.LeftCount.{at_least}

-- ---- the pairs with two elements of a list
module _ {A : Type 0} where
  sum_one : (f : A → ℕ) (x : A) (xs : List A) → In x xs → f x ≤ sum_by f xs
  sum_one f x [] there = absurd there
  sum_one f x (y ∷ ys) (inl same) = (let here = ap f same in omega (arith, here, sum_by-cons f y ys))
  sum_one f x (y ∷ ys) (inr later) = (let rest = sum_one f x ys later in omega (arith, rest, sum_by-cons f y ys))

  sum_both : (f : A → ℕ) (x y : A) (xs : List A) → In x xs → In y xs → (x ≡ y → ⊥) → f x + f y ≤ sum_by f xs
  sum_both f x y [] there also apart = absurd there
  sum_both f x y (z ∷ zs) (inl one) (inl other) apart = absurd (apart (one ∙ sym other))
  sum_both f x y (z ∷ zs) (inl one) (inr later) apart =
      let here = ap f one in
      let rest = sum_one f y zs later in
      omega (arith, here, rest, sum_by-cons f z zs)
  sum_both f x y (z ∷ zs) (inr later) (inl other) apart =
      let here = ap f other in
      let rest = sum_one f x zs later in
      omega (arith, here, rest, sum_by-cons f z zs)
  sum_both f x y (z ∷ zs) (inr one) (inr other) apart =
      let rest = sum_both f x y zs one other apart in
      omega (arith, rest, sum_by-cons f z zs)

  module _ (d : A → A → ℕ) (back : (x y : A) → d x y ≡ d y x) (none : (x : A) → d x x ≡ 0) where
    pairs_with : (x : A) (xs : List A) → In x xs → sum_by (d x) xs ≤ pair_sum d xs
    pairs_with x [] there = absurd there
    pairs_with x (y ∷ ys) (inl same) =
        let own = none x in
        let here = ap (d x) same in
        let row = ap (λ u. sum_by (d u) ys) same in
        omega (arith, own, here, row, sum_by-cons (d x) y ys)
    pairs_with x (y ∷ ys) (inr later) =
        let rest = pairs_with x ys later in
        let one = sum_one (d y) x ys later in
        let turned = back x y in
        omega (arith, rest, one, turned, sum_by-cons (d x) y ys)

    -- the pair of the two is counted with each of them
    pairs_with_both : (x y : A) (xs : List A) → In x xs → In y xs → (x ≡ y → ⊥)
        → sum_by (d x) xs + sum_by (d y) xs ≤ pair_sum d xs + d x y
    pairs_with_both x y [] there also apart = absurd there
    pairs_with_both x y (z ∷ zs) (inl one) (inl other) apart = absurd (apart (one ∙ sym other))
    pairs_with_both x y (z ∷ zs) (inl one) (inr later) apart =
        let own = none x ∙ sym (none y) in
        let here = ap (d x) one in
        let there = ap (d y) one in
        let row = ap (λ u. sum_by (d u) zs) one in
        let rest = pairs_with y zs later in
        let turned = back x y in
        omega (arith, none x, here, there, row, rest, turned, sum_by-cons (d x) z zs, sum_by-cons (d y) z zs)
    pairs_with_both x y (z ∷ zs) (inr later) (inl other) apart =
        let here = ap (d y) other in
        let there = ap (d x) other in
        let row = ap (λ u. sum_by (d u) zs) other in
        let rest = pairs_with x zs later in
        omega (arith, none y, here, there, row, rest, sum_by-cons (d x) z zs, sum_by-cons (d y) z zs)
    pairs_with_both x y (z ∷ zs) (inr one) (inr other) apart =
        let rest = pairs_with_both x y zs one other apart in
        let both = sum_both (d z) x y zs one other apart in
        let one_turned = back x z in
        let other_turned = back y z in
        omega (arith, rest, both, one_turned, other_turned, sum_by-cons (d x) z zs, sum_by-cons (d y) z zs)

-- ---- what a Rising and a Falling state of one code leave
-- at how many values copies of states with those classes are a conflict
abbrev weight : Class → Class → Key → Key → ℕ
weight c d x y =
    one_if (are_apart (role_at false c, x) (role_at false d, y))
    + one_if (are_apart (role_at true c, x) (role_at true d, y))

apart_back : (r s : Role) (x y : Key) → are_apart (r, x) (s, y) ≡ are_apart (s, y) (r, x)
apart_back Absent Absent x y = refl
apart_back Absent Plain x y = refl
apart_back Absent Switching x y = refl
apart_back Plain Absent x y = refl
apart_back Plain Plain x y = clash_back x y
apart_back Plain Switching x y = eq_back x.code y.code
apart_back Switching Absent x y = refl
apart_back Switching Plain x y = eq_back x.code y.code
apart_back Switching Switching x y = refl

apart_itself : (r : Role) (x : Key) → are_apart (r, x) (r, x) ≡ false
apart_itself Absent x = refl
apart_itself Plain x = clashes_itself x
apart_itself Switching x = refl

weight_back : (c d : Class) (x y : Key) → weight c d x y ≡ weight d c y x
weight_back c d x y = ap₂ (λ a b. one_if a + one_if b) (apart_back (role_at false c) (role_at false d) x y)
    (apart_back (role_at true c) (role_at true d) x y)

weight_itself : (c : Class) (x : Key) → weight c c x x ≡ 0
weight_itself c x =
    ap₂ (λ a b. one_if a + one_if b) (apart_itself (role_at false c) x) (apart_itself (role_at true c) x)

abbrev switches : Class → Bool
switches Low = false
switches Rising = true
switches High = false
switches Falling = true

-- each state of the code is a conflict with one of the two, and twice where it is Rising or Falling
weight_of_both : (d : Class) (r f x : Key) → (r.code == x.code) ≡ true → (f.code == x.code) ≡ true
    → 1 + one_if (switches d) ≤ weight Rising d r x + weight Falling d f x
weight_of_both Low r f x one other = (let here = ap one_if one in omega (arith, here))
weight_of_both Rising r f x one other = (let here = ap one_if other in omega (arith, here))
weight_of_both High r f x one other = (let here = ap one_if other in omega (arith, here))
weight_of_both Falling r f x one other = (let here = ap one_if one in omega (arith, here))

weight_at_code : (d : Class) (r f x : Key) → f.code ≡ r.code → (b : Bool) → (r.code == x.code) ≡ b
    → one_if b + one_if (b && switches d) ≤ weight Rising d r x + weight Falling d f x
weight_at_code d r f x same true is = weight_of_both d r f x is (ap (λ n. n == x.code) same ∙ is)
weight_at_code d r f x same false is = omega arith

module _ (classes : List Class) (ms : List Member) (r f : Member) (r_in : In r ms) (f_in : In f ms)
    (same : f.key.code ≡ r.key.code) (rises : class_of classes r.state ≡ Rising)
    (falls : class_of classes f.state ≡ Falling) where
  abbrev class : Member → Class
  class m = class_of classes m.state

  abbrev is_of_code : Member → Bool
  is_of_code m = r.key.code == m.key.code

  abbrev of_code : Member → ℕ
  of_code m = one_if (is_of_code m)

  abbrev switching : Member → ℕ
  switching m = one_if (is_of_code m && switches (class m))

  each : (m : Member) → of_code m + switching m ≤ stable_count classes r m + stable_count classes f m
  each m =
      subst (λ c. of_code m + switching m ≤ weight c (class m) r.key m.key + stable_count classes f m) (sym rises)
      (subst (λ c. of_code m + switching m ≤ weight Rising (class m) r.key m.key + weight c (class m) f.key m.key)
      (sym falls) (weight_at_code (class m) r.key f.key m.key same (is_of_code m) refl))

  not_one : r ≡ f → ⊥
  not_one one = absurd (let turned : Rising ≡ Falling = sym rises ∙ ap class one ∙ falls in cc)

  r_switches : switching r ≡ 1
  r_switches = ap₂ (λ a c. one_if (a && switches c)) (itself r.key.code) rises

  f_switches : switching f ≡ 1
  f_switches = ap₂ (λ a c. one_if (a && switches c)) (ap (λ n. r.key.code == n) same ∙ itself r.key.code) falls

  two_of_them : stable_count classes r f ≡ 2
  two_of_them = ap₂ (λ c d. weight c d r.key f.key) rises falls ∙ ap (λ b. one_if b + one_if b)
      (ap (λ n. r.key.code == n) same ∙ itself r.key.code)

  pub crowd_sum : code_count ms r.key.code ≤ pair_sum (stable_count classes) ms
  crowd_sum =
      let weigh_all = sum_by-le-sum_by (λ m. of_code m + switching m)
      (λ m. stable_count classes r m + stable_count classes f m) ms each in
      let parts = sum_two of_code switching ms in
      let rows = sum_two (stable_count classes r) (stable_count classes f) ms in
      let two = sum_both switching r f ms r_in f_in not_one in
      let pairs = pairs_with_both (stable_count classes) (λ x y. weight_back (class x) (class y) x.key y.key)
      (λ x. weight_itself (class x) x.key) r f ms r_in f_in not_one in
      omega (arith, weigh_all, parts, rows, two, pairs, r_switches, f_switches, two_of_them)

pub crowd_is_left : (c : CodedGraph) (chains : Chains) (classes : List Class) (r f : Member) (n : ℕ)
    → IsCoded c → AreChains c chains → IsLawful c.graph classes
    → Contains chains.members r → Contains chains.members f → f.key.code ≡ r.key.code
    → class_of classes r.state ≡ Rising → class_of classes f.state ≡ Falling
    → LeavesConflicts c classes n → code_count chains.members r.key.code ≤ n
crowd_is_left c chains classes r f n is are lawful r_in f_in same rises falls left =
    at_least c is classes lawful chains.next chains.members (code_count chains.members r.key.code) n
    are.rings are.members_are
    (crowd_sum classes chains.members r f (in_contains chains.members r r_in) (in_contains chains.members f f_in)
    same rises falls)
    left

-- ---- the members that are in crowds
abbrev pub in_crowd : List Member → Member → Crowded
in_crowd members m = record { state = m.state; crowd = crowd_of members m }

abbrev pub crowded_from : (members : List Member) (least : ℕ) → List Member → List Crowded
crowded_from members least ms = map (in_crowd members) (filter (is_crowded members least) ms)

more_at : (members : List Member) (least i : ℕ) (m : Member) → i < length members → m ≡ get_or members i m → (b : Bool)
    → is_crowded members least m ≡ b
    → filter (is_crowded members least) (take (i + 1) members)
    ≡ filter (is_crowded members least) (take i members) ++ cond b (m ∷ []) []
more_at members least i m inside at b is =
    filter_more (is_crowded members least) members i m inside
    ∙ ap (λ (x : Member). so_far ++ cond (is_crowded members least x) (x ∷ []) []) (sym at)
    ∙ ap (λ w. so_far ++ cond w (m ∷ []) []) is
  where
    so_far : List Member
    so_far = filter (is_crowded members least) (take i members)

pub crowded_kept : (members : List Member) (least i : ℕ) (m : Member) (xs : List Crowded) (x : Crowded)
    → i < length members → m ≡ get_or members i m → xs ≡ crowded_from members least (take i members)
    → x ≡ in_crowd members m → is_crowded members least m ≡ true
    → xs ++ x ∷ [] ≡ crowded_from members least (take (i + 1) members)
crowded_kept members least i m xs x inside at before is kept =
    ap₂ (λ ys y. ys ++ y ∷ []) before is
    ∙ sym (map-append (in_crowd members) (filter (is_crowded members least) (take i members)) (m ∷ []))
    ∙ ap (map (in_crowd members)) (sym (more_at members least i m inside at true kept))

pub crowded_passed : (members : List Member) (least i : ℕ) (m : Member) (xs : List Crowded)
    → i < length members → m ≡ get_or members i m → xs ≡ crowded_from members least (take i members)
    → is_crowded members least m ≡ false
    → xs ≡ crowded_from members least (take (i + 1) members)
crowded_passed members least i m xs inside at before passed =
    before
    ∙ ap (map (in_crowd members)) (sym (append-nil (filter (is_crowded members least) (take i members)))
    ∙ sym (more_at members least i m inside at false passed))

-- ---- what a crowded state tells
pub crowded_within : (members : List Member) (least states : ℕ) → All (λ m. m.state < states) members
    → All (λ x. x.state < states) (crowded_of members least)
crowded_within members least states within =
    All-map (λ x. x.state < states) (in_crowd members) (filter (is_crowded members least) members)
    (All-filter (is_crowded members least) (λ m. m.state < states) members within)

from_crowded : (members : List Member) (least : ℕ) (x : Crowded) (ms : List Member)
    → In x (crowded_from members least ms) → (m : Member) × In m ms × (x ≡ in_crowd members m)
from_crowded members least x [] there = absurd there
from_crowded members least x (m ∷ ms) there = elim (cases_Bool (is_crowded members least m)) [
  | inl kept ↦ first (from_crowded members least x ms) (subst Among kept there)
  | inr passed ↦ behind (from_crowded members least x ms (subst Among passed there))
]
  where
    Among : Bool → Type 0
    Among b = In x (map (in_crowd members) (cond b (m ∷ filter (is_crowded members least) ms)
        (filter (is_crowded members least) ms)))

    Found : List Member → Type 0
    Found xs = (n : Member) × In n xs × (x ≡ in_crowd members n)

    behind : Found ms → Found (m ∷ ms)
    behind found = (found.0, inr found.1, found.2)

    first : (In x (crowded_from members least ms) → Found ms)
        → (x ≡ in_crowd members m) ⊎ In x (crowded_from members least ms) → Found (m ∷ ms)
    first rest (inl same) = (m, inl refl, same)
    first rest (inr later) = behind (rest later)

pub has_of_crowd : (members : List Member) (least : ℕ) (set : List Bool) (crowded : List Crowded) (crowd : Crowd)
    → crowded ≡ crowded_of members least
    → (x : Crowded) × Contains crowded x × IsIn set x.state × (crowd ≡ x.crowd) → HasOfCrowd members set crowd
has_of_crowd members least set crowded crowd are (x, there, inside, is) =
    let found = from_crowded members least x members (in_contains (crowded_of members least) x
    (subst (λ xs. Contains xs x) are there)) in
    record {
      member = found.0;
      there = contains_from_in members found.0 found.1;
      inside = subst (IsIn set) (ap (λ (y : Crowded). y.state) found.2) inside;
      is = is ∙ ap (λ (y : Crowded). y.crowd) found.2;
    }
