-- The codes at which a value is 1 and those at which it is 0, and the sum that is chosen for them.
use Rattle.std.proofs.Common.{◌≡◌, ◌≢◌, ℕ, zero, suc, ◌+◌, ◌-◌, ◌*◌, ◌%◌, ◌<◌, ◌≤◌, ◌^◌, ◌==◌, not, Bool, true, false}
use Rattle.std.proofs.Common.{List, [], ◌∷◌, ◌++◌, length, filter, get_or, All, Contains, refl, sym, ap, subst, ◌∙◌}
use Rattle.std.proofs.Common.{inl, inr, arith}
use Rattle.std.specs.List.Sorted.{IsNonDecreasing}
use Rattle.std.proofs.lemmas.Bool.{cases_Bool, cases_lt, true≢false, not-true, eqb-true, eqb-false}
use Rattle.std.proofs.lemmas.List.{append-nil, get_or_default}
use Rattle.std.proofs.lemmas.List.Elements.{All-nil, All-push, All-weaker, All-filter, All-contains, filter_passes}
use Rattle.std.proofs.lemmas.List.Kept.{IsNonDecreasingBy-filter}
use Rattle.std.proofs.lemmas.List.Sorted.{IsNonDecreasingBy-push}
use Rattle.std.proofs.lemmas.Nat.{pow_below}
use Rattle.std.proofs.lemmas.Nat.Bits.{bit_at_cat_low}
use mathlib.Core.Bool.{beq}
use Rattle.si_base.specs.declared.ids.Literal.{Literal}
use Rattle.si_base.specs.Bits.{bit}
use Rattle.si_base.specs.Netlist.{Sum, literal_value, sum_value}
use Rattle.si_base.specs.WellFormed.{IsCube, IsSum}
use Rattle.si_base.proofs.OrderAscending.{In}
use Rattle.si_base.proofs.StepCodes.{no_bit}
use Rattle.si_base.proofs.OrderLemmas.{in_contains}
use Rattle.si_base.proofs.GivenGraphUnique.{contains_from_in}
use Rattle.si_cube.specs.Covers.{IsMeetable, IsPrimeCover, without}
use Rattle.si_cube.specs.Rule.{covers}
use Rattle.si_cube.proofs.NeededLemmas.{in_left, in_right, all_in, all_from_in, in_kept}
use Rattle.si_cube.proofs.NeededLemmas.{any_from_in}
use Rattle.si_cube.proofs.RuleLemmas.{chosen_is_prime_cover}
use Rattle.si_cube.proofs.SumLemmas.{chosen_is_sum}
use Rattle.si_genlib.specs.Gate.{below, falls_at, falls, demand, sum_of}
use Rattle.si_genlib.proofs.ValueLemmas.{any_below, filter_push, shifted, double}

-- ---- the numbers below one
pub below_small : (n : ℕ) → All (λ k. k < n) (below n)
below_small zero = All-nil (λ k. k < 0)
below_small (suc n) = All-push (λ k. k < suc n) (below n) n
    (All-weaker (λ k. k < n) (λ k. k < suc n) (λ k less. omega (arith, less)) (below n) (below_small n)) (omega arith)

below_rises : (n : ℕ) → IsNonDecreasing (below n)
below_rises zero = λ i j d order within. absurd (omega (arith, within))
below_rises (suc n) = IsNonDecreasingBy-push (λ k. k) (below n) n (below_rises n)
    (λ d some. (let last = below_small n (length (below n) - 1) d (omega (arith, some)) in omega (arith, last)))

in_below : (n k : ℕ) → k < n → In k (below n)
in_below zero k less = absurd (omega (arith, less))
in_below (suc n) k less = elim (cases_lt k n) [
  | inl before ↦ in_left (below n) (n ∷ []) k (in_below n k before)
  | inr last ↦ in_right (below n) (n ∷ []) k (inl (omega (arith, less, last)))
]

-- ---- what a test keeps

in_from_filter : {A : Type 0} (p : A → Bool) (xs : List A) (x : A) → In x (filter p xs) → In x xs
in_from_filter p [] x here = here
in_from_filter {A} p (y ∷ xs) x here = elim (cases_Bool (p y)) [
  | inl keeps ↦ by_place (rw keeps at here) (in_from_filter p xs x)
  | inr drops ↦ inr (in_from_filter p xs x (rw drops at here))
]
  where
    by_place : In x (y ∷ filter p xs) → (In x (filter p xs) → In x xs) → In x (y ∷ xs)
    by_place (inl same) rest = inl same
    by_place (inr later) rest = inr (rest later)

kept_from : (p : ℕ → Bool) (n k : ℕ) → k < n → p k ≡ true → Contains (filter p (below n)) k
kept_from p n k less holds = contains_from_in (filter p (below n)) k (in_kept p (below n) k (in_below n k less) holds)

kept_tells : (p : ℕ → Bool) (n k : ℕ) → Contains (filter p (below n)) k → p k ≡ true
kept_tells p n k there = All-contains (λ j. p j ≡ true) (filter p (below n)) k (filter_passes p (below n)) there

-- ---- what is asked of the codes
pub required_fit : (bits : ℕ) (value : ℕ → Bool) → All (λ k. k < 2 ^ bits) (demand bits value).required
required_fit bits value = All-filter value (λ k. k < 2 ^ bits) (below (2 ^ bits)) (below_small (2 ^ bits))

pub forbidden_fit : (bits : ℕ) (value : ℕ → Bool) → All (λ k. k < 2 ^ bits) (demand bits value).forbidden
forbidden_fit bits value = All-filter (λ code. not (value code)) (λ k. k < 2 ^ bits) (below (2 ^ bits))
    (below_small (2 ^ bits))

pub forbidden_rises : (bits : ℕ) (value : ℕ → Bool) → IsNonDecreasing (demand bits value).forbidden
forbidden_rises bits value =
    IsNonDecreasingBy-filter (λ k. k) (λ code. not (value code)) (below (2 ^ bits)) (below_rises (2 ^ bits))

pub can_be_met : (bits : ℕ) (value : ℕ → Bool) → IsMeetable (demand bits value)
can_be_met bits value k required forbidden = true≢false (sym (kept_tells value (2 ^ bits) k required)
    ∙ not-true (value k) (kept_tells (λ code. not (value code)) (2 ^ bits) k forbidden))

-- ---- the sum
pub prime_cover : (bits : ℕ) (value : ℕ → Bool) → IsPrimeCover (demand bits value) (sum_of bits value)
unfolding sum_of
prime_cover bits value = chosen_is_prime_cover bits (demand bits value) (required_fit bits value)
    (forbidden_fit bits value)
    (can_be_met bits value)

pub sum_well_formed : (bits : ℕ) (value : ℕ → Bool) → IsSum bits (sum_of bits value)
unfolding sum_of
sum_well_formed bits value = chosen_is_sum bits (demand bits value)

-- the sum has the value for which it is chosen
pub same_value : (bits : ℕ) (value : ℕ → Bool) (code : ℕ) → code < 2 ^ bits → sum_value code (sum_of bits value)
    ≡ value code
same_value bits value code less = elim (cases_Bool (value code)) [
  | inl one ↦ (prime_cover bits value).cover.covers code (kept_from value (2 ^ bits) code less one) ∙ sym one
  | inr none ↦ (prime_cover bits value).cover.avoids code
      (kept_from (λ c. not (value c)) (2 ^ bits) code less (ap not none)) ∙ sym none
]

-- ---- the literals of the own output
one_literal : (n : ℕ) (cube : List Literal) (l m : Literal) → IsCube n cube → Contains cube l → Contains cube m
    → m.sig ≡ l.sig → l ≡ m
one_literal n cube l m is one other same = elim (cases_lt one.0 other.0) [
  | inl before ↦ (
      let less = is.rising one.0 other.0 l before other.1 in
      let first : get_or cube one.0 l ≡ l = one.2 in
      let second : get_or cube other.0 l ≡ m = get_or_default cube other.0 l m other.1 ∙ other.2 in
      let apart : l.sig < m.sig = rw (first, second) at less in
      absurd (omega (arith, apart, same)))
  | inr rest ↦ elim (cases_lt other.0 one.0) [
    | inl before ↦ (
        let less = is.rising other.0 one.0 l before one.1 in
        let first : get_or cube one.0 l ≡ l = one.2 in
        let second : get_or cube other.0 l ≡ m = get_or_default cube other.0 l m (omega (arith, before, one.1))
        ∙ other.2 in
        let apart : m.sig < l.sig = rw (second, first) at less in
        absurd (omega (arith, apart, same)))
    | inr back ↦ (
        let place : one.0 ≡ other.0 = omega (arith, rest, back) in
        let first : get_or cube one.0 l ≡ l = one.2 in
        let second : get_or cube other.0 l ≡ m = get_or_default cube other.0 l m other.1 ∙ other.2 in
        sym first ∙ ap (λ (i : ℕ). get_or cube i l) place ∙ second)
  ]
]

-- a cube covers a code where it does without a literal, and the literal is true there
with_literal : (n : ℕ) (cube : List Literal) (l : Literal) (k : ℕ) → IsCube n cube → In l cube
    → covers (without l.sig cube) k ≡ true → literal_value k l ≡ true → covers cube k ≡ true
with_literal n cube l k is has others holds = all_from_in (literal_value k) cube (λ m here.
    elim (cases_Bool (m.sig == l.sig)) [
      | inl same ↦ (
          let one : l ≡ m = one_literal n cube l m is (contains_from_in cube l has) (contains_from_in cube m here)
          (eqb-true m.sig l.sig same) in
          subst (λ (x : Literal). literal_value k x ≡ true) one holds)
      | inr apart ↦ all_in (literal_value k) (without l.sig cube) others m
          (in_kept (λ x. not (x.sig == l.sig)) cube m here (ap not apart))
    ])

-- without its literal of the last signal a cube covers a code alike at both values of that signal
either_last : (n k : ℕ) (cube : List Literal) → IsCube (n + 1) cube → covers (without n cube) (1 * 2 ^ n + k) ≡ true
    → covers (without n cube) k ≡ true
either_last n k cube is all = all_from_in (literal_value k) (without n cube) (λ m here. (
    let inside : In m cube = in_from_filter (λ x. not (x.sig == n)) cube m here in
    let apart : not (m.sig == n) ≡ true = filter_holds m here in
    let there : m.sig < n + 1 = All-contains (λ (l : Literal). l.sig < n + 1) cube m is.there
    (contains_from_in cube m inside) in
    let small : m.sig < n = by_test m.sig there (not-true (m.sig == n) apart) in
    let same : bit (1 * 2 ^ n + k) m.sig ≡ bit k m.sig = ap (λ (b : ℕ). b == 1) (bit_at_cat_low 1 n k m.sig small) in
    ap (λ (b : Bool). beq b m.plain) (sym same) ∙ all_in (literal_value (1 * 2 ^ n + k)) (without n cube) all m here))
  where
    filter_holds : (m : Literal) → In m (without n cube) → not (m.sig == n) ≡ true
    filter_holds m here = All-contains (λ x. not (x.sig == n) ≡ true) (without n cube) m
        (filter_passes (λ x. not (x.sig == n)) cube) (contains_from_in (without n cube) m here)

    by_test : (s : ℕ) → s < n + 1 → (s == n) ≡ false → s < n
    by_test s less apart = let other : s ≢ n = eqb-false s n apart in omega (arith, less, other)

-- what holds of a code where a complemented literal of the own output is needed
record IsLow (n : ℕ) (value : ℕ → Bool) (j : ℕ) : Type 0 where
  small : j < 2 ^ n
  low : value j ≡ true
  high : value (j + 2 ^ n) ≡ false

low_falls : (n : ℕ) (value : ℕ → Bool) (j : ℕ) → IsLow n value j → falls n value ≡ true
low_falls n value j is = any_below (falls_at n value) (2 ^ n) j is.small (rw (is.low, is.high) refl)

-- a gate that doesn't fall with its own output has that output plain
pub plain_own : (n : ℕ) (value : ℕ → Bool) → falls n value ≡ false → (cube : List Literal) (l : Literal)
    → Contains (sum_of (n + 1) value) cube → Contains cube l → l.sig ≡ n → l.plain ≡ true
plain_own n value rises cube l there has at = elim (cases_Bool l.plain) [
  | inl plain ↦ plain
  | inr complemented ↦ absurd (never complemented)
]
  where
    sum : Sum
    sum = sum_of (n + 1) value

    is : IsCube (n + 1) cube
    is = All-contains (IsCube (n + 1)) sum cube (sum_well_formed (n + 1) value) there

    covered : (k : ℕ) → k < 2 ^ (n + 1) → covers (without l.sig cube) k ≡ true → literal_value k l ≡ true → value k
        ≡ true
    covered k fits others holds = sym (same_value (n + 1) value k fits)
        ∙ any_from_in (λ c. covers c k) sum cube (in_contains sum cube there)
        (with_literal (n + 1) cube l k is (in_contains cube l has) others holds)

    -- at a forbidden code that the cube covers without the literal
    at_code : l.plain ≡ false → (k : ℕ) → k < 2 ^ (n + 1) → value k ≡ false → covers (without l.sig cube) k ≡ true → ⊥
    at_code complemented k fits none others = elim (cases_Bool (bit k n)) [
      | inr low ↦ (
          let holds : literal_value k l ≡ true = rw (at, low, complemented) refl in
          true≢false (sym (covered k fits others holds) ∙ none))
      | inl high ↦ elim (cases_lt k (2 ^ n)) [
        | inl below ↦ true≢false (sym high ∙ no_bit k n n below (omega arith))
        | inr above ↦ (
            let j : ℕ = k - 2 ^ n in
            let twice = double n in
            let small : j < 2 ^ n = omega (arith, fits, twice) in
            let whole : k ≡ 1 * 2 ^ n + j = omega (arith, above) in
            let without_it : covers (without n cube) (1 * 2 ^ n + j) ≡ true = rw at at (subst (λ (x : ℕ).
            covers (without l.sig cube) x ≡ true) whole others) in
            let below_it : covers (without l.sig cube) j ≡ true = rw at (either_last n j cube is without_it) in
            let low : bit j n ≡ false = no_bit j n n small (omega arith) in
            let holds : literal_value j l ≡ true = rw (at, low, complemented) refl in
            let sum_is : j + 2 ^ n ≡ k = omega (arith, above) in
            true≢false (sym (low_falls n value j (record {
              small = small;
              low = covered j (omega (arith, small, twice)) below_it holds;
              high = ap value sum_is ∙ none;
            })) ∙ rises))
      ]
    ]

    never : l.plain ≡ false → ⊥
    never complemented =
        let found = (prime_cover (n + 1) value).prime cube l there has in
        at_code complemented found.0
        (All-contains (λ k. k < 2 ^ (n + 1)) (demand (n + 1) value).forbidden found.0
        (forbidden_fit (n + 1) value) found.1)
        (not-true (value found.0) (kept_tells (λ code. not (value code)) (2 ^ (n + 1)) found.0 found.1)) found.2

-- ---- one more code
-- a code of the bits is one of the pins and the own output
pub code_fits : (bits count code : ℕ) → count ≤ 4 → bits ≤ count + 1 → code < 1 * 2 ^ bits % 4294967296
    → code < 2 ^ (count + 1)
code_fits bits count code few width less =
    let here : code < 2 ^ bits = rw (shifted bits (omega (arith, few, width))) at less in
    elim (cases_lt bits (count + 1)) [
      | inl below ↦ (let more = pow_below bits (count + 1) below in omega (arith, here, more))
      | inr same ↦ (let is : bits ≡ count + 1 = omega (arith, width, same) in subst (λ (n : ℕ). code < 2 ^ n) is here)
    ]

-- the codes so far, parted by the value
pub record ArePartedBy (value : ℕ → Bool) (n : ℕ) (rs fs : List ℕ) : Type 0 where
  pub required : rs ≡ filter value (below n)
  pub forbidden : fs ≡ filter (λ code. not (value code)) (below n)

below_next : (n : ℕ) → below (n + 1) ≡ below n ++ n ∷ []
below_next n = let next : n + 1 ≡ suc n = omega arith in rw next refl

pub one_required : (value : ℕ → Bool) (n : ℕ) (rs fs : List ℕ) → ArePartedBy value n rs fs → true ≡ value n
    → ArePartedBy value (n + 1) (rs ++ n ∷ []) fs
one_required value n rs fs are one =
    let here : value n ≡ true = sym one in record {
      required = rw (are.required, below_next n, filter_push value (below n) n, here) refl;
      forbidden = rw (are.forbidden, below_next n, filter_push (λ code. not (value code)) (below n) n, here)
          (sym (append-nil _));
    }

pub one_forbidden : (value : ℕ → Bool) (n : ℕ) (rs fs : List ℕ) → ArePartedBy value n rs fs → false ≡ value n
    → ArePartedBy value (n + 1) rs (fs ++ n ∷ [])
one_forbidden value n rs fs are none =
    let here : value n ≡ false = sym none in record {
      required = rw (are.required, below_next n, filter_push value (below n) n, here) (sym (append-nil _));
      forbidden = rw (are.forbidden, below_next n, filter_push (λ code. not (value code)) (below n) n, here) refl;
    }

pub same_demand : (bits : ℕ) (value : ℕ → Bool) (rs fs : List ℕ) → rs ≡ (demand bits value).required
    → fs ≡ (demand bits value).forbidden → record { required = rs; forbidden = fs } ≡ demand bits value
same_demand bits value rs fs required forbidden = rw (required, forbidden) refl
