-- The signals that an instance reads: those that it has to read, and so many others.
use Rattle.std.proofs.Common.{◌≡◌, ◌≢◌, ℕ, zero, suc, ◌⊎◌, ◌+◌, ◌-◌, ◌<◌, ◌≤◌, List, [], ◌∷◌, ◌++◌, length, map, get_or}
use Rattle.std.proofs.Common.{All, AllPairs, Contains, refl, sym, ap, subst, ◌∙◌, arith, inl, inr}
use Rattle.std.proofs.lemmas.Bool.{cases_lt, cases_order}
use Rattle.std.proofs.lemmas.Bool.Decides.{eqb_tells}
use Rattle.std.proofs.lemmas.List.{get_or_append_left, get_or-append_right, get_or_default, get_or_past}
use Rattle.std.proofs.lemmas.List.Elements.{All-cons, All-nil}
use Rattle.si_base.specs.declared.ids.Literal.{Literal}
use Rattle.si_base.proofs.OrderAscending.{In}
use Rattle.si_base.proofs.GivenGraphUnique.{contains_from_in, in_from_contains}
use Rattle.si_match.specs.Triggers.{IsUnread}

-- ---- lists of signals
pub in_or_not : (y : ℕ) (xs : List ℕ) → In y xs ⊎ (In y xs → ⊥)
in_or_not y [] = inr (λ there. there)
in_or_not y (x ∷ xs) = elim (eqb_tells y x) [
  | inl same ↦ inl (inl same.1)
  | inr other ↦ elim (in_or_not y xs) [
    | inl later ↦ inl (inr later)
    | inr absent ↦ inr (λ there. elim there [ inl same ↦ other.1 same | inr later ↦ absent later ])
  ]
]

-- each of them once
abbrev pub Once : List ℕ → Type 0
Once [] = Unit {0}
Once (x ∷ xs) = (In x xs → ⊥) × Once xs

pub once_each : (xs : List ℕ) → AllPairs (λ x y. x ≢ y) xs → Once xs
once_each [] apart = tt
once_each (x ∷ xs) apart = (
  λ there. (let (k, within, at) = contains_from_in xs x there in
      apart 0 (suc k) x (omega arith) (omega (arith, within)) (sym at)),
  once_each xs (λ i j d before within. apart (suc i) (suc j) d (omega (arith, before)) (omega (arith, within))),
)

-- a signal of the literals, where these don't leave it unread
pub read_there : (i : ℕ) (ls : List Literal) → (IsUnread i ls → ⊥) → In i (map (λ l. l.sig) ls)
read_there i [] reads = absurd (reads (All-nil (λ (l : Literal). l.sig ≢ i)))
read_there i (l ∷ ls) reads = elim (eqb_tells l.sig i) [
  | inl same ↦ inl (sym same.1)
  | inr other ↦ inr (read_there i ls (λ unread. reads (All-cons (λ (m : Literal). m.sig ≢ i) l ls other.1 unread)))
]

-- ---- what is left of a list without signals that it has
-- so many elements are left, each of which was there; and each that was there is needed or left
pub record AreLeftOver (needed ys zs : List ℕ) : Type 0 where
  pub count : length zs + length needed ≡ length ys
  pub within : (v : ℕ) → In v zs → In v ys
  pub kept : (v : ℕ) → In v ys → In v needed ⊎ In v zs

without_one : (i : ℕ) (ys : List ℕ) → In i ys → (zs : List ℕ) × AreLeftOver (i ∷ []) ys zs
without_one i [] there = absurd there
without_one i (y ∷ ys) (inl same) = (
  ys,
  record {
    count = omega arith;
    within = λ v here. inr here;
    kept = λ v here. elim here [ inl this ↦ inl (inl (this ∙ sym same)) | inr later ↦ inr later ];
  },
)
without_one i (y ∷ ys) (inr there) =
    let (zs, are) = without_one i ys there in (
      y ∷ zs,
      record {
        count = (let count = are.count in omega (arith, count));
        within = λ v here. elim here [ inl this ↦ inl this | inr later ↦ inr (are.within v later) ];
        kept = λ v here. elim here [
          | inl this ↦ inr (inl this)
          | inr later ↦ elim (are.kept v later) [ inl same ↦ inl same | inr still ↦ inr (inr still) ]
        ];
      },
    )

pub left_over : (needed ys : List ℕ) → Once needed → ((v : ℕ) → In v needed → In v ys)
    → (zs : List ℕ) × AreLeftOver needed ys zs
left_over [] ys once there = (ys, record { count = omega arith; within = λ v here. here; kept = λ v here. inr here })
left_over (i ∷ needed) ys (absent, once) there =
    let (zs, one) = without_one i ys (there i (inl refl)) in
    let there_still : (v : ℕ) → In v needed → In v zs = λ v here. elim (one.kept v (there v (inr here))) [
      | inl gone ↦ absurd (is_needed v here gone)
      | inr still ↦ still
    ] in
    let (left, are) = left_over needed zs once there_still in (
      left,
      record {
        count = (let first = one.count in let later = are.count in omega (arith, first, later));
        within = λ v here. one.within v (are.within v here);
        kept = λ v here. elim (one.kept v here) [
          | inl same ↦ inl (only v same)
          | inr still ↦ elim (are.kept v still) [ inl other ↦ inl (inr other) | inr last ↦ inr last ]
        ];
      },
    )
  where
    only : (v : ℕ) → In v (i ∷ []) → In v (i ∷ needed)
    only v (inl same) = inl same
    only v (inr none) = absurd none

    is_needed : (v : ℕ) → In v needed → In v (i ∷ []) → ⊥
    is_needed v here (inl same) = absent (subst (λ w. In w needed) same here)
    is_needed v here (inr none) = none

-- ---- as many further signals as are wanted: z stands for the needed ones, and fills up
module _ (n z : ℕ) (needed : List ℕ) (z_small : z < n) (z_free : In z needed → ⊥) (new_needed : In n needed) where
  -- the further signals, so many, for these
  pub record AreFurther (more : ℕ) (zs rest : List ℕ) : Type 0 where
    pub count : length rest ≡ more
    pub small : All (λ y. y < n) rest
    pub free : (v : ℕ) → In v rest → In v needed → ⊥
    pub kept : (v : ℕ) → In v zs → In v needed ⊎ In v rest

  with_own : (more : ℕ) (zs rest : List ℕ) → AreFurther more zs rest → AreFurther (suc more) zs (z ∷ rest)
  with_own more zs rest are = record {
    count = ap suc are.count;
    small = All-cons (λ y. y < n) z rest z_small are.small;
    free = λ v there. elim there [
      | inl same ↦ (λ needs. z_free (subst (λ w. In w needed) same needs))
      | inr later ↦ are.free v later
    ];
    kept = λ v there. elim (are.kept v there) [ inl needs ↦ inl needs | inr later ↦ inr (inr later) ];
  }

  pub further : (more : ℕ) (zs : List ℕ) → length zs ≤ more → ((v : ℕ) → In v zs → v < suc n)
      → (rest : List ℕ) × AreFurther more zs rest
  further zero [] few small = (
    [],
    record {
      count = refl;
      small = All-nil (λ y. y < n);
      free = λ v there. absurd there;
      kept = λ v there. absurd there;
    },
  )
  further zero (y ∷ zs) few small = absurd (omega (arith, few))
  further (suc more) [] few small =
      let (rest, are) = further more [] (omega arith) small in (z ∷ rest, with_own more [] rest are)
  further (suc more) (y ∷ zs) few small =
      let (rest, are) = further more zs (omega (arith, few)) (λ v there. small v (inr there)) in
      elim (in_or_not y needed) [
        | inl needs ↦ (z ∷ rest, in_its_place rest needs (with_own more zs rest are))
        | inr free ↦ (y ∷ rest, with_further rest free are)
      ]
    where
      in_its_place : (rest : List ℕ) → In y needed → AreFurther (suc more) zs (z ∷ rest)
          → AreFurther (suc more) (y ∷ zs) (z ∷ rest)
      in_its_place rest needs are = record {
        count = are.count;
        small = are.small;
        free = are.free;
        kept = λ v there. elim there [
          | inl same ↦ inl (subst (λ w. In w needed) (sym same) needs)
          | inr later ↦ are.kept v later
        ];
      }

      with_further : (rest : List ℕ) → (In y needed → ⊥) → AreFurther more zs rest
          → AreFurther (suc more) (y ∷ zs) (y ∷ rest)
      with_further rest y_free are = record {
        count = ap suc are.count;
        small = All-cons (λ v. v < n) y rest y_small are.small;
        free = λ v there. elim there [
          | inl same ↦ (λ needs. y_free (subst (λ w. In w needed) same needs))
          | inr later ↦ are.free v later
        ];
        kept = λ v there. elim there [
          | inl same ↦ inr (inl same)
          | inr later ↦ elim (are.kept v later) [ inl needs ↦ inl needs | inr still ↦ inr (inr still) ]
        ];
      }
        where
          y_small : y < n
          y_small =
              let low = small y (inl refl) in
              let other : y ≢ n = λ same. y_free (subst (λ w. In w needed) (sym same) new_needed) in
              grind (arith, low, other)

-- a chosen signal stands at some place
pub at_some_place : (z n v : ℕ) (signals : List ℕ) → length signals ≤ 3 → In v signals
    → Contains (z ∷ get_or signals 0 z ∷ get_or signals 1 z ∷ get_or signals 2 z ∷ n ∷ []) v
at_some_place z n v signals few there =
    let (k, within, at) = contains_from_in signals v there in by_place k (omega (arith, within, few)) within at
  where
    by_place : (k : ℕ) → k < 3 → k < length signals → get_or signals k v ≡ v
        → Contains (z ∷ get_or signals 0 z ∷ get_or signals 1 z ∷ get_or signals 2 z ∷ n ∷ []) v
    by_place zero low within at = (1, omega arith, get_or_default signals 0 z v within ∙ at)
    by_place (suc zero) low within at = (2, omega arith, get_or_default signals 1 z v within ∙ at)
    by_place (suc (suc zero)) low within at = (3, omega arith, get_or_default signals 2 z v within ∙ at)
    by_place (suc (suc (suc k))) low within at = absurd (omega (arith, low))

-- a signal that stands at a place of the first ones stands at no other, where it isn't among the rest
pub at_no_other : (z : ℕ) (first rest : List ℕ) (k j : ℕ) → AllPairs (λ x y. x ≢ y) first → k < length first
    → (In (get_or first k z) rest → ⊥) → z ≢ get_or first k z → j ≢ k → get_or (first ++ rest) j z ≢ get_or first k z
at_no_other z first rest k j apart inside absent other_own other same = elim (cases_lt j (length first)) [
  | inl low ↦ among_first low (sym (get_or_append_left first rest z j low) ∙ same)
  | inr high ↦ behind (sym (get_or-append_right first rest (length first) j z refl high) ∙ same)
]
  where
    among_first : j < length first → get_or first j z ≡ get_or first k z → ⊥
    among_first low equal = elim (cases_order j k) [
      | inl this ↦ other this
      | inr (inl before) ↦ apart j k z before inside equal
      | inr (inr after) ↦ apart k j z after low (sym equal)
    ]

    behind : get_or rest (j - length first) z ≡ get_or first k z → ⊥
    behind equal = elim (cases_lt (j - length first) (length rest)) [
      | inl within ↦ absent (in_from_contains rest (get_or first k z) (j - length first) within
          (get_or_default rest (j - length first) (get_or first k z) z within ∙ equal))
      | inr past ↦ other_own (sym (get_or_past rest (j - length first) z past) ∙ equal)
    ]
