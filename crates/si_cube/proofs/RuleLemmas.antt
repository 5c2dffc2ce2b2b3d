-- The chosen sum is a prime and irredundant cover.
use Rattle.std.proofs.Common.{◌≡◌, ℕ, ◌<◌, ◌^◌, ◌||◌, not, Bool, true, false, List, [], ◌∷◌, ◌++◌, refl, sym, ap, subst}
use Rattle.std.proofs.Common.{◌∙◌, inl, inr, get_or, All}
use Rattle.std.specs.List.{list_all}
use Rattle.std.proofs.lemmas.Bool.{cases_Bool, true≢false, false_from_ne_true, not-true, not-false, or_parts, or_cases}
use Rattle.std.proofs.lemmas.Bool.{or_left, or_right, not_from_false}
use Rattle.std.proofs.lemmas.List.Elements.{All-contains}
use Rattle.si_base.specs.declared.ids.Literal.{Literal}
use Rattle.si_base.specs.Netlist.{Sum, sum_value}
use Rattle.si_base.proofs.OrderAscending.{In}
use Rattle.si_base.proofs.OrderLemmas.{in_contains}
use Rattle.si_base.proofs.GivenGraphUnique.{contains_from_in}
use Rattle.si_cube.specs.Literals.{full_literals}
use Rattle.si_cube.specs.Covers.{Demand}
use Rattle.si_cube.specs.Covers.{IsMeetable, IsCover, IsPrime, IsIrredundant, IsPrimeCover, without}
use Rattle.si_cube.specs.Rule.{covers, covers_any, is_needless_literal, grown, grown_cubes, is_needless_cube, chosen}
use Rattle.si_cube.proofs.NeededLemmas.{Grows, AreNeeded, are_needed, needed_at, still_serves, in_from_needed}
use Rattle.si_cube.proofs.NeededLemmas.{in_append, in_left, in_right, in_others, others, IsWithin}
use Rattle.si_cube.proofs.NeededLemmas.{all_in, all_from_in, any_in, any_from_in}
use Rattle.si_cube.proofs.CubeFacts.{full_holds, full_tells, covers_more, covers_any_more, without_within}

-- ---- the grown cube of a code
literals_grow : (forbidden : List ℕ) → Grows (is_needless_literal forbidden)
literals_grow forbidden l smaller larger within needless =
    not_from_false _ (false_from_ne_true (covers_any forbidden larger) (λ any.
    true≢false (sym (covers_any_more forbidden smaller larger within any) ∙ not-true _ needless)))

-- what is asked of the codes: those of so many signals, and the code isn't forbidden
pub record MayGrow (n : ℕ) (forbidden : List ℕ) (code : ℕ) : Type 0 where
  pub fits : code < 2 ^ n
  pub others_fit : (k : ℕ) → In k forbidden → k < 2 ^ n
  pub apart : In code forbidden → ⊥

pub grown_covers : (n : ℕ) (forbidden : List ℕ) (code : ℕ) → covers (grown n forbidden code) code ≡ true
grown_covers n forbidden code = covers_more (grown n forbidden code) (full_literals n 0 code) code
    (in_from_needed (is_needless_literal forbidden) [] (full_literals n 0 code)) (full_holds n 0 code)

pub grown_avoids : (n : ℕ) (forbidden : List ℕ) (code : ℕ) → MayGrow n forbidden code
    → covers_any forbidden (grown n forbidden code) ≡ false
grown_avoids n forbidden code may =
    let Serves : List Literal → Type 0 = λ ls. covers_any forbidden ls ≡ false in
    still_serves (is_needless_literal forbidden) Serves (λ before xs l serves needless. not-true _ needless) []
    (full_literals n 0 code)
    (false_from_ne_true (covers_any forbidden (full_literals n 0 code)) (λ any.
    let found = any_in (covers (full_literals n 0 code)) forbidden any in
    let same : found.0 ≡ code = full_tells n code found.0 may.fits (may.others_fit found.0 found.1) found.2 in
    may.apart (subst (λ (k : ℕ). In k forbidden) same found.1)))

-- the cube covers none of the codes, and without any one literal it covers one of them
pub record IsGrown (forbidden : List ℕ) (cube : List Literal) : Type 0 where
  pub avoids : covers_any forbidden cube ≡ false
  pub needed : AreNeeded (is_needless_literal forbidden) [] cube

pub grown_is : (n : ℕ) (forbidden : List ℕ) (code : ℕ) → MayGrow n forbidden code
    → IsGrown forbidden (grown n forbidden code)
grown_is n forbidden code may = record {
  avoids = grown_avoids n forbidden code may;
  needed = are_needed (is_needless_literal forbidden) [] (full_literals n 0 code) (literals_grow forbidden);
}

-- ---- the grown cubes of the codes
pub each_grown : (P : List Literal → Type 0) (n : ℕ) (forbidden : List ℕ) (sofar : Sum) (codes : List ℕ)
    → ((cube : List Literal) → In cube sofar → P cube) → ((code : ℕ) → In code codes → P (grown n forbidden code))
    → (cube : List Literal) → In cube (grown_cubes n forbidden sofar codes) → P cube
each_grown P n forbidden sofar [] old new cube here = old cube here
each_grown P n forbidden sofar (k ∷ ks) old new cube here = elim (cases_Bool (sum_value k sofar)) [
  | inl covered ↦ each_grown P n forbidden sofar ks old (λ code later. new code (inr later)) cube (rw covered at here)
  | inr not ↦ each_grown P n forbidden (sofar ++ grown n forbidden k ∷ []) ks
      (λ other there. elim (in_append sofar (grown n forbidden k ∷ []) other there) [
        | inl before ↦ old other before
        | inr last ↦ elim last [ inl same ↦ subst P (sym same) (new k (inl refl)) | inr none ↦ absurd none ]
      ])
      (λ code later. new code (inr later)) cube (rw not at here)
]

value_left : (k : ℕ) (xs ys : Sum) → sum_value k xs ≡ true → sum_value k (xs ++ ys) ≡ true
value_left k xs ys any = let found =
    any_in (λ cube. covers cube k) xs any in
    any_from_in (λ cube. covers cube k) (xs ++ ys) found.0 (in_left xs ys found.0 found.1) found.2

still_covered : (n : ℕ) (forbidden : List ℕ) (sofar : Sum) (codes : List ℕ) (k : ℕ) → sum_value k sofar ≡ true
    → sum_value k (grown_cubes n forbidden sofar codes) ≡ true
still_covered n forbidden sofar [] k covered = covered
still_covered n forbidden sofar (j ∷ codes) k covered = elim (cases_Bool (sum_value j sofar)) [
  | inl there ↦ rw there (still_covered n forbidden sofar codes k covered)
  | inr not ↦
      rw not (still_covered n forbidden (sofar ++ grown n forbidden j ∷ []) codes k
      (value_left k sofar (grown n forbidden j ∷ []) covered))
]

pub all_covered : (n : ℕ) (forbidden : List ℕ) (sofar : Sum) (codes : List ℕ) (k : ℕ) → In k codes
    → sum_value k (grown_cubes n forbidden sofar codes) ≡ true
all_covered n forbidden sofar [] k here = absurd here
all_covered n forbidden sofar (j ∷ codes) k (inl same) = elim (cases_Bool (sum_value j sofar)) [
  | inl there ↦ rw there (still_covered n forbidden sofar codes k (ap (λ (x : ℕ). sum_value x sofar) same ∙ there))
  | inr not ↦ rw not (still_covered n forbidden (sofar ++ grown n forbidden j ∷ []) codes k
      (any_from_in (λ cube. covers cube k) (sofar ++ grown n forbidden j ∷ []) (grown n forbidden j)
      (in_right sofar (grown n forbidden j ∷ []) (grown n forbidden j) (inl refl))
      (ap (λ (x : ℕ). covers (grown n forbidden j) x) same ∙ grown_covers n forbidden j)))
]
all_covered n forbidden sofar (j ∷ codes) k (inr later) = elim (cases_Bool (sum_value j sofar)) [
  | inl there ↦ rw there (all_covered n forbidden sofar codes k later)
  | inr not ↦ rw not (all_covered n forbidden (sofar ++ grown n forbidden j ∷ []) codes k later)
]

-- ---- the cubes that are needed
value_more : (k : ℕ) (smaller larger : Sum) → IsWithin smaller larger → sum_value k smaller ≡ true
    → sum_value k larger ≡ true
value_more k smaller larger within any = let found =
    any_in (λ cube. covers cube k) smaller any in
    any_from_in (λ cube. covers cube k) larger found.0 (within found.0 found.1) found.2

cubes_grow : (required : List ℕ) → Grows (is_needless_cube required)
cubes_grow required cube smaller larger within needless = all_from_in _ required (λ k here.
    elim (or_cases _ _ (all_in (λ code. not (covers cube code) || sum_value code smaller) required needless k here)) [
      | inl not ↦ or_left _ _ not
      | inr covered ↦ or_right _ _ (value_more k smaller larger within covered)
    ])

-- each of the codes is covered
abbrev pub CoversAll : List ℕ → Sum → Type 0
CoversAll required sum = (k : ℕ) → In k required → sum_value k sum ≡ true

drop_needless : (required : List ℕ) (before xs : Sum) (cube : List Literal)
    → CoversAll required (before ++ cube ∷ xs) → is_needless_cube required cube (before ++ xs) ≡ true
    → CoversAll required (before ++ xs)
drop_needless required before xs cube covered needless k here =
    let found = any_in (λ c. covers c k) (before ++ cube ∷ xs) (covered k here) in
    let by_another : In found.0 (before ++ xs)
    → sum_value k (before ++ xs) ≡ true = λ there. any_from_in (λ c. covers c k) (before ++ xs) found.0 there found.2 in
    elim (in_append before (cube ∷ xs) found.0 found.1) [
      | inl left ↦ by_another (in_left before xs found.0 left)
      | inr right ↦ elim right [
        | inl same ↦
            elim (or_cases _ _ (all_in (λ code. not (covers cube code) || sum_value code (before ++ xs))
            required needless k here)) [
              | inl not ↦
                  absurd (true≢false (sym (ap (λ (c : List Literal). covers c k) (sym same) ∙ found.2)
                  ∙ not-true _ not))
              | inr there ↦ there
            ]
        | inr later ↦ by_another (in_right before xs found.0 later)
      ]
    ]

some_fails : {A : Type 0} (p : A → Bool) (xs : List A) → list_all p xs ≡ false → (x : A) × In x xs × (p x ≡ false)
some_fails p [] fails = absurd (true≢false fails)
some_fails p (x ∷ xs) fails = elim (cases_Bool (p x)) [
  | inl holds ↦ (let rest = some_fails p xs (rw holds at fails) in (rest.0, inr rest.1, rest.2))
  | inr not ↦ (x, inl refl, not)
]

-- ---- the chosen sum
-- what is asked of the codes
pub record IsFit (n : ℕ) (d : Demand) : Type 0 where
  pub required_fit : (k : ℕ) → In k d.required → k < 2 ^ n
  pub forbidden_fit : (k : ℕ) → In k d.forbidden → k < 2 ^ n
  pub meetable : IsMeetable d

cubes_of : (n : ℕ) (d : Demand) → IsFit n d → (cube : List Literal) → In cube (chosen n d) → IsGrown d.forbidden cube
cubes_of n d fit cube here =
    each_grown (IsGrown d.forbidden) n d.forbidden [] d.required (λ other none. absurd none)
    (λ code there. grown_is n d.forbidden code (record {
      fits = fit.required_fit code there;
      others_fit = fit.forbidden_fit;
      apart = λ also. fit.meetable code (contains_from_in d.required code there)
          (contains_from_in d.forbidden code also);
    }))
    cube (in_from_needed (is_needless_cube d.required) [] (grown_cubes n d.forbidden [] d.required) cube here)

pub is_cover : (n : ℕ) (d : Demand) → IsFit n d → IsCover d (chosen n d)
is_cover n d fit = record {
  covers = λ k there. still_serves (is_needless_cube d.required) (CoversAll d.required) (drop_needless d.required) []
      (grown_cubes n d.forbidden [] d.required) (λ j here. all_covered n d.forbidden [] d.required j here) k
      (in_contains d.required k there);
  avoids = λ k there. false_from_ne_true (sum_value k (chosen n d)) (λ any.
      let found = any_in (λ cube. covers cube k) (chosen n d) any in
      true≢false (sym (any_from_in (covers found.0) d.forbidden k (in_contains d.forbidden k there) found.2)
      ∙ (cubes_of n d fit found.0 found.1).avoids));
}

pub is_prime : (n : ℕ) (d : Demand) → IsFit n d → IsPrime d (chosen n d)
is_prime n d fit cube l there has =
    let is = cubes_of n d fit cube (in_contains (chosen n d) cube there) in
    let at : get_or cube has.0 l ≡ l = has.2 in
    let needed = needed_at (is_needless_literal d.forbidden) [] cube is.needed has.0 l has.1 in
    let found = any_in (covers (others cube has.0)) d.forbidden (not-false _ needed) in
    let P : Literal → Type 0 = λ m. covers (without m.sig cube) found.0 ≡ true in (
      found.0,
      contains_from_in d.forbidden found.0 found.1,
      subst P at
          (covers_more (without (get_or cube has.0 l).sig cube) (others cube has.0) found.0
          (without_within cube has.0 l) found.2),
    )

pub is_irredundant : (n : ℕ) (d : Demand) → IsIrredundant d (chosen n d)
is_irredundant n d i within =
    let needed = needed_at (is_needless_cube d.required) [] (chosen n d)
    (are_needed (is_needless_cube d.required) [] (grown_cubes n d.forbidden [] d.required) (cubes_grow d.required))
    i [] within in
    let found =
    some_fails (λ code. not (covers (get_or (chosen n d) i []) code) || sum_value code (others (chosen n d) i))
    d.required needed in
    let parts = or_parts _ _ found.2 in
    record {
      code = found.0;
      required = contains_from_in d.required found.0 found.1;
      covers = not-false _ parts.0;
      alone = λ j there apart covered. true≢false
          (sym (any_from_in (λ cube. covers cube found.0) (others (chosen n d) i) (get_or (chosen n d) j [])
          (in_others (chosen n d) i j [] there apart) covered) ∙ parts.1);
    }

pub is_prime_cover : (n : ℕ) (d : Demand) → IsFit n d → IsPrimeCover d (chosen n d)
is_prime_cover n d fit = record { cover = is_cover n d fit; prime = is_prime n d fit; irredundant = is_irredundant n d }

pub chosen_is_prime_cover : (n : ℕ) (d : Demand) → All (λ k. k < 2 ^ n) d.required → All (λ k. k < 2 ^ n) d.forbidden
    → IsMeetable d → IsPrimeCover d (chosen n d)
chosen_is_prime_cover n d required forbidden meetable =
    let fits : (codes : List ℕ) → All (λ (j : ℕ). j < 2 ^ n) codes → (k : ℕ) → In k codes → k < 2 ^ n =
    λ codes all k here. All-contains (λ (j : ℕ). j < 2 ^ n) codes k all (contains_from_in codes k here) in
    is_prime_cover n d (record {
      required_fit = fits d.required required;
      forbidden_fit = fits d.forbidden forbidden;
      meetable = meetable;
    })
