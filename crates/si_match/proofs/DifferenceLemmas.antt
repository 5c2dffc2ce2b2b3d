-- Differences of codes: which there are, and that they tell whether signals determine the next value.
use Rattle.std.proofs.Common.{◌≡◌, ◌↔◌, ◌⊎◌, ℕ, zero, suc, ◌+◌, ◌-◌, ◌<◌, ◌≤◌, ◌==◌, ◌&&◌, ◌||◌, not, Bool, true, false}
use Rattle.std.proofs.Common.{List, [], ◌∷◌, ◌++◌, Contains, bit_and, bit_xor, length, if◌then◌else◌, refl, sym, ap}
use Rattle.std.proofs.Common.{◌∙◌, subst, arith, inl, inr, take, get_or}
use Rattle.std.proofs.lemmas.Bool.{cases_Bool, true≢false, eq-eqb}
use Rattle.std.proofs.lemmas.Bool.Decides.{eqb_tells}
use Rattle.std.proofs.lemmas.List.{take_more}
use Rattle.std.proofs.lemmas.List.Elements.{Contains-push, Contains-push_cases, Contains-append_left}
use Rattle.std.proofs.Math.Bool.{and-true}
use Rattle.si_base.proofs.BitFacts.{same_codes, flip-other, bit-and, bit-zero}
use Rattle.si_base.specs.Bits.{bit, flip}
use Rattle.si_base.specs.Codes.{CodedGraph, IsCoded, code, next_value}
use Rattle.si_cube.specs.Order.{HaveSame}
use Rattle.si_graph.proofs.ListMembers.{Contains-nil}
use Rattle.si_match.specs.Loops.Codes.{AreCodes}
use Rattle.si_match.specs.Loops.Differences.{AreDifferences, AreJoined, any_without}
use Rattle.si_match.specs.Loops.Dropping.{AreTried}
use Rattle.si_match.specs.Support.{determines, support_by_drops}
use Rattle.si_match.specs.Triggers.{AreTriggers}
use Rattle.si_match.proofs.ApartLemmas.{equal_bits, not_read}
use Rattle.si_match.proofs.CodeLemmas.{states_determine, states_differ, tried_kept, tried_dropped}
use Rattle.si_match.proofs.DroppingLemmas.{bits_of_agree, same_by_bits, triggers_in_support}
use Rattle.si_match.proofs.PlaceLemmas.{bit_of_xor}
use Rattle.si_match.proofs.TriggerLemmas.{IsWithin}

-- ---- a list, item after item
pub next_taken : (xs : List ℕ) (i x : ℕ) → i < length xs → x ≡ get_or xs i x → take i xs ++ x ∷ [] ≡ take (i + 1) xs
next_taken xs i x inside is = ap (λ n. take i xs ++ n ∷ []) is ∙ sym (take_more xs i x inside)

pub same_difference : (a b k m : ℕ) → a ≡ k → b ≡ m → bit_xor a b ≡ bit_xor k m
same_difference a b k m a_is b_is = rw (a_is, b_is) refl

-- ---- the differences of one code and the others, one after another
-- the difference holds no trigger
abbrev pub IsClearOf : ℕ → ℕ → Type 0
IsClearOf triggers d = bit_and d triggers ≡ 0

module _ (before : List ℕ) (k triggers : ℕ) where
  module _ (others : List ℕ) (m : ℕ) (differences : List ℕ)
      (so_far : AreJoined before k others triggers differences) where
    still_joined : (d : ℕ) → Contains differences d → Contains before d
        ⊎ ((n : ℕ) × Contains (others ++ m ∷ []) n × (bit_xor k n ≡ d) × IsClearOf triggers d)
    still_joined d there = elim ((so_far d).0 there) [
      | inl first ↦ inl first
      | inr (n, among, is, clear) ↦ inr (n, Contains-append_left others (m ∷ []) n among, is, clear)
    ]

    -- a difference that holds a trigger
    pub passed_over : (IsClearOf triggers (bit_xor k m) → ⊥)
        → AreJoined before k (others ++ m ∷ []) triggers differences
    passed_over held d = (
      still_joined d,
      λ found. (so_far d).1 (elim found [
        | inl first ↦ inl first
        | inr (n, among, is, clear) ↦ elim (Contains-push_cases others m n among) [
          | inl earlier ↦ inr (n, earlier, is, clear)
          | inr last ↦ absurd (held (subst (IsClearOf triggers) (sym is ∙ ap (bit_xor k) (sym last)) clear))
        ]
      ]),
    )

    -- one that holds none
    pub one_joined : (one : ℕ) → one ≡ bit_xor k m → (more : List ℕ) → IsClearOf triggers one
        → more ≡ differences ++ one ∷ [] → AreJoined before k (others ++ m ∷ []) triggers more
    one_joined one one_is more clear_one pushed d = (
      λ there. elim (Contains-push_cases differences one d (subst (λ xs. Contains xs d) pushed there)) [
        | inl earlier ↦ still_joined d earlier
        | inr last ↦ inr (m, Contains-push others m, sym one_is ∙ last, subst (IsClearOf triggers) last clear_one)
      ],
      λ found. subst (λ xs. Contains xs d) (sym pushed) (elim found [
        | inl first ↦ earlier d ((so_far d).1 (inl first))
        | inr (n, among, is, clear) ↦ elim (Contains-push_cases others m n among) [
          | inl there ↦ earlier d ((so_far d).1 (inr (n, there, is, clear)))
          | inr last ↦ subst (Contains (differences ++ one ∷ [])) (one_is ∙ ap (bit_xor k) last ∙ is)
              (Contains-push differences one)
        ]
      ]),
    )
      where
        earlier : (d : ℕ) → Contains differences d → Contains (differences ++ one ∷ []) d
        earlier d = Contains-append_left differences (one ∷ []) d

-- ---- the differences of the codes of two lists
abbrev pub AreBetween : List ℕ → List ℕ → ℕ → List ℕ → Type 0
AreBetween on off triggers differences =
    (d : ℕ) → Contains differences d
    ↔ ((k : ℕ) × (m : ℕ) × Contains on k × Contains off m × (bit_xor k m ≡ d) × IsClearOf triggers d)

module _ (off : List ℕ) (triggers : ℕ) where
  pub more_between : (on : List ℕ) (k : ℕ) (differences more : List ℕ) → AreBetween on off triggers differences
      → AreJoined differences k off triggers more → AreBetween (on ++ k ∷ []) off triggers more
  more_between on k differences more so_far joined d = (
    λ there. elim ((joined d).0 there) [
      | inl before ↦ (
          let (n, m, in_on, in_off, is, clear) = (so_far d).0 before in
          (n, m, Contains-append_left on (k ∷ []) n in_on, in_off, is, clear))
      | inr (m, in_off, is, clear) ↦ (k, m, Contains-push on k, in_off, is, clear)
    ],
    λ (n, m, in_on, in_off, is, clear). (joined d).1 (elim (Contains-push_cases on k n in_on) [
      | inl earlier ↦ inl ((so_far d).1 (n, m, earlier, in_off, is, clear))
      | inr last ↦ inr (m, in_off, ap (λ x. bit_xor x m) last ∙ is, clear)
    ]),
  )

-- codes in another order
pub sorted_codes : (c : CodedGraph) (z : ℕ) (value : Bool) (signals : ℕ) (codes sorted : List ℕ)
    → AreCodes c z value signals codes → HaveSame sorted codes → AreCodes c z value signals sorted
sorted_codes c z value signals codes sorted are same k =
    (λ there. (are k).0 ((same k).0 there), λ state. (same k).1 ((are k).1 state))

pub all_differences : (c : CodedGraph) (z signals triggers : ℕ) (on off differences : List ℕ)
    → AreCodes c z true signals on → AreCodes c z false signals off → AreBetween on off triggers differences
    → AreDifferences c z signals triggers differences
all_differences c z signals triggers on off differences on_are off_are between d = (
  λ there.
      (let (k, m, in_on, in_off, is, clear) = (between d).0 there in
      let (s, inside_s, next_s, is_s) = (on_are k).0 in_on in
      let (t, inside_t, next_t, is_t) = (off_are m).0 in_off in
      (s, t, inside_s, inside_t, next_s, next_t, rw (is_s, is_t) is, clear)),
  λ (s, t, inside_s, inside_t, next_s, next_t, is, clear). (between d).1 (
    bit_and (code c s) signals,
    bit_and (code c t) signals,
    (on_are _).1 (s, inside_s, next_s, refl),
    (off_are _).1 (t, inside_t, next_t, refl),
    is,
    clear,
  ),
)

-- ---- whether a difference holds none of the signals
pub one_without : (differences : List ℕ) (signals : ℕ) → any_without differences signals ≡ true
    → (d : ℕ) × Contains differences d × (bit_and d signals ≡ 0)
one_without [] signals told = absurd (true≢false (sym told))
one_without (x ∷ xs) signals told = elim (eqb_tells (bit_and x signals) 0) [
  | inl none ↦ (x, (0, omega arith, refl), none.1)
  | inr some ↦ (
      let (d, (p, within, at), none) = one_without xs signals (rw some.0 at told) in
      (d, (suc p, omega (arith, within), at), none))
]

pub none_without : (differences : List ℕ) (signals : ℕ) → any_without differences signals ≡ false
    → (d : ℕ) → Contains differences d → bit_and d signals ≡ 0 → ⊥
none_without [] signals told d there none = Contains-nil d there
none_without (x ∷ xs) signals told d (zero, within, at) none =
    true≢false (sym (rw (eq-eqb (bit_and x signals) 0 (ap (λ n. bit_and n signals) at ∙ none)) refl) ∙ told)
none_without (x ∷ xs) signals told d (suc p, within, at) none =
    none_without xs signals (later (bit_and x signals == 0) told) d (p, omega (arith, within), at) none
  where
    later : (b : Bool) → (b || any_without xs signals) ≡ false → any_without xs signals ≡ false
    later true off = absurd (true≢false off)
    later false off = off

-- ---- they tell whether the signals that are left determine the next value
clear_of : (d signals : ℕ) → ((j : ℕ) → bit signals j ≡ true → bit d j ≡ false) → bit_and d signals ≡ 0
clear_of d signals clear = same_codes _ _ (λ j. bit-and d signals j ∙ at j (bit signals j) refl ∙ sym (bit-zero j))
  where
    none : (v : Bool) → (v && false) ≡ false
    none true = refl
    none false = refl

    at : (j : ℕ) (v : Bool) → bit signals j ≡ v → (bit d j && bit signals j) ≡ false
    at j true there = ap (λ v. v && bit signals j) (clear j there)
    at j false absent = ap (λ v. bit d j && v) absent ∙ none (bit d j)

module _ (c : CodedGraph) (z all triggers : ℕ) (differences : List ℕ)
    (are : AreDifferences c z all triggers differences) (fewer : ℕ) (within : IsWithin fewer all)
    (kept : IsWithin triggers fewer) where
  abbrev cut_code : ℕ → ℕ
  cut_code s = bit_and (code c s) all

  at_left : (s j : ℕ) → bit fewer j ≡ true → bit (cut_code s) j ≡ bit (code c s) j
  at_left s j there =
      bit-and (code c s) all j ∙ ap (λ v. bit (code c s) j && v) (within j there) ∙ and-true (bit (code c s) j)

  -- two codes that the signals don't tell apart have a difference that holds none of them
  unequal : (s t : ℕ) → bit_and (code c s) fewer ≡ bit_and (code c t) fewer → (j : ℕ) → bit fewer j ≡ true
      → bit (bit_xor (cut_code s) (cut_code t)) j ≡ false
  unequal s t same j there =
      bit_of_xor (cut_code s) (cut_code t) j ∙ no_difference (bit (cut_code s) j) (bit (cut_code t) j)
      (at_left s j there ∙ bits_of_agree fewer (code c s) (code c t) j (eq-eqb _ _ same) there
      ∙ sym (at_left t j there))
    where
      no_difference : (v w : Bool) → v ≡ w → (if v then not w else w) ≡ false
      no_difference true w same = ap not (sym same)
      no_difference false w same = sym same

  pub undetermined : (d : ℕ) × Contains differences d × (bit_and d fewer ≡ 0) → determines c z fewer ≡ false
  undetermined (d, there, none) =
      let (s, t, inside_s, inside_t, next_s, next_t, is, clear) = (are d).0 there in
      states_differ c z fewer s t inside_s inside_t
      (same_by_bits fewer (code c s) (code c t) (λ j left. sym (at_left s j left)
      ∙ equal_bits (cut_code s) (cut_code t) j (rw is (not_read d fewer j none left)) ∙ at_left t j left))
      (λ equal. true≢false (sym next_s ∙ equal ∙ next_t))

  pub determined : ((d : ℕ) → Contains differences d → bit_and d fewer ≡ 0 → ⊥) → determines c z fewer ≡ true
  determined none = states_determine c z fewer (λ s t inside_s inside_t same. equal_next s t inside_s inside_t same
      (next_value c s z) (next_value c t z) refl refl)
    where
      apart : (s t : ℕ) → s < length c.codes → t < length c.codes
          → next_value c s z ≡ true → next_value c t z ≡ false
          → bit_and (code c s) fewer ≡ bit_and (code c t) fewer → ⊥
      apart s t inside_s inside_t next_s next_t same =
          let no_trigger = clear_of (bit_xor (cut_code s) (cut_code t)) triggers
          (λ j trigger. unequal s t same j (kept j trigger)) in
          let listed = (are _).1 (s, t, inside_s, inside_t, next_s, next_t, refl, no_trigger) in
          none _ listed (clear_of _ fewer (unequal s t same))

      equal_next : (s t : ℕ) → s < length c.codes → t < length c.codes
          → bit_and (code c s) fewer ≡ bit_and (code c t) fewer
          → (v w : Bool) → next_value c s z ≡ v → next_value c t z ≡ w → v ≡ w
      equal_next s t inside_s inside_t same true true next_s next_t = refl
      equal_next s t inside_s inside_t same false false next_s next_t = refl
      equal_next s t inside_s inside_t same true false next_s next_t =
          absurd (apart s t inside_s inside_t next_s next_t same)
      equal_next s t inside_s inside_t same false true next_s next_t =
          absurd (apart t s inside_t inside_s next_t next_s (sym same))

-- ---- signal after signal
-- signals are dropped, and none is added
only_dropped : (c : CodedGraph) (z count i signals j : ℕ)
    → ((k : ℕ) → i ≤ k → k < i + count → bit signals k ≡ true)
    → bit (support_by_drops c z count i signals) j ≡ true → bit signals j ≡ true
only_dropped c z zero i signals j there left = left
only_dropped c z (suc count) i signals j there left = elim (cases_Bool (determines c z (flip signals i))) [
  | inl needless ↦ (
      let in_fewer : bit (flip signals i) j ≡ true = only_dropped c z count (i + 1) (flip signals i) j
      (λ k low high. flip-other signals i k (λ e. omega (arith, e, low))
      ∙ there k (omega (arith, low)) (omega (arith, high))) (rw needless at left) in
      elim (eqb_tells j i) [
        | inl same ↦ ap (bit signals) same.1 ∙ there i (omega arith) (omega arith)
        | inr other ↦ sym (flip-other signals i j other.1) ∙ in_fewer
      ])
  | inr needed ↦ only_dropped c z count (i + 1) signals j
      (λ k low high. there k (omega (arith, low)) (omega (arith, high))) (rw needed at left)
]

-- the signals before the i-th have been tried, and those that are left are among all
pub record AreLeft (c : CodedGraph) (z all i signals : ℕ) : Type 0 where
  pub tried : AreTried c z i signals
  pub among : IsWithin signals all

module _ (c : CodedGraph) (z all i signals triggers : ℕ) (is : IsCoded c) (are : AreTriggers c z triggers)
    (so_far : AreLeft c z all i signals) (inside : i < length c.graph.signals) where
  triggers_left : IsWithin triggers signals
  triggers_left j trigger =
      only_dropped c z (length c.graph.signals - i) i signals j
      (λ k low high. so_far.tried.later k low (omega (arith, low, high, inside)))
      (ap (λ n. bit n j) so_far.tried.told ∙ triggers_in_support c z is triggers are j trigger)

  pub kept_too : determines c z (flip signals i) ≡ false → AreLeft c z all (i + 1) signals
  kept_too needed = record { tried = tried_kept c z i signals so_far.tried inside needed; among = so_far.among }

  without : IsWithin (flip signals i) signals
  without j left = elim (eqb_tells j i) [
    | inl same ↦ ap (bit signals) same.1 ∙ so_far.tried.later i (omega arith) inside
    | inr other ↦ sym (flip-other signals i j other.1) ∙ left
  ]

  module _ (differences : List ℕ) (differ : AreDifferences c z all triggers differences) (fewer : ℕ)
      (fewer_is : fewer ≡ flip signals i) (no_trigger : bit triggers i ≡ false) where
    within_all : IsWithin fewer all
    within_all j left = so_far.among j (without j (ap (λ n. bit n j) (sym fewer_is) ∙ left))

    triggers_stay : IsWithin triggers fewer
    triggers_stay j trigger =
        ap (λ n. bit n j) fewer_is
        ∙ flip-other signals i j (λ e. true≢false (sym trigger ∙ ap (bit triggers) e ∙ no_trigger))
        ∙ triggers_left j trigger

    pub signal_kept : any_without differences fewer ≡ true → AreLeft c z all (i + 1) signals
    signal_kept told = kept_too (ap (determines c z) (sym fewer_is)
        ∙ undetermined c z all triggers differences differ fewer within_all triggers_stay
        (one_without differences fewer told))

    pub signal_dropped : any_without differences fewer ≡ false → AreLeft c z all (i + 1) fewer
    signal_dropped told = record {
      tried = subst (AreTried c z (i + 1)) (sym fewer_is) (tried_dropped c z i signals so_far.tried inside
          (ap (determines c z) (sym fewer_is)
          ∙ determined c z all triggers differences differ fewer within_all triggers_stay
          (none_without differences fewer told)));
      among = within_all;
    }
