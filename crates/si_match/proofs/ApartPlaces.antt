-- States apart by the values of the places: one place, two next values.
use Rattle.std.proofs.Common.{◌≡◌, ◌↔◌, ℕ, ◌+◌, ◌<◌, Bool, if◌then◌else◌, true, false, List, [], ◌∷◌, map}
use Rattle.std.proofs.Common.{get_or, Contains, arith, inl, inr, refl, sym, ap, subst, ◌∙◌}
use Rattle.std.proofs.lemmas.Bool.{cases_lt, true≢false}
use Rattle.std.proofs.lemmas.List.{get_or_default}
use Rattle.std.proofs.lemmas.List.Elements.{Contains-append_right}
use Rattle.si_base.specs.Bits.{bit}
use Rattle.si_base.specs.Codes.{CodedGraph, code, next_value}
use Rattle.si_cell.specs.Library.{code_of}
use Rattle.si_match.specs.Loops.Apart.{AllAlike, AllAlikeTo}
use Rattle.si_match.specs.Loops.Places.{placed_code, places_with, AreSeen}
use Rattle.si_match.specs.declared.places.Seen.{Seen}
use Rattle.si_match.proofs.PlaceLemmas.{bit_placed, none_seen}

-- ---- codes with the same values at the places
same_bits : (k m : ℕ) (ys : List ℕ) → ((y : ℕ) → Contains ys y → bit k y ≡ bit m y)
    → map (bit k) ys ≡ map (bit m) ys
same_bits k m [] same = refl
same_bits k m (y ∷ ys) same = rw (
  same y (0, omega arith, refl),
  same_bits k m ys (λ x there. same x (Contains-append_right (y ∷ []) ys x there)),
) refl

pub same_place : (k m : ℕ) (ys : List ℕ) → ((y : ℕ) → Contains ys y → bit k y ≡ bit m y)
    → placed_code ys k ≡ placed_code ys m
same_place k m ys same = ap code_of (same_bits k m ys same)

pub same_values : (k m : ℕ) (ys : List ℕ) → placed_code ys k ≡ placed_code ys m → (y : ℕ) → Contains ys y
    → bit k y ≡ bit m y
same_values k m ys same y (p, within, at) =
    let y_is : get_or ys p 0 ≡ y = get_or_default ys p 0 y within ∙ at in
    ap (bit k) (sym y_is) ∙ sym (bit_placed ys k p within) ∙ ap (λ (n : ℕ). bit n p) same ∙ bit_placed ys m p within
    ∙ ap (bit m) y_is

-- a place at which one next value was not seen, and this one was
met : (a b : Bool) (on off m : ℕ) → bit (if a then off else on) m ≡ false → bit (if b then on else off) m ≡ true
    → a ≡ b
met true true on off m clear there = refl
met true false on off m clear there = absurd (true≢false (sym there ∙ clear))
met false true on off m clear there = absurd (true≢false (sym there ∙ clear))
met false false on off m clear there = refl

-- ---- state after state
module _ (c : CodedGraph) (z : ℕ) (chosen : List ℕ) where
  abbrev pub place_of : ℕ → ℕ
  place_of s = placed_code (z ∷ chosen) (code c s)

  -- the place of each of the first states, so many, was seen with its next value
  abbrev pub AllSeen : ℕ → Seen → Type 0
  AllSeen count seen = (s : ℕ) → s < count → bit (places_with seen (next_value c s z)) (place_of s) ≡ true

  -- of the first states, so many, those with one place have one next value
  abbrev pub NextByPlace : ℕ → Type 0
  NextByPlace count = (s t : ℕ) → s < count → t < count → place_of s ≡ place_of t
      → next_value c s z ≡ next_value c t z

  pub none_of_none : (seen : Seen) → seen.on ≡ 0 → seen.off ≡ 0 → AreSeen c z chosen seen
  none_of_none seen on off = subst (AreSeen c z chosen)
      (λ i. record { on = sym on i; off = sym off i }) (none_seen c z chosen)

  pub all_seen_next : (i : ℕ) (seen next : Seen) → AllSeen i seen
      → bit (places_with next (next_value c i z)) (place_of i) ≡ true
      → ((v : Bool) (m : ℕ) → bit (places_with seen v) m ≡ true → bit (places_with next v) m ≡ true)
      → AllSeen (i + 1) next
  all_seen_next i seen next all there kept s below = elim (cases_lt s i) [
    | inl less ↦ kept (next_value c s z) (place_of s) (all s less)
    | inr past ↦ (
        let same : i ≡ s = omega (arith, below, past) in
        subst (λ t. bit (places_with next (next_value c t z)) (place_of t) ≡ true) same there)
  ]

  module _ (i : ℕ) (seen : Seen) (all : AllSeen i seen)
      (clear : bit (if next_value c i z then seen.off else seen.on) (place_of i) ≡ false) where
    as_before : (t : ℕ) → t < i → place_of i ≡ place_of t → next_value c i z ≡ next_value c t z
    as_before t less same = met (next_value c i z) (next_value c t z) seen.on seen.off (place_of i) clear
        (ap (bit (places_with seen (next_value c t z))) same ∙ all t less)

    pub by_place_next : NextByPlace i → NextByPlace (i + 1)
    by_place_next alike s t s_in t_in same = elim (cases_lt s i) [
      | inl s_less ↦ elim (cases_lt t i) [
        | inl t_less ↦ alike s t s_less t_less same
        | inr t_past ↦ (
            let t_is : t ≡ i = omega (arith, t_in, t_past) in
            sym (ap (λ u. next_value c u z) t_is
            ∙ as_before s s_less (sym (same ∙ ap place_of t_is))))
      ]
      | inr s_past ↦ (
          let s_is : s ≡ i = omega (arith, s_in, s_past) in
          elim (cases_lt t i) [
            | inl t_less ↦ ap (λ u. next_value c u z) s_is
                ∙ as_before t t_less (sym (ap place_of s_is) ∙ same)
            | inr t_past ↦ (
                let t_is : t ≡ i = omega (arith, t_in, t_past) in
                ap (λ u. next_value c u z) (s_is ∙ sym t_is))
          ])
    ]

  -- ---- the signals that are read are z and the chosen ones
  module _ (read : ℕ) (are : (y : ℕ) → Contains (z ∷ chosen) y ↔ (bit read y ≡ true)) where
    pub all_alike : NextByPlace c.graph.states → AllAlike c z read
    all_alike by_place one one_in other other_in same =
        by_place one other one_in other_in
        (same_place (code c one) (code c other) (z ∷ chosen) (λ y there. same y ((are y).0 there)))

    pub not_alike : (i : ℕ) (seen : Seen) → AreSeen c z chosen seen
        → bit (if next_value c i z then seen.off else seen.on) (place_of i) ≡ true → AllAlikeTo c z read i → ⊥
    not_alike i seen seen_are there alike = by_next (next_value c i z) refl
      where
        equal : (s : ℕ) → place_of s ≡ place_of i → (y : ℕ) → bit read y ≡ true
            → bit (code c i) y ≡ bit (code c s) y
        equal s same y reads = same_values (code c i) (code c s) (z ∷ chosen) (sym same) y ((are y).1 reads)

        by_next : (v : Bool) → next_value c i z ≡ v → ⊥
        by_next true is =
            let at : bit seen.off (place_of i) ≡ true =
            ap (λ (v : Bool). bit (if v then seen.off else seen.on) (place_of i)) (sym is) ∙ there in
            let (s, within, same, next) = seen_are.off (place_of i) at in
            true≢false (sym is ∙ alike s within (equal s same) ∙ next)
        by_next false is =
            let at : bit seen.on (place_of i) ≡ true =
            ap (λ (v : Bool). bit (if v then seen.off else seen.on) (place_of i)) (sym is) ∙ there in
            let (s, within, same, next) = seen_are.on (place_of i) at in
            true≢false (sym next ∙ sym (alike s within (equal s same)) ∙ is)
