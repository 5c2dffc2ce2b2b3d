-- Event words, read from left to right.
use Rattle.std.proofs.Common.{◌≡◌, ℕ, Bool, true, false, List, [], ◌∷◌, length, take, refl, ap, ap₂, arith, position}
use Rattle.std.proofs.Common.{unwrap_or, bytes_eq, Option, Some, None, inl, inr, one-add}
use Rattle.std.specs.List.{list_all, list_any, prefix_len, position_or_len}
use Rattle.std.proofs.lemmas.Bool.{cases_Bool, cases_lt}
use Rattle.std.proofs.lemmas.List.Folds.{list_any_at, list_any_none}
use Rattle.std.proofs.lemmas.List.Sums.{fails_before_first, passes_at_first}
use Rattle.si_base.specs.Words.{is_signal_name}
use Rattle.si_base.specs.declared.fault.TextKind.TheVariants.{Undeclared}
use Rattle.si_base.specs.declared.ids.Event.{Event}
use Rattle.si_words.specs.Events.{event_name, event_sign, event_fault, event_of, sign_fault, is_up}
use Rattle.si_words.specs.Names.{stands_in}

-- the bytes before the first that fails the test pass it
pub prefix_passes : (p : ℕ → Bool) (bs : List ℕ) → list_all p (take (prefix_len p bs) bs) ≡ true
prefix_passes p [] = refl
prefix_passes p (b ∷ bs) = elim (cases_Bool (p b)) [
  | inl passes ↦ rw (passes, one-add, passes) (prefix_passes p bs)
  | inr fails ↦ rw fails refl
]

module _ (p : List ℕ → Bool) (names : List (List ℕ)) where
  pub none_passes : None ≡ position p names → list_any p names ≡ false
  none_passes none = elim (cases_lt (position_or_len p names) (length names)) [
    | inl within ↦ absurd (grind arith)
    | inr past ↦ list_any_none p names (λ k d below. fails_before_first p names k d (omega arith))
  ]

  some_passes : (k : ℕ) → Some k ≡ position p names → list_any p names ≡ true
  some_passes k some = elim (cases_lt (position_or_len p names) (length names)) [
    | inl within ↦ list_any_at p names (position_or_len p names) [] within (passes_at_first p names [] within)
    | inr past ↦ absurd (grind arith)
  ]

module _ (names : List (List ℕ)) (word name sign : List ℕ) (named : name ≡ event_name word)
    (signed : sign ≡ event_sign word) (good : is_signal_name name ≡ true) (directed : sign_fault sign ≡ None) where
  pub is_undeclared : None ≡ position (λ n. bytes_eq name n) names → event_fault names word ≡ Some Undeclared
  is_undeclared none =
      let absent : stands_in names name ≡ false = none_passes (λ n. bytes_eq name n) names none in
      rw (← named, ← signed, good, directed, absent) refl

  pub is_event : (place : ℕ) (up : Bool) → Some place ≡ position (λ n. bytes_eq name n) names → up ≡ is_up sign
      → (event_fault names word ≡ None) × (record { sig = place; up = up } ≡ event_of names word)
  is_event place up some rises =
      let there : stands_in names name ≡ true = some_passes (λ n. bytes_eq name n) names place some in
      let make : ℕ → Bool → Event = λ a b. record { sig = a; up = b } in
      let at : place ≡ unwrap_or (position (λ n. bytes_eq name n) names) 0 =
      ap (λ (k : Option ℕ). unwrap_or k 0) some in (
        rw (← named, ← signed, good, directed, there) refl,
        rw (← named, ← signed) (ap₂ make at rises),
      )
