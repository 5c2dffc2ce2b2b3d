-- The names of equations that are whole: they are signal names, distinct, and not too many.
use Rattle.std.proofs.Common.{◌≡◌, ◌≢◌, ℕ, ◌+◌, ◌<◌, ◌≤◌, ◌||◌, not, Bool, true, false, List, [], ◌∷◌, ◌++◌, length}
use Rattle.std.proofs.Common.{None, nat_le, bytes_eq, refl, sym, ◌∙◌, arith, inl, inr}
use Rattle.std.specs.List.{AllByRecursion}
use Rattle.std.proofs.lemmas.Bool.{cases_Bool, cases_lt, le-leb, or_parts, true≢false}
use Rattle.std.proofs.lemmas.List.{length_push}
use Rattle.si_base.specs.Faults.{when, ◌otherwise◌, first_after}
use Rattle.si_base.specs.Limits.{max_signals}
use Rattle.si_base.specs.Words.{is_signal_name}
use Rattle.si_base.specs.declared.fault.TextKind.TheVariants.{BadName, Repeated, TooManySignals}
use Rattle.si_base.proofs.OrderAscending.{In}
use Rattle.si_words.specs.Names.{name_fault, stands_in}
use Rattle.si_words.proofs.FaultLemmas.{both, not_when}
use Rattle.si_equations.specs.Equations.{Equations, driven, internal, signals}
use Rattle.si_equations.specs.Whole.{AreWhole, repeated}
use Rattle.si_from_equations.proofs.ElementLemmas.{Pairs, in_kept, in_left, in_right, in_standing, other_name}

not_false : (b : Bool) → not b ≡ false → b ≡ true
not_false true is = refl
not_false false is = absurd cc

-- ---- one name after another
good_names : (limit : ℕ) (before names : List (List ℕ)) → first_after (name_fault limit) before names ≡ None
    → AllByRecursion (λ n. is_signal_name n ≡ true) names
good_names limit before [] none = tt
good_names limit before (n ∷ names) none =
    let parts = both (name_fault limit before n) (first_after (name_fault limit) (before ++ n ∷ []) names) none in
    let named = both (when (not (is_signal_name n)) BadName)
    (when (stands_in before n) Repeated otherwise when (nat_le limit (length before)) TooManySignals) parts.0 in (
      not_false (is_signal_name n) (not_when (not (is_signal_name n)) BadName named.0),
      good_names limit (before ++ n ∷ []) names parts.1,
    )

few_names : (limit : ℕ) (before names : List (List ℕ)) → first_after (name_fault limit) before names ≡ None
    → length before ≤ limit → length before + length names ≤ limit
few_names limit before [] none few = omega (arith, few)
few_names limit before (n ∷ names) none few =
    let parts = both (name_fault limit before n) (first_after (name_fault limit) (before ++ n ∷ []) names) none in
    let named = both (when (not (is_signal_name n)) BadName)
    (when (stands_in before n) Repeated otherwise when (nat_le limit (length before)) TooManySignals) parts.0 in
    let last = both (when (stands_in before n) Repeated) (when (nat_le limit (length before)) TooManySignals) named.1 in
    let room = not_when (nat_le limit (length before)) TooManySignals last.1 in
    let less : length before < limit = elim (cases_lt (length before) limit) [
      | inl less ↦ less
      | inr full ↦ absurd (true≢false (sym (le-leb limit (length before) full) ∙ room))
    ] in
    omega (arith, length_push before n, few_names limit (before ++ n ∷ []) names parts.1 (omega (arith, length_push before n, less)))

-- ---- distinct names
not_last : (before : List (List ℕ)) (n name : List ℕ) → stands_in (before ++ n ∷ []) name ≡ false
    → (stands_in before name ≡ false) × (bytes_eq name n ≡ false)
not_last [] n name none = (refl, (or_parts (bytes_eq name n) false none).0)
not_last (m ∷ before) n name none =
    let parts = or_parts (bytes_eq name m) (stands_in (before ++ n ∷ []) name) none in
    let rest = not_last before n name parts.1 in
    (rw (parts.0, rest.0) refl, rest.1)

none_last : (before : List (List ℕ)) (n : List ℕ) (names : List (List ℕ))
    → AllByRecursion (λ m. stands_in (before ++ n ∷ []) m ≡ false) names
    → AllByRecursion (λ m. stands_in before m ≡ false) names × AllByRecursion (λ m. n ≢ m) names
none_last before n [] none = (tt, tt)
none_last before n (m ∷ names) none =
    let here = not_last before n m none.0 in
    let rest = none_last before n names none.1 in
    ((here.0, rest.0), (other_name m n here.1, rest.1))

once_driven : (inputs before names : List (List ℕ)) → first_after (repeated inputs) before names ≡ None
    → AllByRecursion (λ m. stands_in before m ≡ false) names × Pairs (λ n m. n ≢ m) names
once_driven inputs before [] none = (tt, tt)
once_driven inputs before (n ∷ names) none =
    let parts = both (repeated inputs before n) (first_after (repeated inputs) (before ++ n ∷ []) names) none in
    let fresh = or_parts (stands_in inputs n) (stands_in before n)
    (not_when (stands_in inputs n || stands_in before n) Repeated parts.0) in
    let rest = once_driven inputs (before ++ n ∷ []) names parts.1 in
    let apart = none_last before n names rest.0 in
    ((fresh.1, apart.0), (apart.1, rest.1))

-- ---- of all
module _ (e : Equations) (whole : AreWhole e) where
  pub are_signal_names : AllByRecursion (λ n. is_signal_name n ≡ true) (signals e)
  are_signal_names = good_names max_signals [] (signals e) whole.names

  pub few_signals : length (signals e) ≤ max_signals
  few_signals = omega (arith, few_names max_signals [] (signals e) whole.names (omega arith))

  pub driven_apart : Pairs (λ n m. n ≢ m) (driven e)
  driven_apart = (once_driven e.inputs [] (driven e) whole.once).1

pub input_is_signal : (e : Equations) (name : List ℕ) → In name e.inputs → In name (signals e)
input_is_signal e name there =
    in_left name (e.inputs ++ e.outputs) (internal e) (in_left name e.inputs e.outputs there)

pub driven_is_signal : (e : Equations) (name : List ℕ) → In name (driven e) → In name (signals e)
driven_is_signal e name there =
    let listed = e.inputs ++ e.outputs in
    elim (cases_Bool (stands_in e.outputs name)) [
      | inl output ↦ in_left name listed (internal e)
          (in_right name e.inputs e.outputs (in_standing e.outputs name output))
      | inr other ↦ in_right name listed (internal e)
          (in_kept (λ (n : List ℕ). not (stands_in e.outputs n)) name (driven e) there (rw other refl))
    ]
