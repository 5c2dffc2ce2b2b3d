-- Signals with gates, in signal order: each stands at its gate's place.
use Rattle.std.proofs.Common.{◌≡◌, ℕ, zero, suc, ◌+◌, Bool, true, false, List, [], ◌∷◌, length, map, filter, get_or}
use Rattle.std.proofs.Common.{slice_get, option_map, unwrap_or, Option, Some, None, refl, sym, ap, ◌∙◌, arith, inl, inr}
use Rattle.std.specs.List.{AllByRecursion, range_with_len}
use Rattle.std.proofs.lemmas.Bool.{cases_Bool, true≢false}
use Rattle.std.proofs.lemmas.List.Elements.{filter_passes, recursion_from_All}
use Rattle.si_base.specs.declared.graph.Signal.{Signal}
use Rattle.si_base.specs.Graph.{is_driven, IsNonInput}
use Rattle.si_base.specs.Netlist.{gate_place}
use Rattle.si_base.specs.NetlistText.{name_of}
use Rattle.si_loops.specs.Arcs.{gated, has_gate}
use Rattle.si_loops.proofs.ArcLemmas.{gate_of_signal}

has_one : (signals : List Signal) (z : ℕ) → has_gate signals z ≡ true → IsNonInput signals z
has_one signals z gate = by (slice_get signals z) refl gate
  where
    by : (o : Option Signal) → slice_get signals z ≡ o
        → unwrap_or (option_map (λ (x : Signal). is_driven x.kind) o) false ≡ true → IsNonInput signals z
    by None is none = absurd (true≢false (sym none))
    by (Some x) is driven = (x, is, driven)

-- each of them has a gate
pub all_gated : (signals : List Signal) → AllByRecursion (IsNonInput signals) (gated signals)
all_gated signals = recursion_from_All (IsNonInput signals) (gated signals)
    (λ i d within. has_one signals (get_or (gated signals) i d)
    (filter_passes (has_gate signals) (range_with_len 0 (length signals)) i d within))

-- ---- from a signal on

kept : {A : Type 0} (p : A → Bool) (x : A) (xs : List A) → p x ≡ true → filter p (x ∷ xs) ≡ x ∷ filter p xs
kept p x xs is = rw is refl

passed : {A : Type 0} (p : A → Bool) (x : A) (xs : List A) → p x ≡ false → filter p (x ∷ xs) ≡ filter p xs
passed p x xs is = rw is refl

-- xs are the signals from the i-th on
abbrev AreFrom : List Signal → ℕ → List Signal → Type 0
AreFrom all i xs = (k : ℕ) → slice_get xs k ≡ slice_get all (i + k)

from_next : (all : List Signal) (i : ℕ) (x : Signal) (xs : List Signal) → AreFrom all i (x ∷ xs)
    → AreFrom all (i + 1) xs
from_next all i x xs from = λ k.
    let order : i + suc k ≡ (i + 1) + k = omega arith in
    from (suc k) ∙ ap (slice_get all) order

from_here : (all : List Signal) (i : ℕ) (x : Signal) (xs : List Signal) → AreFrom all i (x ∷ xs)
    → slice_get all i ≡ Some x
from_here all i x xs from =
    let order : i ≡ i + 0 = omega arith in
    ap (slice_get all) order ∙ sym (from 0)

abbrev gated_from : List Signal → ℕ → List Signal → List ℕ
gated_from all i xs = filter (has_gate all) (range_with_len i (length xs))

driven_place : (x : Signal) (xs : List Signal) (z : ℕ) → is_driven x.kind ≡ true
    → gate_place (x ∷ xs) (suc z) ≡ suc (gate_place xs z)
driven_place x xs z driven = rw driven (omega arith)

input_place : (x : Signal) (xs : List Signal) (z : ℕ) → is_driven x.kind ≡ false
    → gate_place (x ∷ xs) (suc z) ≡ gate_place xs z
input_place x xs z input = rw input (omega arith)

placed : (all : List Signal) (i : ℕ) (xs : List Signal) (z : ℕ) → AreFrom all i xs → IsNonInput xs z
    → slice_get (gated_from all i xs) (gate_place xs z) ≡ Some (i + z)
placed all i [] z from non_input = (let none = non_input.1 in cc)
placed all i (x ∷ xs) zero from non_input =
    let here = non_input.1 in
    let same : x ≡ non_input.0 = cc in
    let driven : is_driven x.kind ≡ true = ap (λ (s : Signal). is_driven s.kind) same ∙ non_input.2 in
    let gate : has_gate all i ≡ true = gate_of_signal all i x (from_here all i x xs from) ∙ driven in
    let order : i ≡ i + 0 = omega arith in
    ap (λ (l : List ℕ). slice_get l 0) (kept (has_gate all) i (range_with_len (i + 1) (length xs)) gate)
    ∙ ap Some order
placed all i (x ∷ xs) (suc z) from non_input =
    let later = placed all (i + 1) xs z (from_next all i x xs from) non_input in
    let gate = gate_of_signal all i x (from_here all i x xs from) in
    let rest = range_with_len (i + 1) (length xs) in
    let order : (i + 1) + z ≡ i + suc z = omega arith in
    elim (cases_Bool (is_driven x.kind)) [
      | inl driven ↦
          ap (λ (l : List ℕ). slice_get l (gate_place (x ∷ xs) (suc z))) (kept (has_gate all) i rest (gate ∙ driven))
          ∙ ap (slice_get (i ∷ gated_from all (i + 1) xs)) (driven_place x xs z driven) ∙ later ∙ ap Some order
      | inr input ↦
          ap (λ (l : List ℕ). slice_get l (gate_place (x ∷ xs) (suc z))) (passed (has_gate all) i rest (gate ∙ input))
          ∙ ap (slice_get (gated_from all (i + 1) xs)) (input_place x xs z input) ∙ later ∙ ap Some order
    ]

-- z stands at the place of its gate
pub at_its_place : (signals : List Signal) (z : ℕ) → IsNonInput signals z
    → slice_get (gated signals) (gate_place signals z) ≡ Some z
at_its_place signals z non_input =
    let order : 0 + z ≡ z = omega arith in
    placed signals 0 signals z (λ k. (let place : k ≡ 0 + k = omega arith in ap (slice_get signals) place)) non_input
    ∙ ap Some order

-- ---- names

abbrev driven_names : List Signal → List (List ℕ)
driven_names xs = map (λ (x : Signal). x.name) (filter (λ (x : Signal). is_driven x.kind) xs)

named : (all : List Signal) (i : ℕ) (xs : List Signal) → AreFrom all i xs
    → map (name_of all) (gated_from all i xs) ≡ driven_names xs
named all i [] from = refl
named all i (x ∷ xs) from =
    let later = named all (i + 1) xs (from_next all i x xs from) in
    let at = from_here all i x xs from in
    let gate = gate_of_signal all i x at in
    let rest = range_with_len (i + 1) (length xs) in
    let name : name_of all i ≡ x.name =
    ap (λ (o : Option Signal). unwrap_or (option_map (λ (s : Signal). s.name) o) []) at in
    elim (cases_Bool (is_driven x.kind)) [
      | inl driven ↦
          ap (map (name_of all)) (kept (has_gate all) i rest (gate ∙ driven))
          ∙ (λ j. name j ∷ later j)
          ∙ sym (ap (map (λ (s : Signal). s.name)) (kept (λ (s : Signal). is_driven s.kind) x xs driven))
      | inr input ↦
          ap (map (name_of all)) (passed (has_gate all) i rest (gate ∙ input)) ∙ later
          ∙ sym (ap (map (λ (s : Signal). s.name)) (passed (λ (s : Signal). is_driven s.kind) x xs input))
    ]

-- the names of the signals with gates are those of the non-inputs
pub gated_names : (signals : List Signal) → map (name_of signals) (gated signals) ≡ driven_names signals
gated_names signals =
    named signals 0 signals (λ k. (let place : k ≡ 0 + k = omega arith in ap (slice_get signals) place))
