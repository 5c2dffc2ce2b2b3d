-- Whether the held signals suffice can be decided, so there is a list of outputs to force.
use Rattle.std.proofs.Common.{◌≡◌, ℕ, ◌<◌, ◌≤◌, ◌⊎◌, true, false, List, [], ◌∷◌, ◌++◌, refl, sym, ap, subst, ◌∙◌, arith, length, Contains}
use Rattle.std.proofs.Common.{inl, inr, zero, suc, slice_get, Option, Some, None}
use Rattle.std.proofs.lemmas.Bool.{true≢false, cases_Bool, cases_eq}
use Rattle.std.proofs.lemmas.Option.{slice_get_within}
use Rattle.std.specs.List.{range_with_len}
use Rattle.std.proofs.lemmas.List.FromFn.{get_or-range_with_len, length-range_with_len}
use Rattle.si_base.specs.declared.graph.Signal.{Signal}
use Rattle.si_base.specs.Bits.{bit}
use Rattle.si_base.specs.Graph.{IsNonInput, is_driven}
use Rattle.si_base.specs.Netlist.{Netlist, gate_place}
use Rattle.si_base.proofs.ListLemmas.{without}
use Rattle.si_base.proofs.OrderAscending.{In}
use Rattle.si_base.proofs.GivenGraphUnique.{in_from_contains}
use Rattle.si_settled.specs.Settling.{Suffices, Drops, ComesTo, IsShown, is_among, shows_if_there}
use Rattle.si_settled.proofs.Rounding.{tail_there, there_or_not}
use Rattle.si_settled.proofs.Turns.{all_suffice, suffice_all}

abbrev IsNext : Netlist → List ℕ → ℕ → Type 0
IsNext n known z = IsNonInput n.signals z × IsShown n known z

signal_decided : (signals : List Signal) (z : ℕ) (o : Option Signal) → slice_get signals z ≡ o
    → IsNonInput signals z ⊎ (IsNonInput signals z → ⊥)
signal_decided signals z None at = inr (λ h. none_some (slice_get signals z) h.0 at h.1)
  where
    none_some : (o : Option Signal) (x : Signal) → o ≡ None → o ≡ Some x → ⊥
    none_some o x p q = cc
signal_decided signals z (Some x) at = elim (cases_Bool (is_driven x.kind)) [
  | inl driven ↦ inl (x, at, driven)
  | inr other ↦ inr (λ h. not_driven (slice_get signals z) x h.0 at h.1 other h.2)
]
  where
    not_driven : (o : Option Signal) (x y : Signal) → o ≡ Some x → o ≡ Some y → is_driven x.kind ≡ false
        → is_driven y.kind ≡ true → ⊥
    not_driven o x y p q low high =
        let same : x ≡ y = cc in
        true≢false (sym high ∙ ap (λ (s : Signal). is_driven s.kind) (sym same) ∙ low)

next_decided : (n : Netlist) (known : List ℕ) (z : ℕ) → IsNext n known z ⊎ (IsNext n known z → ⊥)
next_decided n known z = elim (signal_decided n.signals z (slice_get n.signals z) refl) [
  | inr input ↦ inr (λ h. input h.0)
  | inl gate ↦
      elim (cases_Bool (shows_if_there (is_among known) n.start (slice_get n.gates (gate_place n.signals z)) (bit n.start z))) [
        | inl shown ↦ inl (gate, shown)
        | inr not_shown ↦ inr (λ h. true≢false (sym h.1 ∙ not_shown))
      ]
]

find_next : (n : Netlist) (known left : List ℕ)
    → ((z : ℕ) × In z left × IsNext n known z) ⊎ ((z : ℕ) → In z left → IsNext n known z → ⊥)
find_next n known [] = inr (λ z there next. there)
find_next n known (y ∷ left) = elim (next_decided n known y) [
  | inl next ↦ inl (y, inl refl, next)
  | inr other ↦ elim (find_next n known left) [
    | inl found ↦ inl (found.0, inr found.1, found.2)
    | inr none ↦ inr (λ z there next. neither n known y left other none z there next)
  ]
]
  where
    neither : (n : Netlist) (known : List ℕ) (y : ℕ) (left : List ℕ) → (IsNext n known y → ⊥)
        → ((z : ℕ) → In z left → IsNext n known z → ⊥) → (z : ℕ) → In z (y ∷ left) → IsNext n known z → ⊥
    neither n known y left other none z (inl same) next = other (subst (λ (i : ℕ). IsNext n known i) same next)
    neither n known y left other none z (inr there) next = none z there next

-- all signals below k are known, or one isn't
all_or_one : (known : List ℕ) (k : ℕ) → ((a : ℕ) → a < k → Contains known a)
    ⊎ ((a : ℕ) × (a < k) × (Contains known a → ⊥))
all_or_one known zero = inl (λ a small. absurd (omega (arith, small)))
all_or_one known (suc k) = elim (there_or_not known k) [
  | inr missing ↦ inr (k, omega arith, missing)
  | inl there ↦ elim (all_or_one known k) [
    | inr one ↦ inr (one.0, omega (arith, one.1), one.2)
    | inl all ↦ inl (λ a small. last known k a there all small (cases_eq a k))
  ]
]
  where
    last : (known : List ℕ) (k a : ℕ) → Contains known k → ((b : ℕ) → b < k → Contains known b) → a < suc k
        → ((a ≡ k) ⊎ (a ≡ k → ⊥)) → Contains known a
    last known k a there all small (inl same) = subst (λ (i : ℕ). Contains known i) (sym same) there
    last known k a there all small (inr other) = all a (omega (arith, small, other))

abbrev Covers : Netlist → List ℕ → List ℕ → Type 0
Covers n known left = (a : ℕ) → a < length n.signals → Contains known a ⊎ In a left

more_covers : (n : Netlist) (known left rest : List ℕ) (z : ℕ) → Covers n known left
    → ((a : ℕ) → In a left → (a ≡ z → ⊥) → In a rest) → Covers n (z ∷ known) rest
more_covers n known left rest z covers others a small = elim (cases_eq a z) [
  | inl same ↦ inl (0, omega arith, sym same)
  | inr other ↦ elim (covers a small) [
    | inl there ↦ inl (tail_there z a known there)
    | inr later ↦ inr (others a later other)
  ]
]

-- what may be shown is known, where nothing that is left may
nothing_new : (n : Netlist) (known left : List ℕ) → Covers n known left
    → ((z : ℕ) → In z left → IsNext n known z → ⊥) → (z : ℕ) → IsNext n known z → Contains known z
nothing_new n known left covers none z next = elim (covers z (slice_get_within n.signals z next.0.0 next.0.1)) [
  | inl there ↦ there
  | inr later ↦ absurd (none z later next)
]

stopped : (n : Netlist) (known left : List ℕ) → Covers n known left → ((z : ℕ) → In z left → IsNext n known z → ⊥)
    → ComesTo n known known
stopped n known left covers none = record {
  order = [];
  in_turn = refl;
  stops = λ z gate shown. nothing_new n known left covers none z (gate, shown);
}

goes_on : (n : Netlist) (known : List ℕ) (z : ℕ) → IsNext n known z → ((end : List ℕ) × ComesTo n (z ∷ known) end)
    → (end : List ℕ) × ComesTo n known end
goes_on n known z next to = (
  to.0,
  record { order = z ∷ to.1.order; in_turn = (next.0, next.1, to.1.in_turn); stops = to.1.stops },
)

comes_from : (n : Netlist) (fuel : ℕ) (known left : List ℕ) → length left ≤ fuel → Covers n known left
    → (end : List ℕ) × ComesTo n known end
comes_from n zero known [] few covers = (known, stopped n known [] covers (λ z there next. there))
comes_from n zero known (y ∷ left) few covers = absurd (omega (arith, few))
comes_from n (suc fuel) known left few covers = elim (find_next n known left) [
  | inl found ↦
      (let w = without found.0 left found.1 in
      let size = w.1.shorter in
      goes_on n known found.0 found.2 (comes_from n fuel (found.0 ∷ known) w.0 (omega (arith, few, size))
      (more_covers n known left w.0 found.0 covers w.1.others)))
  | inr none ↦ (known, stopped n known left covers none)
]

pub comes_to : (n : Netlist) (held : List ℕ) → (end : List ℕ) × ComesTo n held end
comes_to n held =
    let k = length n.signals in
    let all = range_with_len 0 k in
    let size = length-range_with_len 0 k in
    comes_from n (length all) held all (omega arith) (λ a small. inr (in_from_contains all a a (omega (arith, size, small))
    (get_or-range_with_len 0 k a a small ∙ omega arith)))

suffices_decided : (n : Netlist) (known : List ℕ) → Suffices n known ⊎ (Suffices n known → ⊥)
suffices_decided n known =
    let to = comes_to n known in
    elim (all_or_one to.0 (length n.signals)) [
      | inl all ↦ inl (all_suffice n known to.0 to.1 all)
      | inr one ↦ inr (λ s. one.2 (suffice_all n known to.0 to.1 s one.0 one.1))
    ]

drops_from : (n : Netlist) (inputs before gates : List ℕ) → (forced : List ℕ) × Drops n inputs before gates forced
drops_from n inputs before [] = (before, refl)
drops_from n inputs before (z ∷ rest) = elim (suffices_decided n (inputs ++ (before ++ rest))) [
  | inl enough ↦ (let r = drops_from n inputs before rest in (r.0, inl (enough, r.1)))
  | inr needed ↦ (let r = drops_from n inputs (before ++ z ∷ []) rest in (r.0, inr (needed, r.1)))
]

pub drops_exist : (n : Netlist) (inputs gates : List ℕ) → (forced : List ℕ) × Drops n inputs [] gates forced
drops_exist n inputs gates = drops_from n inputs [] gates
