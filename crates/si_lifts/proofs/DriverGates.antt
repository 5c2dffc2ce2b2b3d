-- The gate that stands at a signal of the whole is that of the one part that drives it.
use Rattle.std.proofs.Common.{◌≡◌, ℕ, zero, suc, ◌+◌, ◌<◌, ◌==◌, ◌&&◌, true, List, [], ◌∷◌, Option, Some, None}
use Rattle.std.proofs.Common.{length, slice_get, slice_index, slice_index_or, refl, ap, ◌∙◌, arith, inl, inr, eq-eqb}
use Rattle.std.proofs.lemmas.Bool.{and_from, and_parts, cases_Bool, eqb-true}
use Rattle.std.proofs.lemmas.Option.{same_Some}
use Rattle.si_base.specs.declared.graph.Signal.{Signal}
use Rattle.si_base.specs.Graph.{is_driven}
use Rattle.si_base.specs.Netlist.{Netlist}
use Rattle.si_joins.specs.Gates.{driven_at, gate_or, joined_gate, own_gate, renamed_gate}
use Rattle.si_lifts.specs.Parts.{part_at}

-- ---- what is found at k is a driven signal that stands there
pub record StandsAt (k : ℕ) (signals : List Signal) (to : List ℕ) (z : ℕ) : Type 0 where
  pub signal : Signal
  pub there : slice_get signals z ≡ Some signal
  pub driven : is_driven signal.kind ≡ true
  pub place : slice_index to z ≡ k

stands_more : (k : ℕ) (x : Signal) (xs : List Signal) (p : ℕ) (to : List ℕ) (z : ℕ) → StandsAt k xs to z
    → StandsAt k (x ∷ xs) (p ∷ to) (suc z)
stands_more k x xs p to z stands = record {
  signal = stands.signal;
  there = stands.there;
  driven = stands.driven;
  place = stands.place;
}

stands_less : (k : ℕ) (x : Signal) (xs : List Signal) (p : ℕ) (to : List ℕ) (z : ℕ)
    → StandsAt k (x ∷ xs) (p ∷ to) (suc z) → StandsAt k xs to z
stands_less k x xs p to z stands = record {
  signal = stands.signal;
  there = stands.there;
  driven = stands.driven;
  place = stands.place;
}

pub stands_from : (k z : ℕ) (signals : List Signal) (to : List ℕ) (y : ℕ) → driven_at k z signals to ≡ Some y
    → (w : ℕ) × (z + w ≡ y) × StandsAt k signals to w
stands_from k z [] to y is = cc
stands_from k z (x ∷ xs) [] y is = cc
stands_from k z (x ∷ xs) (p ∷ to) y is = elim (cases_Bool (is_driven x.kind && (p == k))) [
  | inl test ↦ (
      let here : Some z ≡ Some y = rw test at is in
      let same = same_Some z y here in
      let both = and_parts (is_driven x.kind) (p == k) test in
      let stands : StandsAt k (x ∷ xs) (p ∷ to) 0 =
      record { signal = x; there = refl; driven = both.0; place = eqb-true p k both.1 } in
      (0, omega (arith, same), stands))
  | inr test ↦ (
      let later : driven_at k (z + 1) xs to ≡ Some y = rw test at is in
      let rest = stands_from k (z + 1) xs to y later in
      (suc rest.0, (let same = rest.1 in omega (arith, same)), stands_more k x xs p to rest.0 rest.2))
]

-- ---- where a driven signal stands at k, one is found
pub finds_driven : (k z : ℕ) (signals : List Signal) (to : List ℕ) (w : ℕ) → w < length to → StandsAt k signals to w
    → (y : ℕ) × (driven_at k z signals to ≡ Some y)
finds_driven k z [] to w inside stands = let at = stands.there in cc
finds_driven k z (x ∷ xs) [] w inside stands = absurd (omega (arith, inside))
finds_driven k z (x ∷ xs) (p ∷ to) zero inside stands =
    let same = same_Some x stands.signal stands.there in
    let driven : is_driven x.kind ≡ true = ap (λ (s : Signal). is_driven s.kind) same ∙ stands.driven in
    let test = and_from (is_driven x.kind) (p == k) driven (eq-eqb p k stands.place) in
    (z, rw test refl)
finds_driven k z (x ∷ xs) (p ∷ to) (suc w) inside stands =
    let rest = finds_driven k (z + 1) xs to w (omega (arith, inside)) (stands_less k x xs p to w stands) in
    elim (cases_Bool (is_driven x.kind && (p == k))) [
      | inl test ↦ (z, rw test refl)
      | inr test ↦ (rest.0, rw test rest.1)
    ]

-- ---- the gate at k, where the i-th part alone drives it, as its signal z
pub gate_of_driver : (n k : ℕ) (parts : List Netlist) (tos : List (List ℕ)) (i z : ℕ) → length tos ≡ length parts
    → i < length parts
    → ((j y : ℕ) → j < length parts → driven_at k 0 (part_at parts j).signals (slice_index_or tos j []) ≡ Some y
    → j ≡ i)
    → driven_at k 0 (part_at parts i).signals (slice_index_or tos i []) ≡ Some z
    → joined_gate n parts tos k ≡ renamed_gate (slice_index_or tos i []) n (own_gate (part_at parts i) z)
gate_of_driver n k [] tos i z many inside one found = absurd (omega (arith, inside))
gate_of_driver n k (part ∷ parts) [] i z many inside one found = absurd (omega (arith, many))
gate_of_driver n k (part ∷ parts) (to ∷ tos) zero z many inside one found =
    ap (gate_or n part to (joined_gate n parts tos k)) found
gate_of_driver n k (part ∷ parts) (to ∷ tos) (suc i) z many inside one found =
    by_first (driven_at k 0 part.signals to) refl
    (gate_of_driver n k parts tos i z (omega (arith, many)) (omega (arith, inside))
    (λ j y below at. (let same = one (suc j) y (omega (arith, below)) at in omega (arith, same))) found)
  where
    by_first : (o : Option ℕ) → driven_at k 0 part.signals to ≡ o
        → joined_gate n parts tos k ≡ renamed_gate (slice_index_or tos i []) n (own_gate (part_at parts i) z)
        → gate_or n part to (joined_gate n parts tos k) o
        ≡ renamed_gate (slice_index_or tos i []) n (own_gate (part_at parts i) z)
    by_first None none later = later
    by_first (Some y) some later = absurd (let same = one 0 y (omega arith) some in omega (arith, same))
