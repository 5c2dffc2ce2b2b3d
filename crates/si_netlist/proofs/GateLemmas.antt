-- The places and values of gates.
use Rattle.std.proofs.Common.{◌≡◌, ℕ, ◌<◌, ◌+◌, ◌-◌, ◌≤◌, not, AllPairs, Bool, true, false, List, [], ◌∷◌, filter, map}
use Rattle.std.proofs.Common.{zero, suc, length, if◌then◌else◌, slice_get, option_map, Some, refl, sym, ap, ◌∙◌, arith}
use Rattle.std.proofs.Common.{get_or, inl, inr}
use Rattle.std.proofs.lemmas.List.Filters.{length-filter_both}
use Rattle.std.proofs.lemmas.Bool.{cases_Bool}
use Rattle.std.proofs.lemmas.List.{length-map}
use Rattle.std.proofs.lemmas.Option.{slice_get-map, slice_get_within, slice_get-get_or}
use Rattle.si_base.specs.declared.graph.Signal.{Signal}
use Rattle.si_base.specs.declared.graph.SigKind.{SigKind}
use Rattle.si_base.specs.declared.graph.SigKind.TheVariants.{Input, Output, Internal, Inserted}
use Rattle.si_base.specs.Graph.{is_driven, kind_place, IsNonInput}
use Rattle.si_base.specs.Netlist.{Netlist, gate_place}
use Rattle.si_base.specs.Limits.{max_signals}
use Rattle.si_base.specs.WellFormed.{IsNetlist}
use Rattle.si_netlist.specs.declared.gate.Gate.{Gate}
use Rattle.si_netlist.specs.Loops.Parts.{gate_seen}

-- one more signal
count_step : (p : Signal → Bool) (x : Signal) (xs : List Signal) (driven : Bool) → p x ≡ driven
    → length (filter p (x ∷ xs)) ≡ (if driven then 1 else 0) + length (filter p xs)
count_step p x xs true e = rw e (omega arith)
count_step p x xs false e = rw e (omega arith)

-- the place of a non-input is below their number
place_of_driven : (xs : List Signal) (z : ℕ) (x : Signal) → slice_get xs z ≡ Some x → is_driven x.kind ≡ true
    → gate_place xs z < length (filter (λ y. is_driven y.kind) xs)
place_of_driven [] z x here driven = cc
place_of_driven (y ∷ xs) zero x here driven =
    let same : y ≡ x = cc in
    let step = count_step (λ s. is_driven s.kind) y xs true (rw same driven) in
    omega (arith, step)
place_of_driven (y ∷ xs) (suc z) x here driven =
    let step = count_step (λ s. is_driven s.kind) y xs (is_driven y.kind) refl in
    let rest = place_of_driven xs z x here driven in
    omega (arith, step, rest)

pub gate_place-lt : (xs : List Signal) (z : ℕ) → IsNonInput xs z
    → gate_place xs z < length (filter (λ x. is_driven x.kind) xs)
gate_place-lt xs z there = place_of_driven xs z there.0 there.1 there.2

pub within_signals : (xs : List Signal) (z : ℕ) → IsNonInput xs z → z < length xs
within_signals xs z there = slice_get_within xs z there.0 there.1

-- ---- the inputs stand in front

abbrev pub AreInOrder : List Signal → Type 0
AreInOrder xs = AllPairs (λ x y. kind_place x.kind ≤ kind_place y.kind) xs

pub tail_in_order : (x : Signal) (xs : List Signal) → AreInOrder (x ∷ xs) → AreInOrder xs
tail_in_order x xs pairs i j d before within = pairs (suc i) (suc j) d (omega arith) (omega arith)

-- a kind that doesn't come before a driven one is driven
driven_after : (k l : SigKind) → is_driven k ≡ true → kind_place k ≤ kind_place l → is_driven l ≡ true
driven_after Input l driven after = cc
driven_after Output Input driven after = absurd (omega arith)
driven_after Internal Input driven after = absurd (omega arith)
driven_after Inserted Input driven after = absurd (omega arith)
driven_after k Output driven after = refl
driven_after k Internal driven after = refl
driven_after k Inserted driven after = refl

head_driven : (x y : Signal) (xs : List Signal) → AreInOrder (x ∷ y ∷ xs) → is_driven x.kind ≡ true
    → is_driven y.kind ≡ true
head_driven x y xs pairs driven = driven_after x.kind y.kind driven (pairs 0 1 x (omega arith) (omega arith))

-- from a driven signal on there is a gate for each
all_driven : (x : Signal) (xs : List Signal) → AreInOrder (x ∷ xs) → is_driven x.kind ≡ true
    → length (filter (λ s. is_driven s.kind) (x ∷ xs)) ≡ length (x ∷ xs)
all_driven x [] pairs driven = rw driven refl
all_driven x (y ∷ xs) pairs driven =
    let rest = all_driven y xs (tail_in_order x (y ∷ xs) pairs) (head_driven x y xs pairs driven) in
    let step = count_step (λ s. is_driven s.kind) x (y ∷ xs) true driven in
    omega (arith, step, rest)

place_of_all : (x : Signal) (xs : List Signal) (z : ℕ) → AreInOrder (x ∷ xs) → is_driven x.kind ≡ true
    → z < length (x ∷ xs) → gate_place (x ∷ xs) z ≡ z
place_of_all x xs zero pairs driven within = refl
place_of_all x [] (suc z) pairs driven within = absurd (omega arith)
place_of_all x (y ∷ xs) (suc z) pairs driven within =
    let rest = place_of_all y xs z (tail_in_order x (y ∷ xs) pairs) (head_driven x y xs pairs driven) (omega arith) in
    rw driven (omega (arith, rest))

place_behind : (xs : List Signal) (z : ℕ) → AreInOrder xs → IsNonInput xs z
    → gate_place xs z + length xs ≡ z + length (filter (λ s. is_driven s.kind) xs)
place_behind [] z pairs there = let none = there.1 in cc
place_behind (x ∷ xs) zero pairs there =
    let here = there.1 in
    let same : x ≡ there.0 = cc in
    let all = all_driven x xs pairs (rw same there.2) in
    omega (arith, all)
place_behind (x ∷ xs) (suc z) pairs there =
    elim (cases_Bool (is_driven x.kind)) [
      | inl driven ↦ (
          let all = all_driven x xs pairs driven in
          let place = place_of_all x xs (suc z) pairs driven (within_signals (x ∷ xs) (suc z) there) in
          omega (arith, all, place))
      | inr input ↦ (
          let rest = place_behind xs z (tail_in_order x xs pairs) there in
          let step = count_step (λ s. is_driven s.kind) x xs false input in
          let place : gate_place (x ∷ xs) (suc z) ≡ gate_place xs z = rw input (omega arith) in
          omega (arith, rest, step, place))
    ]

-- among so many signals with so many gates, the place of z's gate is z less the signals without one
pub record StandsBehind (n : Netlist) (z signals gates : ℕ) : Type 0 where
  pub fewer : gates ≤ signals
  pub behind : signals - gates ≤ z
  pub place : z - (signals - gates) ≡ gate_place n.signals z
  pub there : gate_place n.signals z < gates
  pub few : z < max_signals

pub stands_behind : (n m : Netlist) (gates : List Gate) (z signals count : ℕ) → m ≡ n → IsNetlist m
    → IsNonInput n.signals z → map gate_seen gates ≡ m.gates → signals ≡ length m.signals → count ≡ length gates
    → StandsBehind n z signals count
stands_behind n m gates z signals count same netlist there seen all each =
    let driven = λ (s : Signal). is_driven s.kind in
    let counted : count ≡ length (filter driven m.signals) =
    each ∙ sym (length-map gates gate_seen) ∙ ap length seen ∙ netlist.gate_count in
    let here : IsNonInput m.signals z = rw same there in
    let split = length-filter_both driven (λ s. not (driven s)) (λ s. refl) m.signals in
    let behind = place_behind m.signals z netlist.kinds here in
    let below = gate_place-lt m.signals z here in
    let within = within_signals m.signals z here in
    rw (← same) (record {
      fewer = omega (arith, counted, split);
      behind = omega (arith, counted, behind);
      place = omega (arith, counted, behind, split);
      there = omega (arith, counted, below);
      few = omega (arith, within, netlist.few);
    })

-- the gate that is read at its place
pub gate-read : (n : Netlist) (gates : List Gate) (place z : ℕ) (gate : Gate)
    → map gate_seen gates ≡ n.gates → place ≡ gate_place n.signals z
    → place < length gates → gate ≡ get_or gates place gate
    → slice_get n.gates (gate_place n.signals z) ≡ Some (gate_seen gate)
gate-read n gates place z gate same at within is =
    let there : slice_get gates place ≡ Some gate =
    slice_get-get_or gates place gate within ∙ ap (λ (g : Gate). Some g) (sym is) in
    rw (← same, ← at) (slice_get-map gate_seen gates place ∙ ap (option_map gate_seen) there)
