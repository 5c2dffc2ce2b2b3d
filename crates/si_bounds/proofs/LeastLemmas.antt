-- What is known of each signal before an insertion bounds the weight after it.
use Rattle.std.proofs.Common.{◌≡◌, ℕ, suc, ◌+◌, ◌<◌, ◌≤◌, true, false, List, [], ◌∷◌, length, drop}
use Rattle.std.proofs.Common.{get_or}
use Rattle.std.proofs.Common.{slice_get, slice_index_or, Some, refl, sym, ap, subst, ◌∙◌, arith, inl, inr}
use Rattle.std.proofs.lemmas.Bool.{cases_Bool, cases_lt}
use Rattle.std.proofs.Common.{add-one}
use Rattle.std.proofs.Math.Seq.{drop-cons}
use Rattle.std.proofs.lemmas.List.{drop_all, get_or_default, length_push}
use Rattle.std.proofs.lemmas.Option.{slice_get-get_or}
use Rattle.si_base.specs.Bits.{bit}
use Rattle.si_base.specs.Codes.{CodedGraph}
use Rattle.si_base.specs.Graph.{StateGraph, IsNonInput, is_driven}
use Rattle.si_base.specs.declared.graph.Signal.{Signal}
use Rattle.si_base.specs.declared.graph.SigKind.TheVariants.{Input}
use Rattle.si_cell.specs.Library.{Library}
use Rattle.si_insert.specs.declared.partition.Class.{Class}
use Rattle.si_insert.specs.Insertion.{Copy, IsInsertedGraph, coded}
use Rattle.si_insert.specs.Partition.{IsLawful}
use Rattle.si_insert.proofs.AcceptedLosses.{driven_after}
use Rattle.si_match.specs.Weight.{added_weight, weight_from, weight_of}
use Rattle.si_match.proofs.WeightLemmas.{begins, driven, input}
use Rattle.si_bounds.specs.Loops.Least.{AddsTo, AreLeast}
use Rattle.si_bounds.specs.Loops.Least.{WeighsAtLeast, sum_outside}
use Rattle.si_bounds.specs.Loops.Waiting.{NeverWaits}

-- ---- signal after signal
-- ---- the sum
-- the signals outside of the set add to the weight what the list has
abbrev pub AllAdd : CodedGraph → Library → ℕ → List ℕ → Type 0
AllAdd c library waiting least = (z : ℕ) → bit waiting z ≡ false → AddsTo c library z (slice_index_or least z 0)

-- the sum so far, and what is still to be added
module _ (waiting i sum whole : ℕ) (least : List ℕ) (inside : i < length least) where
  next : drop i least ≡ get_or least i 0 ∷ drop (i + 1) least
  next = rw add-one (drop-cons least i 0 inside)

  pub sums_passed : bit waiting i ≡ true → sum + sum_outside waiting i (drop i least) ≡ whole
      → sum + sum_outside waiting (i + 1) (drop (i + 1) least) ≡ whole
  sums_passed waits told =
      let here : sum + (0 + sum_outside waiting (i + 1) (drop (i + 1) least)) ≡ whole = rw (next, waits) at told in
      omega (arith, here)

  pub sums_added : bit waiting i ≡ false → sum + sum_outside waiting i (drop i least) ≡ whole
      → sum + get_or least i 0 + sum_outside waiting (i + 1) (drop (i + 1) least) ≡ whole
  sums_added never told =
      let here : sum + (get_or least i 0 + sum_outside waiting (i + 1) (drop (i + 1) least)) ≡ whole =
      rw (next, never) at told in
      omega (arith, here)

pub sums_end : (waiting i sum whole : ℕ) (least : List ℕ) → length least ≤ i
    → sum + sum_outside waiting i (drop i least) ≡ whole → sum ≡ whole
sums_end waiting i sum whole least past told =
    let none_left : drop i least ≡ [] = drop_all i least past in
    let same : sum + 0 ≡ whole = rw none_left at told in omega (arith, same)

-- what the first signals add is no less than the sum so far
pub record IsBelow (c : CodedGraph) (library : Library) (i sum : ℕ) : Type 0 where
  pub added : ℕ
  pub told : added + weight_from c library i (drop i c.graph.signals) ≡ weight_of c library
  pub least : sum ≤ added

module _ (c : CodedGraph) (library : Library) where
  pub starts_below : IsBelow c library 0 0
  starts_below = record {
    added = 0;
    told = (let whole = begins c library in omega (arith, whole));
    least = omega arith;
  }

  pub below_weight : (i sum : ℕ) → IsBelow c library i sum → sum ≤ weight_of c library
  below_weight i sum below = omega (arith, below.told, below.least)

  module _ (i sum : ℕ) (inside : i < length c.graph.signals) (below : IsBelow c library i sum) where
    abbrev here : Signal
    here = get_or c.graph.signals i (record { name = []; kind = Input })

    here_is : here ≡ get_or c.graph.signals i here
    here_is = get_or_default c.graph.signals i (record { name = []; kind = Input }) here inside

    with_more : is_driven here.kind ≡ true → (more : ℕ) → more ≤ added_weight c library i
        → IsBelow c library (i + 1) (sum + more)
    with_more drives more few = record {
      added = below.added + added_weight c library i;
      told = driven c library i here below.added inside here_is below.told (added_weight c library i) drives refl;
      least = omega (arith, below.least, few);
    }

    -- the signal adds nothing to the sum
    pub passed_below : IsBelow c library (i + 1) sum
    passed_below = elim (cases_Bool (is_driven here.kind)) [
      | inl drives ↦ (
          let same : sum + 0 ≡ sum = omega arith in
          subst (IsBelow c library (i + 1)) same (with_more drives 0 (omega arith)))
      | inr none ↦ record {
        added = below.added;
        told = input c library i here below.added inside here_is below.told none;
        least = below.least;
      }
    ]

    -- what it adds to the sum it adds to the weight
    pub added_below : (w : ℕ) → AddsTo c library i w → IsBelow c library (i + 1) (sum + w)
    added_below w adds = elim (cases_lt 0 w) [
      | inl more ↦ (let (is_non_input, least) = adds more in with_more (drives is_non_input) w least)
      | inr nothing ↦ (
          let same : sum ≡ sum + w = omega (arith, nothing) in
          subst (IsBelow c library (i + 1)) same passed_below)
    ]
      where
        drives : IsNonInput c.graph.signals i → is_driven here.kind ≡ true
        drives (y, at, is) =
            let there : slice_get c.graph.signals i ≡ Some (get_or c.graph.signals i here) =
            slice_get-get_or c.graph.signals i here inside in
            let both : Some y ≡ Some (get_or c.graph.signals i here) = sym at ∙ there in
            let same : y ≡ get_or c.graph.signals i here = cc in
            subst (λ (s : Signal). is_driven s.kind ≡ true) (same ∙ sym here_is) is

-- the same of the rest of the list, from signal i on
abbrev AllAddFrom : CodedGraph → Library → ℕ → ℕ → List ℕ → Type 0
AllAddFrom c library waiting i left = (z k : ℕ) → z ≡ i + k → k < length left → bit waiting z ≡ false
    → AddsTo c library z (slice_index_or left k 0)

sum_below : (c : CodedGraph) (library : Library) (waiting i sum : ℕ) (left : List ℕ)
    → i + length left ≤ length c.graph.signals → AllAddFrom c library waiting i left
    → IsBelow c library i sum → sum + sum_outside waiting i left ≤ weight_of c library
sum_below c library waiting i sum [] count adds below =
    let low = below_weight c library i sum below in omega (arith, low)
sum_below c library waiting i sum (w ∷ left) count adds below =
    let inside : i < length c.graph.signals = omega (arith, count) in
    let later : AllAddFrom c library waiting (i + 1) left =
    λ z k is within never. adds z (suc k) (omega (arith, is)) (omega (arith, within)) never in
    let room : i + 1 + length left ≤ length c.graph.signals = omega (arith, count) in
    elim (cases_Bool (bit waiting i)) [
      | inl waits ↦ (let passed = passed_below c library i sum inside below in
          let rest = sum_below c library waiting (i + 1) sum left room later passed in
          rw waits (omega (arith, rest)))
      | inr never ↦ (let own : AddsTo c library i w = adds i 0 (omega arith) (omega arith) never in
          let added = added_below c library i sum inside below w own in
          let rest = sum_below c library waiting (i + 1) (sum + w) left room later added in
          rw never (omega (arith, rest)))
    ]

-- what the list tells of the signals outside of the set is no more than the weight
outside_below : (c : CodedGraph) (library : Library) (waiting : ℕ) (least : List ℕ)
    → length least ≤ length c.graph.signals → AllAdd c library waiting least
    → sum_outside waiting 0 least ≤ weight_of c library
outside_below c library waiting least count adds =
    let from : AllAddFrom c library waiting 0 least = λ z k is within never.
    subst (λ (j : ℕ). AddsTo c library z (slice_index_or least j 0)) (omega (arith, is)) (adds z never) in
    let room : 0 + length least ≤ length c.graph.signals = omega (arith, count) in
    let all = sum_below c library waiting 0 0 least room from (starts_below c library) in omega (arith, all)

-- ---- an insertion
module _ (c : CodedGraph) (classes : List Class) (new : Signal) (copies : List Copy) (h : StateGraph)
    (inserted : IsInsertedGraph c.graph classes new copies h) where
  pub driven_there : (z : ℕ) → IsNonInput c.graph.signals z → IsNonInput h.signals z
  driven_there z given = subst (λ (xs : List Signal). IsNonInput xs z) (sym inserted.signals)
      (driven_after c.graph new z inserted.kind (inl given))

  -- a list for the given signals has none for the new one
  pub fewer_known : (least : List ℕ) → length least ≡ length c.graph.signals → length least ≤ length h.signals
  fewer_known least count =
      omega (arith, count, ap (length {A = Signal}) inserted.signals, length_push c.graph.signals new)

-- where signals that never wait add that much, no inserted graph weighs less
pub bounded : (c : CodedGraph) (library : Library) (classes : List Class) (least : List ℕ) (waiting sum bar : ℕ)
    → IsLawful c.graph classes → AreLeast c library classes least
    → ((z : ℕ) → bit waiting z ≡ false → NeverWaits c.graph classes z)
    → sum ≡ sum_outside waiting 0 least
    → bar ≤ sum → WeighsAtLeast c library classes bar
bounded c library classes least waiting sum bar lawful are never sum_is high new copies h inserted made none =
    let d : CodedGraph = coded c copies h in
    let adds : AllAdd d library waiting least = λ z clear more. (
    let (is_driven, least_there) = are.each z more in (
      driven_there c classes new copies h inserted z is_driven,
      least_there new copies h lawful inserted made none (never z clear),
    )) in
    let count = fewer_known c classes new copies h inserted least are.count in
    let below = outside_below d library waiting least count adds in
    omega (arith, sum_is, below, high)
