-- The triggers that are kept, arc after arc; what is told of all signals, one after the other; and what that says of
-- the weight.
use Rattle.std.proofs.Common.{◌≡◌, ℕ, suc, ◌⊎◌, ◌+◌, ◌<◌, ◌≤◌, true, false, List, [], ◌∷◌, length, drop, get_or}
use Rattle.std.proofs.Common.{slice_index_or, refl, sym, ap, subst, ◌∙◌, arith, inl, inr, add-one, Contains}
use Rattle.std.proofs.Math.Seq.{drop-cons}
use Rattle.std.proofs.lemmas.Bool.{cases_Bool, cases_lt, true≢false}
use Rattle.std.proofs.lemmas.Bool.Decides.{eqb_tells}
use Rattle.std.proofs.lemmas.List.{drop_all, get_or_default}
use Rattle.std.proofs.lemmas.Option.{slice_get_within}
use Rattle.si_base.specs.Bits.{bit, IsSet}
use Rattle.si_base.specs.Codes.{CodedGraph, IsCoded}
use Rattle.si_base.specs.Graph.{StateGraph, IsNonInput, arc}
use Rattle.si_base.specs.declared.graph.Edge.{Edge}
use Rattle.si_base.specs.declared.graph.Signal.{Signal}
use Rattle.si_cell.specs.Library.{Library}
use Rattle.si_insert.specs.declared.partition.Class.{Class}
use Rattle.si_insert.specs.Insertion.{Copy, IsInsertedGraph, coded}
use Rattle.si_insert.specs.Partition.{IsLawful}
use Rattle.si_match.specs.Weight.{added_weight, size_from, weight_of}
use Rattle.si_match.proofs.TriggerLemmas.{IsWithin, set_keeps}
use Rattle.si_bounds.specs.Loops.Kept.{AddUpTo, AreAllKept, IsKept, IsKeptLeast, IsTold, KeepsTrigger}
use Rattle.si_bounds.specs.Loops.Least.{AddsTo, AreLeast, HaveFewPins, WeighsAtLeast}
use Rattle.si_bounds.specs.Loops.Waiting.{NeverWaits, Waits}
use Rattle.si_base.specs.Proper.{HasNoConflict}
use Rattle.si_bounds.proofs.KeptFits.{adds_kept}
use Rattle.si_bounds.proofs.LeastLemmas.{IsBelow, added_below, below_weight, driven_there, fewer_known}
use Rattle.si_bounds.proofs.LeastLemmas.{starts_below}

-- ---- arc after arc
-- the set has signals of which some arc keeps a trigger, and those of all such arcs among the first, so many
pub record AreKeptBefore (c : CodedGraph) (classes : List Class) (z : ℕ) (edges : List Edge) (set count : ℕ)
    : Type 0 where
  pub kept : (i : ℕ) → bit set i ≡ true → IsKept c classes z i
  pub found : (k : ℕ) (a : Edge) → k < count → get_or edges k a ≡ a → KeepsTrigger c classes z a
      → bit set a.event.sig ≡ true

module _ (c : CodedGraph) (classes : List Class) (z : ℕ) (edges : List Edge) (same : edges ≡ c.graph.edges) where
  module _ (i : ℕ) (item : Edge) (inside : i < length edges) (is : item ≡ get_or edges i item) (set : ℕ)
      (before : AreKeptBefore c classes z edges set i) where
    one_more : (next : ℕ) → IsWithin set next → (KeepsTrigger c classes z item → bit next item.event.sig ≡ true)
        → (k : ℕ) (a : Edge) → k < i + 1 → get_or edges k a ≡ a → KeepsTrigger c classes z a
        → bit next a.event.sig ≡ true
    one_more next more here k a within at keeps = elim (eqb_tells k i) [
      | inl last ↦ (
          let this : item ≡ a =
          is ∙ get_or_default edges i item a inside ∙ ap (λ n. get_or edges n a) (sym last.1) ∙ at in
          subst (λ (b : Edge). KeepsTrigger c classes z b → bit next b.event.sig ≡ true) this here keeps)
      | inr other ↦ (
          let not_last = other.1 in
          more a.event.sig (before.found k a (grind (arith, within, not_last)) at keeps))
    ]

    -- an arc that keeps none changes nothing
    pub goes_past : (KeepsTrigger c classes z item → ⊥) → AreKeptBefore c classes z edges set (i + 1)
    goes_past none = record {
      kept = before.kept;
      found = one_more set (λ j there. there) (λ keeps. absurd (none keeps));
    }

    -- the signal of one that does comes into the set
    pub keeps_one : KeepsTrigger c classes z item → (next : ℕ) → IsSet set item.event.sig true next
        → AreKeptBefore c classes z edges next (i + 1)
    keeps_one keeps next is_set = record {
      kept = λ j there. elim (eqb_tells j item.event.sig) [
        | inl this ↦ subst (IsKept c classes z) (sym this.1) own
        | inr other ↦ before.kept j (sym (is_set.others j other.1) ∙ there)
      ];
      found = one_more next (set_keeps set item.event.sig next is_set) (λ same_arc. is_set.there);
    }
      where
        own : IsKept c classes z item.event.sig
        own = record {
          from = item.from;
          event = item.event;
          to = item.to;
          step = subst (λ (es : List Edge). Contains es item) same (i, inside, sym is);
          signal = refl;
          keeps = keeps;
        }

  pub all_kept : (set count : ℕ) → length edges ≤ count → AreKeptBefore c classes z edges set count
      → AreAllKept c classes z set
  all_kept set count past before i = (
    before.kept i,
    λ t. (
        let (k, within, at) = t.step in
        let inside : k < count = omega (arith, within, past, ap length same) in
        let there : get_or edges k (arc t.from t.event t.to) ≡ arc t.from t.event t.to =
        ap (λ (es : List Edge). get_or es k (arc t.from t.event t.to)) same ∙ at in
        sym (ap (bit set) t.signal) ∙ before.found k (arc t.from t.event t.to) inside there t.keeps),
  )

pub none_before : (c : CodedGraph) (classes : List Class) (z : ℕ) (edges : List Edge) (set : ℕ)
    → ((i : ℕ) → bit set i ≡ false) → AreKeptBefore c classes z edges set 0
none_before c classes z edges set clear = record {
  kept = λ i there. absurd (true≢false (sym there ∙ clear i));
  found = λ k a within at keeps. absurd (omega (arith, within));
}

-- ---- signal after signal
module _ (c : CodedGraph) (classes : List Class) (most waiting : ℕ) (least : List ℕ) where
  -- with what is told of the signals from the i-th on it is the whole sum
  abbrev pub IsSoFar : ℕ → ℕ → Type 0
  IsSoFar i sum = (rest : ℕ) → AddUpTo c classes most waiting i (drop i least) rest
      → AddUpTo c classes most waiting 0 least (sum + rest)

  abbrev IsWhole : ℕ → Type 0
  IsWhole sum = AddUpTo c classes most waiting 0 least sum

  pub starts : IsSoFar 0 0
  starts rest all = let same : rest ≡ 0 + rest = omega arith in subst IsWhole same all

  pub one_told : (i sum told : ℕ) → i < length least → IsSoFar i sum
      → IsTold c classes most i (bit waiting i) (get_or least i 0) told → IsSoFar (i + 1) (sum + told)
  one_told i sum told inside before is rest later =
      let next : drop i least ≡ get_or least i 0 ∷ drop (i + 1) least = rw add-one (drop-cons least i 0 inside) in
      let here : AddUpTo c classes most waiting i (drop i least) (told + rest) =
      subst (λ xs. AddUpTo c classes most waiting i xs (told + rest)) (sym next) (told, rest, is, later, refl) in
      let same : sum + (told + rest) ≡ sum + told + rest = omega arith in
      subst IsWhole same (before (told + rest) here)

  pub ends : (i sum : ℕ) → length least ≤ i → IsSoFar i sum → IsWhole sum
  ends i sum past before =
      let none_left : drop i least ≡ [] = drop_all i least past in
      let same : sum + 0 ≡ sum = omega arith in
      subst IsWhole same (before 0 (subst (λ xs. AddUpTo c classes most waiting i xs 0) (sym none_left) refl))

-- ---- the sum and the weight
-- whatever is told of signals from the i-th on, of which this is known, they add to the weight
abbrev AllAdd : CodedGraph → List Class → ℕ → ℕ → CodedGraph → Library → ℕ → List ℕ → Type 0
AllAdd c classes most waiting d library i left = (z k told : ℕ) → z ≡ i + k → k < length left
    → IsTold c classes most z (bit waiting z) (slice_index_or left k 0) told → AddsTo d library z told

sum_below : (c : CodedGraph) (classes : List Class) (most waiting : ℕ) (d : CodedGraph) (library : Library) (i sum : ℕ)
    (left : List ℕ) (rest : ℕ) → i + length left ≤ length d.graph.signals
    → AllAdd c classes most waiting d library i left → AddUpTo c classes most waiting i left rest
    → IsBelow d library i sum → sum + rest ≤ weight_of d library
sum_below c classes most waiting d library i sum [] rest count adds none below =
    let low = below_weight d library i sum below in omega (arith, low, none)
sum_below c classes most waiting d library i sum (known ∷ left) rest count adds (told, more, is, later, rest_is) below =
    let inside : i < length d.graph.signals = omega (arith, count) in
    let own : AddsTo d library i told = adds i 0 told (omega arith) (omega arith) is in
    let added = added_below d library i sum inside below told own in
    let others : AllAdd c classes most waiting d library (i + 1) left =
    λ z k told_z at within is_z. adds z (suc k) told_z (omega (arith, at)) (omega (arith, within)) is_z in
    let room : i + 1 + length left ≤ length d.graph.signals = omega (arith, count) in
    let all = sum_below c classes most waiting d library (i + 1) (sum + told) left more room others later added in
    omega (arith, all, rest_is)

module _ (c : CodedGraph) (library : Library) (classes : List Class) (least : List ℕ) (most waiting : ℕ)
    (is : IsCoded c) (lawful : IsLawful c.graph classes) (are : AreLeast c library classes least)
    (few : HaveFewPins library most) (never : (z : ℕ) → bit waiting z ≡ false → NeverWaits c.graph classes z)
    (waits : (z : ℕ) → bit waiting z ≡ true → Waits c.graph classes z) where
  module _ (new : Signal) (copies : List Copy) (h : StateGraph)
      (inserted : IsInsertedGraph c.graph classes new copies h)
      (made : IsCoded (coded c copies h)) (none : HasNoConflict (coded c copies h)) where
    abbrev d : CodedGraph
    d = coded c copies h

    kept_adds : (z least_z : ℕ) → IsNonInput c.graph.signals z → Waits c.graph classes z
        → IsKeptLeast c classes most z least_z → AddsTo d library z least_z
    kept_adds z least_z (x, at, drives) w told more =
        let driven = driven_there c classes new copies h inserted z (x, at, drives) in
        let old = slice_get_within c.graph.signals z x at in
        elim (cases_lt (size_from (length c.graph.signals) 0 told.set) most) [
          | inl less ↦ absurd (let nothing = told.few less in omega (arith, more, nothing))
          | inr enough ↦ (
              let adds = adds_kept c classes new copies h is lawful inserted made z old w library
              most told.set told.kept few enough in
              let least_is = told.many enough in
              (driven, omega (arith, adds, least_is)))
        ]

    told_adds : (z told : ℕ) → IsTold c classes most z (bit waiting z) (slice_index_or least z 0) told
        → AddsTo d library z told
    told_adds z told is_told more = elim (cases_lt 0 (slice_index_or least z 0)) [
      | inr none_known ↦ absurd (
          let nothing = is_told.nothing (omega (arith, none_known)) in omega (arith, more, nothing))
      | inl known ↦ by_waiting known (cases_Bool (bit waiting z))
    ]
      where
        by_waiting : 0 < slice_index_or least z 0 → ((bit waiting z ≡ true) ⊎ (bit waiting z ≡ false))
            → IsNonInput d.graph.signals z × (told ≤ added_weight d library z)
        by_waiting known (inl on) =
            let (driven, least_there) = are.each z known in
            kept_adds z told driven (waits z on) (is_told.kept on known) more
        by_waiting known (inr clear) =
            let (driven, least_there) = are.each z known in
            let adds = least_there new copies h lawful inserted made none
            (never z clear) in
            let same = is_told.never clear in
            (driven_there c classes new copies h inserted z driven, omega (arith, adds, same))

    all_below : (sum : ℕ) → AddUpTo c classes most waiting 0 least sum → sum ≤ weight_of d library
    all_below sum add_up =
        let all : AllAdd c classes most waiting d library 0 least = λ z k told at within is_told.
        (let same : z ≡ k = omega (arith, at) in
        told_adds z told (subst (λ (j : ℕ). IsTold c classes most z (bit waiting z) (slice_index_or least j 0) told)
        (sym same) is_told)) in
        let count = fewer_known c classes new copies h inserted least are.count in
        let room : 0 + length least ≤ length d.graph.signals = omega (arith, count) in
        let below = sum_below c classes most waiting d library 0 0 least sum room all add_up (starts_below d library) in
        omega (arith, below)

  -- where all signals add that much, no inserted graph weighs less
  pub told_bound : (sum bar : ℕ) → AddUpTo c classes most waiting 0 least sum → bar ≤ sum
      → WeighsAtLeast c library classes bar
  told_bound sum bar add_up high new copies h inserted made none =
      let below = all_below new copies h inserted made none sum add_up in
      omega (arith, below, high)
