-- What is known of all signals before an insertion bounds the weight after it.
use Rattle.std.proofs.Common.{◌≡◌, ℕ, ◌+◌, ◌<◌, ◌≤◌, ◌⊎◌, Bool, true, false, List, [], ◌∷◌, ◌++◌, All, length}
use Rattle.std.proofs.Common.{get_or, slice_index_or, Option, Some, None, refl, sym, ap, subst, ◌∙◌, arith, inl, inr}
use Rattle.std.specs.Prelude.{IfSome}
use Rattle.std.proofs.lemmas.Bool.{cases_Bool, cases_lt, cases_order, true≢false}
use Rattle.std.proofs.lemmas.List.{get_or_append_left, get_or_default, get_or_past, get_or_push, length_push}
use Rattle.si_base.specs.Bits.{bit}
use Rattle.si_base.specs.Codes.{CodedGraph}
use Rattle.si_base.specs.Graph.{StateGraph, IsNonInput}
use Rattle.si_base.specs.Limits.{code_width}
use Rattle.si_cell.specs.Library.{Library}
use Rattle.si_insert.specs.declared.partition.Class.{Class}
use Rattle.si_match.specs.Fit.{first_fit}
use Rattle.si_bounds.specs.declared.bounds.Bounds.{Bounds}
use Rattle.si_bounds.specs.declared.unfit.Unfit.{Unfit}
use Rattle.si_bounds.specs.Loops.Bounds.{AreBounds, AreKnown, IsKnown, Tell, Tells}
use Rattle.si_bounds.specs.Loops.Least.{AddsAtLeast, AreLeast, IsLeast}
use Rattle.si_bounds.specs.Loops.Needs.{AreStable}
use Rattle.si_bounds.specs.Loops.Unfit.{IsUnfitOfSize, KnowsUnfit, TellsLeast}
use Rattle.si_bounds.specs.Loops.Waiting.{NeverWaits, Waits}
use Rattle.si_bounds.proofs.UnfitLemmas.{sets_of_graph, unmet_adds}

-- ---- one signal more
module _ (c : CodedGraph) (library : Library) (i : ℕ) (list : List (Option Unfit)) (are : AreKnown c library i list)
  where
    abbrev with : Option Unfit → List (Option Unfit)
    with o = list ++ o ∷ []

    before : (o : Option Unfit) (z : ℕ) → z < i → slice_index_or (with o) z None ≡ slice_index_or list z None
    before o z low = get_or_append_left list (o ∷ []) None z (omega (arith, low, are.count_is))

    last : (o : Option Unfit) → slice_index_or (with o) i None ≡ o
    last o = get_or_push list o None i are.count_is

    past : (o : Option Unfit) (z : ℕ) → i < z → slice_index_or (with o) z None ≡ None
    past o z high = get_or_past (with o) z None (omega (arith, high, length_push list o, are.count_is))

    pub one_known : (o : Option Unfit) → IfSome o (KnowsUnfit c library i)
        → (IsNonInput c.graph.signals i → first_fit c library i ≡ None → (unfit : Unfit) × (o ≡ Some unfit))
        → AreKnown c library (i + 1) (with o)
    one_known o knows all = record {
      count_is = length_push list o ∙ ap (λ n. n + 1) are.count_is;
      known = λ z unfit is. elim (cases_order z i) [
        | inl same ↦ (
            let here : o ≡ Some unfit = sym (last o) ∙ subst (λ y. IsKnown (with o) y unfit) same is in
            subst (λ y. KnowsUnfit c library y unfit) (sym same)
            (subst (λ p. IfSome p (KnowsUnfit c library i)) here knows))
        | inr (inl low) ↦ are.known z unfit (sym (before o z low) ∙ is)
        | inr (inr high) ↦ absurd (
            let none : None ≡ Some unfit = sym (past o z high) ∙ is in cc)
      ];
      all = λ z within driven none. elim (cases_order z i) [
        | inl same ↦ (
            let (unfit, is) = all (subst (IsNonInput c.graph.signals) same driven)
            (subst (λ y. first_fit c library y ≡ None) same none) in
            (unfit, subst (λ y. IsKnown (with o) y unfit) (sym same) (last o ∙ is)))
        | inr (inl low) ↦ (
            let (unfit, is) = are.all z low driven none in (unfit, before o z low ∙ is))
        | inr (inr high) ↦ absurd (omega (arith, within, high))
      ];
    }

-- ---- an insertion
waits_never : (g : StateGraph) (classes : List Class) (z : ℕ) → Waits g classes z → NeverWaits g classes z → ⊥
waits_never g classes z waits never =
    let (value, on) = waits.arc_waits in
    true≢false (sym on ∙ never waits.from waits.event waits.to waits.step waits.signal value)

module _ (c : CodedGraph) (library : Library) (bounds : Bounds) (are : AreBounds c library bounds) where
  pub all_of_graph : All (λ o. IfSome o (IsUnfitOfSize c.graph.states)) bounds.unfit.items
  all_of_graph k default within = by_case (get_or bounds.unfit.items k default) refl
    where
      here : get_or bounds.unfit.items k default ≡ slice_index_or bounds.unfit.items k None
      here = get_or_default bounds.unfit.items k default None within

      by_case : (o : Option Unfit) → get_or bounds.unfit.items k default ≡ o
          → IfSome o (IsUnfitOfSize c.graph.states)
      by_case None is = tt
      by_case (Some unfit) is = sets_of_graph c library k unfit (are.known.known k unfit (sym here ∙ is))

  module _ (classes : List Class) (high low : List Bool) (stable : AreStable classes high low) (waiting : ℕ)
      (waits : (z : ℕ) → bit waiting z ≡ true → Waits c.graph classes z) (least : List ℕ)
      (tell : Tell high low waiting bounds.unfit.items (length bounds.unfit.items) least) where
    module _ (z told : ℕ) (unfit : Unfit) (is : slice_index_or bounds.unfit.items z None ≡ Some unfit)
        (tells : Tells high low (Some unfit) (bit waiting z) told) (more : 0 < told) where
      knows : KnowsUnfit c library z unfit
      knows = are.known.known z unfit is

      by_needs : TellsLeast classes high low unfit told → AddsAtLeast c library classes z told
      by_needs (inl unmet) = unmet_adds c library z unfit knows classes high low stable told unmet
      by_needs (inr nothing) = absurd (let none = nothing.told in omega (arith, more, none))

      adds : (bit waiting z ≡ true) ⊎ (bit waiting z ≡ false) → AddsAtLeast c library classes z told
      adds (inl on) = λ new copies h lawful inserted made none never.
          absurd (waits_never c.graph classes z (waits z on) never)
      adds (inr off) = by_needs (tells.never unfit refl off classes stable)

      known_adds : IsNonInput c.graph.signals z × AddsAtLeast c library classes z told
      known_adds = (knows.driven, adds (cases_Bool (bit waiting z)))

    of_signal : (z told : ℕ) (o : Option Unfit) → slice_index_or bounds.unfit.items z None ≡ o
        → Tells high low o (bit waiting z) told → IsLeast c library classes z told
    of_signal z told None is tells more = absurd (let none = tells.nothing refl in omega (arith, more, none))
    of_signal z told (Some unfit) is tells more = known_adds z told unfit is tells more

    pub told_least : AreLeast c library classes least
    told_least = record {
      count = tell.count_is ∙ are.known.count_is;
      small = λ k default within. (
          let inside : k < length bounds.unfit.items = omega (arith, within, tell.count_is) in
          subst (λ w. w ≤ 2 + code_width) (get_or_default least k 0 default within) (tell.each k inside).small);
      each = λ z. elim (cases_lt z (length least)) [
        | inl inside ↦ of_signal z (slice_index_or least z 0) (slice_index_or bounds.unfit.items z None) refl
            (tell.each z (omega (arith, inside, tell.count_is)))
        | inr beyond ↦ λ more. absurd (
            let none = get_or_past least z 0 (omega (arith, beyond)) in omega (arith, more, none))
      ];
    }
