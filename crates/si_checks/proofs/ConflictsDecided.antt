-- A coded graph has no conflict, or a first one.
use Rattle.std.proofs.Common.{◌≡◌, ℕ, ◌<◌, ◌⊎◌, true, false, List, Contains, Option, Some, None, refl, subst, ◌∙◌}
use Rattle.std.proofs.Common.{arith, inl, inr}
use Rattle.std.specs.List.{range_with_len}
use Rattle.std.proofs.lemmas.Bool.{cases_eq}
use Rattle.std.proofs.lemmas.List.FromFn.{length-range_with_len, get_or-range_with_len}
use Rattle.si_base.specs.declared.graph.Edge.{Edge}
use Rattle.si_base.specs.Codes.{CodedGraph, code}
use Rattle.si_base.specs.Graph.{StateGraph, IsNonInput, arc, enables}
use Rattle.si_base.specs.Order.{IsFirst}
use Rattle.si_base.specs.Proper.{HasNoConflict, IsConflict, pair_place}
use Rattle.si_base.proofs.GraphSteps.{enables-step, step_from_enables}
use Rattle.si_checks.specs.Loops.Searches.{IsFirstOrNone, EnablesMore, Differ}
use Rattle.si_checks.proofs.ConflictLemmas.{more_differs, less_differs, none_differ}
use Rattle.si_checks.proofs.SearchDecisions as decide
use Rattle.si_checks.proofs.SearchDecisions.{Decided, pairs, in_pairs, first_candidate}

-- ---- two states
-- an arc out of p by a non-input event that q doesn't enable
abbrev ShowsMore : StateGraph → ℕ → ℕ → Edge → Type 0
ShowsMore g p q x = (x.from ≡ p) × (IsNonInput g.signals x.event.sig × (enables g q x.event ≡ false))

shows_more : (g : StateGraph) (p q : ℕ) (x : Edge) → Decided (ShowsMore g p q x)
shows_more g p q x =
    decide.both (cases_eq x.from p)
    (decide.both (decide.driven g.signals x.event.sig) (decide.same_value (enables g q x.event) false))

enables_more : (g : StateGraph) (p q : ℕ) → Decided (EnablesMore g p q)
enables_more g p q = elim (decide.some_of (ShowsMore g p q) (shows_more g p q) g.edges) [
  | inl (x, there, shows) ↦ inl (record {
    event = x.event;
    non_input = shows.1.0;
    here = subst (λ (s : ℕ). enables g s x.event ≡ true) shows.0 (enables-step g x.from x.event x.to there);
    not_there = shows.1.1;
  })
  | inr none ↦ inr (λ more.
      let to = step_from_enables g p more.event more.here in
      none (arc p more.event to.0, to.1, (refl, (more.non_input, more.not_there))))
]

differ : (g : StateGraph) (p q : ℕ) → Decided (Differ g p q)
differ g p q = elim (enables_more g p q) [
  | inl more ↦ inl (more_differs g p q more)
  | inr no_more ↦ elim (enables_more g q p) [
    | inl less ↦ inl (less_differs g p q less)
    | inr no_less ↦ inr (none_differ g p q no_more no_less)
  ]
]

-- ---- pairs
module _ (c : CodedGraph) where
  abbrev AreConflict : ℕ × ℕ → Type 0
  AreConflict pair =
      (pair.0 < pair.1) × ((pair.1 < c.graph.states) × ((code c pair.0 ≡ code c pair.1) × Differ c.graph pair.0 pair.1))

  are_conflict : (pair : ℕ × ℕ) → Decided (AreConflict pair)
  are_conflict pair =
      decide.both (decide.less pair.0 pair.1)
      (decide.both (decide.less pair.1 c.graph.states)
      (decide.both (cases_eq (code c pair.0) (code c pair.1)) (differ c.graph pair.0 pair.1)))

  states : List ℕ
  states = range_with_len 0 c.graph.states

  state_there : (s : ℕ) → s < c.graph.states → Contains states s
  unfolding states
  state_there s within =
      let at = get_or-range_with_len 0 c.graph.states s s within in
      (s, omega (arith, length-range_with_len 0 c.graph.states), at ∙ omega arith)

  conflict_found : (pair : ℕ × ℕ) → IsConflict c pair
      → (p : ℕ × ℕ) × Contains (pairs states states) p × AreConflict p × (p ≡ pair)
  conflict_found pair is =
      let first : pair.0 < c.graph.states = omega (arith, is.order, is.within) in
      let differs : Differ c.graph pair.0 pair.1 =
      record { event = is.event; non_input = is.non_input; differ = is.differ } in (
        pair,
        in_pairs states states pair.0 pair.1 (state_there pair.0 first) (state_there pair.1 is.within),
        (is.order, (is.within, (is.same_code, differs))),
        refl,
      )

  conflict_at : (pair : ℕ × ℕ) → Contains (pairs states states) pair → AreConflict pair → IsConflict c pair
  conflict_at pair there is =
      let differs = is.1.1.1 in
      record {
        order = is.0;
        within = is.1.0;
        same_code = is.1.1.0;
        event = differs.event;
        non_input = differs.non_input;
        differ = differs.differ;
      }

  first_conflict : (found : Option (ℕ × ℕ)) × IsFirstOrNone pair_place (IsConflict c) found
  first_conflict =
      first_candidate pair_place (IsConflict c) (λ pair. pair) AreConflict are_conflict (pairs states states)
      conflict_at conflict_found

  some_or_none : (found : Option (ℕ × ℕ)) → IsFirstOrNone pair_place (IsConflict c) found
      → HasNoConflict c ⊎ ((pair : ℕ × ℕ) × IsFirst pair_place (IsConflict c) pair)
  some_or_none None none = inl none
  some_or_none (Some pair) first = inr (pair, first)

  pub conflict_or_none : HasNoConflict c ⊎ ((pair : ℕ × ℕ) × IsFirst pair_place (IsConflict c) pair)
  conflict_or_none = let r = first_conflict in some_or_none r.0 r.1
