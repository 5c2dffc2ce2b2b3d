-- The first breach by state, then by event, then by another event.
use Rattle.std.proofs.Common.{◌≡◌, ℕ, ◌+◌, ◌<◌, ◌⊎◌, List, [], ◌∷◌, length, get_or, sym, ap, ◌∙◌, arith, inl, inr}
use Rattle.std.proofs.Common.{Option, Some, None}
use Rattle.std.proofs.lemmas.Bool.{cases_eq}
use Rattle.si_base.specs.declared.ids.Event.{Event}
use Rattle.si_base.specs.declared.graph.Edge.{Edge}
use Rattle.si_base.specs.Order.{IsFirst}
use Rattle.si_base.specs.Graph.{StateGraph, Step, event_place}
use Rattle.si_graph.specs.Loops.Arcs.{AreOut}
use Rattle.si_graph.proofs.OrderLemmas.{event_from_place}
use Rattle.si_checks.specs.Loops.Searches.{IsFirstOrNone, IsAt, IsBy, IsBelow}
use Rattle.si_checks.proofs.ForkOrder.{NoneWithin, none_before}

module _ {B : Type 0} (P : B → Type 0) (state : B → ℕ) (one two : B → Event) where
  abbrev pub place : B → List ℕ
  place b = state b ∷ event_place (one b) ∷ event_place (two b) ∷ []

  -- ---- at a state, along the arcs out of it
  module _ (g : StateGraph) (s : ℕ) (arcs : List Edge) (out : AreOut g s arcs) where
    pub first_by : (a : Event) → ((b : B) → IsBy state one P s a b → (t : ℕ) × Step g s (two b) t)
        → (b : B) (n : ℕ) (y : Edge) → IsBy state one P s a b
        → n < length arcs → y ≡ get_or arcs n y → two b ≡ y.event → NoneWithin arcs (IsBy state one P s a) two n
        → IsFirst place (IsBy state one P s a) b
    first_by a steps b n y is within at same none = record {
      holds = is;
      none_before = λ f also before.
          let states : state f ≡ state b = also.at ∙ sym is.at in
          let ones : event_place (one f) ≡ event_place (one b) = ap event_place (also.by ∙ sym is.by) in
          let earlier : event_place (two f) < event_place (two b) = elim before [
            | inl less ↦ absurd (omega arith)
            | inr tied ↦ elim tied.1 [
              | inl less ↦ absurd (omega arith)
              | inr both ↦ elim both.1 [ inl less ↦ less | inr never ↦ absurd never.1 ]
            ]
          ] in
          none_before g s arcs out (IsBy state one P s a) two steps n y within at none f also
          (omega (arith, ap event_place same));
    }

    pub first_at : ((b : B) → IsAt state P s b → (t : ℕ) × Step g s (one b) t) → (b : B) (n : ℕ) (x : Edge)
        → n < length arcs → x ≡ get_or arcs n x
        → IsFirst place (IsBy state one P s x.event) b → NoneWithin arcs (IsAt state P s) one n
        → IsFirst place (IsAt state P s) b
    first_at steps b n x within at first none =
        let is = first.holds in
        record {
          holds = record { holds = is.holds; at = is.at };
          none_before = λ f also before.
              let states : state f ≡ state b = also.at ∙ sym is.at in
              let rest : (event_place (one f) < event_place (one b)) ⊎ (event_place (one f) ≡ event_place (one b)) =
              elim before [
                | inl less ↦ absurd (omega arith)
                | inr tied ↦ elim tied.1 [ inl less ↦ inl less | inr both ↦ inr both.0 ]
              ] in
              elim rest [
                | inl less ↦ none_before g s arcs out (IsAt state P s) one steps n x within at none f also
                    (omega (arith, ap event_place is.by))
                | inr same ↦ first.none_before f (record {
                  holds = also.holds;
                  at = also.at;
                  by = event_from_place (one f) (one b) same ∙ is.by;
                }) before
              ];
        }

  -- ---- at one state after another
  abbrev pub NoneBelow : ℕ → Type 0
  NoneBelow n = (b : B) → P b → state b < n → ⊥

  pub none_more : (n : ℕ) → NoneBelow n → ((b : B) → IsAt state P n b → ⊥) → NoneBelow (n + 1)
  none_more n none here b is below = elim (cases_eq (state b) n) [
    | inl same ↦ here b (record { holds = is; at = same })
    | inr other ↦ none b is (omega arith)
  ]

  -- what was found at the first n states is kept
  pub keep_found : (n : ℕ) (b : B) → IsFirst place (IsBelow state P n) b → IsFirst place (IsBelow state P (n + 1)) b
  keep_found n b first = record {
    holds = record { holds = first.holds.holds; below = omega (arith, first.holds.below) };
    none_before = λ f is before. elim (cases_eq (state f) n) [
      | inl same ↦ (
          let below : state b < n = first.holds.below in
          elim before [ inl less ↦ absurd (omega arith) | inr tied ↦ absurd (omega (arith, tied.0)) ])
      | inr other ↦ (
          let below : state f < n + 1 = is.below in
          first.none_before f (record { holds = is.holds; below = omega arith }) before)
    ];
  }

  -- where nothing was found, what the next state has is
  pub take_found : (n : ℕ) (found : Option B) → ((b : B) → IsBelow state P n b → ⊥)
      → IsFirstOrNone place (IsAt state P n) found → IsFirstOrNone place (IsBelow state P (n + 1)) found
  take_found n None none here = λ b is. elim (cases_eq (state b) n) [
    | inl same ↦ here b (record { holds = is.holds; at = same })
    | inr other ↦ (let below : state b < n + 1 = is.below in none b (record { holds = is.holds; below = omega arith }))
  ]
  take_found n (Some b) none first = record {
    holds = record { holds = first.holds.holds; below = omega (arith, first.holds.at) };
    none_before = λ f is before. elim (cases_eq (state f) n) [
      | inl same ↦ first.none_before f (record { holds = is.holds; at = same }) before
      | inr other ↦ (
          let below : state f < n + 1 = is.below in
          none f (record { holds = is.holds; below = omega arith }))
    ];
  }

  -- a state that has nothing changes nothing
  pub pass_state : (n : ℕ) (found : Option B) → ((b : B) → IsAt state P n b → ⊥)
      → IsFirstOrNone place (IsBelow state P n) found → IsFirstOrNone place (IsBelow state P (n + 1)) found
  pass_state n None here none = take_found n None none here
  pass_state n (Some b) here first = keep_found n b first

  -- all states have been looked at
  pub found_of_all : (n : ℕ) (found : Option B) → ((b : B) → P b → state b < n)
      → IsFirstOrNone place (IsBelow state P n) found → IsFirstOrNone place P found
  found_of_all n None within none = λ b is. none b (record { holds = is; below = within b is })
  found_of_all n (Some b) within first = record {
    holds = first.holds.holds;
    none_before = λ f is before. first.none_before f (record { holds = is; below = within f is }) before;
  }
