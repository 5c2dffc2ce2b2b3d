-- Pairs of arcs that close to squares, and what a state whose arcs do so can't have.
use Rattle.std.proofs.Common.{◌≡◌, ℕ, ◌+◌, ◌<◌, ◌≤◌, ◌↔◌, Bool, true, false, not, List, length, get_or, drop, All}
use Rattle.std.proofs.Common.{IsTrue, refl, sym, ap, subst, ◌∙◌, arith, inl, inr, get_or-drop, length-drop, ◌-◌}
use Rattle.std.proofs.lemmas.Bool.{cases_eq, cases_order, true≢false}
use Rattle.std.proofs.lemmas.List.{get_or_default}
use Rattle.si_base.specs.declared.ids.Event.{Event}
use Rattle.si_base.specs.declared.graph.Edge.{Edge}
use Rattle.si_base.specs.EdgeOrder.{edge_cmp}
use Rattle.si_base.specs.Graph.{StateGraph, Step, arc, enables, IsNonInput, event_place}
use Rattle.si_base.specs.Codes.{IsDeterministic}
use Rattle.si_base.specs.Proper.{Fork, Loss}
use Rattle.si_base.specs.System.{IsLeastTarget}
use Rattle.si_base.proofs.OrderAscending.{sorted_at}
use Rattle.si_base.proofs.GraphSteps.{enables-step, step_from_enables}
use Rattle.si_graph.specs.Loops.Arcs.{AreOut}
use Rattle.si_graph.proofs.OrderLemmas.{to_lt, event_from_place}
use Rattle.si_checks.specs.Loops.Searches.{ForksAt, LosesAt}
use Rattle.si_checks.specs.Loops.Squares.{ClosesSquare, ClosesSquares}
use Rattle.si_checks.proofs.ForkOrder.{out_from, out_arc, out_rises, out_item, out_signal}

-- ---- one pair
module _ (g : StateGraph) (x y : Edge) where
  pub both_stay : (w w2 : ℕ) → IsDeterministic g → IsLeastTarget g x.to y.event w → IsLeastTarget g y.to x.event w2
      → w ≡ w2 → ClosesSquare g x y
  both_stay w w2 det one other same = record {
    meets = λ v v2 to_v to_v2. det x.to y.event v w to_v one.step ∙ same ∙ det y.to x.event w2 v2 other.step to_v2;
    one_stays = λ _. enables-step g y.to x.event w2 other.step;
    other_stays = λ _. enables-step g x.to y.event w one.step;
  }

  -- where the one's event can't follow the other's, it has to be an input's
  pub other_gone : (r : Bool) → IsTrue r ↔ IsNonInput g.signals y.event.sig → (IsTrue (enables g x.to y.event) → ⊥)
      → (IsNonInput g.signals x.event.sig → IsTrue (enables g y.to x.event)) → IsTrue (not r) ↔ ClosesSquare g x y
  other_gone true driven gone stays =
      (λ never. absurd (true≢false (sym never)), λ closes. absurd (gone (closes.other_stays (driven.0 refl))))
  other_gone false driven gone stays = (
    λ _. record {
      meets = λ w w2 one other. absurd (gone (enables-step g x.to y.event w one));
      one_stays = stays;
      other_stays = λ non_input. absurd (true≢false (sym (driven.1 non_input)));
    },
    λ _. refl,
  )

  pub one_gone : (r : Bool) → IsTrue r ↔ IsNonInput g.signals x.event.sig → (IsTrue (enables g y.to x.event) → ⊥)
      → (IsNonInput g.signals y.event.sig → IsTrue (enables g x.to y.event)) → IsTrue (not r) ↔ ClosesSquare g x y
  one_gone true driven gone stays =
      (λ never. absurd (true≢false (sym never)), λ closes. absurd (gone (closes.one_stays (driven.0 refl))))
  one_gone false driven gone stays = (
    λ _. record {
      meets = λ w w2 one other. absurd (gone (enables-step g y.to x.event w2 other));
      one_stays = λ non_input. absurd (true≢false (sym (driven.1 non_input)));
      other_stays = stays;
    },
    λ _. refl,
  )

-- ---- the arcs out of a state
-- the first n arcs close squares with all later ones
abbrev pub CloseBefore : StateGraph → List Edge → ℕ → Type 0
CloseBefore g arcs n = (i j : ℕ) (d : Edge) → i < n → i < j → j < length arcs
    → ClosesSquare g (get_or arcs i d) (get_or arcs j d)

module _ (g : StateGraph) (s : ℕ) (arcs : List Edge) (out : AreOut g s arcs) where
  pub close_more : (n : ℕ) (x : Edge) → n < length arcs → x ≡ get_or arcs n x → CloseBefore g arcs n
      → All (ClosesSquare g x) (drop (n + 1) arcs) → CloseBefore g arcs (n + 1)
  close_more n x within at before later i j d below less inside = elim (cases_eq i n) [
    | inl same ↦ (
        let is : x ≡ get_or arcs i d =
        at ∙ get_or_default arcs n x d within ∙ ap (λ (k : ℕ). get_or arcs k d) (sym same) in
        let moved : get_or (drop (n + 1) arcs) (j - (n + 1)) d ≡ get_or arcs j d =
        get_or-drop (n + 1) arcs (j - (n + 1)) d ∙ ap (λ (k : ℕ). get_or arcs k d) (omega arith) in
        let both : ClosesSquare g x (get_or (drop (n + 1) arcs) (j - (n + 1)) d) =
        later (j - (n + 1)) d (omega (arith, length-drop (n + 1) arcs)) in
        let P : Edge → Type 0 = λ z. ClosesSquare g z (get_or arcs j d) in
        subst P is (rw moved at both))
    | inr other ↦ before i j d (omega arith) less inside
  ]

  pub all_close : (n : ℕ) → length arcs ≤ n → CloseBefore g arcs n → ClosesSquares g s
  all_close n all before x y one other from_x from_y order =
      let i = (out.exactly x).1 (one, from_x) in
      let j = (out.exactly y).1 (other, from_y) in
      let x_is : get_or arcs i.0 x ≡ x = i.2 in
      let y_is : get_or arcs j.0 x ≡ y = get_or_default arcs j.0 x y j.1 ∙ j.2 in
      let less : i.0 < j.0 = elim (cases_order i.0 j.0) [
        | inl same ↦ absurd (omega (
          arith,
          order,
          ap (λ (z : Edge). event_place z.event) (sym x_is ∙ ap (λ (k : ℕ). get_or arcs k x) same ∙ y_is),
        ))
        | inr (inl before_it) ↦ before_it
        | inr (inr after_it) ↦ (
            let rises = rw (x_is, y_is) at (out_rises g s arcs out j.0 i.0 x after_it i.1) in
            absurd (omega arith))
      ] in
      rw (x_is, y_is) at (before i.0 j.0 x (omega (arith, i.1)) less j.1)

  pub later_signals : (n : ℕ) → All (λ y. y.event.sig < length g.signals) (drop n arcs)
  later_signals n k d below =
      let inside : n + k < length arcs = omega (arith, length-drop n arcs) in
      let y = get_or arcs (n + k) d in
      rw (get_or-drop n arcs k d) (out_signal g s arcs out (n + k) y inside (get_or_default arcs (n + k) d y inside))

  -- a later arc has a later event
  later_event : IsDeterministic g → (i j : ℕ) (d : Edge) → i < j → j < length arcs
      → event_place (get_or arcs i d).event < event_place (get_or arcs j d).event
  later_event det i j d less within =
      let x = get_or arcs i d in
      let y = get_or arcs j d in
      let rises = out_rises g s arcs out i j d less within in
      elim (cases_eq (event_place x.event) (event_place y.event)) [
        | inl tied ↦ (
            let event : x.event ≡ y.event = event_from_place x.event y.event tied in
            let to_x : Step g s x.event x.to =
            out_item g s arcs out i x (omega arith) (get_or_default arcs i d x (omega arith)) in
            let to_y : Step g s y.event y.to = out_item g s arcs out j y within (get_or_default arcs j d y within) in
            let moved : Step g s y.event x.to = subst (λ (e : Event). Step g s e x.to) event to_x in
            let from : x.from ≡ y.from =
            out_from g s arcs out i d (omega arith) ∙ sym (out_from g s arcs out j d within) in
            let lower = to_lt x y (sorted_at edge_cmp arcs out.ordered i j d less within) from event in
            absurd (omega (arith, det s y.event x.to y.to moved to_y)))
        | inr other ↦ omega arith
      ]

  pub each_closes : IsDeterministic g → (n : ℕ) (x : Edge) → n < length arcs → x ≡ get_or arcs n x → ClosesSquares g s
      → All (ClosesSquare g x) (drop (n + 1) arcs)
  each_closes det n x within at closes k d below =
      let j : ℕ = (n + 1) + k in
      let inside : j < length arcs = omega (arith, length-drop (n + 1) arcs) in
      let y_is : get_or (drop (n + 1) arcs) k d ≡ get_or arcs j d = get_or-drop (n + 1) arcs k d in
      let x_is : x ≡ get_or arcs n d = at ∙ get_or_default arcs n x d within in
      let order = later_event det n j d (omega arith) inside in
      let both = closes (get_or arcs n d) (get_or arcs j d)
      (out_arc g s arcs out n (get_or arcs n d) within (get_or_default arcs n d (get_or arcs n d) within))
      (out_arc g s arcs out j (get_or arcs j d) inside (get_or_default arcs j d (get_or arcs j d) inside))
      (out_from g s arcs out n d within) (out_from g s arcs out j d inside) order in
      rw (x_is, y_is) both

-- ---- no fork and no loss
pub no_fork : (g : StateGraph) (s : ℕ) → ClosesSquares g s → (b : Fork) → ForksAt g s b → ⊥
no_fork g s closes b is =
    let t = is.holds.one.0 in
    let u = is.holds.other.0 in
    let square = closes (arc b.s b.a t) (arc b.s b.c u) is.holds.one.1 is.holds.other.1 is.at is.at is.holds.order in
    is.holds.apart (square.meets b.w b.w2 is.holds.one.2 is.holds.other.2)

pub no_loss : (g : StateGraph) (s : ℕ) → ClosesSquares g s → (b : Loss) → LosesAt g s b → ⊥
no_loss g s closes b is =
    let loses = is.holds in
    let t = step_from_enables g b.s b.lost loses.enabled in
    let u = loses.after.0 in
    elim (cases_order (event_place b.lost) (event_place b.by)) [
      | inl tied ↦ loses.by_another (event_from_place b.lost b.by tied)
      | inr (inl less) ↦ (
          let square = closes (arc b.s b.lost t.0) (arc b.s b.by u) t.1 loses.after.1 is.at is.at less in
          loses.after.2 (square.one_stays loses.non_input))
      | inr (inr more) ↦ (
          let square = closes (arc b.s b.by u) (arc b.s b.lost t.0) loses.after.1 t.1 is.at is.at more in
          loses.after.2 (square.other_stays loses.non_input))
    ]
