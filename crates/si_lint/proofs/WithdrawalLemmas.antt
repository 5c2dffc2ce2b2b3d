-- Events that another event disables: those at a state, one event after another.
use Rattle.std.proofs.Common.{◌≡◌, ℕ, ◌<◌, ◌≤◌, List, [], ◌∷◌, ◌++◌, length, get_or, Contains, IsTrue, Bool, true, false, not, ◌↔◌, refl, sym}
use Rattle.std.proofs.Common.{ap, subst, ◌∙◌, arith, inl, inr}
use Rattle.std.proofs.lemmas.Bool.{true≢false}
use Rattle.std.proofs.lemmas.List.{get_or_default}
use Rattle.si_base.specs.declared.ids.Event.{Event}
use Rattle.si_base.specs.declared.graph.Edge.{Edge}
use Rattle.si_base.specs.EdgeOrder.{edge_cmp}
use Rattle.si_base.specs.Graph.{StateGraph, Step, IsNonInput, arc, enables, event_place}
use Rattle.si_base.specs.Codes.{IsDeterministic}
use Rattle.si_base.specs.Order.{Before}
use Rattle.si_base.specs.Proper.{Loss, loss_place}
use Rattle.si_base.proofs.GraphSteps.{step_from_enables}
use Rattle.si_base.proofs.OrderAscending.{sorted_at}
use Rattle.si_base.proofs.StepCodes.{step_within}
use Rattle.si_base.specs.Graph.{IsGraph}
use Rattle.si_checks.proofs.ForkOrder.{out_place, out_from, out_item}
use Rattle.si_graph.proofs.OrderLemmas.{event_from_place}
use Rattle.si_graph.specs.Loops.Arcs.{AreOut}
use Rattle.si_carried.specs.Lint.{Withdraws, IsChoice, IsDisabling}
use Rattle.si_told.specs.All.{AreAll}
use Rattle.si_told.specs.Loops.Search.{Adds}
use Rattle.si_lint.specs.Loops.Withdrawals.{IsLostOf, IsBy, WithdrawsBy, WithdrawsAt, WithdrawsOf, Disables}
use Rattle.si_lint.specs.declared.withdrawals.Kind.{Kind}
use Rattle.si_lint.specs.declared.withdrawals.Kind.TheVariants.{Choice, Disabling}
use Rattle.si_told.proofs.Alls.{adds_none, adds_one, adds_same, same_are}
use Rattle.si_told.proofs.ArcOrder.{arc_before}
use Rattle.si_insert.specs.Accepted.{IsInput}
use Rattle.si_walks.proofs.WalkEvents.{input_if_not_driven, input_not_driven}

-- a signal that isn't driven is an input
pub input_told : (g : StateGraph) (e : Event) (driven : Bool) → e.sig < length g.signals
    → (IsTrue driven ↔ IsNonInput g.signals e.sig) → IsTrue (not driven) ↔ IsInput g.signals e.sig
input_told g e true small told = (
  λ is. absurd (true≢false (sym is)),
  λ input. absurd (input_not_driven g.signals e.sig input (told.0 refl)),
)
input_told g e false small told = (
  λ is. input_if_not_driven g.signals e.sig small (λ driven. true≢false (sym (told.1 driven))),
  λ input. refl,
)

pub same_loss : (x y : Loss) → x.s ≡ y.s → x.lost ≡ y.lost → x.by ≡ y.by → x ≡ y
same_loss x y state lost by = λ i. record { s = state i; lost = lost i; by = by i }

-- ---- the arcs out of a state of a deterministic graph, one for each event
module _ (g : StateGraph) (s : ℕ) (arcs : List Edge) (out : AreOut g s arcs) (one : IsDeterministic g) where
  step_at : (i : ℕ) (d : Edge) → i < length arcs → Step g s (get_or arcs i d).event (get_or arcs i d).to
  step_at i d within =
      out_item g s arcs out i (get_or arcs i d) within (sym (get_or_default arcs i (get_or arcs i d) d within))

  pub rises : (i j : ℕ) (d : Edge) → i < j → j < length arcs
      → event_place (get_or arcs i d).event < event_place (get_or arcs j d).event
  rises i j d before within =
      let x : Edge = get_or arcs i d in
      let y : Edge = get_or arcs j d in
      let inside : i < length arcs = omega arith in
      elim (arc_before x y (sorted_at edge_cmp arcs out.ordered i j d before within)) [
        | inl from ↦ absurd (omega (arith, from, out_from g s arcs out i d inside, out_from g s arcs out j d within))
        | inr tied ↦ elim tied.1 [
          | inl event ↦ event
          | inr also ↦ elim also.1 [
            | inl to ↦ (
                let P : Event → Type 0 = λ e. Step g s e x.to in
                let there : Step g s y.event x.to =
                subst P (event_from_place x.event y.event also.0) (step_at i d inside) in
                absurd (omega (arith, to, one s y.event x.to y.to there (step_at j d within))))
            | inr rest ↦ absurd rest.1
          ]
        ]
      ]

  -- those of one event, by the event that disables it
  pub of_order : (by : Kind) (lost : Event) (i j : ℕ) (d : Edge) → i < j → j < length arcs → (x y : Loss)
      → WithdrawsOf g by s lost x → WithdrawsOf g by s lost y → (get_or arcs i d).event ≡ x.by
      → (get_or arcs j d).event ≡ y.by → Before (loss_place x) (loss_place y)
  of_order by lost i j d before within x y p q first later =
      let rise = rises i j d before within in
      inr (
        p.0.1 ∙ sym q.0.1,
        inr (
          ap event_place (p.1 ∙ sym q.1),
          inl (omega (arith, rise, ap event_place first, ap event_place later)),
        ),
      )

  -- those at the state, by the event that is disabled
  pub at_order : (by : Kind) (i j : ℕ) (d : Edge) → i < j → j < length arcs → (x y : Loss)
      → WithdrawsAt g by s x → WithdrawsAt g by s y → (get_or arcs i d).event ≡ x.lost
      → (get_or arcs j d).event ≡ y.lost → Before (loss_place x) (loss_place y)
  at_order by i j d before within x y p q first later =
      let rise = rises i j d before within in
      inr (p.1 ∙ sym q.1, inl (omega (arith, rise, ap event_place first, ap event_place later)))

  -- ---- one event
  pub of_here : (by : Kind) (lost : Event) (y : Edge) (old new : List Loss) → IsLostOf g by lost
      → IsTrue (enables g s lost) → Step g s y.event y.to
      → Disables g by lost y.event y.to
      → new ≡ old ++ (record { s = s; lost = lost; by = y.event }) ∷ []
      → Adds loss_place (λ b. WithdrawsOf g by s lost b × (y.event ≡ b.by)) old new
  of_here by lost y old new looked_for enabled step is pushed =
      adds_one loss_place (λ b. WithdrawsOf g by s lost b × (y.event ≡ b.by)) old new x holds same pushed
    where
      x : Loss
      x = record { s = s; lost = lost; by = y.event }

      withdraws : WithdrawsBy g by x
      withdraws = record {
        lost = looked_for;
        enabled = enabled;
        by_another = is.another;
        after = (y.to, step, is.gone);
        is_by = is.is_by;
      }

      holds : WithdrawsOf g by s lost x × (y.event ≡ x.by)
      holds = (((withdraws, refl), refl), refl)

      same : (b : Loss) → WithdrawsOf g by s lost b × (y.event ≡ b.by) → x ≡ b
      same b p = same_loss x b (sym p.0.0.1) (sym p.0.1) p.1

  pub of_pass : (by : Kind) (lost : Event) (y : Edge) (old : List Loss) → Step g s y.event y.to
      → (Disables g by lost y.event y.to → ⊥)
      → Adds loss_place (λ b. WithdrawsOf g by s lost b × (y.event ≡ b.by)) old old
  of_pass by lost y old step is_not =
      adds_none loss_place (λ b. WithdrawsOf g by s lost b × (y.event ≡ b.by)) old (λ b p. is_not (disables b p))
    where
      disables : (b : Loss) → WithdrawsOf g by s lost b × (y.event ≡ b.by) → Disables g by lost y.event y.to
      disables b p =
          let w : WithdrawsBy g by b = p.0.0.0 in
          let t : ℕ = w.after.0 in
          let there : Step g s b.by t = subst (λ (k : ℕ). Step g k b.by t) p.0.0.1 w.after.1 in
          let also : Step g s y.event t = subst (λ (e : Event). Step g s e t) (sym p.1) there in
          let target : y.to ≡ t = one s y.event y.to t step also in
          record {
            another = λ same. w.by_another (p.0.1 ∙ same ∙ p.1);
            is_by = subst (IsBy g by) (sym p.1) w.is_by;
            gone = λ still. w.after.2 (subst (λ (e : Event). IsTrue (enables g t e)) (sym p.0.1)
                (subst (λ (k : ℕ). IsTrue (enables g k lost)) target still));
          }

  pub of_each : (by : Kind) (lost : Event) (b : Loss) → WithdrawsOf g by s lost b
      → (a : Edge) × Contains arcs a × (a.event ≡ b.by)
  of_each by lost b p =
      let w : WithdrawsBy g by b = p.0.0 in
      let t : ℕ = w.after.0 in
      let there : Step g s b.by t = subst (λ (k : ℕ). Step g k b.by t) p.0.1 w.after.1 in
      (arc s b.by t, out_place g s arcs out b.by t there, refl)

  -- ---- one state
  pub at_here : (by : Kind) (x : Edge) (old new : List Loss) → Adds loss_place (WithdrawsOf g by s x.event) old new
      → Adds loss_place (λ b. WithdrawsAt g by s b × (x.event ≡ b.lost)) old new
  at_here by x old new adds =
      adds_same loss_place (WithdrawsOf g by s x.event) (λ b. WithdrawsAt g by s b × (x.event ≡ b.lost)) old new
      (λ b p. (p.0, sym p.1)) (λ b p. (p.0, sym p.1)) adds

  pub at_pass : (by : Kind) (x : Edge) (old : List Loss) → (IsLostOf g by x.event → ⊥)
      → Adds loss_place (λ b. WithdrawsAt g by s b × (x.event ≡ b.lost)) old old
  at_pass by x old is_not =
      adds_none loss_place (λ b. WithdrawsAt g by s b × (x.event ≡ b.lost)) old none
    where
      none : (b : Loss) → WithdrawsAt g by s b × (x.event ≡ b.lost) → ⊥
      none b p =
          let w : WithdrawsBy g by b = p.0.0 in is_not (subst (IsLostOf g by) (sym p.1) w.lost)

  pub at_each : (by : Kind) (b : Loss) → WithdrawsAt g by s b → (a : Edge) × Contains arcs a × (a.event ≡ b.lost)
  at_each by b p =
      let w : WithdrawsBy g by b = p.0 in
      let enabled : IsTrue (enables g s b.lost) = subst (λ (k : ℕ). IsTrue (enables g k b.lost)) p.1 w.enabled in
      let to = step_from_enables g s b.lost enabled in
      (arc s b.lost to.0, out_place g s arcs out b.lost to.0 to.1, refl)

-- ---- all states
pub state_order : (g : StateGraph) (by : Kind) (x y : Loss) → WithdrawsBy g by x → WithdrawsBy g by y → x.s < y.s
    → Before (loss_place x) (loss_place y)
state_order g by x y p q less = inl less

pub state_within : (g : StateGraph) (by : Kind) (n : ℕ) → IsGraph g → g.states ≤ n → (b : Loss) → WithdrawsBy g by b
    → b.s < n
state_within g by n is all b w =
    let within = step_within g b.s b.by w.after.0 is w.after.1 in
    omega (arith, within.0)

-- ---- the kinds
withdraws_as : (g : StateGraph) (kind : Kind) (b : Loss) → IsInput g.signals b.lost.sig → WithdrawsBy g kind b
    → Withdraws g b
withdraws_as g kind b (signal, named, input) w = record {
  signal = signal;
  named = named;
  input = input;
  enabled = w.enabled;
  by_another = w.by_another;
  after = w.after;
}

pub all_choices : (g : StateGraph) (xs : List Loss) → AreAll loss_place (WithdrawsBy g Choice) xs
    → AreAll loss_place (IsChoice g) xs
all_choices g xs are = same_are loss_place (WithdrawsBy g Choice) (IsChoice g) xs
    (λ b is. record { withdraws = withdraws_as g Choice b is.lost is; by_input = is.is_by }) back are
  where
    back : (b : Loss) → IsChoice g b → WithdrawsBy g Choice b
    back b is = (
        let w = is.withdraws in
        record {
          lost = (w.signal, w.named, w.input);
          enabled = w.enabled;
          by_another = w.by_another;
          after = w.after;
          is_by = is.by_input;
        })

pub all_disablings : (g : StateGraph) (xs : List Loss) → AreAll loss_place (WithdrawsBy g Disabling) xs
    → AreAll loss_place (IsDisabling g) xs
all_disablings g xs are = same_are loss_place (WithdrawsBy g Disabling) (IsDisabling g) xs
    (λ b is. record { withdraws = withdraws_as g Disabling b is.lost is; by_driven = is.is_by }) back are
  where
    back : (b : Loss) → IsDisabling g b → WithdrawsBy g Disabling b
    back b is = (
        let w = is.withdraws in
        record {
          lost = (w.signal, w.named, w.input);
          enabled = w.enabled;
          by_another = w.by_another;
          after = w.after;
          is_by = is.by_driven;
        })
