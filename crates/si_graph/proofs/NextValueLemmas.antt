-- Each arc out of a state sets the next value of its signal.
use Rattle.std.proofs.Common.{◌≡◌, ◌≢◌, ℕ, ◌+◌, ◌<◌, ◌&&◌, Bool, true, false, not, List, length, get_or, Contains, refl}
use Rattle.std.proofs.Common.{sym, ap, subst, ◌∙◌, arith, inl, inr}
use Rattle.std.specs.List.{AllWithin}
use Rattle.std.proofs.lemmas.Bool.{cases_eq, cases_Bool, true≢false}
use Rattle.std.proofs.lemmas.List.{get_or_default}
use Rattle.si_base.specs.declared.ids.Event.{Event}
use Rattle.si_base.specs.declared.graph.Edge.{Edge}
use Rattle.si_base.specs.Bits.{bit, IsSet}
use Rattle.si_base.specs.Codes.{CodedGraph, IsCoded, code, next_value}
use Rattle.si_base.specs.Graph.{Step, arc, enables, rise, fall}
use Rattle.si_base.proofs.StepCodes.{step_within, old_value, code_fits, no_bit}
use Rattle.si_base.proofs.GraphSteps.{enables-step, step_from_enables}
use Rattle.si_base.proofs.Booleans.{same_not}
use Rattle.si_graph.specs.Loops.Arcs.{AreOut}
use Rattle.si_graph.specs.NextCodes.{IsNextCode}
use Rattle.si_graph.proofs.ValueLemmas.{fits_from_bits}

-- no arc from `low` up to `high` switches z
abbrev pub NoneSwitches : List Edge → ℕ → ℕ → ℕ → Type 0
NoneSwitches arcs z low high = AllWithin (λ a. a.event.sig ≢ z) arcs low high

-- the first arcs, so many, have set the values of their signals, and no other values have changed
pub record AreSet (arcs : List Edge) (count code next : ℕ) : Type 0 where
  pub set : AllWithin (λ a. bit next a.event.sig ≡ a.event.up) arcs 0 count
  pub kept : (z : ℕ) → NoneSwitches arcs z 0 count → bit next z ≡ bit code z

-- the value of its signal is the one from which each arc switches
abbrev pub FromOld : ℕ → Edge → Type 0
FromOld code a = bit code a.event.sig ≡ not a.event.up

pub set_more : (arcs : List Edge) (n code old new : ℕ) (x : Edge) → AllWithin (FromOld code) arcs 0 (length arcs)
    → n < length arcs → x ≡ get_or arcs n x → IsSet old x.event.sig x.event.up new
    → AreSet arcs n code old → AreSet arcs (n + 1) code new
set_more arcs n code old new x from_old within at sets before = record {
  set = λ k d from below. elim (cases_eq k n) [
    | inl last ↦ rw (last, here d) sets.there
    | inr other ↦ earlier k d (omega arith)
  ];
  kept = λ z none. sets.others z (λ same. none n x (omega arith) (omega arith) (rw (here x) (sym same)))
      ∙ before.kept z (λ k d from below. none k d from (omega arith));
}
  where
    here : (d : Edge) → get_or arcs n d ≡ x
    here d = get_or_default arcs n d x within ∙ sym at

    earlier : (k : ℕ) (d : Edge) → k < n → bit new (get_or arcs k d).event.sig ≡ (get_or arcs k d).event.up
    earlier k d below =
        let a : Edge = get_or arcs k d in
        elim (cases_eq a.event.sig x.event.sig) [
          | inl same ↦ (
              let of_x : bit code x.event.sig ≡ not x.event.up =
              subst (FromOld code) (here x) (from_old n x (omega arith) within) in
              let of_a : bit code a.event.sig ≡ not a.event.up = from_old k d (omega arith) (omega arith) in
              let one : not x.event.up ≡ not a.event.up = sym of_x ∙ ap (bit code) (sym same) ∙ of_a in
              ap (bit new) same ∙ sets.there ∙ same_not _ _ one)
          | inr other ↦ sets.others a.event.sig other ∙ before.set k d (omega arith) below
        ]

module _ (c : CodedGraph) (is : IsCoded c) (s : ℕ) (arcs : List Edge) (out : AreOut c.graph s arcs) where
  step_at : (k : ℕ) (d : Edge) → k < length arcs
      → Step c.graph s (get_or arcs k d).event (get_or arcs k d).to
  step_at k d within =
      let a : Edge = get_or arcs k d in
      let there = (out.exactly a).0 (k, within, get_or_default arcs k a d within) in
      subst (λ (f : ℕ). Contains c.graph.edges (arc f a.event a.to)) there.1 there.0

  pub out_from_old : AllWithin (FromOld (code c s)) arcs 0 (length arcs)
  out_from_old k d from within =
      let a : Edge = get_or arcs k d in
      let step = step_at k d within in
      let inside = step_within c.graph s a.event a.to is.graph_is step in
      old_value c.graph a.event.sig (λ t. bit (code c t) a.event.sig) s a.to a.event.up
      (is.values a.event.sig inside.1) step

  pub out_inside : AllWithin (λ a. a.event.sig < length c.graph.signals) arcs 0 (length arcs)
  out_inside k d from within = (step_within c.graph s _ _ is.graph_is (step_at k d within)).1

  -- ---- once all arcs have set their values, these are the next ones
  module _ (next : ℕ) (set : AreSet arcs (length arcs) (code c s) next) where
    set_by : (e : Event) → enables c.graph s e ≡ true → bit next e.sig ≡ e.up
    set_by e enabled =
        let found = step_from_enables c.graph s e enabled in
        let a : Edge = arc s e found.0 in
        let place = (out.exactly a).1 (found.1, refl) in
        let P : Edge → Type 0 = λ x. bit next x.event.sig ≡ x.event.up in
        subst P place.2 (set.set place.0 a (omega arith) place.1)

    none_enabled : (z : ℕ) → enables c.graph s (rise z) ≡ false → enables c.graph s (fall z) ≡ false
        → NoneSwitches arcs z 0 (length arcs)
    none_enabled z no_rise no_fall k d from within same =
        let a : Edge = get_or arcs k d in
        let mine : Event = record { sig = z; up = a.event.up } in
        let enabled : enables c.graph s a.event ≡ true = enables-step c.graph s a.event a.to (step_at k d within) in
        let E : ℕ → Type 0 = λ n. enables c.graph s (record { sig = n; up = a.event.up }) ≡ true in
        let by : enables c.graph s mine ≡ true = subst E same enabled in
        true≢false (sym by ∙ not_enabled z a.event.up no_rise no_fall)
      where
        not_enabled : (z : ℕ) (up : Bool) → enables c.graph s (rise z) ≡ false
            → enables c.graph s (fall z) ≡ false → enables c.graph s (record { sig = z; up = up }) ≡ false
        not_enabled z true no_rise no_fall = no_rise
        not_enabled z false no_rise no_fall = no_fall

    next_bit : (z : ℕ) → bit next z ≡ next_value c s z
    next_bit z = elim (cases_Bool (enables c.graph s (rise z))) [
      | inl rises ↦ set_by (rise z) rises ∙ sym (rw rises refl)
      | inr no_rise ↦ elim (cases_Bool (enables c.graph s (fall z))) [
        | inl falls ↦ set_by (fall z) falls ∙ sym (rw (no_rise, falls) (and_false (bit (code c s) z)))
        | inr no_fall ↦ set.kept z (none_enabled z no_rise no_fall)
            ∙ sym (rw (no_rise, no_fall) (and_true (bit (code c s) z)))
      ]
    ]
      where
        and_false : (b : Bool) → (b && false) ≡ false
        and_false true = refl
        and_false false = refl

        and_true : (b : Bool) → (b && true) ≡ b
        and_true true = refl
        and_true false = refl

    pub next_is : s < c.graph.states → IsNextCode c s next
    next_is there = record {
      values = λ z within. next_bit z;
      no_more = fits_from_bits next (length c.graph.signals) (λ z past.
          set.kept z (λ k d from within same. absurd (omega (arith, out_inside k d from within)))
          ∙ no_bit (code c s) (length c.graph.signals) z (code_fits c s is there) past);
    }
