-- Start values and gates beside the current graph of a lineage.
use Rattle.std.proofs.Common.{◌≡◌, ℕ, ◌<◌, ◌&&◌, ◌||◌, not, Bool, true, false, List, length, refl, sym, ap, subst}
use Rattle.std.proofs.Common.{◌∙◌, arith, inl, inr}
use Rattle.std.proofs.lemmas.Bool.{cases_lt, true≢false}
use Rattle.std.proofs.lemmas.Option.{slice_get_within}
use Rattle.si_base.specs.declared.graph.Signal.{Signal}
use Rattle.si_base.specs.Bits.{bit}
use Rattle.si_base.specs.Codes.{CodedGraph, code, next_value, IsCoded}
use Rattle.si_base.specs.Graph.{IsNonInput, enables, rise, fall}
use Rattle.si_base.specs.Netlist.{Netlist, gate_value}
use Rattle.si_base.specs.Order.{IsFirst}
use Rattle.si_base.specs.Proper.{HasNoConflict}
use Rattle.si_base.specs.RightGates.{GivesNextValues}
use Rattle.si_base.specs.System.{IsFor}
use Rattle.si_base.specs.WellFormed.{IsNetlist}
use Rattle.si_base.proofs.BitFacts.{same_codes}
use Rattle.si_base.proofs.StepCodes.{code_fits, no_bit}
use Rattle.si_base.proofs.GraphSteps.{step_from_enables}
use Rattle.si_base.proofs.Booleans.{same_not}
use Rattle.si_insert.specs.Built.{IsBuilt}
use Rattle.si_insert.specs.Lineage.{Current, Keeps}
use Rattle.si_audit.specs.Faults.{IsWrong, Spot, StartsOtherwise, signal_place, spot_place}

-- ---- the first
pub at_first_signal : (P : ℕ → Type 0) (z : ℕ) → P z → ((y : ℕ) → y < z → P y → ⊥) → IsFirst signal_place P z
at_first_signal P z here none = record {
  holds = here;
  none_before = λ y also before. elim before [ inl less ↦ none y less also | inr tied ↦ tied.1 ];
}

pub at_first_spot : (P : Spot → Type 0) (z s : ℕ) → P (record { sig = z; state = s })
    → ((x : Spot) → x.sig < z → P x → ⊥) → ((t : ℕ) → t < s → P (record { sig = z; state = t }) → ⊥)
    → IsFirst spot_place P (record { sig = z; state = s })
at_first_spot P z s here none_before none_here = record {
  holds = here;
  none_before = λ x also before. elim before [
    | inl less ↦ none_before x less also
    | inr tied ↦ (
        let Q : ℕ → Type 0 = λ k. P (record { sig = k; state = x.state }) in
        elim tied.1 [
          | inl less ↦ none_here x.state less (subst Q tied.0 also)
          | inr same ↦ same.1
        ])
  ];
}

pub same_unless : (a b : Bool) → ((a ≡ b → ⊥) → ⊥) → a ≡ b
same_unless true true never = refl
same_unless true false never = absurd (never true≢false)
same_unless false true never = absurd (never (λ same. true≢false (sym same)))
same_unless false false never = refl

-- ---- gates
pub gives_if_none : (c : CodedGraph) (n : Netlist) → ((x : Spot) → IsWrong c n x → ⊥) → GivesNextValues c n
gives_if_none c n none = record {
  gates = λ s z within gate. same_unless (gate_value n z (code c s)) (next_value c s z)
      (λ differs. none (record { sig = z; state = s }) (record { gate = gate; within = within; differs = differs }));
}

or_false : (r x : Bool) → (r || false) ≡ (x || false) → r ≡ x
or_false true true same = refl
or_false true false same = absurd (true≢false same)
or_false false true same = absurd (true≢false (sym same))
or_false false false same = refl

falls_low : (f b : Bool) → (f ≡ true → b ≡ true) → b ≡ false → f ≡ false
falls_low true b high low = absurd (true≢false (sym (high refl) ∙ low))
falls_low false b high low = refl

rises_high : (r b : Bool) → (r ≡ true → b ≡ false) → b ≡ true → r ≡ false
rises_high true b low high = absurd (true≢false (sym high ∙ low refl))
rises_high false b low high = refl

same_falls : (r f x y : Bool) → r ≡ false → x ≡ false → (r || (true && not f)) ≡ (x || (true && not y)) → f ≡ y
same_falls true f x y one other same = absurd (true≢false one)
same_falls false f true y one other same = absurd (true≢false other)
same_falls false f false y one other same = same_not f y same

-- at one value, what a signal is about to do follows from its next value
same_events : (b r f x y : Bool) → (r || (b && not f)) ≡ (x || (b && not y)) → (r ≡ true → b ≡ false)
    → (x ≡ true → b ≡ false) → (f ≡ true → b ≡ true) → (y ≡ true → b ≡ true) → (r ≡ x) × (f ≡ y)
same_events false r f x y same r_low x_low f_high y_high =
    (or_false r x same, falls_low f false f_high refl ∙ sym (falls_low y false y_high refl))
same_events true r f x y same r_low x_low f_high y_high =
    let one = rises_high r true r_low refl in
    let other = rises_high x true x_low refl in
    (one ∙ sym other, same_falls r f x y one other same)

module _ (c : CodedGraph) (is : IsCoded c) where
  rise_low : (s z : ℕ) → z < length c.graph.signals → enables c.graph s (rise z) ≡ true → bit (code c s) z ≡ false
  rise_low s z within enabled =
      let at = step_from_enables c.graph s (rise z) enabled in ((is.values z within).rises s at.0 at.1).0

  fall_high : (s z : ℕ) → z < length c.graph.signals → enables c.graph s (fall z) ≡ true → bit (code c s) z ≡ true
  fall_high s z within enabled =
      let at = step_from_enables c.graph s (fall z) enabled in ((is.values z within).falls s at.0 at.1).0

  by_direction : (s t z : ℕ) (up : Bool) → enables c.graph s (rise z) ≡ enables c.graph t (rise z)
      → enables c.graph s (fall z) ≡ enables c.graph t (fall z)
      → enables c.graph s (record { sig = z; up = up }) ≡ enables c.graph t (record { sig = z; up = up })
  by_direction s t z true rises falls = rises
  by_direction s t z false rises falls = falls

  -- gates that give the next values show that there is no conflict
  pub no_conflict : (n : Netlist) → n.signals ≡ c.graph.signals → GivesNextValues c n → HasNoConflict c
  no_conflict n same gives pair conflict =
      let s = pair.0 in
      let t = pair.1 in
      let z = conflict.event.sig in
      let s_in : s < c.graph.states = omega (arith, conflict.order, conflict.within) in
      let at = conflict.non_input in
      let within : z < length c.graph.signals = slice_get_within c.graph.signals z at.0 at.1 in
      let gate : IsNonInput n.signals z = subst (λ (xs : List Signal). IsNonInput xs z) (sym same) at in
      let next : next_value c s z ≡ next_value c t z =
      sym (gives.gates s z s_in gate) ∙ ap (λ (k : ℕ). gate_value n z k) conflict.same_code
      ∙ gives.gates t z conflict.within gate in
      let P : ℕ → Type 0 =
      λ k. next_value c s z ≡ (enables c.graph t (rise z) || (bit k z && not (enables c.graph t (fall z)))) in
      let value : bit (code c s) z ≡ bit (code c t) z = ap (λ (k : ℕ). bit k z) conflict.same_code in
      let both = same_events (bit (code c s) z) (enables c.graph s (rise z)) (enables c.graph s (fall z))
      (enables c.graph t (rise z)) (enables c.graph t (fall z)) (subst P (sym conflict.same_code) next)
      (rise_low s z within) (λ e. value ∙ rise_low t z within e) (fall_high s z within)
      (λ e. value ∙ fall_high t z within e) in
      conflict.differ (by_direction s t z conflict.event.up both.0 both.1)

-- ---- the start
pub same_start : (c : CodedGraph) (v : Current) (n : Netlist) → IsNetlist n → IsFor c n → Keeps c v
    → n.signals ≡ v.coded.graph.signals → ((z : ℕ) → StartsOtherwise c v n z → ⊥)
    → n.start ≡ code v.coded v.coded.graph.start
same_start c v n is fits kept signals none =
    let start = v.coded.graph.start in
    let start_in : start < v.coded.graph.states = kept.coded.graph_is.starts in
    same_codes n.start (code v.coded start) (λ a. elim (cases_lt a (length c.graph.signals)) [
      | inl low ↦ fits.values a low
          ∙ sym (kept.values start a start_in low ∙ ap (λ (s : ℕ). bit (code c s) a) kept.start)
      | inr high ↦ elim (cases_lt a (length n.signals)) [
        | inl within ↦ same_unless (bit n.start a) (bit (code v.coded start) a)
            (λ differs. none a (record { inserted = high; there = within; differs = differs }))
        | inr past ↦ (
            let size : length n.signals ≡ length v.coded.graph.signals = ap (length {A = Signal}) signals in
            no_bit n.start (length n.signals) a is.start past
            ∙ sym (no_bit (code v.coded start) (length v.coded.graph.signals) a
            (code_fits v.coded start kept.coded start_in) (omega (arith, past, size))))
      ]
    ])

pub is_built : (c : CodedGraph) (v : Current) (n : Netlist) → IsNetlist n → IsFor c n → Keeps c v
    → n.signals ≡ v.coded.graph.signals → ((z : ℕ) → StartsOtherwise c v n z → ⊥) → GivesNextValues v.coded n
    → IsBuilt v n
is_built c v n is fits kept signals none gives = record {
  signals = signals;
  start = same_start c v n is fits kept signals none;
  gives = gives;
}
