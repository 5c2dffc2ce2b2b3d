-- Gates that give the next values: a gate is excited just where an event of its signal is enabled.
use Rattle.std.proofs.Common.{◌≡◌, ◌≢◌, ℕ, ◌<◌, ◌&&◌, ◌||◌, not, Bool, true, false, refl, sym, ◌∙◌, length, inl, inr}
use Rattle.std.proofs.lemmas.Bool.{true≢false, cases_Bool}
use Rattle.si_base.specs.Bits.{bit}
use Rattle.si_base.specs.Graph.{rise, fall, enables, IsNonInput}
use Rattle.si_base.specs.Codes.{CodedGraph, code, IsCoded}
use Rattle.si_base.specs.Netlist.{Netlist, IsExcited}
use Rattle.si_base.specs.RightGates.{GivesNextValues}
use Rattle.si_base.proofs.GraphSteps.{step_from_enables}
pub use Rattle.si_base.proofs.StepCodes.{step_within, turns, old_value, code_fits, code_of_step}

-- a gate that differs from its signal shows that the signal's event is enabled
excited_up : (gate r f b : Bool) → gate ≡ (r || (b && not f)) → gate ≢ b → b ≡ false → r ≡ true
excited_up gate true f b is differs low = refl
excited_up gate false f true is differs low = absurd (true≢false low)
excited_up gate false f false is differs low = absurd (differs is)

excited_down : (gate r f b : Bool) → gate ≡ (r || (b && not f)) → gate ≢ b → b ≡ true → f ≡ true
excited_down gate r true b is differs high = refl
excited_down gate r false false is differs high = absurd (true≢false (sym high))
excited_down gate true false true is differs high = absurd (differs is)
excited_down gate false false true is differs high = absurd (differs is)

pub excited_enables : (c : CodedGraph) (n : Netlist) (s z : ℕ) (up : Bool) → GivesNextValues c n → s < c.graph.states
    → IsExcited n (code c s) z → bit (code c s) z ≡ not up → enables c.graph s (record { sig = z; up = up }) ≡ true
excited_enables c n s z true gives there excited old =
    excited_up _ _ _ _ (gives.gates s z there excited.gate) excited.differs old
excited_enables c n s z false gives there excited old =
    excited_down _ _ _ _ (gives.gates s z there excited.gate) excited.differs old

next_high : (r f b : Bool) → r ≡ true → (r || (b && not f)) ≡ true
next_high true f b h = refl
next_high false f b h = absurd (true≢false (sym h))

next_low : (r f b : Bool) → r ≡ false → f ≡ true → (r || (b && not f)) ≡ false
next_low true f b h k = absurd (true≢false h)
next_low false false b h k = absurd (true≢false (sym k))
next_low false true true h k = refl
next_low false true false h k = refl

pub enabled_excites : (c : CodedGraph) (n : Netlist) (s z : ℕ) (up : Bool) → IsCoded c → GivesNextValues c n
    → s < c.graph.states → IsNonInput n.signals z → z < length c.graph.signals
    → enables c.graph s (record { sig = z; up = up }) ≡ true → IsExcited n (code c s) z
enabled_excites c n s z true is gives there non_input within enabled =
    let found = step_from_enables c.graph s (rise z) enabled in
    let values = (is.values z within).rises s found.0 found.1 in
    record {
      gate = non_input;
      differs = λ same. true≢false (sym (gives.gates s z there non_input ∙ next_high _ _ _ enabled) ∙ same ∙ values.0);
    }
enabled_excites c n s z false is gives there non_input within enabled =
    let found = step_from_enables c.graph s (fall z) enabled in
    let values = (is.values z within).falls s found.0 found.1 in
    let no_rise : enables c.graph s (rise z) ≡ false = elim (cases_Bool (enables c.graph s (rise z))) [
      | inl rises ↦ (
          let at = step_from_enables c.graph s (rise z) rises in
          absurd (true≢false (sym values.0 ∙ ((is.values z within).rises s at.0 at.1).0))
          )
      | inr stays ↦ stays
    ] in
    record {
      gate = non_input;
      differs = λ same. true≢false (sym values.0 ∙ sym same
          ∙ gives.gates s z there non_input ∙ next_low _ _ _ no_rise enabled);
    }
