-- In a graph without conflicts states of equal code enable the same non-inputs.
use Rattle.std.proofs.Common.{◌≡◌, ℕ, ◌<◌, Bool, refl, sym, ap, inl, inr}
use Rattle.std.proofs.lemmas.Bool.{cases_Bool, cases_order}
use mathlib.Core.Bool.{beq}
use Rattle.si_base.specs.declared.ids.Event.{Event}
use Rattle.si_base.specs.Graph.{enables, rise, fall, IsNonInput}
use Rattle.si_base.specs.Codes.{CodedGraph, code, next_value}
use Rattle.si_base.specs.Proper.{HasNoConflict}
use Rattle.si_base.proofs.GraphSteps.{beq-true}
use Rattle.si_base.proofs.BitFacts.{beq_false}

pub same_enables : (c : CodedGraph) (p q : ℕ) (e : Event) → HasNoConflict c → p < c.graph.states → q < c.graph.states
    → code c p ≡ code c q → IsNonInput c.graph.signals e.sig → enables c.graph p e ≡ enables c.graph q e
same_enables c p q e none within_p within_q same non_input =
    elim (cases_Bool (beq (enables c.graph p e) (enables c.graph q e))) [
      | inl equal ↦ beq-true _ _ equal
      | inr apart ↦ elim (cases_order p q) [
        | inl one ↦ (let E : ℕ → Bool = λ s. enables c.graph s e in ap E one)
        | inr (inl before) ↦
            absurd (none (p, q) (record {
              order = before;
              within = within_q;
              same_code = same;
              event = e;
              non_input = non_input;
              differ = beq_false _ _ apart;
            }))
        | inr (inr after) ↦
            absurd (none (q, p) (record {
              order = after;
              within = within_p;
              same_code = sym same;
              event = e;
              non_input = non_input;
              differ = λ h. beq_false _ _ apart (sym h);
            }))
      ]
    ]

pub same_next : (c : CodedGraph) (p q z : ℕ) → HasNoConflict c → p < c.graph.states → q < c.graph.states
    → code c p ≡ code c q → IsNonInput c.graph.signals z → next_value c p z ≡ next_value c q z
same_next c p q z none within_p within_q same non_input =
    let up = same_enables c p q (rise z) none within_p within_q same non_input in
    let down = same_enables c p q (fall z) none within_p within_q same non_input in
    rw (up, down, same) refl
