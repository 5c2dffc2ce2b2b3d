-- Whether a new signal may switch in a set of states, arc by arc.
use Rattle.std.proofs.Common.{◌≡◌, ℕ, ◌⊎◌, Bool, false, List, get_or, Contains, refl, sym, subst, ◌∙◌, inl, inr}
use Rattle.std.proofs.lemmas.Bool.{cases_Bool, true≢false}
use Rattle.si_base.specs.declared.graph.Edge.{Edge}
use Rattle.si_base.specs.Graph.{StateGraph, Step, IsGraph, IsNonInput, arc}
use Rattle.si_base.specs.Sets.{IsIn}
use Rattle.si_base.proofs.StepCodes.{step_within}
use Rattle.si_closures.proofs.SignalKinds.{input_is_no_other, input_or_not}
use Rattle.si_candidates.specs.Blocking.{MaySwitch, MayPass, KeepsExit}

-- ---- the arcs out of the set
pub in_or_out : (set : List Bool) (s : ℕ) → (IsIn set s) ⊎ (IsIn set s → ⊥)
in_or_out set s = elim (cases_Bool (get_or set s false)) [
  | inl there ↦ inl there
  | inr out ↦ inr (λ there. true≢false (sym there ∙ out))
]

pub switch_passes : (g : StateGraph) (set : List Bool) (a : Edge) → IsGraph g → MaySwitch g (IsIn set)
    → Contains g.edges a → IsIn set a.from → MayPass g (IsIn set) a
switch_passes g set a is may there from out = record { non_input = non_input; keeps = keeps }
  where
    non_input : IsNonInput g.signals a.event.sig
    non_input = elim (input_or_not g.signals a.event.sig (step_within g a.from a.event a.to is there).1) [
      | inl input ↦ absurd (out (may.inputs a.from a.event a.to input there from))
      | inr other ↦ other
    ]

    keeps : (before : Edge) → Contains g.edges before → before.to ≡ a.from → KeepsExit g (IsIn set) a before
    keeps before arc_in into apart t enabled = may.exits before.from a.event before.event t a.from a.to
        (record {
          non_input = non_input;
          apart = λ same. apart (sym same);
          first = enabled;
          other = subst (λ (x : ℕ). Step g before.from before.event x) into arc_in;
          next = there;
        })
        from out

pub passes_switch : (g : StateGraph) (set : List Bool)
    → ((a : Edge) → Contains g.edges a → IsIn set a.from → MayPass g (IsIn set) a) → MaySwitch g (IsIn set)
passes_switch g set passes = record {
  inputs = λ s e t input step from. elim (in_or_out set t) [
    | inl stays ↦ stays
    | inr out ↦ absurd (input_is_no_other g.signals e.sig input (passes (arc s e t) step from out).non_input)
  ];
  exits = λ s lost by t u w d from out. (passes (arc u lost w) d.next from out).keeps (arc s by u) d.other refl
      (λ same. d.apart (sym same)) t d.first;
}
