-- A text comes to one answer: what is written for the value that it spells, or its first fault.
use Rattle.std.proofs.Common.{◌≡◌, ℕ, List, Option, None, Ok, Err, refl, ap, subst, ◌∙◌}
use Rattle.si_base.specs.declared.fault.TextKind.{TextKind}
use Rattle.si_readings.specs.Laws.{AtMostOne, HasResult}
use Rattle.si_readings.specs.Readings.{TellsFault, spelled_value}
use Rattle.si_readings.proofs.StageLemmas.{then_one, then_some, spelled_one, spelled_some, gives_one, gives_some}
use Rattle.si_refusals.specs.Refusal.{TextRefusal}
use Rattle.si_refusals.specs.Stages.{Stage, Then, Refuses, Passes, gives}

module _ {A : Type 0} (file : List ℕ) (fault : Option (ℕ × TextKind)) (value : A) (write : A → List ℕ) where
  abbrev pub answer : Stage TextRefusal (List ℕ)
  answer = Then TextRefusal A (List ℕ) (spelled_value file fault value) (λ x. gives (write x))

  pub one_answer : AtMostOne answer
  one_answer = then_one _ _ (spelled_one file fault value) (λ x spelt. gives_one (write x))

  pub some_answer : HasResult answer
  some_answer = then_some _ _ (spelled_some file fault value) (λ x spelt. gives_some (write x))

  pub output_is_written : (output : List ℕ)
      → Then TextRefusal A (List ℕ) (spelled_value file fault value) (λ x. gives (write x)) (Ok output)
      → (fault ≡ None) × (output ≡ write value)
  output_is_written output (Refuses refusal is other) = cc
  output_is_written output (Passes x spelt given) =
      let same : output ≡ write x = cc in
      (spelt.0, same ∙ ap write spelt.1)

  pub written_is_output : (output : List ℕ) → fault ≡ None → output ≡ write value → answer (Ok output)
  written_is_output output sound is = Passes value (sound, refl) (ap (λ (t : List ℕ). Ok t) is)

  pub refusal_is_fault : (refusal : TextRefusal)
      → Then TextRefusal A (List ℕ) (spelled_value file fault value) (λ x. gives (write x)) (Err refusal)
      → TellsFault file fault refusal
  refusal_is_fault refusal (Refuses other tells same) =
      let is : other ≡ refusal = cc in
      subst (TellsFault file fault) is tells
  refusal_is_fault refusal (Passes x spelt given) = cc

  pub fault_is_refusal : (refusal : TextRefusal) → TellsFault file fault refusal → answer (Err refusal)
  fault_is_refusal refusal tells = Refuses refusal tells refl
