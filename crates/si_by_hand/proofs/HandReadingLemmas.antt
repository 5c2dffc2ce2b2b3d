-- A graph and the gate of a new signal, read one after the other.
use Rattle.std.proofs.Common.{◌≡◌, ℕ, List, None, Ok, refl, sym, subst}
use Rattle.si_base.specs.Graph.{names_in}
use Rattle.si_readings.proofs.CheckLemmas.{graph_one}
use Rattle.si_readings.proofs.ReadingsExist.{graph_some}
use Rattle.si_readings.proofs.StageLemmas.{gives_one, gives_some, no_refusal, one_value, spelled_one, spelled_some}
use Rattle.si_readings.proofs.StageLemmas.{then_one, then_some}
use Rattle.si_readings.specs.Laws.{AtMostOne, HasResult}
use Rattle.si_refusals.specs.Stages.{Passes, Refuses}
use Rattle.si_sg.specs.GivenGraph.{IsGivenBy}
use Rattle.si_by_hand.specs.GateText.{gate_text_fault, new_gate}
use Rattle.si_by_hand.specs.HandReadings.{HandReadings, hand_readings}

pub hand_readings_one : (f a g b : List ℕ) → AtMostOne (hand_readings f a g b)
hand_readings_one f a g b =
    then_one _ _ (graph_one f a) (λ given is. then_one _ _ (spelled_one g _ _) (λ made spelt. gives_one _))

pub hand_readings_some : (f a g b : List ℕ) → HasResult (hand_readings f a g b)
hand_readings_some f a g b =
    then_some _ _ (graph_some f a) (λ given is. then_some _ _ (spelled_some g _ _) (λ made spelt. gives_some _))

pub record AreHandReadings (a b : List ℕ) (r : HandReadings) : Type 0 where
  pub given : IsGivenBy a r.given
  pub no_fault : gate_text_fault (names_in r.given.graph.signals) b ≡ None
  pub made : r.made ≡ new_gate (names_in r.given.graph.signals) b

pub hand_readings_are : (f a g b : List ℕ) (r : HandReadings) → hand_readings f a g b (Ok r) → AreHandReadings a b r
hand_readings_are f a g b r (Refuses q h same) = absurd (no_refusal (Ok r) r q refl same)
hand_readings_are f a g b r (Passes given is (Refuses q h same)) = absurd (no_refusal (Ok r) r q refl same)
hand_readings_are f a g b r (Passes given is (Passes made spelt same)) =
    let read : HandReadings = record { given = given; made = made } in
    let readings_are = one_value (Ok r) r read refl same in
    let found : AreHandReadings a b read = record { given = is; no_fault = spelt.0; made = spelt.1 } in
    subst (AreHandReadings a b) (sym readings_are) found
