-- Codes that suit all arcs are codes of the graph, and a signal whose values don't has none.
use Rattle.std.proofs.Common.{◌≡◌, ℕ, ◌^◌, ◌<◌, ◌≤◌, Bool, true, false, not, List, length, get_or, refl, sym, ap, subst}
use Rattle.std.proofs.Common.{◌∙◌, arith, inl, inr, slice_index}
use Rattle.std.proofs.lemmas.Bool.{cases_lt}
use Rattle.std.proofs.lemmas.List.{get_or_default}
use Rattle.std.proofs.lemmas.List.Elements.{All-contains, Contains-get_or}
use Rattle.si_base.specs.declared.ids.Event.{Event}
use Rattle.si_base.specs.declared.graph.Edge.{Edge}
use Rattle.si_base.specs.Bits.{bit}
use Rattle.si_base.specs.Graph.{StateGraph, Step, IsGraph, arc, rise, fall}
use Rattle.si_base.specs.Codes.{AreValues, HasValues, IsIdle, IsConnected, IsDeterministic, IsCoded}
use Rattle.si_base.specs.Proper.{IsFirstWithoutValues}
use Rattle.si_base.proofs.StepCodes.{step_within, turns, old_value}
use Rattle.si_graph.specs.Loops.Values.{TellsValues, Suits, SuitAll, IsFirstUnsuited}
use Rattle.si_graph.proofs.ValueLemmas.{fits_from_bits}

-- a signal that no arc switches is 0 everywhere
idle_values : (g : StateGraph) (a : ℕ) → IsIdle g a → AreValues g a (λ s. false)
idle_values g a idle = record {
  rises = λ s t step. absurd (idle s (rise a) t step refl);
  falls = λ s t step. absurd (idle s (fall a) t step refl);
  keeps = λ s t e other step. refl;
  idle = λ none s within. refl;
}

past_idle : (g : StateGraph) (a : ℕ) → IsGraph g → length g.signals ≤ a → IsIdle g a
past_idle g a is past s e t step own = let within = step_within g s e t is step in omega (arith, within.1)

-- codes that suit all arcs at a signal are values of it
suited_values : (g : StateGraph) (codes : List ℕ) (a : ℕ) → TellsValues g codes → SuitAll g.edges codes a
    → AreValues g a (λ s. bit (slice_index codes s) a)
suited_values g codes a tells suit = record {
  rises = λ s t step. let suits = at s (rise a) t step in (suits.before refl, suits.after refl);
  falls = λ s t step. let suits = at s (fall a) t step in (suits.before refl, suits.after refl);
  keeps = λ s t e other step. (at s e t step).kept other;
  idle = λ idle s within. tells a (λ n. false) (idle_values g a idle) s within;
}
  where
    at : (s : ℕ) (e : Event) (t : ℕ) → Step g s e t → Suits (slice_index codes s) (slice_index codes t) e a
    at s e t step = All-contains (λ (x : Edge). Suits (slice_index codes x.from) (slice_index codes x.to) x.event a)
        g.edges (arc s e t) suit step

-- and where it has values, the codes suit all arcs
values_suit : (g : StateGraph) (codes : List ℕ) (a : ℕ) → IsGraph g → TellsValues g codes → HasValues g a
    → SuitAll g.edges codes a
values_suit g codes a is tells has k d within =
    let x = get_or g.edges k d in
    let v = has.0 in
    let step : Step g x.from x.event x.to = Contains-get_or g.edges k d within in
    let range = step_within g x.from x.event x.to is step in
    let from = tells a v has.1 x.from range.0 in
    let to = tells a v has.1 x.to range.2 in
    let own : x.event.sig ≡ a → Step g x.from (record { sig = a; up = x.event.up }) x.to =
    λ same. subst (λ (n : ℕ). Step g x.from (record { sig = n; up = x.event.up }) x.to) same step in
    record {
      before = λ same. from ∙ old_value g a v x.from x.to x.event.up has.1 (own same);
      after = λ same. to ∙ turns g a v x.from x.to x.event.up has.1 (own same)
          ∙ ap not (old_value g a v x.from x.to x.event.up has.1 (own same)) ∙ twice x.event.up;
      kept = λ other. to ∙ has.1.keeps x.from x.to x.event other step ∙ sym from;
    }
  where
    twice : (b : Bool) → not (not b) ≡ b
    twice true = refl
    twice false = refl

pub coded_from : (g : StateGraph) (codes : List ℕ) → IsGraph g → IsConnected g → IsDeterministic g
    → length codes ≡ g.states → TellsValues g codes → ((a : ℕ) → SuitAll g.edges codes a)
    → IsCoded (record { graph = g; codes = codes })
coded_from g codes is connected deterministic count tells suit = record {
  graph_is = is;
  connected = connected;
  deterministic = deterministic;
  count = count;
  values = λ a within. suited_values g codes a tells (suit a);
  no_more = λ k d within.
      let below : k < g.states = omega (arith, count) in
      let fits : slice_index codes k < 2 ^ length g.signals =
      fits_from_bits (slice_index codes k) (length g.signals)
      (λ i past. tells i (λ n. false) (idle_values g i (past_idle g i is past)) k below) in
      let P : ℕ → Type 0 = λ n. n < 2 ^ length g.signals in
      subst P (get_or_default codes k 0 d within) fits;
}

pub first_without : (g : StateGraph) (codes : List ℕ) (a : ℕ) → IsGraph g → TellsValues g codes
    → IsFirstUnsuited g.edges codes a → IsFirstWithoutValues g a
first_without g codes a is tells first = record {
  within = elim (cases_lt a (length g.signals)) [
    | inl below ↦ below
    | inr past ↦ absurd (none (λ s. false, idle_values g a (past_idle g a is past)))
  ];
  none = none;
  before = λ b less. (λ s. bit (slice_index codes s) b, suited_values g codes b tells (first.before b less));
}
  where
    none : HasValues g a → ⊥
    none has = first.unsuited (values_suit g codes a is tells has)
