-- Two texts of graphs come to one answer: the graphs behave alike, or have a first difference.
use Rattle.std.proofs.Common.{◌≡◌, ℕ, ◌<◌, List, [], ◌∷◌, length, All, Option, Some, None}
use Rattle.std.proofs.Common.{Ok, Err, refl, sym, ap, ap₂, subst, ◌∙◌, inl, inr}
use Rattle.std.proofs.lemmas.Bool.{cases_Bool}
use Rattle.std.proofs.lemmas.List.Elements.{All-nil, All-cons}
use Rattle.si_base.specs.declared.ids.Event.{Event}
use Rattle.si_base.specs.declared.graph.Signal.{Signal}
use Rattle.std.proofs.Common.{◌↔◌, ◌≤◌, ◌==◌, false}
use Rattle.std.proofs.lemmas.Bool.{cases_lt}
use Rattle.std.proofs.lemmas.Nat.Bits.{bit_at_above}
use Rattle.si_base.specs.Behaviour.{Implements}
use Rattle.si_base.specs.Bits.{bit}
use Rattle.si_base.specs.Netlist.{Netlist}
use Rattle.si_base.proofs.BitFacts.{same_codes}
use Rattle.si_fold.specs.Laws.{BehavesAlike}
use Rattle.si_base.specs.Codes.{CodedGraph, IsCoded, code}
use Rattle.si_base.specs.Graph.{StateGraph, Walk, IsGraph, enables}
use Rattle.si_base.proofs.GraphSteps.{step_from_enables}
use Rattle.si_base.proofs.StepCodes.{code_fits, step_within}
use Rattle.si_fold.proofs.FoldedExists.{some_folded}
use Rattle.si_fold.proofs.UniqueFolded.{folded_unique}
use Rattle.si_readings.specs.Checks.{match_graphs, proper}
use Rattle.si_readings.specs.Readings.{graph_readings}
use Rattle.si_readings.specs.Laws.{AtMostOne, HasResult}
use Rattle.si_readings.proofs.CheckLemmas.{proper_one, match_graphs_one}
use Rattle.si_readings.proofs.ReadingLemmas.{graph_readings_are, graph_readings_one, graph_readings_some}
use Rattle.si_readings.proofs.ReadingsExist.{proper_some, match_graphs_some}
use Rattle.si_readings.proofs.StageLemmas.{passed, then_one, then_some}
use Rattle.si_same.specs.Same.{BehaveAlike, Difference, Differ, IsFirstDifferenceOrNone}
use Rattle.si_same.proofs.AlikeWalks.{no_difference, one_difference}
use Rattle.si_same.proofs.FoldedSizes.{folded_sizes}
use Rattle.si_same.proofs.SearchDecided.{some_answer}
use Rattle.si_same.proofs.SearchSteps.{walk_within}
use Rattle.si_same.specs.Laws.{AreAlikeFromStart}
use Rattle.si_same.proofs.ServesBoth.{serves_both}
use Rattle.si_likeness.specs.Same.{ServesBoth}
use Rattle.si_system.specs.Lists.{StartAlike}
use Rattle.si_likeness.specs.Same.{HasFolded, TellsSame, likeness, same, same_text, unlike_by}

-- ---- a folded graph has one size
one_size : (c : CodedGraph) (m n : ℕ) → IsCoded c → HasFolded c m → HasFolded c n → m ≡ n
one_size c m n is one other =
    let unique = folded_unique c is one.kept one.class other.kept other.class one.folded other.folded one.is other.is in
    one.count_is ∙ ap (λ (d : CodedGraph). d.graph.states) unique.2 ∙ sym other.count_is

some_size : (c : CodedGraph) → IsCoded c → (n : ℕ) × HasFolded c n
some_size c is =
    let folded = some_folded c is in (
      folded.2.graph.states,
      record { kept = folded.0; class = folded.1; folded = folded.2; is = folded.3; count_is = refl },
    )

-- the folded graphs of two graphs that behave alike have one size
pub other_size : (c d : CodedGraph) (n : ℕ) → IsCoded c → IsCoded d → AreAlikeFromStart c d → HasFolded c n
    → HasFolded d n
other_size c d n is_c is_d alike one =
    let other = some_folded d is_d in
    let sizes = folded_sizes c d one.kept one.class one.folded other.0 other.1 other.2 is_c is_d alike one.is other.3 in
    record { kept = other.0; class = other.1; folded = other.2; is = other.3; count_is = one.count_is ∙ sizes }

-- ---- one answer on two graphs
module _ (one other : List ℕ) (one_states other_states : List (List ℕ)) (c d : CodedGraph) (is_c : IsCoded c)
    (is_d : IsCoded d) where
  one_text : (x y : List ℕ) → TellsSame c d x → TellsSame c d y → x ≡ y
  one_text x y first second =
      first.output_is
      ∙ ap₂ (λ (m n : ℕ). same_text c.graph.states m d.graph.states n)
      (one_size c first.one_folded second.one_folded is_c first.one second.one)
      (one_size d first.other_folded second.other_folded is_d first.other second.other)
      ∙ sym second.output_is

  pub likeness_one : AtMostOne (likeness one other one_states other_states c d)
  likeness_one (Ok x) (Ok y) first second = ap Ok (one_text x y first second)
  likeness_one (Ok x) (Err r) first second =
      absurd (no_difference c.graph d.graph first.alike second.difference second.first.holds)
  likeness_one (Err r) (Ok y) first second =
      absurd (no_difference c.graph d.graph second.alike first.difference first.first.holds)
  likeness_one (Err r) (Err q) first second =
      let same_one = one_difference c.graph d.graph is_c.deterministic is_d.deterministic first.difference
      second.difference first.first second.first in
      ap Err (first.refusal_is
      ∙ ap (λ (x : Difference). unlike_by one other one_states other_states c.graph x) same_one
      ∙ sym second.refusal_is)

  pub likeness_some : HasResult (likeness one other one_states other_states c d)
  likeness_some =
      let found =
      some_answer c.graph d.graph is_c.graph_is is_d.graph_is is_c.deterministic is_d.deterministic in
      told found.0 found.1
    where
      told : (found : Option Difference) → IsFirstDifferenceOrNone c.graph d.graph found
          → HasResult (likeness one other one_states other_states c d)
      told None alike =
          let m = some_size c is_c in
          let n = some_size d is_d in (
            Ok (same_text c.graph.states m.0 d.graph.states n.0),
            record {
              alike = alike;
              one_folded = m.0;
              other_folded = n.0;
              one = m.1;
              other = n.1;
              output_is = refl;
            },
          )
      told (Some x) first = (
        Err (unlike_by one other one_states other_states c.graph x),
        record { difference = x; first = first; refusal_is = refl },
      )

-- ---- and on their texts
pub same_one : (f a g b : List ℕ) → AtMostOne (same f a g b)
same_one f a g b = then_one _ _ (graph_readings_one f a g b)
    (λ readings read. then_one _ _ (proper_one readings.one.graph readings.one.states)
    (λ c sound. then_one _ _ (proper_one readings.other.graph readings.other.states)
    (λ d also. then_one _ _ (match_graphs_one g c d)
    (λ _ same. likeness_one f g readings.one.states readings.other.states c d sound.coded_is also.coded_is))))

pub same_some : (f a g b : List ℕ) → HasResult (same f a g b)
same_some f a g b = then_some _ _ (graph_readings_some f a g b)
    (λ readings read. let are = graph_readings_are f a g b readings read in
    then_some _ _ (proper_some a readings.one are.one)
    (λ c sound. then_some _ _ (proper_some b readings.other are.other)
    (λ d also. then_some _ _ (match_graphs_some g c d)
    (λ _ same. likeness_some f g readings.one.states readings.other.states c d sound.coded_is also.coded_is))))

-- ---- what a difference shows is there
walk_signals : (g : StateGraph) → IsGraph g → (s : ℕ) (es : List Event) (t : ℕ) → Walk g s es t
    → All (λ e. e.sig < length g.signals) es
walk_signals g is s [] t walk = All-nil (λ (e : Event). e.sig < length g.signals)
walk_signals g is s (e ∷ es) t walk =
    All-cons (λ (x : Event). x.sig < length g.signals) e es (step_within g s e walk.0 is walk.1).1
    (walk_signals g is walk.0 es t walk.2)

pub record IsShown (f g : StateGraph) (d : Difference) : Type 0 where
  pub one : d.one < f.states
  pub other : d.other < g.states
  pub event : d.event.sig < length f.signals
  pub walk : All (λ e. e.sig < length f.signals) d.walk

pub is_shown : (f g : StateGraph) (d : Difference) → IsGraph f → IsGraph g → g.signals ≡ f.signals → Differ f g d
    → IsShown f g d
is_shown f g d f_is g_is lists differ = record {
  one = walk_within f f_is f.start d.walk d.one f_is.starts differ.one_after;
  other = walk_within g g_is g.start d.walk d.other g_is.starts differ.other_after;
  event = elim (cases_Bool (enables f d.one d.event)) [
    | inl here ↦ (
        let step = step_from_enables f d.one d.event here in (step_within f d.one d.event step.0 f_is step.1).1)
    | inr not_here ↦ elim (cases_Bool (enables g d.other d.event)) [
      | inl there ↦ (
          let step = step_from_enables g d.other d.event there in
          subst (λ (xs : List Signal). d.event.sig < length xs) lists
          (step_within g d.other d.event step.0 g_is step.1).1)
      | inr not_there ↦ absurd (differ.apart (not_here ∙ sym not_there))
    ]
  ];
  walk = walk_signals f f_is f.start d.walk d.one differ.one_after;
}

-- ---- where the texts come to an output
-- two codes that are equal at each signal are equal
same_start : (c d : CodedGraph) → IsCoded c → IsCoded d → StartAlike c d
    → code c c.graph.start ≡ code d d.graph.start
same_start c d is_c is_d same = same_codes (code c c.graph.start) (code d d.graph.start) at
  where
    beyond : (g : CodedGraph) → IsCoded g → (z : ℕ) → length g.graph.signals ≤ z → bit (code g g.graph.start) z ≡ false
    beyond g is z above =
        ap (λ (k : ℕ). k == 1) (bit_at_above (code g g.graph.start) (length g.graph.signals) z
        (code_fits g g.graph.start is is.graph_is.starts) above)

    at : (z : ℕ) → bit (code c c.graph.start) z ≡ bit (code d d.graph.start) z
    at z = elim (cases_lt z (length c.graph.signals)) [
      | inl within ↦ sym (same.values_are z within)
      | inr above ↦ beyond c is_c z above
          ∙ sym (beyond d is_d z (subst (λ (xs : List Signal). length xs ≤ z) (sym same.signals) above))
    ]

pub from_start : (c d : CodedGraph) → IsCoded c → IsCoded d → StartAlike c d → BehaveAlike c.graph d.graph
    → AreAlikeFromStart c d
from_start c d is_c is_d lists alike = record {
  signals = sym lists.signals;
  start_code = same_start c d is_c is_d lists;
  alike = alike;
}

implements_both : (c d : CodedGraph) (n : Netlist) → BehavesAlike c d n → Implements n c.graph ↔ Implements n d.graph
implements_both c d n both = (
  λ is. record {
    speed_independent = both.excitations.0 is.speed_independent;
    bisimilar = both.bisimilarity.0 is.bisimilar;
    no_silent_cycle = both.silent_cycles.0 is.no_silent_cycle;
  },
  λ is. record {
    speed_independent = both.excitations.1 is.speed_independent;
    bisimilar = both.bisimilarity.1 is.bisimilar;
    no_silent_cycle = both.silent_cycles.1 is.no_silent_cycle;
  },
)

pub output_serves : (f a g b output : List ℕ) → same f a g b (Ok output) → ServesBoth a b
output_serves f a g b output comes =
    let read = passed (graph_readings f a g b) _ output comes in
    let readings = read.0 in
    let are = graph_readings_are f a g b readings read.1 in
    let one = passed (proper readings.one.graph readings.one.states) _ output read.2 in
    let other = passed (proper readings.other.graph readings.other.states) _ output one.2 in
    let c : CodedGraph = one.0 in
    let d : CodedGraph = other.0 in
    let lists = passed (match_graphs g c d) _ output other.2 in
    let told : TellsSame c d output = lists.2 in
    let alike = from_start c d one.1.coded_is other.1.coded_is lists.1 told.alike in
    record {
      one = readings.one;
      other = readings.other;
      one_is = are.one;
      other_is = are.other;
      same_lists = ap (λ (h : StateGraph). h.signals) (sym one.1.same_graph) ∙ sym lists.1.signals
          ∙ ap (λ (h : StateGraph). h.signals) other.1.same_graph;
      each = λ n. (
          let both = implements_both c d n (serves_both c d one.1.coded_is other.1.coded_is alike n) in
          subst (λ (h : StateGraph). Implements n h ↔ Implements n readings.other.graph) one.1.same_graph
          (subst (λ (h : StateGraph). Implements n c.graph ↔ Implements n h) other.1.same_graph both));
    }
