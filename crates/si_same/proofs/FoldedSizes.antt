-- The folded graphs of two graphs that behave alike have as many states.
use Rattle.std.proofs.Common.{◌≡◌, ℕ, ◌<◌, ◌≤◌, ◌==◌, ◌&&◌, Bool, true, List, length, sym, ap, subst, ◌∙◌, arith, eqb-true}
use Rattle.std.proofs.Common.{eq-eqb, nat_lt, lt-ltb, ltb-true}
use Rattle.std.proofs.lemmas.Bool.{and_parts, and_from}
use Rattle.si_base.specs.declared.ids.Event.{Event}
use Rattle.si_base.specs.Graph.{Step, enables}
use Rattle.si_base.specs.Codes.{CodedGraph, IsCoded, code}
use Rattle.si_base.proofs.StepCodes.{step_within}
use Rattle.si_fold.specs.Folded.{IsFolded}
use Rattle.si_fold.proofs.FoldLemmas.{class_of, is_quotient, folded_is_coded}
use Rattle.si_fold.proofs.FoldedQuotient.{IsQuotient, enables_same}
use Rattle.si_same.specs.Laws.{AreAlikeFromStart}
use Rattle.si_same.specs.Same.{BehaveAlike}
use Rattle.si_same.proofs.AlikeEquivalence.{alike_through}
use Rattle.si_same.proofs.AlikeWalks.{alike_back}
use Rattle.si_same.proofs.ServesBoth.{no_more_states}

-- ---- a folded graph behaves as its graph
module _ (c e : CodedGraph) (kept class : List ℕ) (is : IsCoded c) (folded : IsFolded c kept class e) where
  abbrev own : ℕ → ℕ
  own s = class_of c e kept class is folded s

  abbrev related : ℕ → ℕ → Bool
  related s i = nat_lt s c.graph.states && (own s == i)

  related_parts : (s i : ℕ) → related s i ≡ true → (s < c.graph.states) × (own s ≡ i)
  related_parts s i here =
      let parts = and_parts (nat_lt s c.graph.states) (own s == i) here in
      (ltb-true s c.graph.states parts.0, eqb-true (own s) i parts.1)

  related_from : (s i : ℕ) → s < c.graph.states → own s ≡ i → related s i ≡ true
  related_from s i within same =
      and_from (nat_lt s c.graph.states) (own s == i) (lt-ltb s c.graph.states within) (eq-eqb (own s) i same)

  q : IsQuotient c e (class_of c e kept class is folded)
  q = is_quotient c e kept class is folded

  pub folded_alike : BehaveAlike c.graph e.graph
  folded_alike = record {
    related = related;
    bisimulation = record {
      events = λ s i x here. (
          let at = related_parts s i here in
          enables_same c e (class_of c e kept class is folded) q s x at.0 ∙ ap (λ (k : ℕ). enables e.graph k x) at.1);
      steps = λ s i x u j here one other. (
          let at = related_parts s i here in
          let there : Step e.graph i x (own u) = subst (λ k. Step e.graph k x (own u)) at.1 (q.forth s x u one) in
          related_from u j (step_within c.graph s x u is.graph_is one).2
          ((folded_is_coded c e kept class is folded).deterministic i x (own u) j there other));
    };
    starts = related_from c.graph.start e.graph.start is.graph_is.starts q.start_is;
  }

  -- a graph that behaves alike with the graph does so with the folded one
  pub folded_from_start : (d : CodedGraph) → IsCoded d → AreAlikeFromStart c d → AreAlikeFromStart e d
  folded_from_start d is_d a = record {
    signals = folded.signals_stay ∙ a.signals;
    start_code = ap (code e) (sym q.start_is) ∙ q.codes c.graph.start is.graph_is.starts ∙ a.start_code;
    alike = alike_through e c d (folded_is_coded c e kept class is folded) is is_d
        (alike_back c.graph e.graph folded_alike) a.alike;
  }

-- ---- neither has more states than the other
folded_no_more : (c d : CodedGraph) → IsCoded c → IsCoded d → AreAlikeFromStart c d → (kept class : List ℕ)
    (e : CodedGraph) → IsFolded c kept class e → (kept2 class2 : List ℕ) (h : CodedGraph) → IsFolded d kept2 class2 h
    → h.graph.states ≤ e.graph.states
folded_no_more c d is_c is_d a kept class e folded kept2 class2 h other =
    no_more_states e d (folded_is_coded c e kept class is_c folded) is_d
    (folded_from_start c e kept class is_c folded d is_d a) kept2 class2 h other

from_start_back : (c d : CodedGraph) → AreAlikeFromStart c d → AreAlikeFromStart d c
from_start_back c d a = record {
  signals = sym a.signals;
  start_code = sym a.start_code;
  alike = alike_back c.graph d.graph a.alike;
}

pub folded_sizes : (c d : CodedGraph) (kept class : List ℕ) (e : CodedGraph) (kept2 class2 : List ℕ) (h : CodedGraph)
    → IsCoded c → IsCoded d → AreAlikeFromStart c d → IsFolded c kept class e → IsFolded d kept2 class2 h
    → e.graph.states ≡ h.graph.states
folded_sizes c d kept class e kept2 class2 h is_c is_d a folded other =
    let one = folded_no_more c d is_c is_d a kept class e folded kept2 class2 h other in
    let two = folded_no_more d c is_d is_c (from_start_back c d a) kept2 class2 h other kept class e folded in
    omega arith
