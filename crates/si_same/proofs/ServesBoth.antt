-- Beside two graphs that behave alike a netlist behaves alike: the one stands for the folded graph of the other.
use Rattle.std.proofs.Common.{◌≡◌, ◌↔◌, ℕ, zero, suc, ◌<◌, ◌==◌, ◌&&◌, Bool, true, false, sym, ap, subst}
use Rattle.std.proofs.Common.{◌∙◌, arith, List, [], ◌∷◌, length, cond, ◌||◌, eqb-true, eq-eqb, inl, inr}
use Rattle.std.proofs.lemmas.Bool.{cases_Bool, cases_eq, and_parts, and_from, or_left, or_right, or_cases, true≢false}
use Rattle.std.proofs.Common.{◌≤◌, map, get_or, eqb, zero-add}
use Rattle.std.specs.List.{list_any, range_with_len}
use Rattle.std.proofs.lemmas.List.{length-map, get_or-map}
use Rattle.std.proofs.lemmas.List.Folds.{list_any_at}
use Rattle.std.proofs.lemmas.List.FromFn.{length-range_with_len, get_or-range_with_len}
use Rattle.std.proofs.lemmas.Map.Steps.{le-length_from_below}
use Rattle.si_base.specs.declared.ids.Event.{Event}
use Rattle.si_base.specs.declared.graph.Signal.{Signal}
use Rattle.si_base.specs.Bits.{bit, flip}
use Rattle.si_base.specs.Graph.{Step, Walk, enables}
use Rattle.si_base.specs.Codes.{CodedGraph, IsCoded, code}
use Rattle.si_base.specs.Netlist.{Netlist}
use Rattle.si_base.specs.System.{IsFor}
use Rattle.si_base.proofs.GraphSteps.{enables-step, step_from_enables}
use Rattle.si_base.proofs.RightGateLemmas.{step_within, code_of_step}
use Rattle.si_fold.specs.Alike.{AreAlike, IsBisimulation}
use Rattle.si_fold.specs.Folded.{IsFolded}
use Rattle.si_fold.specs.Laws.{BehavesAlike}
use Rattle.si_fold.proofs.FoldLemmas.{class_of, is_quotient, same_class, folded_is_coded, state_of}
use Rattle.si_fold.proofs.FoldedBehaviour.{folded_behaviour}
use Rattle.si_fold.proofs.FoldedExists.{some_folded}
use Rattle.si_fold.proofs.FoldedQuotient.{IsQuotient}
use Rattle.si_fold.proofs.SameBehaviour.{same_excitations, same_bisimilarity, same_silence}
use Rattle.si_same.specs.Laws.{AreAlikeFromStart}

-- ---- a number that passes
-- the last below n that passes
last_below : (ℕ → Bool) → ℕ → ℕ
last_below test zero = 0
last_below test (suc n) = cond (test n) n (last_below test n)

last_passes : (test : ℕ → Bool) (n k : ℕ) → k < n → test k ≡ true
    → (last_below test n < n) × (test (last_below test n) ≡ true)
unfolding last_below
last_passes test zero k within passes = absurd (omega arith)
last_passes test (suc n) k within passes = elim (cases_Bool (test n)) [
  | inl here ↦ rw here (omega arith, here)
  | inr not_here ↦ (
      let not_last : k ≡ n → ⊥ = λ same. true≢false (sym passes ∙ ap test same ∙ not_here) in
      let rest = last_passes test n k (omega arith) passes in
      rw not_here (omega (arith, rest.0), rest.1))
]

-- some number below n passes
some_below : (ℕ → Bool) → ℕ → Bool
some_below test zero = false
some_below test (suc n) = test n || some_below test n

some_at : (test : ℕ → Bool) (n k : ℕ) → k < n → test k ≡ true → some_below test n ≡ true
unfolding some_below
some_at test zero k within passes = absurd (omega arith)
some_at test (suc n) k within passes = elim (cases_eq k n) [
  | inl last ↦ or_left (test n) (some_below test n) (ap test (sym last) ∙ passes)
  | inr earlier ↦ or_right (test n) (some_below test n) (some_at test n k (omega arith) passes)
]

some_from : (test : ℕ → Bool) (n : ℕ) → some_below test n ≡ true → (k : ℕ) × (k < n) × (test k ≡ true)
unfolding some_below
some_from test zero some = cc
some_from test (suc n) some = elim (or_cases (test n) (some_below test n) some) [
  | inl here ↦ (n, omega arith, here)
  | inr earlier ↦ (let k = some_from test n earlier in (k.0, omega (arith, k.1), k.2))
]

module _ (c d : CodedGraph) (is_c : IsCoded c) (is_d : IsCoded d) (a : AreAlikeFromStart c d) where
  -- related states with equal codes
  abbrev alike : ℕ → ℕ → Bool
  alike s t = a.alike.related s t && (code c s == code d t)

  alike_related : (s t : ℕ) → alike s t ≡ true → a.alike.related s t ≡ true
  alike_related s t here = (and_parts (a.alike.related s t) (code c s == code d t) here).0

  alike_codes : (s t : ℕ) → alike s t ≡ true → code c s ≡ code d t
  alike_codes s t here =
      eqb-true (code c s) (code d t) (and_parts (a.alike.related s t) (code c s == code d t) here).1

  alike_events : (s t : ℕ) (e : Event) → alike s t ≡ true → enables c.graph s e ≡ enables d.graph t e
  alike_events s t e here = a.alike.bisimulation.events s t e (alike_related s t here)

  alike_steps : (s t : ℕ) (e : Event) (u v : ℕ) → alike s t ≡ true → Step c.graph s e u → Step d.graph t e v
      → alike u v ≡ true
  alike_steps s t e u v here one other =
      and_from (a.alike.related u v) (code c u == code d v)
      (a.alike.bisimulation.steps s t e u v (alike_related s t here) one other)
      (eq-eqb (code c u) (code d v)
      (code_of_step c s e u is_c one ∙ ap (λ k. flip k e.sig) (alike_codes s t here)
      ∙ sym (code_of_step d t e v is_d other)))

  starts_alike : alike c.graph.start d.graph.start ≡ true
  starts_alike =
      and_from (a.alike.related c.graph.start d.graph.start) (code c c.graph.start == code d d.graph.start)
      a.alike.starts (eq-eqb (code c c.graph.start) (code d d.graph.start) a.start_code)

  follow : (s t : ℕ) (e : Event) (u : ℕ) → alike s t ≡ true → Step c.graph s e u
      → (v : ℕ) × Step d.graph t e v × (alike u v ≡ true)
  follow s t e u here step =
      let enabled = sym (alike_events s t e here) ∙ enables-step c.graph s e u step in
      let other = step_from_enables d.graph t e enabled in
      (other.0, other.1, alike_steps s t e u other.0 here step other.1)

  follow_back : (s t : ℕ) (e : Event) (v : ℕ) → alike s t ≡ true → Step d.graph t e v
      → (u : ℕ) × Step c.graph s e u × (alike u v ≡ true)
  follow_back s t e v here step =
      let enabled = alike_events s t e here ∙ enables-step d.graph t e v step in
      let other = step_from_enables c.graph s e enabled in
      (other.0, other.1, alike_steps s t e other.0 v here other.1 step)

  -- ---- each state of the one graph has a partner in the other
  follow_walk : (es : List Event) (s t u : ℕ) → t < d.graph.states → alike s t ≡ true → Walk c.graph s es u
      → (v : ℕ) × (v < d.graph.states) × (alike u v ≡ true)
  follow_walk [] s t u within here walk = (t, within, subst (λ x. alike x t ≡ true) walk here)
  follow_walk (e ∷ es) s t u within here walk =
      let next = follow s t e walk.0 here walk.1 in
      follow_walk es walk.0 next.0 u (step_within d.graph t e next.0 is_d.graph_is next.1).2 next.2 walk.2

  follow_walk_back : (es : List Event) (s t v : ℕ) → s < c.graph.states → alike s t ≡ true → Walk d.graph t es v
      → (u : ℕ) × (u < c.graph.states) × (alike u v ≡ true)
  follow_walk_back [] s t v within here walk = (s, within, subst (λ x. alike s x ≡ true) walk here)
  follow_walk_back (e ∷ es) s t v within here walk =
      let next = follow_back s t e walk.0 here walk.1 in
      follow_walk_back es next.0 walk.0 v (step_within c.graph s e next.0 is_c.graph_is next.1).2 next.2 walk.2

  partner : ℕ → ℕ
  partner s = last_below (alike s) d.graph.states

  partner_is : (s : ℕ) → s < c.graph.states → (partner s < d.graph.states) × (alike s (partner s) ≡ true)
  unfolding partner
  partner_is s within =
      let way = is_c.connected s within in
      let there = follow_walk way.0 c.graph.start d.graph.start s is_d.graph_is.starts starts_alike way.1 in
      last_passes (alike s) d.graph.states there.0 there.1 there.2

  -- ---- states that are alike with one state are alike
  abbrev both : ℕ → ℕ → Bool
  both t u = some_below (λ s. alike s t && alike s u) c.graph.states

  both_from : (t u : ℕ) → both t u ≡ true
      → (s : ℕ) × (s < c.graph.states) × (alike s t ≡ true) × (alike s u ≡ true)
  both_from t u here =
      let s = some_from (λ x. alike x t && alike x u) c.graph.states here in
      let parts = and_parts (alike s.0 t) (alike s.0 u) s.2 in (s.0, s.1, parts.0, parts.1)

  both_at : (s t u : ℕ) → s < c.graph.states → alike s t ≡ true → alike s u ≡ true → both t u ≡ true
  both_at s t u within one other =
      some_at (λ x. alike x t && alike x u) c.graph.states s within (and_from (alike s t) (alike s u) one other)

  both_bisimulation : IsBisimulation d both
  both_bisimulation = record {
    codes = λ t u here. (
        let s = both_from t u here in sym (alike_codes s.0 t s.2) ∙ alike_codes s.0 u s.3);
    keeps = record {
      events = λ t u e here. (
          let s = both_from t u here in sym (alike_events s.0 t e s.2) ∙ alike_events s.0 u e s.3);
      steps = λ t u e v w here one other. (
          let s = both_from t u here in
          let x = follow_back s.0 t e v s.2 one in
          both_at x.0 v w (step_within c.graph s.0 e x.0 is_c.graph_is x.1).2 x.2
          (alike_steps s.0 u e x.0 w s.3 x.1 other));
    };
  }

  alike_there : (s t u : ℕ) → s < c.graph.states → t < d.graph.states → u < d.graph.states → alike s t ≡ true
      → alike s u ≡ true → AreAlike d t u
  alike_there s t u within t_within u_within one other = record {
    one_within = t_within;
    other_within = u_within;
    related = both;
    bisimulation = both_bisimulation;
    holds = both_at s t u within one other;
  }

  -- ---- the folded graph of the other stands for the one too
  module _ (kept class : List ℕ) (e : CodedGraph) (folded : IsFolded d kept class e) where
    abbrev place_of : ℕ → ℕ
    place_of s = class_of d e kept class is_d folded (partner s)

    -- a state that is alike with s stands at its place
    at_place : (s t : ℕ) → s < c.graph.states → t < d.graph.states → alike s t ≡ true
        → class_of d e kept class is_d folded t ≡ place_of s
    at_place s t within t_within here =
        let p = partner_is s within in
        same_class d e kept class is_d folded t (partner s)
        (alike_there s t (partner s) within t_within p.0 here p.1)

    quotient : IsQuotient c e place_of
    quotient = record {
      start_is = sym (at_place c.graph.start d.graph.start is_c.graph_is.starts is_d.graph_is.starts starts_alike)
          ∙ own.start_is;
      codes = λ s within. (
          let p = partner_is s within in own.codes (partner s) p.0 ∙ sym (alike_codes s (partner s) p.1));
      forth = λ s x t step. (
          let inside = step_within c.graph s x t is_c.graph_is step in
          let p = partner_is s inside.0 in
          let next = follow s (partner s) x t p.1 step in
          let v_within = (step_within d.graph (partner s) x next.0 is_d.graph_is next.1).2 in
          subst (λ j. Step e.graph (place_of s) x j) (at_place t next.0 inside.2 v_within next.2)
          (own.forth (partner s) x next.0 next.1));
      back = λ s x j within step. (
          let p = partner_is s within in
          let lifted = own.back (partner s) x j p.0 step in
          let there = follow_back s (partner s) x lifted.0 p.1 lifted.1 in
          let u_within = (step_within c.graph s x there.0 is_c.graph_is there.1).2 in
          let v_within = (step_within d.graph (partner s) x lifted.0 is_d.graph_is lifted.1).2 in
          (there.0, there.1, sym (at_place there.0 lifted.0 u_within v_within there.2) ∙ lifted.2));
    }
      where
        own : IsQuotient d e (class_of d e kept class is_d folded)
        own = is_quotient d e kept class is_d folded

    -- and each of its states stands for a state of the one
    stands_for : (j : ℕ) → j < e.graph.states → (s : ℕ) × (s < c.graph.states) × (place_of s ≡ j)
    stands_for j below =
        let t = state_of d e kept class is_d folded j below in
        let way = is_d.connected t.0 t.1 in
        let there = follow_walk_back way.0 c.graph.start d.graph.start t.0 is_c.graph_is.starts starts_alike way.1 in
        (there.0, there.1, sym (at_place there.0 t.0 there.1 t.1 there.2) ∙ t.2)

    -- for each state of the one the state that stands for it
    places : List ℕ
    places = map place_of (range_with_len 0 c.graph.states)

    places_size : length places ≡ c.graph.states
    unfolding places
    places_size =
        length-map (range_with_len 0 c.graph.states) place_of ∙ length-range_with_len 0 c.graph.states

    place_at : (s : ℕ) → s < c.graph.states → get_or places s 0 ≡ place_of s
    unfolding places
    place_at s within =
        let states : List ℕ = range_with_len 0 c.graph.states in
        let inside : s < length states = omega (arith, length-range_with_len 0 c.graph.states) in
        let at : get_or states s 0 ≡ s = get_or-range_with_len 0 c.graph.states s 0 within ∙ zero-add s in
        get_or-map place_of states s 0 0 inside ∙ ap place_of at

    is_a_place : (j : ℕ) → j < e.graph.states → list_any (eqb j) places ≡ true
    is_a_place j below =
        let s = stands_for j below in
        let here : get_or places s.0 0 ≡ j = place_at s.0 s.1 ∙ s.2 in
        list_any_at (eqb j) places s.0 0 (omega (arith, s.1, places_size)) (eq-eqb j (get_or places s.0 0) (sym here))

    pub no_more_states : e.graph.states ≤ c.graph.states
    no_more_states = omega (arith, le-length_from_below places e.graph.states is_a_place, places_size)

    serves_one : (n : Netlist) → BehavesAlike c e n
    serves_one n =
        let is_e = folded_is_coded d e kept class is_d folded in
        record {
          excitations = same_excitations c e place_of is_c is_e quotient n;
          bisimilarity = same_bisimilarity c e place_of is_c is_e quotient n;
          silent_cycles = same_silence c e place_of is_c is_e quotient n;
        }

  same_through : {P Q R : Type 0} → P ↔ R → Q ↔ R → P ↔ Q
  same_through one other = (λ p. other.1 (one.0 p), λ q. one.1 (other.0 q))

  pub serves_both : (n : Netlist) → BehavesAlike c d n
  serves_both n =
      let folded = some_folded d is_d in
      let one = serves_one folded.0 folded.1 folded.2 folded.3 n in
      let other = folded_behaviour d folded.2 folded.0 folded.1 n is_d folded.3 in
      record {
        excitations = same_through one.excitations other.excitations;
        bisimilarity = same_through one.bisimilarity other.bisimilarity;
        silent_cycles = same_through one.silent_cycles other.silent_cycles;
      }

  pub for_other : (n : Netlist) → IsFor c n → IsFor d n
  for_other n fits = record {
    signals = fits.signals ∙ a.signals;
    values = λ z within.
        fits.values z (subst (λ (xs : List Signal). z < length xs) (sym a.signals) within)
        ∙ ap (λ (k : ℕ). bit k z) a.start_code;
  }

  pub for_one : (n : Netlist) → IsFor d n → IsFor c n
  for_one n fits = record {
    signals = fits.signals ∙ sym a.signals;
    values = λ z within.
        fits.values z (subst (λ (xs : List Signal). z < length xs) a.signals within)
        ∙ ap (λ (k : ℕ). bit k z) (sym a.start_code);
  }
