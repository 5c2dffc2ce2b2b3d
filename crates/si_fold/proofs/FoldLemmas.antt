-- A folded graph stands for its graph: a coded and proper graph, no two states of which are alike.
use Rattle.std.proofs.Common.{◌≡◌, ℕ, ◌<◌, ◌&&◌, ◌^◌, Bool, true, List, [], ◌∷◌, length, get_or, slice_get, Some, refl}
use Rattle.std.proofs.Common.{sym, ap, subst, ◌∙◌, arith, nat_lt, lt-ltb, ltb-true}
use Rattle.std.proofs.lemmas.Bool.{and_parts, and_from}
use Rattle.std.proofs.lemmas.List.{get_or-map, length-map, get_or_default}
use Rattle.std.proofs.lemmas.List.Elements.{Contains-get_or}
use Rattle.std.proofs.lemmas.Option.{same_Some, slice_get_within, slice_get-get_or, get_or_from_slice_get}
use Rattle.si_base.specs.declared.ids.Event.{Event}
use Rattle.si_base.specs.declared.graph.Signal.{Signal}
use Rattle.si_base.specs.Bits.{bit}
use Rattle.si_base.specs.Graph.{Step, Walk, IsNonInput, rise, fall, enables}
use Rattle.si_base.specs.Codes.{CodedGraph, IsCoded, IsConnected, IsDeterministic, AreValues, code}
use Rattle.si_base.specs.Proper.{IsProper, IsCommutative, IsPersistent}
use Rattle.si_base.proofs.RightGateLemmas.{step_within, code_fits}
use Rattle.si_base.proofs.GivenGraphUnique.{one_place}
use Rattle.si_fold.specs.Alike.{IsBisimulation, AreAlike, IsLeastAlike}
use Rattle.si_fold.specs.Folded.{IsFolded}
use Rattle.si_fold.proofs.AlikeLemmas.{alike_itself, alike_back, alike_through, alike_after, least_same, least_itself}
use Rattle.si_fold.proofs.FoldedQuotient.{IsQuotient, enables_same}

module _ (c d : CodedGraph) (kept class : List ℕ) (is : IsCoded c) (f : IsFolded c kept class d) where
  -- ---- states and their classes
  abbrev pub class_of : ℕ → ℕ
  class_of s = get_or class s 0

  -- the least state of a state's class stands at the place of the class
  least_at : (s m : ℕ) → IsLeastAlike c s m → slice_get kept (class_of s) ≡ Some m
  least_at s m l =
      let own = f.classes.each s l.alike.one_within in
      let same : own.0 ≡ m = least_same c is.graph_is is.deterministic s s own.0 m
      (alike_itself c is.graph_is is.deterministic s l.alike.one_within) own.1 l in
      own.2 ∙ ap Some same

  pub same_class : (s t : ℕ) → AreAlike c s t → class_of s ≡ class_of t
  same_class s t a =
      let one = f.classes.each s a.one_within in
      let other = f.classes.each t a.other_within in
      let same : one.0 ≡ other.0 = least_same c is.graph_is is.deterministic s t one.0 other.0 a one.1 other.1 in
      one_place kept (class_of s) (class_of t) other.0 f.classes.in_order (one.2 ∙ ap Some same) other.2

  pub alike_in_class : (s t : ℕ) → s < c.graph.states → t < c.graph.states → class_of s ≡ class_of t → AreAlike c s t
  alike_in_class s t within inside same =
      let one = f.classes.each s within in
      let other = f.classes.each t inside in
      let least : one.0 ≡ other.0 = same_Some one.0 other.0 (sym one.2 ∙ ap (slice_get kept) same ∙ other.2) in
      alike_through c is.graph_is is.deterministic s one.0 t one.1.alike
      (subst (λ m. AreAlike c m t) (sym least) (alike_back c is.graph_is is.deterministic t other.0 other.1.alike))

  -- each class has its least state
  pub state_of : (i : ℕ) → i < d.graph.states
      → (s : ℕ) × (s < c.graph.states) × (class_of s ≡ i) × IsLeastAlike c s s × (slice_get kept i ≡ Some s)
  state_of i below =
      let within : i < length kept = omega (arith, f.count) in
      let s = get_or kept i 0 in
      let from = (f.classes.members s).0 (Contains-get_or kept i 0 within) in
      let least = least_itself c is.graph_is is.deterministic from.0 s from.1 in
      let at : slice_get kept i ≡ Some s = slice_get-get_or kept i 0 within in (
        s,
        from.1.alike.other_within,
        one_place kept (class_of s) i s f.classes.in_order (least_at s s least) at,
        least,
        at,
      )

  -- ---- codes and steps
  pub code_of_class : (s : ℕ) → s < c.graph.states → code d (class_of s) ≡ code c s
  code_of_class s within =
      let own = f.classes.each s within in
      let inside : class_of s < length kept = slice_get_within kept (class_of s) own.0 own.2 in
      let at : get_or kept (class_of s) 0 ≡ own.0 = get_or_from_slice_get kept (class_of s) own.0 0 own.2 in
      ap (λ ks. get_or ks (class_of s) 0) f.codes
      ∙ get_or-map (code c) kept (class_of s) 0 0 inside
      ∙ ap (code c) at
      ∙ sym (own.1.alike.bisimulation.codes s own.0 own.1.alike.holds)

  step_forth : (s : ℕ) (e : Event) (t : ℕ) → Step c.graph s e t → Step d.graph (class_of s) e (class_of t)
  step_forth s e t step = (f.arcs (class_of s) e (class_of t)).1
      (record { source = s; target = t; step = step; source_in = refl; target_in = refl })

  step_back : (s : ℕ) (e : Event) (j : ℕ) → s < c.graph.states → Step d.graph (class_of s) e j
      → (t : ℕ) × Step c.graph s e t × (class_of t ≡ j)
  step_back s e j within step =
      let arc = (f.arcs (class_of s) e j).0 step in
      let there = step_within c.graph arc.source e arc.target is.graph_is arc.step in
      let alike = alike_in_class arc.source s there.0 within arc.source_in in
      let after = alike_after c is.graph_is is.deterministic arc.source s e arc.target alike arc.step in
      (after.0, after.1, sym (same_class arc.target after.0 after.2) ∙ arc.target_in)

  pub is_quotient : IsQuotient c d class_of
  is_quotient = record {
    start_is = sym f.start_is;
    codes = code_of_class;
    forth = step_forth;
    back = step_back;
  }

  -- ---- a step of the folded graph, from the least state of its class
  lifted : (i : ℕ) (e : Event) (j : ℕ) → Step d.graph i e j → (s : ℕ) → s < c.graph.states → class_of s ≡ i
      → (t : ℕ) × Step c.graph s e t × (class_of t ≡ j)
  lifted i e j step s within in_i = step_back s e j within (subst (λ k. Step d.graph k e j) (sym in_i) step)

  some_state : (i : ℕ) (e : Event) (j : ℕ) → Step d.graph i e j
      → (s : ℕ) × (s < c.graph.states) × (class_of s ≡ i)
  some_state i e j step =
      let inside = step_within d.graph i e j f.graph step in
      let s = state_of i inside.0 in
      (s.0, s.1, s.2)

  target_within : (s : ℕ) (e : Event) (t : ℕ) → Step c.graph s e t → t < c.graph.states
  target_within s e t step = (step_within c.graph s e t is.graph_is step).2

  -- ---- coded
  deterministic : IsDeterministic d.graph
  deterministic i e j k one other =
      let s = some_state i e j one in
      let t = lifted i e j one s.0 s.1 s.2 in
      let u = lifted i e k other s.0 s.1 s.2 in
      sym t.2 ∙ ap class_of (is.deterministic s.0 e t.0 u.0 t.1 u.1) ∙ u.2

  walk_forth : (es : List Event) (s t : ℕ) → Walk c.graph s es t → Walk d.graph (class_of s) es (class_of t)
  walk_forth [] s t walk = ap class_of walk
  walk_forth (e ∷ es) s t walk =
      (class_of walk.0, step_forth s e walk.0 walk.1, walk_forth es walk.0 t walk.2)

  connected : IsConnected d.graph
  connected i below =
      let s = state_of i below in
      let walk = is.connected s.0 s.1 in (
        walk.0,
        subst (λ k. Walk d.graph k walk.0 i) (sym f.start_is)
            (subst (λ k. Walk d.graph (class_of c.graph.start) walk.0 k) s.2
            (walk_forth walk.0 c.graph.start s.0 walk.1)),
      )

  same_signals : (P : List Signal → Type 0) → P d.graph.signals → P c.graph.signals
  same_signals P = subst P f.signals_stay

  bit_of : (s i a : ℕ) → s < c.graph.states → class_of s ≡ i → bit (code d i) a ≡ bit (code c s) a
  bit_of s i a within in_i =
      ap (λ (k : ℕ). bit (code d k) a) (sym in_i) ∙ ap (λ (k : ℕ). bit k a) (code_of_class s within)

  values : (a : ℕ) → a < length d.graph.signals → AreValues d.graph a (λ i. bit (code d i) a)
  values a below =
      let within : a < length c.graph.signals = same_signals (λ (xs : List Signal). a < length xs) below in
      let v = is.values a within in
      record {
        rises = λ i j step. (
            let s = some_state i (rise a) j step in
            let t = lifted i (rise a) j step s.0 s.1 s.2 in
            let old = v.rises s.0 t.0 t.1 in (
              bit_of s.0 i a s.1 s.2 ∙ old.0,
              bit_of t.0 j a (target_within s.0 (rise a) t.0 t.1) t.2 ∙ old.1,
            ));
        falls = λ i j step. (
            let s = some_state i (fall a) j step in
            let t = lifted i (fall a) j step s.0 s.1 s.2 in
            let old = v.falls s.0 t.0 t.1 in (
              bit_of s.0 i a s.1 s.2 ∙ old.0,
              bit_of t.0 j a (target_within s.0 (fall a) t.0 t.1) t.2 ∙ old.1,
            ));
        keeps = λ i j e other step. (
            let s = some_state i e j step in
            let t = lifted i e j step s.0 s.1 s.2 in
            bit_of t.0 j a (target_within s.0 e t.0 t.1) t.2
            ∙ v.keeps s.0 t.0 e other t.1
            ∙ sym (bit_of s.0 i a s.1 s.2));
        idle = λ none i inside. (
            let s = state_of i inside in
            bit_of s.0 i a s.1 s.2
            ∙ v.idle (λ p e q step. none (class_of p) e (class_of q) (step_forth p e q step)) s.0 s.1);
      }

  pub folded_is_coded : IsCoded d
  folded_is_coded =
      let size : length d.codes ≡ d.graph.states =
      ap (λ (ks : List ℕ). length ks) f.codes ∙ length-map kept (code c) ∙ sym f.count in
      record {
        graph_is = f.graph;
        connected = connected;
        deterministic = deterministic;
        count = size;
        values = values;
        no_more = λ i k within. (
            let s = state_of i (omega (arith, size)) in
            let at : get_or d.codes i k ≡ code c s.0 =
            get_or_default d.codes i k 0 within ∙ ap (code d) (sym s.2) ∙ code_of_class s.0 s.1 in
            let fits = code_fits c s.0 is s.1 in
            subst (λ (xs : List Signal). get_or d.codes i k < 2 ^ length xs) (sym f.signals_stay)
            (subst (λ (n : ℕ). n < 2 ^ length c.graph.signals) (sym at) fits));
      }

  -- ---- proper
  module _ (proper : IsProper c.graph) where
    commutative : IsCommutative d.graph
    commutative i a b j k l m one two three four =
        let s = some_state i a j one in
        let t = lifted i a j one s.0 s.1 s.2 in
        let w = lifted j b k two t.0 (target_within s.0 a t.0 t.1) t.2 in
        let u = lifted i b l three s.0 s.1 s.2 in
        let w2 = lifted l a m four u.0 (target_within s.0 b u.0 u.1) u.2 in
        sym w.2 ∙ ap class_of (proper.commutative s.0 a b t.0 w.0 u.0 w2.0 t.1 w.1 u.1 w2.1) ∙ w2.2

    persistent : IsPersistent d.graph
    persistent i e g j non_input enabled step apart =
        let s = some_state i g j step in
        let t = lifted i g j step s.0 s.1 s.2 in
        let own : IsNonInput c.graph.signals e.sig =
        same_signals (λ (xs : List Signal). IsNonInput xs e.sig) non_input in
        let here = enables_same c d class_of is_quotient s.0 e s.1
        ∙ ap (λ (k : ℕ). enables d.graph k e) s.2 ∙ enabled in
        let after = proper.persistent s.0 e g t.0 own here t.1 apart in
        ap (λ (k : ℕ). enables d.graph k e) (sym t.2)
        ∙ sym (enables_same c d class_of is_quotient t.0 e (target_within s.0 g t.0 t.1)) ∙ after

    pub folded_is_proper : IsProper d.graph
    folded_is_proper = record {
      deterministic = deterministic;
      consistent = λ a within. ((λ i. bit (code d i) a), values a within);
      commutative = commutative;
      persistent = persistent;
    }

  -- ---- no two states are alike
  abbrev pulled : (ℕ → ℕ → Bool) → ℕ → ℕ → Bool
  pulled related s t =
      related (class_of s) (class_of t) && (nat_lt s c.graph.states && nat_lt t c.graph.states)

  record IsPulled (related : ℕ → ℕ → Bool) (s t : ℕ) : Type 0 where
    there : related (class_of s) (class_of t) ≡ true
    one_within : s < c.graph.states
    other_within : t < c.graph.states

  pulled_parts : (related : ℕ → ℕ → Bool) (s t : ℕ) → pulled related s t ≡ true → IsPulled related s t
  pulled_parts related s t here =
      let parts = and_parts (related (class_of s) (class_of t)) _ here in
      let within = and_parts (nat_lt s c.graph.states) (nat_lt t c.graph.states) parts.1 in
      record {
        there = parts.0;
        one_within = ltb-true s c.graph.states within.0;
        other_within = ltb-true t c.graph.states within.1;
      }

  pulled_from : (related : ℕ → ℕ → Bool) (s t : ℕ) → related (class_of s) (class_of t) ≡ true → s < c.graph.states
      → t < c.graph.states → pulled related s t ≡ true
  pulled_from related s t there one other = and_from (related (class_of s) (class_of t)) _ there
      (and_from (nat_lt s c.graph.states) (nat_lt t c.graph.states)
      (lt-ltb s c.graph.states one) (lt-ltb t c.graph.states other))

  pulled_bisimulation : (related : ℕ → ℕ → Bool) → IsBisimulation d related → IsBisimulation c (pulled related)
  pulled_bisimulation related b = record {
    codes = λ s t here. (
        let p = pulled_parts related s t here in
        sym (code_of_class s p.one_within) ∙ b.codes (class_of s) (class_of t) p.there
        ∙ code_of_class t p.other_within);
    keeps = record {
      events = λ s t e here. (
          let p = pulled_parts related s t here in
          enables_same c d class_of is_quotient s e p.one_within
          ∙ b.keeps.events (class_of s) (class_of t) e p.there
          ∙ sym (enables_same c d class_of is_quotient t e p.other_within));
      steps = λ s t e u v here one other. (
          let p = pulled_parts related s t here in
          pulled_from related u v
          (b.keeps.steps (class_of s) (class_of t) e (class_of u) (class_of v) p.there
          (step_forth s e u one) (step_forth t e v other))
          (target_within s e u one) (target_within t e v other));
    };
  }

  pub none_alike : (i j : ℕ) → AreAlike d i j → i ≡ j
  none_alike i j a =
      let s = state_of i a.one_within in
      let t = state_of j a.other_within in
      let here : a.related (class_of s.0) (class_of t.0) ≡ true =
      ap (λ (k : ℕ). a.related k (class_of t.0)) s.2 ∙ ap (a.related i) t.2 ∙ a.holds in
      let alike : AreAlike c s.0 t.0 = record {
        one_within = s.1;
        other_within = t.1;
        related = pulled a.related;
        bisimulation = pulled_bisimulation a.related a.bisimulation;
        holds = pulled_from a.related s.0 t.0 here s.1 t.1;
      } in
      sym s.2 ∙ same_class s.0 t.0 alike ∙ t.2
