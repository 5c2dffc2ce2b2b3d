-- A folded graph is bisimilar to its graph, and no graph that is has fewer states or fewer arcs.
use Rattle.std.proofs.Common.{◌≡◌, ℕ, ◌<◌, ◌≤◌, ◌==◌, ◌&&◌, Bool, true, List, [], ◌∷◌, get_or, Contains}
use Rattle.std.proofs.Common.{refl, sym, ap, subst, ◌∙◌, arith, inl, inr, nat_lt, nat_cmp, lt-ltb, ltb-true, eqb-true}
use Rattle.std.proofs.Common.{eq-eqb}
use Rattle.std.specs.List.{range_with_len}
use Rattle.std.proofs.lemmas.Bool.{cases_Bool, true≢false, and_parts, and_from}
use Rattle.std.proofs.lemmas.List.{get_or_default}
use Rattle.std.proofs.lemmas.List.FromFn.{length-range_with_len}
use Rattle.si_base.specs.declared.graph.Edge.{Edge}
use Rattle.si_base.specs.declared.ids.Event.{Event}
use Rattle.si_base.specs.Codes.{CodedGraph, IsCoded, code}
use Rattle.si_base.specs.Graph.{IsGraph, Step, Walk, arc, enables}
use Rattle.si_base.proofs.GivenGraphUnique.{contains_from_in}
use Rattle.si_base.proofs.GraphSteps.{enables-step, step_from_enables}
use Rattle.si_base.proofs.ListLemmas.{at_most_related}
use Rattle.si_base.proofs.OrderAscending.{In}
use Rattle.si_base.proofs.RightGateLemmas.{step_within}
use Rattle.si_fold.specs.Alike.{AreAlike, IsBisimulation}
use Rattle.si_fold.specs.Bisimilar.{AreBisimilar}
use Rattle.si_fold.specs.Folded.{IsFolded}
use Rattle.si_fold.specs.Laws.{FoldedAreSmallest, IsNoLarger}
use Rattle.si_fold.proofs.AlikeLemmas.{some_at, some_below, some_from}
use Rattle.si_fold.proofs.FoldLemmas.{folded_is_coded, is_quotient, same_class, state_of}
use Rattle.si_fold.proofs.FoldedFewerArcs.{fewer_arcs, nats_strict, sorted_once}
use Rattle.si_fold.proofs.FoldedQuotient.{IsQuotient}
use Rattle.si_base.proofs.ListLemmas.{in_range}
use Rattle.si_fold.proofs.UniqueFolded.{each_in_range, range_in_order}

-- ---- numbers, each of which has a number below a bound that is its own
below_range : (n a : ℕ) → In a (range_with_len 0 n) → a < n
below_range n a there =
    let at = contains_from_in (range_with_len 0 n) a there in
    let below : at.0 < n = omega (arith, at.1, length-range_with_len 0 n) in
    let same : a ≡ at.0 =
    sym at.2 ∙ get_or_default (range_with_len 0 n) at.0 a 0 at.1 ∙ each_in_range n at.0 below in
    omega (arith, below, same)

no_more_than : (m n : ℕ) (Has : ℕ → ℕ → Type 0) → ((i : ℕ) → i < m → (v : ℕ) × (v < n) × Has i v)
    → ((i j v : ℕ) → Has i v → Has j v → i ≡ j) → m ≤ n
no_more_than m n Has own one =
    let few = at_most_related Has (range_with_len 0 m) (range_with_len 0 n)
    (sorted_once nat_cmp nats_strict (range_with_len 0 m) (range_in_order m))
    (λ i there. (
    let v = own i (below_range m i there) in
    let within = v.1 in
    (v.0, in_range 0 n v.0 (omega arith) (omega (arith, within)), v.2))) one in
    omega (arith, few, length-range_with_len 0 m, length-range_with_len 0 n)

module _ (c d : CodedGraph) (kept class : List ℕ) (is : IsCoded c) (f : IsFolded c kept class d) where
  abbrev class_at : ℕ → ℕ
  class_at s = get_or class s 0

  quotient : IsQuotient c d class_at
  quotient = is_quotient c d kept class is f

  target_within : (s : ℕ) (e : Event) (t : ℕ) → Step c.graph s e t → t < c.graph.states
  target_within s e t step = (step_within c.graph s e t is.graph_is step).2

  -- ---- each state beside its class
  abbrev beside : ℕ → ℕ → Bool
  beside s i = (class_at s == i) && nat_lt s c.graph.states

  beside_from : (s i : ℕ) → class_at s ≡ i → s < c.graph.states → beside s i ≡ true
  beside_from s i in_i within =
      and_from (class_at s == i) (nat_lt s c.graph.states) (eq-eqb (class_at s) i in_i)
      (lt-ltb s c.graph.states within)

  class_is : (s i : ℕ) → beside s i ≡ true → class_at s ≡ i
  class_is s i here =
      eqb-true (class_at s) i (and_parts (class_at s == i) (nat_lt s c.graph.states) here).0

  is_state : (s i : ℕ) → beside s i ≡ true → s < c.graph.states
  is_state s i here =
      ltb-true s c.graph.states (and_parts (class_at s == i) (nat_lt s c.graph.states) here).1

  folded_bisimilar : AreBisimilar c d
  folded_bisimilar = record {
    related = beside;
    starts = beside_from c.graph.start d.graph.start quotient.start_is is.graph_is.starts;
    codes = λ s i here. sym (quotient.codes s (is_state s i here)) ∙ ap (code d) (class_is s i here);
    forth = λ s i e u here step. (
      class_at u,
      subst (λ k. Step d.graph k e (class_at u)) (class_is s i here) (quotient.forth s e u step),
      beside_from u (class_at u) refl (target_within s e u step),
    );
    back = λ s i e j here step. (
        let from = subst (λ k. Step d.graph k e j) (sym (class_is s i here)) step in
        let t = quotient.back s e j (is_state s i here) from in
        (t.0, t.1, beside_from t.0 j t.2 (target_within s e t.0 t.1)));
  }

  -- ---- a graph that is bisimilar to the graph
  module _ (e : CodedGraph) (graph : IsGraph e.graph) (b : AreBisimilar c e) where
    -- what follows a walk of the one is related to where that ends
    followed : (es : List Event) (s u t : ℕ) → Walk c.graph s es u → b.related s t ≡ true → t < e.graph.states
        → (v : ℕ) × (v < e.graph.states) × (b.related u v ≡ true)
    followed [] s u t walk here within = (t, within, subst (λ x. b.related x t ≡ true) walk here)
    followed (a ∷ es) s u t walk here within =
        let next = b.forth s t a walk.0 here walk.1 in
        followed es walk.0 u next.0 walk.2 next.2 (step_within e.graph t a next.0 graph next.1).2

    -- states that are related to one state of the other graph are alike
    abbrev meet : ℕ → ℕ → Bool
    meet x y = some_below (λ v. b.related x v && b.related y v) e.graph.states

    record Meet (x y : ℕ) : Type 0 where
      at : ℕ
      within : at < e.graph.states
      one : b.related x at ≡ true
      other : b.related y at ≡ true

    meet_parts : (x y : ℕ) → meet x y ≡ true → Meet x y
    meet_parts x y here =
        let v = some_from (λ w. b.related x w && b.related y w) e.graph.states here in
        let both = and_parts (b.related x v.0) (b.related y v.0) v.2 in
        record { at = v.0; within = v.1; one = both.0; other = both.1 }

    meet_from : (x y : ℕ) → Meet x y → meet x y ≡ true
    meet_from x y m = some_at (λ w. b.related x w && b.related y w) e.graph.states m.at m.within
        (and_from (b.related x m.at) (b.related y m.at) m.one m.other)

    enabled_too : (x y : ℕ) (a : Event) → Meet x y → enables c.graph x a ≡ true → enables c.graph y a ≡ true
    enabled_too x y a m here =
        let step = step_from_enables c.graph x a here in
        let there = b.forth x m.at a step.0 m.one step.1 in
        let again = b.back y m.at a there.0 m.other there.1 in
        enables-step c.graph y a again.0 again.1

    turned : (x y : ℕ) → Meet x y → Meet y x
    turned x y m = record { at = m.at; within = m.within; one = m.other; other = m.one }

    meet_bisimulation : IsBisimulation c meet
    meet_bisimulation = record {
      codes = λ x y here. (
          let m = meet_parts x y here in
          b.codes x m.at m.one ∙ sym (b.codes y m.at m.other));
      keeps = record {
        events = λ x y a here. (
            let m = meet_parts x y here in
            elim (cases_Bool (enables c.graph x a)) [
              | inl on ↦ on ∙ sym (enabled_too x y a m on)
              | inr off ↦ elim (cases_Bool (enables c.graph y a)) [
                | inl other ↦ absurd (true≢false (sym (enabled_too y x a (turned x y m) other) ∙ off))
                | inr none ↦ off ∙ sym none
              ]
            ]);
        steps = λ x y a u z here one other. (
            let m = meet_parts x y here in
            let w = b.forth x m.at a u m.one one in
            let v = b.back y m.at a w.0 m.other w.1 in
            let same : v.0 ≡ z = is.deterministic y a v.0 z v.1 other in
            meet_from u z (record {
              at = w.0;
              within = (step_within e.graph m.at a w.0 graph w.1).2;
              one = w.2;
              other = subst (λ x. b.related x w.0 ≡ true) same v.2;
            }));
      };
    }

    -- a member of class i is related to v
    record Has (i v : ℕ) : Type 0 where
      state : ℕ
      is_one : state < c.graph.states
      in_class : class_at state ≡ i
      within : v < e.graph.states
      related : b.related state v ≡ true

    some_partner : (i : ℕ) → i < d.graph.states → (v : ℕ) × (v < e.graph.states) × Has i v
    some_partner i below =
        let s = state_of c d kept class is f i below in
        let walk = is.connected s.0 s.1 in
        let v = followed walk.0 c.graph.start s.0 e.graph.start walk.1 b.starts graph.starts in (
          v.0,
          v.1,
          record { state = s.0; is_one = s.1; in_class = s.2; within = v.1; related = v.2 },
        )

    one_class : (i j v : ℕ) → Has i v → Has j v → i ≡ j
    one_class i j v x y =
        let alike : AreAlike c x.state y.state = record {
          one_within = x.is_one;
          other_within = y.is_one;
          related = meet;
          bisimulation = meet_bisimulation;
          holds = meet_from x.state y.state
              (record { at = v; within = x.within; one = x.related; other = y.related });
        } in
        sym x.in_class ∙ same_class c d kept class is f x.state y.state alike ∙ y.in_class

    -- an arc between classes, and one that follows it
    record Follows (a k : Edge) : Type 0 where
      listed : Contains d.graph.edges a
      source : Has a.from k.from
      same : a.event ≡ k.event

    some_arc : (a : Edge) → Contains d.graph.edges a → (k : Edge) × Contains e.graph.edges k × Follows a k
    some_arc a there =
        let v = some_partner a.from (step_within d.graph a.from a.event a.to f.graph there).0 in
        let has = v.2 in
        let from = subst (λ i. Step d.graph i a.event a.to) (sym has.in_class) there in
        let t = quotient.back has.state a.event a.to has.is_one from in
        let w = b.forth has.state v.0 a.event t.0 has.related t.1 in
        (arc v.0 a.event w.0, w.1, record { listed = there; source = has; same = refl })

    one_arc : (a a2 k : Edge) → Follows a k → Follows a2 k → a ≡ a2
    one_arc a a2 k x y =
        let from : a.from ≡ a2.from = one_class a.from a2.from k.from x.source y.source in
        let event : a.event ≡ a2.event = x.same ∙ sym y.same in
        let moved : Step d.graph a.from a.event a2.to =
        subst (λ s. Step d.graph s a.event a2.to) (sym from)
        (subst (λ g. Step d.graph a2.from g a2.to) (sym event) y.listed) in
        let to : a.to ≡ a2.to =
        (folded_is_coded c d kept class is f).deterministic a.from a.event a.to a2.to x.listed moved in
        λ i. record { from = from i; event = event i; to = to i }

    no_larger : IsNoLarger e d
    no_larger = record {
      states = no_more_than d.graph.states e.graph.states Has some_partner one_class;
      arcs = fewer_arcs d.graph.edges e.graph.edges f.graph.ordered Follows some_arc one_arc;
    }

pub folded_smallest : FoldedAreSmallest
folded_smallest c d kept class is f = record {
  bisimilar = folded_bisimilar c d kept class is f;
  least = λ e graph b. no_larger c d kept class is f e graph b;
}
