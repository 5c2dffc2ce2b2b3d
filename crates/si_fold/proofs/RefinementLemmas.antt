-- Classes of states and classes of arcs split each other.
use Rattle.std.proofs.Common.{◌≡◌, ◌↔◌, ◌⊎◌, ℕ, ◌+◌, ◌<◌, ◌≤◌, Bool, true, List, length, get_or, map, Contains, All}
use Rattle.std.proofs.Common.{Less, sym, ap, subst, ◌∙◌, arith, inl, inr}
use Rattle.std.proofs.lemmas.Bool.{cases_eq, cases_order}
use Rattle.std.proofs.lemmas.Cmp.{tied_itself}
use Rattle.std.proofs.lemmas.List.{get_or_default}
use Rattle.std.proofs.lemmas.List.Elements.{Contains-get_or, All-contains}
use Rattle.si_base.specs.declared.ids.Event.{Event}
use Rattle.si_base.specs.declared.graph.Edge.{Edge}
use Rattle.si_base.specs.EdgeOrder.{edge_cmp}
use Rattle.si_base.specs.Graph.{StateGraph, Step, IsGraph, arc}
use Rattle.si_base.specs.Codes.{IsDeterministic}
use Rattle.si_base.proofs.GraphSteps.{enables-step, step_from_enables}
use Rattle.si_base.proofs.GivenGraphUnique.{edges_total}
use Rattle.si_graph.specs.Loops.Arcs.{edge_at, no_edge}
use Rattle.si_graph.proofs.OrderLemmas.{in_order}
use Rattle.si_graph.proofs.ListMembers.{Contains-map, Contains-from_map}
use Rattle.si_graph.proofs.ArcSplits.{step_at}
use Rattle.si_fold.specs.Loops.Partition.{Shape, size, class_at, IsMember, IsWhole, Splits}
use Rattle.si_fold.specs.Alike.{KeepsSteps}
use Rattle.si_fold.specs.Loops.Refined.{AreRefined, AreByEvent, Matches, AreRefining, AreArcsInto}

-- ---- arcs by their places
module _ (g : StateGraph) (is : IsGraph g) where
  from_within : (x : ℕ) → x < length g.edges → (edge_at g.edges x).from < g.states
  from_within x inside = (is.within x no_edge inside).0

  to_within : (x : ℕ) → x < length g.edges → (edge_at g.edges x).to < g.states
  to_within x inside = (is.within x no_edge inside).2

  -- the place of a step
  place_of : (s : ℕ) (e : Event) (t : ℕ) (step : Step g s e t) → edge_at g.edges step.0 ≡ arc s e t
  place_of s e t step = get_or_default g.edges step.0 no_edge (arc s e t) step.1 ∙ step.2

  -- an arc stands at one place
  one_place : (x y : ℕ) → x < length g.edges → y < length g.edges → edge_at g.edges x ≡ edge_at g.edges y → x ≡ y
  one_place x y one two same = elim (cases_order x y) [
    | inl equal ↦ equal
    | inr (inl before) ↦ absurd (apart x y before two same)
    | inr (inr after) ↦ absurd (apart y x after one (sym same))
  ]
    where
      apart : (i j : ℕ) → i < j → j < length g.edges → edge_at g.edges i ≡ edge_at g.edges j → ⊥
      apart i j before within equal =
          let less : edge_cmp (edge_at g.edges i) (edge_at g.edges j) ≡ Less =
          in_order g.edges is.ordered i j no_edge before within in
          let itself = tied_itself edges_total (edge_at g.edges j) in
          let P : Edge → Type 0 = λ a. edge_cmp a (edge_at g.edges j) ≡ Less in
          let never : edge_cmp (edge_at g.edges j) (edge_at g.edges j) ≡ Less = subst P equal less in
          cc

  module _ (det : IsDeterministic g) where
    -- two arcs of one source and one event are one
    one_arc : (x y : ℕ) → x < length g.edges → y < length g.edges
        → (edge_at g.edges x).from ≡ (edge_at g.edges y).from → (edge_at g.edges x).event ≡ (edge_at g.edges y).event
        → x ≡ y
    one_arc x y one two from event =
        let a = edge_at g.edges x in
        let b = edge_at g.edges y in
        let moved : Step g b.from b.event a.to =
        subst (λ (e : Event). Step g b.from e a.to) event
        (subst (λ (s : ℕ). Step g s a.event a.to) from (step_at g x one)) in
        let to : a.to ≡ b.to = det b.from b.event a.to b.to moved (step_at g y two) in
        one_place x y one two (λ i. record { from = from i; event = event i; to = to i })

    -- ---- the states are split by the sources of a class of arcs
    module _ (s a q : Shape) (done followed : ℕ) (r : AreRefining g s a done followed) (more : done < a.count)
        (members sources : List ℕ) (members_are : (x : ℕ) → Contains members x ↔ IsMember a done x)
        (sources_are : sources ≡ map (λ k. (edge_at g.edges k).from) members) (split : Splits s sources q) where
      source_in : (x : ℕ) → x < length g.edges → class_at a x ≡ done → Contains sources (edge_at g.edges x).from
      source_in x inside own =
          let member = (members_are x).1 (omega (arith, inside, r.arcs_size), own) in
          subst (λ (xs : List ℕ). Contains xs (edge_at g.edges x).from) (sym sources_are)
          (Contains-map (λ k. (edge_at g.edges k).from) members x member)

      source_from : (u : ℕ) → Contains sources u
          → (x : ℕ) × (x < length g.edges) × (class_at a x ≡ done) × ((edge_at g.edges x).from ≡ u)
      source_from u there =
          let m = Contains-from_map (λ k. (edge_at g.edges k).from) members u
          (subst (λ (xs : List ℕ). Contains xs u) sources_are there) in
          let own = (members_are m.0).0 m.1 in
          (m.0, omega (arith, own.0, r.arcs_size), own.1, m.2)

      old_size : (u : ℕ) → u < g.states → u < size s
      old_size u within = omega (arith, within, r.states_size)

      stays_high : (u n : ℕ) → u < g.states → n ≤ s.count → n ≤ class_at s u → n ≤ class_at q u
      stays_high u n within few high = elim (split.fresh u (old_size u within)) [
        | inl same ↦ omega (arith, same, high)
        | inr new ↦ omega (arith, few, new)
      ]

      heads_follow : (u v n : ℕ) → u < g.states → v < g.states → n ≤ s.count → class_at s u ≡ class_at s v
          → (class_at q u ≡ class_at q v) ⊎ ((n ≤ class_at q u) ⊎ (n ≤ class_at q v))
      heads_follow u v n one two few same = elim (split.fresh u (old_size u one)) [
        | inr new ↦ inr (inl (omega (arith, few, new)))
        | inl stays ↦ elim (split.fresh v (old_size v two)) [
          | inr new ↦ inr (inr (omega (arith, few, new)))
          | inl also ↦ inl (stays ∙ same ∙ sym also)
        ]
      ]

      follow : (x t : ℕ) → x < length g.edges → t < g.states
          → class_at q (edge_at g.edges x).from ≡ class_at q t
          → (done + 1 ≤ class_at a x) ⊎ ((y : ℕ) × Matches g a (done + 1) x t y)
      follow x t inside within same =
          let u = (edge_at g.edges x).from in
          let at_u = old_size u (from_within x inside) in
          let at_t = old_size t within in
          let before = split.refines u t at_u at_t same in
          elim (r.states_follow x t inside within before) [
            | inl high ↦ elim (cases_eq (class_at a x) done) [
              | inl own ↦ (
                  let there = split.apart u t at_u at_t same (source_in x inside own) in
                  let y = source_from t there in
                  let one_class : class_at a x ≡ class_at a y.0 = own ∙ sym y.2 in
                  inr (
                    y.0,
                    record {
                      within = y.1;
                      out_of = y.3;
                      by_event = r.by_event x y.0 inside y.1 one_class;
                      class_is = inl one_class;
                    },
                  ))
              | inr apart ↦ inl (omega (arith, high, apart))
            ]
            | inr (y, m) ↦ elim m.class_is [
              | inl one_class ↦ inr (
                y,
                record {
                  within = m.within;
                  out_of = m.out_of;
                  by_event = m.by_event;
                  class_is = inl one_class;
                },
              )
              | inr high ↦ elim (cases_eq (class_at a y) done) [
                | inr apart ↦ inr (
                  y,
                  record {
                    within = m.within;
                    out_of = m.out_of;
                    by_event = m.by_event;
                    class_is = inr (omega (arith, high, apart));
                  },
                )
                | inl own ↦ (
                    let t_in = subst (Contains sources) m.out_of (source_in y m.within own) in
                    let u_in = split.apart t u at_t at_u (sym same) t_in in
                    let x2 = source_from u u_in in
                    let event : (edge_at g.edges x2.0).event ≡ (edge_at g.edges x).event =
                    r.by_event x2.0 y x2.1 m.within (x2.2 ∙ sym own) ∙ sym m.by_event in
                    let place : x2.0 ≡ x = one_arc x2.0 x x2.1 inside x2.3 event in
                    let one_class : class_at a x ≡ class_at a y = ap (class_at a) (sym place) ∙ x2.2 ∙ sym own in
                    inr (
                      y,
                      record {
                        within = m.within;
                        out_of = m.out_of;
                        by_event = m.by_event;
                        class_is = inl one_class;
                      },
                    ))
              ]
            ]
          ]

      coarse : (related : ℕ → ℕ → Bool) → KeepsSteps g related → (t u : ℕ) → t < g.states → u < g.states
          → related t u ≡ true → class_at q t ≡ class_at q u
      coarse related keeps t u one two here =
          split.together t u (old_size t one) (old_size u two) (r.states_coarse related keeps t u one two here) (
            λ there. (
                let x = source_from t there in
                let e = (edge_at g.edges x.0).event in
                let step : Step g t e (edge_at g.edges x.0).to =
                subst (λ (v : ℕ). Step g v e (edge_at g.edges x.0).to) x.3 (step_at g x.0 x.1) in
                let other = step_from_enables g u e
                (sym (keeps.events t u e here) ∙ enables-step g t e (edge_at g.edges x.0).to step) in
                let y = other.1.0 in
                let is_y = place_of u e other.0 other.1 in
                let from : (edge_at g.edges y).from ≡ u = ap (λ (b : Edge). b.from) is_y in
                let event : e ≡ (edge_at g.edges y).event = sym (ap (λ (b : Edge). b.event) is_y) in
                let ends : related (edge_at g.edges x.0).from (edge_at g.edges y).from ≡ true =
                ap (λ (v : ℕ). related v (edge_at g.edges y).from) x.3 ∙ ap (related t) from ∙ here in
                let one_class = r.arcs_coarse related keeps x.0 y x.1 other.1.1 event ends in
                subst (Contains sources) from (source_in y other.1.1 (sym one_class ∙ x.2))),
            λ there. (
                let y = source_from u there in
                let e = (edge_at g.edges y.0).event in
                let step : Step g u e (edge_at g.edges y.0).to =
                subst (λ (v : ℕ). Step g v e (edge_at g.edges y.0).to) y.3 (step_at g y.0 y.1) in
                let other = step_from_enables g t e
                (keeps.events t u e here ∙ enables-step g u e (edge_at g.edges y.0).to step) in
                let x = other.1.0 in
                let is_x = place_of t e other.0 other.1 in
                let from : (edge_at g.edges x).from ≡ t = ap (λ (b : Edge). b.from) is_x in
                let event : (edge_at g.edges x).event ≡ e = ap (λ (b : Edge). b.event) is_x in
                let ends : related (edge_at g.edges x).from (edge_at g.edges y.0).from ≡ true =
                ap (λ (v : ℕ). related v (edge_at g.edges y.0).from) from ∙ ap (related t) y.3 ∙ here in
                let one_class = r.arcs_coarse related keeps x y.0 other.1.1 y.1 event ends in
                subst (Contains sources) from (source_in x other.1.1 (one_class ∙ y.2))),
          )

      pub states_split : AreRefining g q a (done + 1) followed
      states_split = record {
        states_are = split.partition;
        states_unmarked = split.unmarked;
        states_size = split.size_stays ∙ r.states_size;
        arcs_are = r.arcs_are;
        arcs_unmarked = r.arcs_unmarked;
        arcs_size = r.arcs_size;
        done_few = omega (arith, more);
        followed_few = (let few = r.followed_few in let grows = split.more in omega (arith, few, grows));
        by_event = r.by_event;
        arcs_follow = λ x y one two same. (
            let few = r.followed_few in
            let u = to_within x one in
            let v = to_within y two in
            elim (r.arcs_follow x y one two same) [
              | inl heads ↦ heads_follow (edge_at g.edges x).to (edge_at g.edges y).to followed u v few heads
              | inr (inl high) ↦ inr (inl (stays_high (edge_at g.edges x).to followed u few high))
              | inr (inr high) ↦ inr (inr (stays_high (edge_at g.edges y).to followed v few high))
            ]);
        states_follow = follow;
        states_coarse = coarse;
        arcs_coarse = r.arcs_coarse;
      }

  -- ---- the arcs are split by a class of states
  module _ (s a q : Shape) (done k : ℕ) (r : AreRefining g s a done k) (more : k < s.count) (members into : List ℕ)
      (members_are : (x : ℕ) → Contains members x ↔ IsMember s k x) (into_are : AreArcsInto g members into)
      (split : Splits a into q) where
    arc_in : (x : ℕ) → x < length g.edges → class_at s (edge_at g.edges x).to ≡ k → Contains into x
    arc_in x inside own = (into_are x).1 (
      inside,
      (members_are (edge_at g.edges x).to).1 (omega (arith, to_within x inside, r.states_size), own),
    )

    arc_from : (x : ℕ) → Contains into x → class_at s (edge_at g.edges x).to ≡ k
    arc_from x there = ((members_are (edge_at g.edges x).to).0 ((into_are x).0 there).1).1

    arc_size : (x : ℕ) → x < length g.edges → x < size a
    arc_size x inside = omega (arith, inside, r.arcs_size)

    arcs_high : (x : ℕ) → x < length g.edges → done ≤ class_at a x → done ≤ class_at q x
    arcs_high x inside high = (let few = r.done_few in elim (split.fresh x (arc_size x inside)) [
      | inl same ↦ omega (arith, same, high)
      | inr new ↦ omega (arith, few, new)
    ])

    next_or_same : (x y : ℕ) → x < length g.edges → y < length g.edges → class_at q x ≡ class_at q y
        → k ≤ class_at s (edge_at g.edges x).to
        → (class_at s (edge_at g.edges x).to ≡ class_at s (edge_at g.edges y).to)
        ⊎ (k + 1 ≤ class_at s (edge_at g.edges x).to)
    next_or_same x y one two same high = elim (cases_eq (class_at s (edge_at g.edges x).to) k) [
      | inl own ↦ inl (own
          ∙ sym (arc_from y (split.apart x y (arc_size x one) (arc_size y two) same (arc_in x one own))))
      | inr apart ↦ inr (omega (arith, high, apart))
    ]

    pub arcs_split : AreRefining g s q done (k + 1)
    arcs_split = record {
      states_are = r.states_are;
      states_unmarked = r.states_unmarked;
      states_size = r.states_size;
      arcs_are = split.partition;
      arcs_unmarked = split.unmarked;
      arcs_size = split.size_stays ∙ r.arcs_size;
      done_few = (let few = r.done_few in let grows = split.more in omega (arith, few, grows));
      followed_few = omega (arith, more);
      by_event = λ x y one two same.
          r.by_event x y one two (split.refines x y (arc_size x one) (arc_size y two) same);
      arcs_follow = λ x y one two same. (
          let before = split.refines x y (arc_size x one) (arc_size y two) same in
          elim (r.arcs_follow x y one two before) [
            | inl heads ↦ inl heads
            | inr (inl high) ↦ elim (next_or_same x y one two same high) [
              | inl heads ↦ inl heads
              | inr higher ↦ inr (inl higher)
            ]
            | inr (inr high) ↦ elim (next_or_same y x two one (sym same) high) [
              | inl heads ↦ inl (sym heads)
              | inr higher ↦ inr (inr higher)
            ]
          ]);
      states_follow = λ x t inside within same. elim (r.states_follow x t inside within same) [
        | inl high ↦ inl (arcs_high x inside high)
        | inr (y, m) ↦ (
            let matched : ((class_at q x ≡ class_at q y) ⊎ (done ≤ class_at q y)) → Matches g q done x t y =
            λ class_is. record {
              within = m.within;
              out_of = m.out_of;
              by_event = m.by_event;
              class_is = class_is;
            } in
            elim m.class_is [
              | inr high ↦ inr (y, matched (inr (arcs_high y m.within high)))
              | inl one_class ↦ (let few = r.done_few in elim (split.fresh x (arc_size x inside)) [
                | inr new ↦ inl (omega (arith, few, new))
                | inl stays ↦ elim (split.fresh y (arc_size y m.within)) [
                  | inr new ↦ inr (y, matched (inr (omega (arith, few, new))))
                  | inl also ↦ inr (y, matched (inl (stays ∙ one_class ∙ sym also)))
                ]
              ])
            ])
      ];
      states_coarse = r.states_coarse;
      arcs_coarse = λ related keeps x y one two event ends. (
          let before = r.arcs_coarse related keeps x y one two event ends in
          let e = (edge_at g.edges y).event in
          let first : Step g (edge_at g.edges x).from e (edge_at g.edges x).to =
          subst (λ (f : Event). Step g (edge_at g.edges x).from f (edge_at g.edges x).to) event (step_at g x one) in
          let heads = keeps.steps (edge_at g.edges x).from (edge_at g.edges y).from e (edge_at g.edges x).to
          (edge_at g.edges y).to ends first (step_at g y two) in
          let one_class = r.states_coarse related keeps (edge_at g.edges x).to (edge_at g.edges y).to
          (to_within x one) (to_within y two) heads in
          split.together x y (arc_size x one) (arc_size y two) before (
            λ there. arc_in y two (sym one_class ∙ arc_from x there),
            λ there. arc_in x one (one_class ∙ arc_from y there),
          ));
    }

  -- ---- at first, and at last
  pub begins_refining : (s a : Shape) → IsWhole g.states s → AreByEvent g a → AreRefining g s a 0 s.count
  begins_refining s a whole arcs = record {
    states_are = whole.partition;
    states_unmarked = whole.unmarked;
    states_size = whole.size_is;
    arcs_are = arcs.partition;
    arcs_unmarked = arcs.unmarked;
    arcs_size = arcs.size_is;
    done_few = omega arith;
    followed_few = omega arith;
    by_event = λ x y one two same. (arcs.by_event x y one two).0 same;
    arcs_follow = λ x y one two same. inl (whole.one (edge_at g.edges x).to (to_within x one)
        ∙ sym (whole.one (edge_at g.edges y).to (to_within y two)));
    states_follow = λ x t inside within same. inl (omega arith);
    states_coarse = λ related keeps t u one two here. whole.one t one ∙ sym (whole.one u two);
    arcs_coarse = λ related keeps x y one two event ends. (arcs.by_event x y one two).1 event;
  }

  pub ends_refined : (s a : Shape) (done : ℕ) → AreRefining g s a done s.count → a.count ≤ done → AreRefined g s
  ends_refined s a done r all = record {
    size_is = r.states_size;
    steps = λ t u e v one two same step. (
        let x = step.0 in
        let is_x = place_of t e v step in
        let from : (edge_at g.edges x).from ≡ t = ap (λ (b : Edge). b.from) is_x in
        let event : (edge_at g.edges x).event ≡ e = ap (λ (b : Edge). b.event) is_x in
        let to : (edge_at g.edges x).to ≡ v = ap (λ (b : Edge). b.to) is_x in
        let low : (y : ℕ) → y < length g.edges → class_at a y < a.count =
        λ y inside. (r.arcs_are.stands y (omega (arith, inside, r.arcs_size))).class_within in
        let low_state : (w : ℕ) → w < g.states → class_at s w < s.count =
        λ w within. (r.states_are.stands w (omega (arith, within, r.states_size))).class_within in
        elim (r.states_follow x u step.1 two (ap (class_at s) from ∙ same)) [
          | inl high ↦ absurd (let less = low x step.1 in omega (arith, less, high, all))
          | inr (y, m) ↦ elim m.class_is [
            | inr high ↦ absurd (let less = low y m.within in omega (arith, less, high, all))
            | inl one_class ↦ (
                let own : Step g u e (edge_at g.edges y).to =
                subst (λ (f : Event). Step g u f (edge_at g.edges y).to) (sym m.by_event ∙ event)
                (subst (λ (w : ℕ). Step g w (edge_at g.edges y).event (edge_at g.edges y).to) m.out_of
                (step_at g y m.within)) in
                elim (r.arcs_follow x y step.1 m.within one_class) [
                  | inl heads ↦ ((edge_at g.edges y).to, own, ap (class_at s) (sym to) ∙ heads)
                  | inr (inl high) ↦ absurd (
                      let less = low_state (edge_at g.edges x).to (to_within x step.1) in omega (arith, less, high))
                  | inr (inr high) ↦ absurd (
                      let less = low_state (edge_at g.edges y).to (to_within y m.within) in omega (arith, less, high))
                ])
          ]
        ]);
    coarse = r.states_coarse;
  }

-- ---- what the lists have stays in range
pub members_within : (p : Shape) (k n : ℕ) (members : List ℕ) → ((x : ℕ) → Contains members x ↔ IsMember p k x)
    → size p ≡ n → All (λ x. x < n) members
members_within p k n members are same i d inside =
    let own = (are (get_or members i d)).0 (Contains-get_or members i d inside) in
    omega (arith, own.0, same)

pub sources_within : (g : StateGraph) → IsGraph g → (n : ℕ) (members sources items : List ℕ)
    → All (λ x. x < length g.edges) members → sources ≡ map (λ k. (edge_at g.edges k).from) members → items ≡ sources
    → n ≡ g.states → All (λ s. s < n) items
sources_within g is n members sources items inside are same size i d within =
    let there = subst (λ (xs : List ℕ). Contains xs (get_or items i d)) (same ∙ are)
    (Contains-get_or items i d within) in
    let x = Contains-from_map (λ k. (edge_at g.edges k).from) members (get_or items i d) there in
    let below : x.0 < length g.edges = All-contains (λ y. y < length g.edges) members x.0 inside x.1 in
    let source = from_within g is x.0 below in
    omega (arith, source, x.2, size)

pub into_within : (g : StateGraph) (n : ℕ) (members into items : List ℕ) → AreArcsInto g members into → items ≡ into
    → n ≡ length g.edges → All (λ x. x < n) items
into_within g n members into items are same size i d within =
    let there = subst (λ (xs : List ℕ). Contains xs (get_or items i d)) same (Contains-get_or items i d within) in
    let below = ((are (get_or items i d)).0 there).0 in
    omega (arith, below, size)
