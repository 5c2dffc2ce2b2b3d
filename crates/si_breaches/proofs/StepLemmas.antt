-- Steps from a state: the events that it enables, the arcs of one, and where two of them lead.
use Rattle.std.proofs.Common.{◌≡◌, ◌≢◌, ℕ, zero, suc, ◌+◌, ◌-◌, ◌<◌, ◌≤◌, ◌==◌, ◌⊎◌, ◌↔◌, ◌&&◌, ◌||◌, ltb}
use Rattle.std.proofs.Common.{if◌then◌else◌, Bool, true, false, List, []}
use Rattle.std.proofs.Common.{◌∷◌, ◌++◌, length, get_or, take, drop, length-take, length-drop, Contains, IsTrue}
use Rattle.std.proofs.Common.{Option, Some, None, IfSome, not}
use Rattle.std.proofs.Common.{refl, sym, ap, subst, ◌∙◌, arith, inl, inr, eqb-true, eq-eqb}
use Rattle.std.specs.List.Sorted.{IsPartitionedBy, IsPartitionPoint}
use Rattle.std.specs.Cmp.{nat_cmp_is}
use Rattle.std.specs.declared.cmp.Ordering.TheVariants.{Less, Equal, Greater}
use Rattle.std.specs.Ordering.{nat_cmp, is_le, is_lt}
use Rattle.std.proofs.lemmas.Map.Keys.{le_from_is_le}
use Rattle.std.proofs.lemmas.Bool.{cases_eq, cases_lt, cases_order, cases_Bool, true≢false, ltb-true, ltb-false}
use Rattle.std.proofs.lemmas.List.{get_or-take, get_or-drop, get_or_default, take_more, take_all}
use Rattle.std.proofs.lemmas.List.Elements.{Contains-append_left, Contains-push, Contains-push_cases}
use Rattle.si_base.specs.declared.ids.Event.{Event}
use Rattle.si_base.specs.declared.graph.Edge.{Edge}
use Rattle.si_base.specs.EdgeOrder.{event_cmp}
use Rattle.si_base.specs.Graph.{StateGraph, Step, IsGraph, arc, event_place, same_event}
use Rattle.si_base.specs.Order.{Before, IsFirst}
use Rattle.si_base.specs.Proper.{pair_place}
use Rattle.si_base.specs.System.{IsLeastTarget}
use Rattle.si_base.proofs.GraphSteps.{step_from_enables, enables-step, same_event-refl, same_event-true}
use Rattle.si_base.proofs.StepCodes.{step_within}
use Rattle.si_breaches.specs.Loops.Steps.{place_of_event, Enables, IsFirstBy, IsArcBy, IsTargetFrom, is_before_those}
use Rattle.si_breaches.specs.Loops.Steps.{IsEnd, IsEndFrom, IsEndBehind, AreEndsApart, lesser_of}
use Rattle.si_checks.proofs.ForkOrder.{out_item, out_place, out_from, event_order, later_event}
use Rattle.si_checks.proofs.SearchDecisions.{both, equal_events, less, some_of}
use Rattle.si_checks.specs.Loops.Searches.{IsFirstOrNone}
use Rattle.si_graph.specs.Loops.Arcs.{AreOut}
use Rattle.si_graph.proofs.ListMembers.{Contains-nil}
use Rattle.si_graph.proofs.OrderLemmas.{event_from_place, event_Less, is_earlier, out_rising}
use Rattle.si_told.specs.All.{AreAll, arc_place, number_place}
use Rattle.si_told.specs.Loops.Search.{Adds}
use Rattle.si_told.proofs.Alls.{adds_none, adds_one}
use Rattle.si_told.proofs.ArcOrder.{arcs_before}

-- ---- comparisons of states
pub apart_told : (m n : ℕ) → true ≡ not (m == n) → m ≢ n
apart_told m n told same = true≢false (told ∙ ap not (eq-eqb m n same))

pub same_told : (m n : ℕ) → false ≡ not (m == n) → m ≡ n
same_told m n told = elim (cases_Bool (m == n)) [
  | inl same ↦ eqb-true m n same
  | inr apart ↦ absurd (true≢false (sym (ap not apart) ∙ sym told))
]

pub less_told : (m n : ℕ) → is_lt (nat_cmp m n) ≡ true → m < n
less_told m n is = elim (cases_order m n) [
  | inl same ↦ absurd (true≢false (sym is ∙ ap is_lt (sym (nat_cmp_is m n Equal same))))
  | inr (inl less) ↦ less
  | inr (inr more) ↦ absurd (true≢false (sym is ∙ ap is_lt (sym (nat_cmp_is m n Greater more))))
]

-- ---- truth values
or_cases : (p q : Bool) → (p || q) ≡ true → (p ≡ true) ⊎ (q ≡ true)
or_cases true q is = inl refl
or_cases false q is = inr is

or_left : (p q : Bool) → p ≡ true → (p || q) ≡ true
or_left true q is = refl
or_left false q is = absurd (true≢false (sym is))

or_right : (p q : Bool) → q ≡ true → (p || q) ≡ true
or_right true q is = refl
or_right false q is = is

and_cases : (p q : Bool) → (p && q) ≡ true → (p ≡ true) × (q ≡ true)
and_cases true q is = (refl, is)
and_cases false q is = absurd (true≢false (sym is))

and_both : (p q : Bool) → p ≡ true → q ≡ true → (p && q) ≡ true
and_both true q one other = other
and_both false q one other = absurd (true≢false (sym one))

-- ---- targets and events
pub one_least : (g : StateGraph) (s : ℕ) (e : Event) (t u : ℕ) → IsLeastTarget g s e t → IsLeastTarget g s e u → t ≡ u
one_least g s e t u p q = omega (arith, p.least u q.step, q.least t p.step)

pub least_told : (g : StateGraph) (s : ℕ) (e : Event) (t u : ℕ) (same : Bool) → IsLeastTarget g s e t
    → same ≡ (t == u) → IsTrue same ↔ IsLeastTarget g s e u
least_told g s e t u same least told = (
  λ is. subst (IsLeastTarget g s e) (eqb-true t u (sym told ∙ is)) least,
  λ also. told ∙ eq-eqb t u (one_least g s e t u least also),
)

module _ (g : StateGraph) (s : ℕ) (arcs : List Edge) (out : AreOut g s arcs) where
  step_at : (i : ℕ) (d : Edge) → i < length arcs → Step g s (get_or arcs i d).event (get_or arcs i d).to
  step_at i d within =
      out_item g s arcs out i (get_or arcs i d) within (sym (get_or_default arcs i (get_or arcs i d) d within))

  -- the first arcs of events are in event order
  pub event_order_at : (i j : ℕ) (d : Edge) → i < j → j < length arcs → (e f : Event) → Enables g s e → Enables g s f
      → IsFirstBy g s (get_or arcs i d) e → IsFirstBy g s (get_or arcs j d) f
      → Before (place_of_event e) (place_of_event f)
  event_order_at i j d before within e f p q one other =
      let x : Edge = get_or arcs i d in
      let y : Edge = get_or arcs j d in
      let order = arcs_before arcs out.ordered i j d before within x y refl refl in
      elim order [
        | inl from ↦ absurd
            (omega (arith, from, out_from g s arcs out i d (omega arith), out_from g s arcs out j d within))
        | inr tied ↦ elim tied.1 [
          | inl event ↦ inl (omega (arith, event, ap event_place one.event, ap event_place other.event))
          | inr also ↦ elim also.1 [
            | inl to ↦ (
                let place : event_place e ≡ event_place f =
                omega (arith, also.0, ap event_place one.event, ap event_place other.event) in
                let same = event_from_place e f place in
                let least = subst (λ (h : Event). IsLeastTarget g s h x.to) same one.least in
                absurd (omega (arith, to, one_least g s f x.to y.to least other.least)))
            | inr rest ↦ absurd rest.1
          ]
        ]
      ]

  pub event_here : (x : Edge) (old new : List Event) → IsLeastTarget g s x.event x.to → new ≡ old ++ x.event ∷ []
      → Adds place_of_event (λ e. Enables g s e × IsFirstBy g s x e) old new
  event_here x old new least pushed = adds_one place_of_event (λ e. Enables g s e × IsFirstBy g s x e) old new x.event
      (enables-step g s x.event x.to least.step, record { event = refl; least = least }) (λ e is. is.1.event) pushed

  pub event_pass : (x : Edge) (old : List Event) → (IsLeastTarget g s x.event x.to → ⊥)
      → Adds place_of_event (λ e. Enables g s e × IsFirstBy g s x e) old old
  event_pass x old later = adds_none place_of_event (λ e. Enables g s e × IsFirstBy g s x e) old
      (λ e is. later (subst (λ (h : Event). IsLeastTarget g s h x.to) (sym is.1.event) is.1.least))

  of_arc : (a : Edge) → Contains arcs a → Step g s a.event a.to
  of_arc a (k, within, at) = out_item g s arcs out k a within (sym at)

  -- an event that is enabled has a first arc
  least_of : (e : Event) → (t : ℕ) → Step g s e t → (u : ℕ) × IsLeastTarget g s e u
  least_of e t step = up_to t (t + 1) (omega arith) step
    where
      up_to : (u n : ℕ) → u < n → Step g s e u → (v : ℕ) × IsLeastTarget g s e v
      up_to u zero small there = absurd (omega arith)
      up_to u (suc n) small there = elim (some_of (λ (a : Edge). (a.event ≡ e) × (a.to < u))
          (λ a. both (equal_events a.event e) (less a.to u)) arcs) [
            | inl (a, inside, (event, lower)) ↦
                up_to a.to n (omega (arith, lower)) (subst (λ (f : Event). Step g s f a.to) event (of_arc a inside))
            | inr none ↦ (
              u,
              record {
                step = there;
                least = λ v also. elim (cases_lt v u) [
                  | inl lower ↦ absurd (none (arc s e v, out_place g s arcs out e v also, (refl, lower)))
                  | inr more ↦ more
                ];
              },
            )
          ]

  pub event_each : (e : Event) → Enables g s e → (x : Edge) × Contains arcs x × IsFirstBy g s x e
  event_each e enabled =
      let to = step_from_enables g s e enabled in
      let least = least_of e to.0 to.1 in
      (arc s e least.0, out_place g s arcs out e least.0 least.1.step, record { event = refl; least = least.1 })

  -- ---- the arcs of an event
  module _ (e : Event) where
    abbrev pub is_not_later : Edge → Bool
    is_not_later a = is_le (event_cmp a.event e)

    not_earlier : (f : Event) → event_place e ≤ event_place f → is_lt (event_cmp f e) ≡ false
    not_earlier f more = ap is_lt (event_order f e) ∙ (elim (cases_eq (event_place e) (event_place f)) [
      | inl same ↦ sym (ap is_lt (nat_cmp_is (event_place f) (event_place e) Equal (sym same)))
      | inr apart ↦ sym (ap is_lt (nat_cmp_is (event_place f) (event_place e) Greater (omega (arith, more, apart))))
    ])

    earlier_told : (f : Event) → is_lt (event_cmp f e) ≡ false → event_place e ≤ event_place f
    earlier_told f not_less = elim (cases_lt (event_place f) (event_place e)) [
      | inl less ↦ absurd (true≢false (sym (ap is_lt (event_Less f e less)) ∙ not_less))
      | inr more ↦ more
    ]

    earlier_is : (f : Event) → is_lt (event_cmp f e) ≡ true → event_place f < event_place e
    earlier_is f is = elim (cases_lt (event_place f) (event_place e)) [
      | inl less ↦ less
      | inr more ↦ absurd (true≢false (sym is ∙ not_earlier f more))
    ]

    not_later_told : (f : Event) → is_le (event_cmp f e) ≡ true → event_place f ≤ event_place e
    not_later_told f is = le_from_is_le (event_place f) (event_place e) (sym (ap is_le (event_order f e)) ∙ is)

    later_told : (f : Event) → is_le (event_cmp f e) ≡ false → event_place e < event_place f
    later_told f is = later_event f e (sym is)

    no_later : (f : Event) → event_place f ≤ event_place e → is_le (event_cmp f e) ≡ true
    no_later f least = elim (cases_Bool (is_le (event_cmp f e))) [
      | inl is ↦ is
      | inr is_not ↦ absurd (omega (arith, later_told f is_not, least))
    ]

    pub later_cut : (low : ℕ) → IsPartitionedBy is_not_later (drop low arcs)
    later_cut low i j d le within is =
        let size = length-drop low arcs in
        let a : Edge = get_or arcs (low + i) d in
        let b : Edge = get_or arcs (low + j) d in
        let one : get_or (drop low arcs) i d ≡ a = get_or-drop low arcs i d in
        let other : get_or (drop low arcs) j d ≡ b = get_or-drop low arcs j d in
        let rises : event_place a.event ≤ event_place b.event =
        out_rising g s arcs out (low + i) (low + j) d (omega arith) (omega arith) in
        let below = not_later_told b.event (subst (λ (x : Edge). is_not_later x ≡ true) other is) in
        subst (λ (x : Edge). is_not_later x ≡ true) (sym one) (no_later a.event (omega (arith, rises, below)))

    -- ---- those from a state on
    module _ (low : ℕ) where
      abbrev Lies : Edge → Type 0
      Lies x = (event_place x.event < event_place e) ⊎ ((x.event ≡ e) × (x.to < low))

      before_told : (x : Edge) → is_before_those e low x ≡ true → Lies x
      before_told x is = elim (or_cases (is_lt (event_cmp x.event e)) _ is) [
        | inl less ↦ inl (earlier_is x.event less)
        | inr both ↦ (
            let parts = and_cases (same_event x.event e) (is_lt (nat_cmp x.to low)) both in
            inr (same_event-true x.event e parts.0, less_told x.to low parts.1))
      ]

      before_is : (x : Edge) → Lies x → is_before_those e low x ≡ true
      before_is x (inl less) = or_left (is_lt (event_cmp x.event e)) _ (ap is_lt (event_Less x.event e less))
      before_is x (inr (same, lower)) = or_right (is_lt (event_cmp x.event e)) _
          (and_both (same_event x.event e) (is_lt (nat_cmp x.to low))
          (ap (λ (f : Event). same_event f e) same ∙ same_event-refl e)
          (sym (ap is_lt (nat_cmp_is x.to low Less lower))))

      lies_before : (x y : Edge) → Before (arc_place x) (arc_place y) → x.from ≡ y.from → Lies y → Lies x
      lies_before x y (inl from) same lies = absurd (omega (arith, from, same))
      lies_before x y (inr (from, inl event)) same (inl less) = inl (omega (arith, event, less))
      lies_before x y (inr (from, inl event)) same (inr (by, to)) = inl (omega (arith, event, ap event_place by))
      lies_before x y (inr (from, inr (tied, inl to))) same (inl less) = inl (omega (arith, tied, less))
      lies_before x y (inr (from, inr (tied, inl to))) same (inr (by, lower)) =
          inr (event_from_place x.event e (tied ∙ ap event_place by), omega (arith, to, lower))
      lies_before x y (inr (from, inr (tied, inr rest))) same lies = absurd rest.1

      pub low_cut : IsPartitionedBy (is_before_those e low) arcs
      low_cut i j d le within is = elim (cases_eq i j) [
        | inl same ↦ subst (λ (n : ℕ). is_before_those e low (get_or arcs n d) ≡ true) (sym same) is
        | inr other ↦ (
            let x : Edge = get_or arcs i d in
            let y : Edge = get_or arcs j d in
            let order = arcs_before arcs out.ordered i j d (omega arith) within x y refl refl in
            let here = out_from g s arcs out i d (omega arith) in
            let from : x.from ≡ y.from = here ∙ sym (out_from g s arcs out j d within) in
            before_is x (lies_before x y order from (before_told y is)))
      ]

      module _ (k : ℕ) (cut : IsPartitionPoint (λ a. is_before_those e low a ≡ true)
          (λ a. is_before_those e low a ≡ false) arcs k) where
        behind_cut : (t : ℕ) → IsTargetFrom g s e low t
            → (j : ℕ) × (k ≤ j) × (j < length arcs) × (get_or arcs j (arc s e t) ≡ arc s e t)
        behind_cut t is =
            let there = out_place g s arcs out e t is.step in
            let a : Edge = arc s e t in (
              there.0,
              elim (cases_lt there.0 k) [
                | inl less ↦
                    (elim (before_told a (rw there.2 at (cut.0 there.0 a (omega arith) less))) [
                      | inl earlier ↦ absurd (omega (arith, earlier))
                      | inr (same, lower) ↦ absurd (omega (arith, lower, is.from))
                    ])
                | inr more ↦ more
              ],
              there.1,
              there.2,
            )

        none_lies : (d : Edge) → k < length arcs → Lies (get_or arcs k d) → ⊥
        none_lies d within lies = true≢false (sym (before_is (get_or arcs k d) lies) ∙ cut.1 k d (omega arith) within)

        pub target_first : (d : Edge) → k < length arcs → (get_or arcs k d).event ≡ e
            → IsFirst number_place (IsTargetFrom g s e low) (get_or arcs k d).to
        target_first d within event = record {
          holds = record {
            step = subst (λ (f : Event). Step g s f (get_or arcs k d).to) event (step_at k d within);
            from = elim (cases_lt (get_or arcs k d).to low) [
              | inl lower ↦ absurd (none_lies d within (inr (event, lower)))
              | inr more ↦ more
            ];
          };
          none_before = λ t is before. elim before [
            | inl less ↦ (
                let a : Edge = get_or arcs k d in
                let there = behind_cut t is in
                let j : ℕ = there.0 in
                let b : Edge = arc s e t in
                let at : get_or arcs j d ≡ b = get_or_default arcs j d b there.2 ∙ there.3 in
                let order : k ≢ j → Before (arc_place a) (arc_place b) = λ apart.
                arcs_before arcs out.ordered k j d (omega (arith, apart, there.1)) there.2 a b refl at in
                elim (cases_eq k j) [
                  | inl same ↦ (
                      let equal : a ≡ b = ap (λ (n : ℕ). get_or arcs n d) same ∙ at in
                      omega (arith, less, ap (λ (y : Edge). y.to) equal))
                  | inr other ↦ elim (order other) [
                    | inl from ↦ omega (arith, from, out_from g s arcs out k d within)
                    | inr tied ↦ elim tied.1 [
                      | inl earlier ↦ omega (arith, earlier, ap event_place event)
                      | inr also ↦ elim also.1 [
                        | inl to ↦ omega (arith, to, less)
                        | inr rest ↦ rest.1
                      ]
                    ]
                  ]
                ])
            | inr rest ↦ rest.1
          ];
        }

        pub target_none : (d : Edge) → (k < length arcs → (get_or arcs k d).event ≡ e → ⊥) → (t : ℕ)
            → IsTargetFrom g s e low t → ⊥
        target_none d other t is =
            let there = behind_cut t is in
            let b : Edge = arc s e t in
            let within : k < length arcs = omega (arith, there.1, there.2) in
            let at : get_or arcs there.0 d ≡ b = get_or_default arcs there.0 d b there.2 ∙ there.3 in
            let rises = out_rising g s arcs out k there.0 d there.1 there.2 in
            let least : event_place (get_or arcs k d).event ≤ event_place e = rw at at rises in
            elim (cases_lt (event_place (get_or arcs k d).event) (event_place e)) [
              | inl less ↦ none_lies d within (inl less)
              | inr more ↦ other within (event_from_place (get_or arcs k d).event e (omega (arith, least, more)))
            ]

    -- those between the two cuts
    module _ (low count : ℕ) (low_in : low ≤ length arcs) (count_in : count ≤ length (drop low arcs))
        (cut_low : IsPartitionPoint (λ a. is_earlier e a ≡ true) (λ a. is_earlier e a ≡ false) arcs low)
        (cut_high : IsPartitionPoint (λ a. is_not_later a ≡ true) (λ a. is_not_later a ≡ false) (drop low arcs)
        count) where
      abbrev part : List Edge
      part = take count (drop low arcs)

      left : length (drop low arcs) + low ≡ length arcs
      left = omega (arith, length-drop low arcs)

      taken : length part ≡ count
      taken = omega (arith, length-take count (drop low arcs))

      at_part : (j : ℕ) (d : Edge) → j < count → get_or part j d ≡ get_or arcs (low + j) d
      at_part j d below = get_or-take count (drop low arcs) j d below ∙ get_or-drop low arcs j d

      is_by : (a : Edge) → Contains part a → IsArcBy g s e a
      is_by a (j, inside, at) =
          let below : j < count = omega (arith, inside, taken) in
          let within : low + j < length arcs = omega (arith, left, below, count_in) in
          let there : get_or arcs (low + j) a ≡ a = sym (at_part j a below) ∙ at in
          let at_drop : get_or (drop low arcs) j a ≡ a = get_or-drop low arcs j a ∙ there in
          let above = earlier_told a.event (rw there at (cut_low.1 (low + j) a (omega arith) within)) in
          let under = not_later_told a.event (rw at_drop at (cut_high.0 j a (omega (arith, below, count_in)) below)) in
          let known = (out.exactly a).0 (low + j, within, there) in
          record {
            there = known.0;
            from = known.1;
            by = event_from_place a.event e (omega (arith, above, under));
          }

      by_is : (a : Edge) → IsArcBy g s e a → Contains part a
      by_is a is =
          let here = (out.exactly a).1 (is.there, is.from) in
          let j : ℕ = here.0 in
          let place : event_place a.event ≡ event_place e = ap event_place is.by in
          let above : low ≤ j = elim (cases_lt j low) [
            | inl less ↦
                (let before = earlier_is a.event (rw here.2 at (cut_low.0 j a (omega arith) less)) in
                absurd (omega (arith, before, place)))
            | inr more ↦ more
          ] in
          let moved : low + (j - low) ≡ j = omega arith in
          let there : get_or arcs (low + (j - low)) a ≡ a = ap (λ (n : ℕ). get_or arcs n a) moved ∙ here.2 in
          let at_drop : get_or (drop low arcs) (j - low) a ≡ a = get_or-drop low arcs (j - low) a ∙ there in
          let below : j - low < count = elim (cases_lt (j - low) count) [
            | inl less ↦ less
            | inr more ↦
                (let inside : j - low < length (drop low arcs) = omega (arith, left, here.1) in
                let later = later_told a.event (rw at_drop at (cut_high.1 (j - low) a more inside)) in
                absurd (omega (arith, later, place)))
          ] in
          (j - low, omega (arith, taken, below), at_part (j - low) a below ∙ there)

      pub arcs_are : AreAll arc_place (IsArcBy g s e) (take count (drop low arcs))
      arcs_are = record {
        exactly = λ a. (is_by a, by_is a);
        in_order = λ i j d less within. (
            let inside : j < count = omega (arith, within, taken) in
            let within_arcs : low + j < length arcs = omega (arith, left, inside, count_in) in
            arcs_before arcs out.ordered (low + i) (low + j) d (omega (arith, less)) within_arcs _ _
            (sym (at_part i d (omega (arith, less, inside)))) (sym (at_part j d inside)));
      }

-- ---- where an event leads
module _ (g : StateGraph) (s : ℕ) (e : Event) (arcs : List Edge) (are : AreAll arc_place (IsArcBy g s e) arcs) where
  pub by_item : (k : ℕ) (x : Edge) → k < length arcs → x ≡ get_or arcs k x → IsArcBy g s e x
  by_item k x within at = (are.exactly x).0 (k, within, sym at)

  pub by_step : (x : Edge) → IsArcBy g s e x → Step g s e x.to
  by_step x is = subst (λ (r : ℕ). Step g r e x.to) is.from
      (subst (λ (f : Event). Step g x.from f x.to) is.by is.there)

  pub step_by : (t : ℕ) → Step g s e t → Contains arcs (arc s e t)
  step_by t step = (are.exactly (arc s e t)).1 (record { there = step; from = refl; by = refl })

-- ---- where two events lead
-- the lesser of two first ones is the first of both kinds
pub lesser_first : (P Q R : ℕ → Type 0) (p q : Option ℕ) → IsFirstOrNone number_place P p
    → IsFirstOrNone number_place Q q → ((w : ℕ) → P w → R w) → ((w : ℕ) → Q w → R w) → ((w : ℕ) → R w → P w ⊎ Q w)
    → IsFirstOrNone number_place R (lesser_of p q)
lesser_first P Q R None None none also from and cases =
    λ w is. elim (cases w is) [ inl p ↦ none w p | inr q ↦ also w q ]
lesser_first P Q R None (Some n) none first from and cases = record {
  holds = and n first.holds;
  none_before = λ w is before. elim (cases w is) [
    | inl p ↦ none w p
    | inr q ↦ first.none_before w q before
  ];
}
lesser_first P Q R (Some m) None first none from and cases = record {
  holds = from m first.holds;
  none_before = λ w is before. elim (cases w is) [
    | inl p ↦ first.none_before w p before
    | inr q ↦ none w q
  ];
}
lesser_first P Q R (Some m) (Some n) one other from and cases = by (ltb n m) refl
  where
    by : (b : Bool) → b ≡ ltb n m → IsFirst number_place R (if b then n else m)
    by true less = record {
      holds = and n other.holds;
      none_before = λ w is before. elim (cases w is) [
        | inl p ↦ one.none_before w p (elim before [
          | inl under ↦ inl (omega (arith, under, ltb-true n m (sym less)))
          | inr rest ↦ absurd rest.1
        ])
        | inr q ↦ other.none_before w q before
      ];
    }
    by false more = record {
      holds = from m one.holds;
      none_before = λ w is before. elim (cases w is) [
        | inl p ↦ one.none_before w p before
        | inr q ↦ other.none_before w q (elim before [
          | inl under ↦ inl (omega (arith, under, ltb-false n m (sym more)))
          | inr rest ↦ absurd rest.1
        ])
      ];
    }

module _ (g : StateGraph) (arcs : List Edge) (f : Event) (low : ℕ) where
  pub behind_none : (w : ℕ) → IsEndBehind g (take 0 arcs) f low w → ⊥
  behind_none w is = Contains-nil is.0 is.1

  pub behind_more : (k : ℕ) (x : Edge) (p q : Option ℕ) → k < length arcs → x ≡ get_or arcs k x
      → IsFirstOrNone number_place (IsEndBehind g (take k arcs) f low) p
      → IsFirstOrNone number_place (IsTargetFrom g x.to f low) q
      → IsFirstOrNone number_place (IsEndBehind g (take (k + 1) arcs) f low) (lesser_of p q)
  behind_more k x p q within at so_far here =
      lesser_first (IsEndBehind g (take k arcs) f low) (IsTargetFrom g x.to f low)
      (IsEndBehind g (take (k + 1) arcs) f low) p q so_far here (λ w is. (is.0, more is.0 is.1, is.2))
      (λ w is. (x, last, is)) cases
    where
      longer : take k arcs ++ x ∷ [] ≡ take (k + 1) arcs
      longer = ap (λ (y : Edge). take k arcs ++ y ∷ []) at ∙ sym (take_more arcs k x within)

      more : (y : Edge) → Contains (take k arcs) y → Contains (take (k + 1) arcs) y
      more y there = subst (λ l. Contains l y) longer (Contains-append_left (take k arcs) (x ∷ []) y there)

      last : Contains (take (k + 1) arcs) x
      last = subst (λ l. Contains l x) longer (Contains-push (take k arcs) x)

      cases : (w : ℕ) → IsEndBehind g (take (k + 1) arcs) f low w
          → IsEndBehind g (take k arcs) f low w ⊎ IsTargetFrom g x.to f low w
      cases w is = elim (Contains-push_cases (take k arcs) x is.0 (subst (λ l. Contains l is.0) (sym longer) is.1)) [
        | inl there ↦ inl (is.0, there, is.2)
        | inr same ↦ inr (subst (λ (y : Edge). IsTargetFrom g y.to f low w) (sym same) is.2)
      ]

  pub behind_all : (k : ℕ) (o : Option ℕ) → length arcs ≤ k
      → IsFirstOrNone number_place (IsEndBehind g (take k arcs) f low) o
      → IsFirstOrNone number_place (IsEndBehind g arcs f low) o
  behind_all k o all first =
      subst (λ (l : List Edge). IsFirstOrNone number_place (IsEndBehind g l f low) o) (take_all k arcs all) first

  pub ends_within : (o : Option ℕ) → IsGraph g → IsFirstOrNone number_place (IsEndBehind g arcs f low) o
      → IfSome o (λ w. w < g.states)
  ends_within None is none = tt
  ends_within (Some w) is first = (let step = first.holds.2.step in (step_within g first.holds.0.to f w is step).2)

  -- behind the arcs of an event are the ends of two
  pub behind_ends : (s : ℕ) (e : Event) → AreAll arc_place (IsArcBy g s e) arcs → (o : Option ℕ)
      → IsFirstOrNone number_place (IsEndBehind g arcs f low) o
      → IsFirstOrNone number_place (IsEndFrom g s e f low) o
  behind_ends s e are o first = by o first
    where
      there : (w : ℕ) → IsEndBehind g arcs f low w → IsEndFrom g s e f low w
      there w is =
          let x : Edge = is.0 in
          record {
            ends = (x.to, by_step g s e arcs are x ((are.exactly x).0 is.1), is.2.step);
            from = is.2.from;
          }

      back : (w : ℕ) → IsEndFrom g s e f low w → IsEndBehind g arcs f low w
      back w is =
          let t : ℕ = is.ends.0 in
          (arc s e t, step_by g s e arcs are t is.ends.1, record { step = is.ends.2; from = is.from })

      by : (o : Option ℕ) → IsFirstOrNone number_place (IsEndBehind g arcs f low) o
          → IsFirstOrNone number_place (IsEndFrom g s e f low) o
      by None none = λ w is. none w (back w is)
      by (Some n) one = record {
        holds = there n one.holds;
        none_before = λ w is before. one.none_before w (back w is) before;
      }

-- ---- where the two orders of two events lead
module _ (g : StateGraph) (s : ℕ) (a c : Event) where
  pub no_ends : ((w : ℕ) → IsEndFrom g s a c 0 w → ⊥) → (ends : ℕ × ℕ) → AreEndsApart g s a c ends → ⊥
  no_ends none ends is = none ends.0 (record { ends = is.one; from = omega arith })

  pub no_others : ((w : ℕ) → IsEndFrom g s c a 0 w → ⊥) → (ends : ℕ × ℕ) → AreEndsApart g s a c ends → ⊥
  no_others none ends is = none ends.1 (record { ends = is.other; from = omega arith })

  -- nothing lies before the first end
  not_before : (w n : ℕ) (e f : Event) → IsFirst number_place (IsEndFrom g s e f 0) w → IsEnd g s e f n → w ≤ n
  not_before w n e f first is = elim (cases_lt n w) [
    | inl less ↦ absurd (first.none_before n (record { ends = is; from = omega arith }) (inl less))
    | inr more ↦ more
  ]

  pub first_apart : (w w2 : ℕ) → IsFirst number_place (IsEndFrom g s a c 0) w
      → IsFirst number_place (IsEndFrom g s c a 0) w2 → w ≢ w2 → IsFirst pair_place (AreEndsApart g s a c) (w, w2)
  first_apart w w2 one other apart = record {
    holds = record { one = one.holds.ends; other = other.holds.ends; apart = apart };
    none_before = λ ends is before. elim before [
      | inl less ↦ omega (arith, less, not_before w ends.0 a c one is.one)
      | inr tied ↦ elim tied.1 [
        | inl less ↦ omega (arith, less, not_before w2 ends.1 c a other is.other)
        | inr rest ↦ rest.1
      ]
    ];
  }

  -- both orders lead to w first: the next end of the second order is told, or where there is none that of the first
  module _ (w : ℕ) (one : IsFirst number_place (IsEndFrom g s a c 0) w)
      (other : IsFirst number_place (IsEndFrom g s c a 0) w) where
    pub second_apart : (n : ℕ) → IsFirst number_place (IsEndFrom g s c a (w + 1)) n
        → IsFirst pair_place (AreEndsApart g s a c) (w, n)
    second_apart n next = record {
      holds = record {
        one = one.holds.ends;
        other = next.holds.ends;
        apart = λ same. omega (arith, same, next.holds.from);
      };
      none_before = λ ends is before. elim before [
        | inl less ↦ omega (arith, less, not_before w ends.0 a c one is.one)
        | inr tied ↦ elim tied.1 [
          | inl less ↦ next.none_before ends.1 (record { ends = is.other; from = above ends is tied.0 }) (inl less)
          | inr rest ↦ rest.1
        ]
      ];
    }
      where
        above : (ends : ℕ × ℕ) → AreEndsApart g s a c ends → ends.0 ≡ w → w + 1 ≤ ends.1
        above ends is same = elim (cases_eq ends.1 w) [
          | inl equal ↦ absurd (is.apart (same ∙ sym equal))
          | inr apart ↦ omega (arith, apart, not_before w ends.1 c a other is.other)
        ]

    only : ((n : ℕ) → IsEndFrom g s c a (w + 1) n → ⊥) → (ends : ℕ × ℕ) → AreEndsApart g s a c ends
        → (ends.1 ≡ w) × (w + 1 ≤ ends.0)
    only none ends is = (
      same,
      elim (cases_eq ends.0 w) [
        | inl equal ↦ absurd (is.apart (equal ∙ sym same))
        | inr apart ↦ omega (arith, apart, not_before w ends.0 a c one is.one)
      ],
    )
      where
        same : ends.1 ≡ w
        same = elim (cases_eq ends.1 w) [
          | inl equal ↦ equal
          | inr apart ↦ absurd (none ends.1 (record {
            ends = is.other;
            from = omega (arith, apart, not_before w ends.1 c a other is.other);
          }))
        ]

    pub third_apart : ((n : ℕ) → IsEndFrom g s c a (w + 1) n → ⊥) → (n : ℕ)
        → IsFirst number_place (IsEndFrom g s a c (w + 1)) n → IsFirst pair_place (AreEndsApart g s a c) (n, w)
    third_apart none n next = record {
      holds = record {
        one = next.holds.ends;
        other = other.holds.ends;
        apart = λ same. omega (arith, same, next.holds.from);
      };
      none_before = λ ends is before. (
          let known = only none ends is in
          elim before [
            | inl less ↦ next.none_before ends.0 (record { ends = is.one; from = known.1 }) (inl less)
            | inr tied ↦ elim tied.1 [
              | inl less ↦ omega (arith, less, known.0)
              | inr rest ↦ rest.1
            ]
          ]);
    }

    pub none_apart : ((n : ℕ) → IsEndFrom g s c a (w + 1) n → ⊥) → ((n : ℕ) → IsEndFrom g s a c (w + 1) n → ⊥)
        → (ends : ℕ × ℕ) → AreEndsApart g s a c ends → ⊥
    none_apart none also ends is =
        let known = only none ends is in also ends.0 (record { ends = is.one; from = known.1 })
