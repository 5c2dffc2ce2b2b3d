-- A graph with names for its states has one report of its breaches.
use Rattle.std.proofs.Common.{◌≡◌, ℕ, zero, suc, ◌+◌, ◌<◌, ◌≤◌, ◌⊎◌, true, List, [], ◌∷◌, ◌++◌, map, length, Contains, IsTrue}
use Rattle.std.proofs.Common.{Some, None, Option, refl, sym, ap, subst, ◌∙◌, arith, inl, inr}
use Rattle.std.proofs.lemmas.Bool.{cases_lt, cases_eq}
use mathlib.Core.Bool.{beq}
use Rattle.si_base.specs.declared.ids.Event.{Event}
use Rattle.si_base.specs.declared.graph.Edge.{Edge}
use Rattle.si_base.specs.Graph.{StateGraph, Step, IsGraph, arc, enables, event_place}
use Rattle.si_base.specs.Codes.{IsConnected}
use Rattle.si_base.specs.Order.{IsFirst}
use Rattle.si_base.specs.Proper.{Split, split_place, Fork, Forks, fork_place, Loss, Loses, loss_place}
use Rattle.si_base.proofs.GraphSteps.{step_from_enables}
use Rattle.si_checks.proofs.SearchDecisions as decide
use Rattle.si_checks.proofs.SearchDecisions.{Decided}
use Rattle.si_checks.specs.Loops.Searches.{IsFirstOrNone, IsOneOrNone}
use Rattle.si_graph.proofs.OrderLemmas.{event_from_place}
use Rattle.si_graph.proofs.ListMembers.{Contains-map}
use Rattle.si_told.specs.All.{AreAll, arc_place}
use Rattle.si_breaches.specs.Breaches.{AreFirstWays, IsSplit, IsTorn, Switches, Differs, IsClash, IsClashing}
use Rattle.si_breaches.specs.Breaches.{clashing_place}
use Rattle.si_breaches.specs.Breaches.{by_arc, is_odd, fork_ends, IsFirstFork, Breaches, AreBreaches}
use Rattle.si_breaches.specs.BreachText.{breach_text, IsBreachText}
use Rattle.si_breaches.specs.Loops.Breaches.{split_of}
use Rattle.si_told.specs.Loops.Search.{Adds, IsBelow}
use Rattle.si_breaches.specs.declared.clashes.Clash.{Clash}
use Rattle.si_breaches.specs.declared.clashes.Clash.TheVariants.{Torn, Apart}
use Rattle.si_breaches.specs.declared.clashes.Clashing.{Clashing}
use Rattle.si_told.proofs.Alls.{one_all, below_none, below_more, below_all}
use Rattle.si_told.proofs.AllsExist.{some_all}
use Rattle.si_breaches.proofs.ClashLemmas.{clash_order, clash_here, clash_pass, unswitched, agreeing}
use Rattle.si_breaches.proofs.ForkLemmas.{same_fork, one_told, parts_of, place_of}
use Rattle.si_breaches.proofs.SplitLemmas.{same_split}
use Rattle.si_breaches.proofs.LossLemmas.{same_loss}
use Rattle.si_walks.proofs.FirstPaths.{some_way_to, one_way_to}
use Rattle.si_walks.specs.Paths.{IsWayTo}

-- ---- some walks, and no others
pub some_first_ways : (g : StateGraph) → IsConnected g → (walk : ℕ → List Event) × AreFirstWays g walk
some_first_ways g connected = (
  (λ s. picked s (cases_lt s g.states)),
  record {
    within = λ s small. picked_is s (cases_lt s g.states) small;
    past = λ s large. none_past s (cases_lt s g.states) large;
  },
)
  where
    picked : (s : ℕ) → (s < g.states) ⊎ (g.states ≤ s) → List Event
    picked s (inl within) = (some_way_to g connected s within).0
    picked s (inr past) = []

    picked_is : (s : ℕ) (d : (s < g.states) ⊎ (g.states ≤ s)) → s < g.states
        → IsWayTo g s (picked s d)
    picked_is s (inl within) small = (some_way_to g connected s within).1
    picked_is s (inr past) small = absurd (omega arith)

    none_past : (s : ℕ) (d : (s < g.states) ⊎ (g.states ≤ s)) → g.states ≤ s → picked s d ≡ []
    none_past s (inl within) large = absurd (omega arith)
    none_past s (inr past) large = refl

pub one_first_ways : (g : StateGraph) (walk other : ℕ → List Event) → AreFirstWays g walk → AreFirstWays g other
    → walk ≡ other
one_first_ways g walk other ways also = λ i s. same s i
  where
    same : (s : ℕ) → walk s ≡ other s
    same s = elim (cases_lt s g.states) [
      | inl small ↦ one_way_to g s (walk s) (other s) (ways.within s small) (also.within s small)
      | inr large ↦ ways.past s large ∙ sym (also.past s large)
    ]

-- ---- one text at most
one_breaches : (g : StateGraph) (walk : ℕ → List Event) (b d : Breaches) → AreBreaches g walk b → AreBreaches g walk d
    → b ≡ d
one_breaches g walk b d are also =
    let splits = one_all split_place (IsSplit g) b.splits d.splits are.splits also.splits in
    let clashes = one_all clashing_place (IsClashing g walk) b.clashes d.clashes are.clashes also.clashes in
    let forks = one_all fork_place (IsFirstFork g) b.forks d.forks are.forks also.forks in
    let losses = one_all loss_place (Loses g) b.losses d.losses are.losses also.losses in
    λ i. record { splits = splits i; clashes = clashes i; forks = forks i; losses = losses i }

pub one_breach_text : (g : StateGraph) (states dropped : List (List ℕ)) (x y : List ℕ)
    → IsBreachText g states dropped x → IsBreachText g states dropped y → x ≡ y
one_breach_text g states dropped x y a b =
    let walks = one_first_ways g a.walk b.walk a.walks b.walks in
    let moved : AreBreaches g b.walk a.breaches =
    subst (λ (walk : ℕ → List Event). AreBreaches g walk a.breaches) walks a.are in
    let same = one_breaches g b.walk a.breaches b.breaches moved b.are in
    a.text_is ∙ (λ i. breach_text g.signals states dropped (walks i) (same i)) ∙ sym b.text_is

-- ---- some of each kind
same_arc : (x y : Edge) → x.from ≡ y.from → x.event ≡ y.event → x.to ≡ y.to → x ≡ y
same_arc x y from event to = λ i. record { from = from i; event = event i; to = to i }

module _ (g : StateGraph) (is : IsGraph g) where
  in_arcs : (a : Edge) → Decided (Contains g.edges a)
  in_arcs a = elim (decide.some_of (λ (b : Edge). (b.from ≡ a.from) × ((b.event ≡ a.event) × (b.to ≡ a.to)))
      (λ b. decide.both (cases_eq b.from a.from) (decide.both (decide.equal_events b.event a.event) (cases_eq b.to a.to)))
      g.edges) [
        | inl (b, there, (from, (event, to))) ↦ inl
            (subst (Contains g.edges) (same_arc b a from event to) there)
        | inr none ↦ inr (λ there. none (a, there, (refl, (refl, refl))))
      ]

  -- splits
  some_splits : (xs : List Split) × AreAll split_place (IsSplit g) xs
  some_splits = some_all split_place (IsSplit g) (λ x y. refl) equal decided
      (map (λ (p : Edge × Edge). split_of p.0 p.1) (decide.pairs g.edges g.edges)) among
    where
      equal : (x y : Split) → IsSplit g x → IsSplit g y → split_place x ≡ split_place y → x ≡ y
      equal x y p q same =
          let state : x.s ≡ y.s = cc in
          let place : event_place x.e ≡ event_place y.e = cc in
          let one : x.t ≡ y.t = cc in
          let other : x.u ≡ y.u = cc in
          same_split x y state (event_from_place x.e y.e place) one other

      between : (b : Split) (v : ℕ) → Decided (b.t < v → Step g b.s b.e v → ⊥)
      between b v = elim (decide.both (decide.less b.t v) (in_arcs (arc b.s b.e v))) [
        | inl (above, there) ↦ inr (λ none. none above there)
        | inr not_so ↦ inl (λ above there. not_so (above, there))
      ]

      decided : (b : Split) → Decided (IsSplit g b)
      decided b = elim (decide.both (in_arcs (arc b.s b.e b.t)) (decide.both (in_arcs (arc b.s b.e b.u))
          (decide.both (decide.less b.t b.u)
          (decide.all_below (λ v. b.t < v → Step g b.s b.e v → ⊥) (between b) b.u)))) [
            | inl (one, (other, (apart, next))) ↦ inl (record {
              splits = record { one = one; other = other; apart = apart };
              next = λ v above below there. next v below above there;
            })
            | inr not_so ↦ inr (λ split. not_so (
              split.splits.one,
              (split.splits.other, (split.splits.apart, (λ v below above there. split.next v above below there))),
            ))
          ]

      among : (b : Split) → IsSplit g b
          → Contains (map (λ (p : Edge × Edge). split_of p.0 p.1) (decide.pairs g.edges g.edges)) b
      among b split =
          let x : Edge = arc b.s b.e b.t in
          let y : Edge = arc b.s b.e b.u in
          Contains-map (λ (p : Edge × Edge). split_of p.0 p.1) (decide.pairs g.edges g.edges) (x, y)
          (decide.in_pairs g.edges g.edges x y split.splits.one split.splits.other)

  -- clashes
  pub first_arc : (P : Edge → Type 0) → ((x : Edge) → Decided (P x)) → ((x : Edge) → P x → Contains g.edges x)
      → (o : Option Edge) × IsFirstOrNone arc_place P o
  first_arc P decided there = decide.first_candidate arc_place P (λ x. x) P decided g.edges (λ x at holds. holds)
      (λ x holds. (x, there x holds, holds, refl))

  pub torn : (walk : ℕ → List Event) (a : ℕ) (x : Edge) → Decided (IsTorn g walk a x)
  torn walk a x = elim (decide.both (in_arcs x)
      (decide.not (decide.same_value (is_odd a (by_arc walk x)) (is_odd a (walk x.to))))) [
        | inl (there, apart) ↦ inl (record { there = there; torn = apart })
        | inr not_so ↦ inr (λ t. not_so (t.there, t.torn))
      ]

  pub own : (a : ℕ) (x : Edge) → Decided (Switches g a x)
  own a x = elim (decide.both (in_arcs x) (cases_eq x.event.sig a)) [
    | inl (there, same) ↦ inl (record { there = there; own = same })
    | inr not_so ↦ inr (λ s. not_so (s.there, s.own))
  ]

  pub differs : (walk : ℕ → List Event) (a : ℕ) (x y : Edge) → Decided (Differs g walk a x y)
  differs walk a x y = elim (decide.both (own a y) (decide.not (decide.same_value
      (beq (is_odd a (by_arc walk x)) (is_odd a (by_arc walk y))) (beq x.event.up y.event.up)))) [
        | inl (switches, apart) ↦ inl (record { switches = switches; apart = apart })
        | inr not_so ↦ inr (λ d. not_so (d.switches, d.apart))
      ]

  pub clash_or_none : (walk : ℕ → List Event) (a : ℕ) → (o : Option Clash) × IsOneOrNone (IsClash g walk a) o
  clash_or_none walk a =
      let first = first_arc (IsTorn g walk a) (torn walk a) (λ x t. t.there) in
      by_torn first.0 first.1
    where
      by_differing : (x : Edge) → IsFirstOrNone arc_place (IsTorn g walk a) None
          → IsFirst arc_place (Switches g a) x → (o : Option Edge) → IsFirstOrNone arc_place (Differs g walk a x) o
          → (k : Option Clash) × IsOneOrNone (IsClash g walk a) k
      by_differing x none first None alike = (None, agreeing g walk a x none first alike)
      by_differing x none first (Some y) other = (Some (Apart x y), (none, first, other))

      by_own : IsFirstOrNone arc_place (IsTorn g walk a) None → (o : Option Edge)
          → IsFirstOrNone arc_place (Switches g a) o → (k : Option Clash) × IsOneOrNone (IsClash g walk a) k
      by_own none None idle = (None, unswitched g walk a none idle)
      by_own none (Some x) first =
          let other = first_arc (Differs g walk a x) (differs walk a x) (λ y d. d.switches.there) in
          by_differing x none first other.0 other.1

      by_torn : (o : Option Edge) → IsFirstOrNone arc_place (IsTorn g walk a) o
          → (k : Option Clash) × IsOneOrNone (IsClash g walk a) k
      by_torn (Some x) first = (Some (Torn x), first)
      by_torn None none =
          let first = first_arc (Switches g a) (own a) (λ x s. s.there) in by_own none first.0 first.1

  some_clashes : (walk : ℕ → List Event)
      → (xs : List Clashing) × AreAll clashing_place (IsClashing g walk) xs
  some_clashes walk =
      let all = up_to (length g.signals) (omega arith) in (
        all.0,
        below_all clashing_place (IsClashing g walk) (λ c. c.sig) (clash_order g walk) (length g.signals) all.0
            (λ c clashing. clashing.within) all.1,
      )
    where
      more : (k : ℕ) (xs : List Clashing) → k < length g.signals
          → Adds clashing_place (IsBelow (IsClashing g walk) (λ c. c.sig) k) [] xs
          → (o : Option Clash) → IsOneOrNone (IsClash g walk k) o
          → (ys : List Clashing) × Adds clashing_place (IsBelow (IsClashing g walk) (λ c. c.sig) (k + 1)) [] ys
      more k xs within so_far None none = (
        xs,
        below_more clashing_place (IsClashing g walk) (λ c. c.sig) (clash_order g walk) k [] xs xs so_far
            (clash_pass g walk k xs none),
      )
      more k xs within so_far (Some clash) one =
          let c : Clashing = record { sig = k; clash = clash } in (
            xs ++ c ∷ [],
            below_more clashing_place (IsClashing g walk) (λ c. c.sig) (clash_order g walk) k [] xs (xs ++ c ∷ [])
                so_far (clash_here g walk k clash xs (xs ++ c ∷ []) within one refl),
          )

      up_to : (k : ℕ) → k ≤ length g.signals
          → (xs : List Clashing) × Adds clashing_place (IsBelow (IsClashing g walk) (λ c. c.sig) k) [] xs
      up_to zero small = ([], below_none clashing_place (IsClashing g walk) (λ c. c.sig) (clash_order g walk) [])
      up_to (suc k) small =
          let rest = up_to k (omega arith) in
          let one = clash_or_none walk k in
          let next = more k rest.0 (omega arith) rest.1 one.0 one.1 in (
            next.0,
            subst (λ (n : ℕ). Adds clashing_place (IsBelow (IsClashing g walk) (λ c. c.sig) n) [] next.0)
                (let size : k + 1 ≡ suc k = omega arith in size) next.1,
          )

  -- forks and losses
  abbrev ways : List (Edge × Edge)
  ways = decide.pairs g.edges g.edges

  abbrev fork_by : (Edge × Edge) × (Edge × Edge) → Fork
  fork_by k = record { s = k.0.0.from; a = k.0.0.event; c = k.1.0.event; w = k.0.1.to; w2 = k.1.1.to }

  abbrev all_squares : List ((Edge × Edge) × (Edge × Edge))
  all_squares = decide.pairs ways ways

  through : (s : ℕ) (e f : Event) (w : ℕ) → Decided ((t : ℕ) × Step g s e t × Step g t f w)
  through s e f w = elim (decide.some_of (λ (x : Edge). (x.from ≡ s) × ((x.event ≡ e) × Step g x.to f w))
      (λ x. decide.both (cases_eq x.from s) (decide.both (decide.equal_events x.event e) (in_arcs (arc x.to f w))))
      g.edges) [
        | inl (x, there, (from, (event, step))) ↦ inl (
          x.to,
          subst (λ (k : ℕ). Step g k e x.to) from (subst (λ (h : Event). Step g x.from h x.to) event there),
          step,
        )
        | inr none ↦ inr (λ (t, one, other). none (arc s e t, one, (refl, (refl, other))))
      ]

  forks_or_not : (b : Fork) → Decided (Forks g b)
  forks_or_not b = elim (decide.both (decide.less (event_place b.a) (event_place b.c))
      (decide.both (through b.s b.a b.c b.w) (decide.both (through b.s b.c b.a b.w2)
      (decide.not (cases_eq b.w b.w2))))) [
        | inl (order, (first, (second, apart))) ↦
            inl (record { order = order; one = first; other = second; apart = apart })
        | inr not_so ↦ inr (λ f. not_so (f.order, (f.one, (f.other, f.apart))))
      ]

  squares_have : (b : Fork) → Forks g b → Contains (map fork_by all_squares) b
  squares_have b f =
      let x : Edge = arc b.s b.a f.one.0 in
      let y : Edge = arc f.one.0 b.c b.w in
      let z : Edge = arc b.s b.c f.other.0 in
      let q : Edge = arc f.other.0 b.a b.w2 in
      let one = decide.in_pairs g.edges g.edges x y f.one.1 f.one.2 in
      let other = decide.in_pairs g.edges g.edges z q f.other.1 f.other.2 in
      Contains-map fork_by all_squares ((x, y), (z, q)) (decide.in_pairs ways ways (x, y) (z, q) one other)

  -- the forks of one state and two events
  abbrev Like : Fork → Fork → Type 0
  Like b x = Forks g x × (fork_place x ≡ fork_place b)

  like_or_not : (b x : Fork) → Decided (Like b x)
  like_or_not b x = elim (decide.both (forks_or_not x) (decide.both (cases_eq x.s b.s)
      (decide.both (decide.equal_events x.a b.a) (decide.equal_events x.c b.c)))) [
        | inl (forks, (state, (first, second))) ↦ inl (forks, place_of x b state first second)
        | inr not_so ↦ inr (λ like. (let parts = parts_of x b like.1 in
            not_so (like.0, (parts.0, (parts.1, parts.2)))))
      ]

  -- the first of them
  first_like : (b : Fork) → (o : Option Fork) × IsFirstOrNone fork_ends (Like b) o
  first_like b = decide.first_candidate fork_ends (Like b) (λ x. x) (Like b) (like_or_not b) (map fork_by all_squares)
      (λ x at holds. holds) (λ x like. (x, squares_have x like.0, like, refl))

  pub each_fork : (x : Fork) → Forks g x → (b : Fork) × IsFirstFork g b × (fork_place b ≡ fork_place x)
  each_fork x forks = (let found = first_like x in by found.0 found.1)
    where
      by : (o : Option Fork) → IsFirstOrNone fork_ends (Like x) o
          → (b : Fork) × IsFirstFork g b × (fork_place b ≡ fork_place x)
      by None none = absurd (none x (forks, refl))
      by (Some b) is = (
        b,
        record {
          forks = is.holds.0;
          first = λ y also same before. is.none_before y (also, same ∙ is.holds.1) before;
        },
        is.holds.1,
      )

  some_forks : (xs : List Fork) × AreAll fork_place (IsFirstFork g) xs
  some_forks = some_all fork_place (IsFirstFork g) (λ x y. refl) (one_told g) decided (map fork_by all_squares)
      (λ b fork. squares_have b fork.forks)
    where
      same_as : (b d : Fork) → Decided (b ≡ d)
      same_as b d = elim (decide.both (cases_eq b.s d.s) (decide.both (decide.equal_events b.a d.a)
          (decide.both (decide.equal_events b.c d.c) (decide.both (cases_eq b.w d.w) (cases_eq b.w2 d.w2))))) [
            | inl (state, (first, (second, (one, other)))) ↦ inl (same_fork b d state first second one other)
            | inr not_so ↦ inr (λ same. not_so (
              ap (λ (x : Fork). x.s) same,
              (
                ap (λ (x : Fork). x.a) same,
                (ap (λ (x : Fork). x.c) same, (ap (λ (x : Fork). x.w) same, ap (λ (x : Fork). x.w2) same)),
              ),
            ))
          ]

      decided : (b : Fork) → Decided (IsFirstFork g b)
      decided b = elim (forks_or_not b) [
        | inr not_so ↦ inr (λ fork. not_so fork.forks)
        | inl forks ↦ (
            let found = each_fork b forks in
            elim (same_as b found.0) [
              | inl same ↦ inl (subst (IsFirstFork g) (sym same) found.1)
              | inr other ↦ inr (λ fork. other (one_told g b found.0 fork found.1 (sym found.2)))
            ])
      ]

  abbrev loss_by : Edge × Edge → Loss
  loss_by p = record { s = p.0.from; lost = p.0.event; by = p.1.event }

  some_losses : (xs : List Loss) × AreAll loss_place (Loses g) xs
  some_losses = some_all loss_place (Loses g) (λ x y. refl) equal decided (map loss_by ways) among
    where
      equal : (x y : Loss) → Loses g x → Loses g y → loss_place x ≡ loss_place y → x ≡ y
      equal x y p q same =
          let state : x.s ≡ y.s = cc in
          let one : event_place x.lost ≡ event_place y.lost = cc in
          let other : event_place x.by ≡ event_place y.by = cc in
          same_loss x y state (event_from_place x.lost y.lost one) (event_from_place x.by y.by other)

      gone : (s : ℕ) (by lost : Event) → Decided ((t : ℕ) × Step g s by t × (IsTrue (enables g t lost) → ⊥))
      gone s by lost = elim (decide.some_of (λ (x : Edge). (x.from ≡ s) × ((x.event ≡ by)
          × (IsTrue (enables g x.to lost) → ⊥))) (λ x. decide.both (cases_eq x.from s) (decide.both
          (decide.equal_events x.event by) (decide.not (decide.same_value (enables g x.to lost) true)))) g.edges) [
            | inl (x, there, (from, (event, lacks))) ↦ inl (
              x.to,
              subst (λ (k : ℕ). Step g k by x.to) from (subst (λ (h : Event). Step g x.from h x.to) event there),
              lacks,
            )
            | inr none ↦ inr (λ (t, step, lacks). none (arc s by t, step, (refl, (refl, lacks))))
          ]

      decided : (b : Loss) → Decided (Loses g b)
      decided b = elim (decide.both (decide.driven g.signals b.lost.sig) (decide.both
          (decide.same_value (enables g b.s b.lost) true) (decide.both
          (decide.not (decide.equal_events b.lost b.by)) (gone b.s b.by b.lost)))) [
            | inl (driven, (enabled, (another, after))) ↦
                inl (record { non_input = driven; enabled = enabled; by_another = another; after = after })
            | inr not_so ↦ inr (λ l. not_so (l.non_input, (l.enabled, (l.by_another, l.after))))
          ]

      among : (b : Loss) → Loses g b → Contains (map loss_by ways) b
      among b l =
          let to = step_from_enables g b.s b.lost l.enabled in
          let x : Edge = arc b.s b.lost to.0 in
          let y : Edge = arc b.s b.by l.after.0 in
          Contains-map loss_by ways (x, y) (decide.in_pairs g.edges g.edges x y to.1 l.after.1)

pub some_breach_text : (g : StateGraph) (states dropped : List (List ℕ)) → IsGraph g → IsConnected g
    → (text : List ℕ) × IsBreachText g states dropped text
some_breach_text g states dropped is connected =
    let ways = some_first_ways g connected in
    let splits = some_splits g is in
    let clashes = some_clashes g is ways.0 in
    let forks = some_forks g is in
    let losses = some_losses g is in
    let breaches : Breaches = record {
      splits = splits.0;
      clashes = clashes.0;
      forks = forks.0;
      losses = losses.0;
    } in (
      breach_text g.signals states dropped ways.0 breaches,
      record {
        walk = ways.0;
        walks = ways.1;
        breaches = breaches;
        are = record { splits = splits.1; clashes = clashes.1; forks = forks.1; losses = losses.1 };
        text_is = refl;
      },
    )
