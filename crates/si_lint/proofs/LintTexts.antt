-- A graph with names for its states has one report.
use Rattle.std.proofs.Common.{◌≡◌, ◌≢◌, ℕ, zero, suc, ◌<◌, ◌≤◌, ◌⊎◌, true, List, [], ◌∷◌, map, take, length, Contains, IsTrue, Some}
use Rattle.std.proofs.Common.{None, Option, refl, sym, ap, ap₂, subst, ◌∙◌, arith, inl, inr, slice_index}
use Rattle.std.proofs.lemmas.Bool.{cases_lt, cases_eq}
use Rattle.std.proofs.lemmas.List.{length-take, get_or-take}
use Rattle.si_base.specs.declared.ids.Event.{Event}
use Rattle.si_base.specs.declared.graph.Edge.{Edge}
use Rattle.si_base.specs.Graph.{StateGraph, Step, IsGraph, arc, enables, event_place}
use Rattle.si_base.specs.Codes.{CodedGraph, IsCoded, code, IsIdle, IsConnected, IsDeterministic}
use Rattle.si_base.specs.Proper.{Loss, loss_place, pair_place, IsConflict}
use Rattle.si_base.proofs.GraphSteps.{step_from_enables}
use Rattle.si_base.proofs.StepCodes.{step_within}
use Rattle.si_carried.specs.Always.{IsDead}
use Rattle.si_carried.specs.Lint.{IsUnused, IsDeadState, IsOneWay, Withdraws, IsChoice, IsDisabling, IsSameCode}
use Rattle.si_carried.proofs.DecidingWalks.{leads_decided}
use Rattle.si_graph.proofs.OrderLemmas.{event_from_place}
use Rattle.si_checks.proofs.SearchDecisions as decide
use Rattle.si_checks.proofs.SearchDecisions.{Decided}
use Rattle.si_conflicts.specs.Conflicts.{AreFirstConflicts}
use Rattle.si_conflicts.proofs.ConflictsExist.{some_conflicts, some_first}
use Rattle.si_conflicts.proofs.OneConflictList.{first_unique}
use Rattle.si_fold.specs.Alike.{IsLeastAlike}
use Rattle.si_fold.specs.Folded.{IsClassOf}
use Rattle.si_fold.proofs.FoldedExists.{some_folded}
use Rattle.si_graph.proofs.ListMembers.{Contains-here, Contains-there, Contains-map}
use Rattle.si_told.specs.All.{AreAll, number_place, arc_place}
use Rattle.si_lint.specs.Findings.{IsMerged, merged_place, IsJoinedOfFirst, IsUnresolvable, max_looked_at}
use Rattle.si_lint.specs.Findings.{Findings, AreFindings}
use Rattle.si_told.specs.ToldLines.{max_told, kind_lines}
use Rattle.si_lint.specs.LintText.{AreFirstWalks, dead_line, one_way_line, lint_text, IsLintText}
use Rattle.si_told.proofs.Alls.{one_all}
use Rattle.si_told.proofs.AllsExist.{some_all}
use Rattle.si_lint.proofs.MergedLemmas.{one_least, same_pair}
use Rattle.si_lint.proofs.WithdrawalLemmas.{same_loss}
use Rattle.si_walks.specs.declared.arcs.Arcs.TheVariants.{All, OfInputs}
use Rattle.si_walks.specs.Joined.{Source, IsSourceOrNone, IsJoinedConflict}
use Rattle.si_walks.proofs.FirstWalks.{one_first_walk}
use Rattle.si_walks.proofs.FirstPaths.{some_way_to, way_is_first_walk}
use Rattle.si_walks.specs.Paths.{IsWayTo}
use Rattle.si_walks.specs.Twins.{IsTwinConflict, max_twin_states}
use Rattle.si_walks.proofs.TwinsDecided.{twins_or_not}
use Rattle.si_told.specs.Loops.Lines.{AreWays}
use Rattle.si_walks.proofs.SourceLemmas.{some_source_or_none}
use Rattle.si_walks.proofs.WalkEvents.{taken}

-- ---- one text at most
pub one_findings : (c : CodedGraph) (f h : Findings) → AreFindings c f → AreFindings c h → f ≡ h
one_findings c f h are also =
    let unused = one_all number_place (IsUnused c.graph) f.unused h.unused are.unused also.unused in
    let dead = one_all number_place (IsDeadState c.graph) f.dead h.dead are.dead also.dead in
    let one_way = one_all arc_place (IsOneWay c.graph) f.one_way h.one_way are.one_way also.one_way in
    let choices = one_all loss_place (IsChoice c.graph) f.choices h.choices are.choices also.choices in
    let disablings =
    one_all loss_place (IsDisabling c.graph) f.disablings h.disablings are.disablings also.disablings in
    let same_codes = one_all pair_place (IsSameCode c) f.same_codes h.same_codes are.same_codes also.same_codes in
    let merged = one_all merged_place (IsMerged c) f.merged h.merged are.merged also.merged in
    let unresolvable =
    one_all pair_place (IsUnresolvable c) f.unresolvable h.unresolvable are.unresolvable also.unresolvable in
    λ i. record {
      unused = unused i;
      dead = dead i;
      one_way = one_way i;
      choices = choices i;
      disablings = disablings i;
      same_codes = same_codes i;
      merged = merged i;
      unresolvable = unresolvable i;
    }

-- two functions that agree on the items of a list
map_agrees : {A B : Type 0} (f h : A → B) (xs : List A) → ((x : A) → Contains xs x → f x ≡ h x) → map f xs ≡ map h xs
map_agrees f h [] same = refl
map_agrees {A} {B} f h (x ∷ xs) same = ap₂ (λ (y : B) (ys : List B). y ∷ ys) (same x (Contains-here x xs))
    (map_agrees f h xs (λ y there. same y (Contains-there x xs y there)))

in_take : {A : Type 0} (n : ℕ) (xs : List A) (x : A) → Contains (take n xs) x → Contains xs x
in_take n xs x (i, within, at) =
    let size = length-take n xs in
    (i, omega arith, sym (get_or-take n xs i x (omega arith)) ∙ at)

-- the walks to states of the graph are the same
module _ (c : CodedGraph) (states dropped : List (List ℕ)) (walk other : ℕ → List Event)
    (walks : AreFirstWalks c.graph walk) (also : AreFirstWalks c.graph other) (f : Findings) (are : AreFindings c f) where
  same_walk : (s : ℕ) → s < c.graph.states → walk s ≡ other s
  same_walk s within =
      one_first_walk c.graph All c.graph.start s (walk s) (other s) (walks s within) (also s within)

  same_dead : kind_lines (dead_line c.graph.signals states walk) f.dead
      ≡ kind_lines (dead_line c.graph.signals states other) f.dead
  same_dead = map_agrees (dead_line c.graph.signals states walk) (dead_line c.graph.signals states other)
      (take max_told f.dead) (λ s there. (
      let is = (are.dead.exactly s).0 (in_take max_told f.dead s there) in
      ap (λ (es : List Event). dead_line c.graph.signals states (λ t. es) s) (same_walk s is.within)))

  same_one_way : IsGraph c.graph → kind_lines (one_way_line c.graph.signals states walk) f.one_way
      ≡ kind_lines (one_way_line c.graph.signals states other) f.one_way
  same_one_way graph = map_agrees (one_way_line c.graph.signals states walk)
      (one_way_line c.graph.signals states other) (take max_told f.one_way) (λ a there. (
      let is = (are.one_way.exactly a).0 (in_take max_told f.one_way a there) in
      let within = step_within c.graph a.from a.event a.to graph is.step in
      ap (λ (es : List Event). one_way_line c.graph.signals states (λ t. es) a) (same_walk a.from within.0)))

  pub same_text : IsGraph c.graph
      → lint_text c.graph.signals states dropped walk f ≡ lint_text c.graph.signals states dropped other f
  unfolding lint_text
  same_text graph = rw (same_dead, same_one_way graph) refl

pub one_lint_text : (c : CodedGraph) (states dropped : List (List ℕ)) (x y : List ℕ) → IsCoded c
    → IsLintText c states dropped x → IsLintText c states dropped y → x ≡ y
one_lint_text c states dropped x y coded a b =
    let same = one_findings c a.findings b.findings a.are b.are in
    a.text_is ∙ same_text c states dropped a.walk b.walk a.walks b.walks a.findings a.are coded.graph_is
    ∙ ap (lint_text c.graph.signals states dropped b.walk) same ∙ sym b.text_is

-- ---- some walks
pub some_ways : (g : StateGraph) → IsConnected g → (walk : ℕ → List Event) × AreWays g walk
some_ways g connected = (
  (λ s. picked s (cases_lt s g.states)),
  (λ s within. picked_is s (cases_lt s g.states) within),
)
  where
    picked : (s : ℕ) → (s < g.states) ⊎ (g.states ≤ s) → List Event
    picked s (inl within) = (some_way_to g connected s within).0
    picked s (inr past) = []

    picked_is : (s : ℕ) (d : (s < g.states) ⊎ (g.states ≤ s)) → s < g.states → IsWayTo g s (picked s d)
    picked_is s (inl within) small = (some_way_to g connected s within).1
    picked_is s (inr past) small = absurd (omega arith)

pub ways_are_walks : (g : StateGraph) (walk : ℕ → List Event) → IsDeterministic g → AreWays g walk
    → AreFirstWalks g walk
ways_are_walks g walk one ways s within = way_is_first_walk g s (walk s) one (ways s within)

-- ---- all numbers below another
abbrev below : ℕ → List ℕ
below zero = []
below (suc n) = n ∷ below n

in_below : (n s : ℕ) → s < n → Contains (below n) s
in_below zero s within = absurd (omega arith)
in_below (suc n) s within = elim (cases_eq s n) [
  | inl same ↦ subst (Contains (n ∷ below n)) (sym same) (Contains-here n (below n))
  | inr other ↦ Contains-there n (below n) s (in_below n s (omega arith))
]

-- ---- some of each kind
module _ (g : StateGraph) (is : IsGraph g) where
  idle : (a : ℕ) → Decided (IsIdle g a)
  idle a = elim (decide.some_of (λ (b : Edge). b.event.sig ≡ a) (λ b. cases_eq b.event.sig a) g.edges) [
    | inl (b, there, same) ↦ inr (λ idle_a. idle_a b.from b.event b.to there same)
    | inr none ↦ inl (λ s e t step same. none (arc s e t, step, same))
  ]

  some_unused : (xs : List ℕ) × AreAll number_place (IsUnused g) xs
  some_unused = some_all number_place (IsUnused g) (λ x y. refl) (λ x y p q same. cc) decided (below (length g.signals))
      (λ a unused. in_below (length g.signals) a unused.within)
    where
      decided : (a : ℕ) → Decided (IsUnused g a)
      decided a = elim (decide.both (decide.less a (length g.signals)) (idle a)) [
        | inl (within, is_idle) ↦ inl (record { within = within; idle = is_idle })
        | inr not_so ↦ inr (λ unused. not_so (unused.within, unused.idle))
      ]

  dead_at : (s : ℕ) → Decided (IsDead g s)
  dead_at s = elim (decide.some_of (λ (b : Edge). b.from ≡ s) (λ b. cases_eq b.from s) g.edges) [
    | inl (b, there, same) ↦ inr (λ dead. dead b.event b.to (subst (λ (k : ℕ). Step g k b.event b.to) same there))
    | inr none ↦ inl (λ e t step. none (arc s e t, step, refl))
  ]

  some_dead : (xs : List ℕ) × AreAll number_place (IsDeadState g) xs
  some_dead = some_all number_place (IsDeadState g) (λ x y. refl) (λ x y p q same. cc) decided (below g.states)
      (λ s dead. in_below g.states s dead.within)
    where
      decided : (s : ℕ) → Decided (IsDeadState g s)
      decided s = elim (decide.both (decide.less s g.states) (dead_at s)) [
        | inl (within, is_dead) ↦ inl (record { within = within; dead = is_dead })
        | inr not_so ↦ inr (λ dead. not_so (dead.within, dead.dead))
      ]

  equal_arcs : (x y : Edge) → arc_place x ≡ arc_place y → x ≡ y
  equal_arcs x y same =
      let from : x.from ≡ y.from = cc in
      let place : event_place x.event ≡ event_place y.event = cc in
      let to : x.to ≡ y.to = cc in
      let event = event_from_place x.event y.event place in
      λ i. record { from = from i; event = event i; to = to i }

  in_arcs : (a : Edge) → Decided (Contains g.edges a)
  in_arcs a = elim (decide.some_of (λ (b : Edge). arc_place b ≡ arc_place a) same_place g.edges) [
    | inl (b, there, same) ↦ inl (subst (Contains g.edges) (equal_arcs b a same) there)
    | inr none ↦ inr (λ there. none (a, there, refl))
  ]
    where
      same_place : (b : Edge) → Decided (arc_place b ≡ arc_place a)
      same_place b = elim (decide.both (cases_eq b.from a.from) (decide.both (cases_eq (event_place b.event)
          (event_place a.event)) (cases_eq b.to a.to))) [
            | inl (from, (event, to)) ↦ inl (λ i. from i ∷ event i ∷ to i ∷ [])
            | inr not_so ↦ inr (λ same. not_so ((cc), ((cc), (cc))))
          ]

  some_one_way : (xs : List Edge) × AreAll arc_place (IsOneWay g) xs
  some_one_way = some_all arc_place (IsOneWay g) (λ x y. refl) (λ x y p q same. equal_arcs x y same) decided g.edges
      (λ a way. way.step)
    where
      decided : (a : Edge) → Decided (IsOneWay g a)
      decided a = elim (decide.both (in_arcs a) (decide.both (leads_decided g a.from g.start)
          (decide.not (leads_decided g a.to g.start)))) [
            | inl (step, (back, lost)) ↦ inl (record { step = step; back = back; lost = lost })
            | inr not_so ↦ inr (λ way. not_so (way.step, (way.back, way.lost)))
          ]

  -- ---- input events that another event disables
  abbrev Gone : Loss → Edge → Type 0
  Gone b a = (a.from ≡ b.s) × ((a.event ≡ b.by) × (IsTrue (enables g a.to b.lost) → ⊥))

  gone : (b : Loss) (a : Edge) → Decided (Gone b a)
  gone b a = decide.both (cases_eq a.from b.s) (decide.both (decide.equal_events a.event b.by)
      (decide.not (decide.same_value (enables g a.to b.lost) true)))

  after : (b : Loss) → Decided ((t : ℕ) × Step g b.s b.by t × (IsTrue (enables g t b.lost) → ⊥))
  after b = elim (decide.some_of (Gone b) (gone b) g.edges) [
    | inl (a, there, (from, (event, lost))) ↦ inl (
      a.to,
      subst (λ (e : Event). Step g b.s e a.to) event (subst (λ (s : ℕ). Step g s a.event a.to) from there),
      lost,
    )
    | inr none ↦ inr (λ (t, step, lost). none (arc b.s b.by t, step, (refl, (refl, lost))))
  ]

  withdraws : (b : Loss) → Decided (Withdraws g b)
  withdraws b = elim (decide.both (taken g OfInputs b.lost) (decide.both (decide.same_value (enables g b.s b.lost) true)
      (decide.both (decide.not (decide.equal_events b.lost b.by)) (after b)))) [
        | inl (input, (enabled, (other, gone_after))) ↦ inl (record {
          signal = input.0;
          named = input.1;
          input = input.2;
          enabled = enabled;
          by_another = other;
          after = gone_after;
        })
        | inr not_so ↦ inr (λ w. not_so ((w.signal, w.named, w.input), (w.enabled, (w.by_another, w.after))))
      ]

  equal_losses : (x y : Loss) → loss_place x ≡ loss_place y → x ≡ y
  equal_losses x y same =
      let state : x.s ≡ y.s = cc in
      let lost : event_place x.lost ≡ event_place y.lost = cc in
      let by : event_place x.by ≡ event_place y.by = cc in
      same_loss x y state (event_from_place x.lost y.lost lost) (event_from_place x.by y.by by)

  -- what two arcs tell
  abbrev loss_by : Edge × Edge → Loss
  loss_by p = record { s = p.0.from; lost = p.0.event; by = p.1.event }

  all_losses : List Loss
  all_losses = map loss_by (decide.pairs g.edges g.edges)

  in_losses : (b : Loss) → Withdraws g b → Contains all_losses b
  unfolding all_losses
  in_losses b w =
      let to = step_from_enables g b.s b.lost w.enabled in
      let one : Edge = arc b.s b.lost to.0 in
      let other : Edge = arc b.s b.by w.after.0 in
      Contains-map loss_by (decide.pairs g.edges g.edges) (one, other)
      (decide.in_pairs g.edges g.edges one other to.1 w.after.1)

  some_choices : (xs : List Loss) × AreAll loss_place (IsChoice g) xs
  some_choices = some_all loss_place (IsChoice g) (λ x y. refl) (λ x y p q same. equal_losses x y same) decided
      all_losses (λ b choice. in_losses b choice.withdraws)
    where
      decided : (b : Loss) → Decided (IsChoice g b)
      decided b = elim (decide.both (withdraws b) (decide.not (decide.driven g.signals b.by.sig))) [
        | inl (w, input) ↦ inl (record { withdraws = w; by_input = input })
        | inr not_so ↦ inr (λ choice. not_so (choice.withdraws, choice.by_input))
      ]

  some_disablings : (xs : List Loss) × AreAll loss_place (IsDisabling g) xs
  some_disablings = some_all loss_place (IsDisabling g) (λ x y. refl) (λ x y p q same. equal_losses x y same) decided
      all_losses (λ b disabling. in_losses b disabling.withdraws)
    where
      decided : (b : Loss) → Decided (IsDisabling g b)
      decided b = elim (decide.both (withdraws b) (decide.driven g.signals b.by.sig)) [
        | inl (w, driven) ↦ inl (record { withdraws = w; by_driven = driven })
        | inr not_so ↦ inr (λ disabling. not_so (disabling.withdraws, disabling.by_driven))
      ]

-- ---- pairs of states
module _ (c : CodedGraph) (coded : IsCoded c) where
  abbrev n : ℕ
  n = c.graph.states

  equal_pairs : (x y : ℕ × ℕ) → pair_place x ≡ pair_place y → x ≡ y
  equal_pairs x y same =
      let first : x.0 ≡ y.0 = cc in
      let second : x.1 ≡ y.1 = cc in
      same_pair x y first second

  all_pairs : List (ℕ × ℕ)
  all_pairs = decide.pairs (below n) (below n)

  in_all : (pair : ℕ × ℕ) → pair.0 < n → pair.1 < n → Contains all_pairs pair
  unfolding all_pairs
  in_all pair first second =
      decide.in_pairs (below n) (below n) pair.0 pair.1 (in_below n pair.0 first) (in_below n pair.1 second)

  among : (pairs : List (ℕ × ℕ)) (pair : ℕ × ℕ) → Decided (Contains pairs pair)
  among pairs pair = elim (decide.some_of (λ (x : ℕ × ℕ). (x.0 ≡ pair.0) × (x.1 ≡ pair.1))
      (λ x. decide.both (cases_eq x.0 pair.0) (cases_eq x.1 pair.1)) pairs) [
        | inl (x, there, (first, second)) ↦ inl (subst (Contains pairs) (same_pair x pair first second) there)
        | inr none ↦ inr (λ there. none (pair, there, (refl, refl)))
      ]

  conflict : (pair : ℕ × ℕ) → Decided (IsConflict c pair)
  conflict pair =
      let all = some_conflicts c in
      elim (among all.0 pair) [
        | inl there ↦ inl ((all.1.exactly pair).0 there)
        | inr none ↦ inr (λ is. none ((all.1.exactly pair).1 is))
      ]

  some_same_codes : (xs : List (ℕ × ℕ)) × AreAll pair_place (IsSameCode c) xs
  some_same_codes = some_all pair_place (IsSameCode c) (λ x y. refl) (λ x y p q same. equal_pairs x y same) decided
      all_pairs (λ pair is. in_all pair (omega (arith, is.order, is.within)) is.within)
    where
      apart : (pair : ℕ × ℕ) (u : ℕ) → Decided (pair.0 < u → code c pair.0 ≢ code c u)
      apart pair u = elim (decide.both (decide.less pair.0 u) (cases_eq (code c pair.0) (code c u))) [
        | inl (after, same) ↦ inr (λ differ. differ after same)
        | inr not_so ↦ inl (λ after same. not_so (after, same))
      ]

      decided : (pair : ℕ × ℕ) → Decided (IsSameCode c pair)
      decided pair = elim (decide.both (decide.less pair.0 pair.1) (decide.both (decide.less pair.1 n)
          (decide.both (cases_eq (code c pair.0) (code c pair.1)) (decide.both
          (decide.all_below (λ u. pair.0 < u → code c pair.0 ≢ code c u) (apart pair) pair.1)
          (decide.not (conflict pair)))))) [
            | inl (order, (within, (same, (next, none)))) ↦ inl (record {
              order = order;
              within = within;
              same = same;
              next = λ u past before. next u before past;
              no_conflict = none;
            })
            | inr not_so ↦ inr (λ is. not_so (
              is.order,
              (
                is.within,
                (
                  is.same,
                  ((λ u before past. is.next u past before), is.no_conflict),
                ),
              ),
            ))
          ]

  some_merged : (xs : List (ℕ × ℕ)) × AreAll merged_place (IsMerged c) xs
  some_merged = some_all merged_place (IsMerged c) (λ x y. refl) equal decided all_pairs
      (λ pair is. in_all pair is.least.alike.other_within is.least.alike.one_within)
    where
      equal : (x y : ℕ × ℕ) → IsMerged c x → IsMerged c y → merged_place x ≡ merged_place y → x ≡ y
      equal x y p q same =
          let second : x.1 ≡ y.1 = cc in
          let first : x.0 ≡ y.0 = one_least c y.1 x.0 y.0
          (subst (λ (t : ℕ). IsMerged c (x.0, t)) second p).least q.least in
          same_pair x y first second

      merges : (pair : ℕ × ℕ) (kept : List ℕ) (k : ℕ) → IsClassOf c kept pair.1 k → Decided (IsMerged c pair)
      merges pair kept k of = elim (decide.both (cases_eq of.0 pair.0) (decide.not (cases_eq pair.0 pair.1))) [
        | inl (same, other) ↦ inl (record {
          least = subst (IsLeastAlike c pair.1) same of.1;
          other = other;
        })
        | inr not_so ↦ inr (λ is. not_so (one_least c pair.1 of.0 pair.0 of.1 is.least, is.other))
      ]

      decided : (pair : ℕ × ℕ) → Decided (IsMerged c pair)
      decided pair =
          let folded = some_folded c coded in
          elim (cases_lt pair.1 n) [
            | inl within ↦
                merges pair folded.0 (slice_index folded.1 pair.1) (folded.3.classes.each pair.1 within)
            | inr past ↦ inr (λ is. absurd (omega (arith, is.least.alike.one_within)))
          ]

  joined : (pair : ℕ × ℕ) → IsConflict c pair → Decided (IsJoinedConflict c pair)
  joined pair conflict_is =
      let source = some_source_or_none c pair.0 pair.1 coded (omega (arith, conflict_is.order, conflict_is.within))
      conflict_is.within in
      by source.0 source.1
    where
      by : (source : Option Source) → IsSourceOrNone c pair source → Decided (IsJoinedConflict c pair)
      by None none = inr (λ is. none
          (record { state = is.source; first = is.to_first.0; second = is.to_second.0 })
          (record { to_first = is.to_first.1; to_second = is.to_second.1 }))
      by (Some y) is = inl (record {
        conflict = conflict_is;
        source = y.state;
        to_first = (y.first, is.is_first.holds.to_first);
        to_second = (y.second, is.is_first.holds.to_second);
      })

  some_unresolvable : (xs : List (ℕ × ℕ)) × AreAll pair_place (IsUnresolvable c) xs
  some_unresolvable = some_all pair_place (IsUnresolvable c) (λ x y. refl) (λ x y p q same. equal_pairs x y same)
      decided all_pairs (λ pair is. into pair is)
    where
      first : (pairs : List (ℕ × ℕ)) × AreFirstConflicts c max_looked_at pairs
      first = some_first c max_looked_at

      listed : (pair : ℕ × ℕ) → IsJoinedOfFirst c pair → Contains first.0 pair
      listed pair is = subst (λ (l : List (ℕ × ℕ)). Contains l pair)
          (first_unique c max_looked_at is.looked_at first.0 is.first first.1) is.among

      within : (pair : ℕ × ℕ) → IsConflict c pair → Contains all_pairs pair
      within pair is = in_all pair (omega (arith, is.order, is.within)) is.within

      into : (pair : ℕ × ℕ) → IsUnresolvable c pair → Contains all_pairs pair
      into pair is = elim is [
        | inl twins ↦ within pair twins.1.conflict
        | inr large ↦ within pair large.1.joined.conflict
      ]

      joined_first : (pair : ℕ × ℕ) → Decided (IsJoinedOfFirst c pair)
      joined_first pair = elim (among first.0 pair) [
        | inl there ↦ elim (joined pair (first.1.each pair there)) [
          | inl is ↦ inl (record { joined = is; looked_at = first.0; first = first.1; among = there })
          | inr is_not ↦ inr (λ is. is_not is.joined)
        ]
        | inr none ↦ inr (λ is. none (listed pair is))
      ]

      of_twins : (pair : ℕ × ℕ) → Decided (IsTwinConflict c pair)
      of_twins pair = elim (conflict pair) [
        | inl is ↦ elim (twins_or_not c coded pair.0 pair.1 (omega (arith, is.order, is.within)) is.within) [
          | inl twins ↦ inl (record { conflict = is; twins = twins })
          | inr apart ↦ inr (λ both. apart both.twins)
        ]
        | inr is_not ↦ inr (λ both. is_not both.conflict)
      ]

      decided : (pair : ℕ × ℕ) → Decided (IsUnresolvable c pair)
      decided pair = elim (cases_lt max_twin_states n) [
        | inl many ↦ elim (joined_first pair) [
          | inl is ↦ inl (inr (many, is))
          | inr is_not ↦ inr (λ is. elim is [
            | inl twins ↦ absurd (omega (arith, many, twins.0))
            | inr large ↦ is_not large.1
          ])
        ]
        | inr few ↦ elim (of_twins pair) [
          | inl is ↦ inl (inl (few, is))
          | inr is_not ↦ inr (λ is. elim is [
            | inl twins ↦ is_not twins.1
            | inr large ↦ absurd (omega (arith, few, large.0))
          ])
        ]
      ]

pub some_lint_text : (c : CodedGraph) (states dropped : List (List ℕ)) → IsCoded c
    → (text : List ℕ) × IsLintText c states dropped text
some_lint_text c states dropped coded =
    let g = c.graph in
    let is = coded.graph_is in
    let unused = some_unused g is in
    let dead = some_dead g is in
    let one_way = some_one_way g is in
    let choices = some_choices g is in
    let disablings = some_disablings g is in
    let same_codes = some_same_codes c coded in
    let merged = some_merged c coded in
    let unresolvable = some_unresolvable c coded in
    let walks = some_ways g coded.connected in
    let findings : Findings = record {
      unused = unused.0;
      dead = dead.0;
      one_way = one_way.0;
      choices = choices.0;
      disablings = disablings.0;
      same_codes = same_codes.0;
      merged = merged.0;
      unresolvable = unresolvable.0;
    } in (
      lint_text g.signals states dropped walks.0 findings,
      record {
        findings = findings;
        are = record {
          unused = unused.1;
          dead = dead.1;
          one_way = one_way.1;
          choices = choices.1;
          disablings = disablings.1;
          same_codes = same_codes.1;
          merged = merged.1;
          unresolvable = unresolvable.1;
        };
        walk = walks.0;
        walks = ways_are_walks g walks.0 coded.deterministic walks.1;
        text_is = refl;
      },
    )
