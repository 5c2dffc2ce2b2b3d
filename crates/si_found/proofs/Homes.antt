-- What a graph can always do stays so through insertions, to the very start.
use Rattle.std.proofs.Common.{◌≡◌, ℕ, ◌<◌, ◌⊎◌, Bool, true, false, not, List, [], ◌∷◌, ◌++◌, refl, sym, ap, ap₂, subst, ◌∙◌}
use Rattle.std.proofs.Common.{length, slice_get, Option, Some, inl, inr}
use Rattle.std.proofs.lemmas.Bool.{true≢false}
use Rattle.si_base.specs.declared.ids.Event.{Event}
use Rattle.si_base.specs.Graph.{StateGraph, Step, Walk, IsReachable, IsGraph}
use Rattle.si_base.specs.Codes.{CodedGraph, IsCoded}
use Rattle.si_base.specs.Netlist.{Netlist}
use Rattle.si_base.specs.System.{State, Runs, IsReached, start}
use Rattle.si_base.proofs.RightGateLemmas.{step_within}
use Rattle.si_insert.specs.declared.partition.Class.{Class}
use Rattle.si_insert.specs.declared.partition.Class.TheVariants.{Low, Rising, High, Falling}
use Rattle.si_insert.specs.declared.lineage.TraceStep.{TraceStep}
use Rattle.si_insert.specs.Partition.{class_of, may_lead}
use Rattle.si_insert.specs.Insertion as insertion
use Rattle.si_insert.specs.Insertion.{Copy, IsCopied, IsSwitch, entry, switching, waits, new_signal}
use Rattle.si_insert.specs.Lineage.{Current, History, Keeps, Inserts, Grows, given_current}
use Rattle.si_insert.proofs.PartitionClasses.{waits_switching, goes_after}
use Rattle.si_insert.proofs.AcceptedLosses.{goes_or_waits}
use Rattle.si_insert.proofs.InsertionCopies.{copy, is_copy, one_place, placed}
use Rattle.si_insert.proofs.InsertionProper.{leads, goes_on}
use Rattle.si_insert.proofs.InsertionKeeps.{keeps_first, keeps_next}
use Rattle.si_insert.proofs.LineageChain.{IsCircuit, Stands, fires_step, step_fires, reached_stands}
use Rattle.si_carried.specs.Always.{NeverStops, Leads, IsHome, CircuitNeverStops}
use Rattle.si_found.specs.Found.{Fits}
use Rattle.si_found.proofs.Peeling.{Made, made_of, CopyAt, the_copy, copy_place, step_of, step_in}
use Rattle.si_found.proofs.OneLineage.{circuit, lineage_of}
use Rattle.si_found.proofs.Twins.{state_reached, stands_start}

-- a reachable state is within the graph
walks_on : (g : StateGraph) (s : ℕ) (es : List Event) (t : ℕ) (fs : List Event) (u : ℕ)
    → Walk g s es t → Walk g t fs u → Walk g s (es ++ fs) u
walks_on g s [] t fs u one other = let P : ℕ → Type 0 = λ w. Walk g w fs u in subst P (sym one) other
walks_on g s (e ∷ es) t fs u one other = (one.0, one.1, walks_on g one.0 es t fs u one.2 other)

walk_within : (g : StateGraph) → IsGraph g → (s : ℕ) (es : List Event) (t : ℕ) → s < g.states → Walk g s es t → t < g.states
walk_within g is s [] t small walk = subst (λ (i : ℕ). i < g.states) walk small
walk_within g is s (e ∷ es) t small walk =
    walk_within g is walk.0 es t (step_within g s e walk.0 is walk.1).2 walk.2

reached_within : (g : StateGraph) → IsGraph g → (k : ℕ) → IsReachable g k → k < g.states
reached_within g is k reachable = walk_within g is g.start reachable.0 k is.starts reachable.1

-- ---- walks are lifted to copies
-- the copy's value is that with which its class is entered, or the class and the value are those of before
abbrev Arrives : Class → Bool → Class → Bool → Type 0
Arrives s b t v = (v ≡ entry t) ⊎ ((t ≡ s) × (v ≡ b))

arrives_going : (s t : Class) (b : Bool) → may_lead s t ≡ true → insertion.has_copy s b ≡ true → waits s t b ≡ false
    → Arrives s b t b
arrives_going Low Low false law there goes = inl refl
arrives_going Low Rising false law there goes = inl refl
arrives_going Low High b law there goes = absurd (true≢false (sym law))
arrives_going Low Falling b law there goes = absurd (true≢false (sym law))
arrives_going Low t true law there goes = absurd (true≢false (sym there))
arrives_going Rising Low b law there goes = absurd (true≢false (sym law))
arrives_going Rising Rising b law there goes = inr (refl, refl)
arrives_going Rising High true law there goes = inl refl
arrives_going Rising High false law there goes = absurd (true≢false goes)
arrives_going Rising Falling true law there goes = inl refl
arrives_going Rising Falling false law there goes = absurd (true≢false goes)
arrives_going High Low b law there goes = absurd (true≢false (sym law))
arrives_going High Rising b law there goes = absurd (true≢false (sym law))
arrives_going High High true law there goes = inl refl
arrives_going High Falling true law there goes = inl refl
arrives_going High t false law there goes = absurd (true≢false (sym there))
arrives_going Falling Low false law there goes = inl refl
arrives_going Falling Low true law there goes = absurd (true≢false goes)
arrives_going Falling Rising false law there goes = inl refl
arrives_going Falling Rising true law there goes = absurd (true≢false goes)
arrives_going Falling High b law there goes = absurd (true≢false (sym law))
arrives_going Falling Falling b law there goes = inr (refl, refl)

arrives_late : (s t : Class) (b : Bool) → may_lead s t ≡ true → waits s t b ≡ true → not b ≡ entry t
arrives_late Low t b law late = absurd (true≢false (sym late))
arrives_late High t b law late = absurd (true≢false (sym late))
arrives_late Rising Low b law late = absurd (true≢false (sym law))
arrives_late Rising Rising b law late = absurd (true≢false (sym late))
arrives_late Rising High true law late = absurd (true≢false (sym late))
arrives_late Rising High false law late = refl
arrives_late Rising Falling true law late = absurd (true≢false (sym late))
arrives_late Rising Falling false law late = refl
arrives_late Falling Low true law late = refl
arrives_late Falling Low false law late = absurd (true≢false (sym late))
arrives_late Falling Rising true law late = refl
arrives_late Falling Rising false law late = absurd (true≢false (sym late))
arrives_late Falling High b law late = absurd (true≢false (sym law))
arrives_late Falling Falling b law late = absurd (true≢false (sym late))

arrives_on : (s u t : Class) (b a v : Bool) → Arrives s b u a → Arrives u a t v → Arrives s b t v
arrives_on s u t b a v one (inl is) = inl is
arrives_on s u t b a v (inl is) (inr same) = inl (same.1 ∙ is ∙ ap entry (sym same.0))
arrives_on s u t b a v (inr is) (inr same) = inr (same.0 ∙ is.0, same.1 ∙ is.1)

-- from the copy (s,b) a walk to t leads to a copy (t,v)
record Lifted (given : CodedGraph) (w : Current) (p : TraceStep) (v : Current) (m : Made given w p v) (k s t : ℕ) (b : Bool)
    : Type 0 where
  end : ℕ
  value : Bool
  at : CopyAt w p v m.copies end (copy t value)
  leads : Leads v.coded.graph k end
  arrives : Arrives (class_of p.partition s) b (class_of p.partition t) value

-- one arc
one_arc : (given : CodedGraph) (w : Current) (p : TraceStep) (v : Current) (m : Made given w p v) (k s : ℕ) (b : Bool)
    (e : Event) (t : ℕ) → CopyAt w p v m.copies k (copy s b) → insertion.has_copy (class_of p.partition s) b ≡ true
    → Step w.coded.graph s e t → Lifted given w p v m k s t b
one_arc given w p v m k s b e t at there step =
    let g = w.coded.graph in
    let x = copy s b in
    let law = m.lawful.arcs s e t step in
    let parts = step_within g s e t m.keeps.coded.graph_is step in
    elim (goes_or_waits g p.partition x e t step) [
      | inl copied ↦
          (let on =
          goes_on g p.partition (new_signal p.name) m.copies m.graph k e x (copy t b) m.keeps.coded.graph_is m.lawful
          m.inserted at.at (inl copied) in
          record {
            end = on.0;
            value = b;
            at = copy_place given w p v m on.0 (copy t b) on.1 parts.2;
            leads = (e ∷ [], (on.0, step_of given w p v m k e on.0 on.2, refl));
            arrives = arrives_going (class_of p.partition s) (class_of p.partition t) b law there copied.goes;
          })
      | inr late ↦
          (let f : Event = record { sig = length g.signals; up = not b } in
          let z = copy s (not b) in
          let switch : IsSwitch g p.partition x f z =
          record {
            new = refl;
            stays = refl;
            from = twice b;
            to = refl;
            class = waits_switching (class_of p.partition s) (class_of p.partition t) b late;
          } in
          let on =
          goes_on g p.partition (new_signal p.name) m.copies m.graph k f x z m.keeps.coded.graph_is m.lawful m.inserted
          at.at (inr switch) in
          let copied : IsCopied g p.partition z e (copy t (not b)) =
          record { step = step; keeps = refl; goes = goes_after (class_of p.partition s) (class_of p.partition t) b late } in
          let next =
          goes_on g p.partition (new_signal p.name) m.copies m.graph on.0 e z (copy t (not b)) m.keeps.coded.graph_is
          m.lawful m.inserted on.1 (inl copied) in
          record {
            end = next.0;
            value = not b;
            at = copy_place given w p v m next.0 (copy t (not b)) next.1 parts.2;
            leads = (
              f ∷ e ∷ [],
              (
                on.0,
                step_of given w p v m k f on.0 on.2,
                (next.0, step_of given w p v m on.0 e next.0 next.2, refl),
              ),
            );
            arrives = inl (arrives_late (class_of p.partition s) (class_of p.partition t) b law late);
          })
    ]
  where
    twice : (b : Bool) → b ≡ not (not b)
    twice true = refl
    twice false = refl

has_copy_at : (given : CodedGraph) (w : Current) (p : TraceStep) (v : Current) (m : Made given w p v) (k : ℕ) (x : Copy)
    → CopyAt w p v m.copies k x → insertion.has_copy (class_of p.partition x.state) x.value ≡ true
has_copy_at given w p v m k x at =
    (is_copy w.coded.graph p.partition (new_signal p.name) m.copies m.graph k x m.inserted at.at).there

lift_walk : (given : CodedGraph) (w : Current) (p : TraceStep) (v : Current) (m : Made given w p v) (k s : ℕ) (b : Bool)
    (es : List Event) (t : ℕ) → CopyAt w p v m.copies k (copy s b) → Walk w.coded.graph s es t
    → Lifted given w p v m k s t b
lift_walk given w p v m k s b [] t at walk =
    let P : ℕ → Type 0 = λ i. Lifted given w p v m k s i b in
    subst P walk (record { end = k; value = b; at = at; leads = ([], refl); arrives = inr (refl, refl) })
lift_walk given w p v m k s b (e ∷ es) t at walk =
    let one = one_arc given w p v m k s b e walk.0 at (has_copy_at given w p v m k (copy s b) at) walk.1 in
    let rest = lift_walk given w p v m one.end walk.0 one.value es t one.at walk.2 in
    record {
      end = rest.end;
      value = rest.value;
      at = rest.at;
      leads = (
        one.leads.0 ++ rest.leads.0,
        walks_on v.coded.graph k one.leads.0 one.end rest.leads.0 rest.end one.leads.1 rest.leads.1,
      );
      arrives =
          arrives_on (class_of p.partition s) (class_of p.partition walk.0) (class_of p.partition t) b one.value rest.value
          one.arrives rest.arrives;
    }

-- ---- home states

-- some state has another class
other_class : (given : CodedGraph) (w : Current) (p : TraceStep) (v : Current) (m : Made given w p v) (c : Class)
    → (r : ℕ) × (r < w.coded.graph.states) × (class_of p.partition r ≡ c → ⊥)
other_class given w p v m Low = (m.lawful.rises.0, m.lawful.rises.1, λ same. rising_low (sym m.lawful.rises.2 ∙ same))
  where
    rising_low : Rising ≡ Low → ⊥
    rising_low h = cc
other_class given w p v m High = (m.lawful.rises.0, m.lawful.rises.1, λ same. rising_high (sym m.lawful.rises.2 ∙ same))
  where
    rising_high : Rising ≡ High → ⊥
    rising_high h = cc
other_class given w p v m Rising = (m.lawful.falls.0, m.lawful.falls.1, λ same. falling_rising (sym m.lawful.falls.2 ∙ same))
  where
    falling_rising : Falling ≡ Rising → ⊥
    falling_rising h = cc
other_class given w p v m Falling = (m.lawful.rises.0, m.lawful.rises.1, λ same. rising_falling (sym m.lawful.rises.2 ∙ same))
  where
    rising_falling : Rising ≡ Falling → ⊥
    rising_falling h = cc

entered_so : (s t : Class) (b v : Bool) → Arrives s b t v → (t ≡ s → ⊥) → v ≡ entry t
entered_so s t b v (inl is) other = is
entered_so s t b v (inr same) other = absurd (other same.0)

entered_then : (s t : Class) (b v : Bool) → Arrives s b t v → b ≡ entry s → v ≡ entry t
entered_then s t b v (inl is) was = is
entered_then s t b v (inr same) was = same.1 ∙ was ∙ ap entry (sym same.0)

pub home_next : (given : CodedGraph) (w : Current) (p : TraceStep) (v : Current) → Keeps given w → Inserts w p v
    → IsHome w.coded.graph w.coded.graph.start → IsHome v.coded.graph v.coded.graph.start
home_next given w p v kept ins home k reachable =
    let m = made_of given w p v kept ins in
    let g = w.coded.graph in
    let there = reached_within v.coded.graph v_graph k reachable in
    let x = the_copy given w p v m k there in
    let at_x : CopyAt w p v m.copies k (copy x.0.state x.0.value) = x.1 in
    let r = other_class given w p v m (class_of p.partition x.0.state) in
    let to_start = home x.0.state (kept.coded.connected x.0.state x.1.state) in
    let to_r = kept.coded.connected r.0 r.1 in
    let first =
    lift_walk given w p v m k x.0.state x.0.value (to_start.0 ++ to_r.0) r.0 at_x
    (walks_on g x.0.state to_start.0 g.start to_r.0 r.0 to_start.1 to_r.1) in
    let entered = entered_so (class_of p.partition x.0.state) (class_of p.partition r.0) x.0.value first.value first.arrives r.2 in
    let back = home r.0 to_r in
    let last = lift_walk given w p v m first.end r.0 first.value back.0 g.start first.at back.1 in
    let value = entered_then (class_of p.partition r.0) (class_of p.partition g.start) first.value last.value last.arrives entered in
    let start_at : slice_get m.copies v.coded.graph.start ≡ Some (copy g.start (entry (class_of p.partition g.start))) =
    starts_at m in
    let same : last.end ≡ v.coded.graph.start =
    one_place m.copies last.end v.coded.graph.start (copy g.start last.value) m.inserted.in_order last.at.at
    (start_at ∙ ap (λ (b : Bool). Some (copy g.start b)) (sym value)) in
    let P : ℕ → Type 0 = λ i. Walk v.coded.graph k (first.leads.0 ++ last.leads.0) i in (
      first.leads.0 ++ last.leads.0,
      subst P same (walks_on v.coded.graph k first.leads.0 first.end last.leads.0 last.end first.leads.1 last.leads.1),
    )
  where
    v_graph : IsGraph v.coded.graph
    v_graph = let P : Current → Type 0 = λ u. IsGraph u.coded.graph in subst P (sym ins.makes) ins.limits

    starts_at : (m : Made given w p v) → slice_get m.copies v.coded.graph.start
        ≡ Some (copy w.coded.graph.start (entry (class_of p.partition w.coded.graph.start)))
    starts_at m =
        let P : StateGraph → Type 0 = λ h. slice_get m.copies h.start
        ≡ Some (copy w.coded.graph.start (entry (class_of p.partition w.coded.graph.start))) in
        subst P (sym (ap (λ (u : Current). u.coded.graph) m.is)) m.inserted.starts

home_along : (given : CodedGraph) (w : Current) (trace : List TraceStep) (u : Current) → IsCoded given → Keeps given w
    → Grows w trace u → IsHome w.coded.graph w.coded.graph.start → IsHome u.coded.graph u.coded.graph.start
home_along given w [] u is kept grows home =
    let P : Current → Type 0 = λ v. IsHome v.coded.graph v.coded.graph.start in subst P grows home
home_along given w (p ∷ trace) u is kept grows home =
    home_along given grows.0 trace u is (keeps_next given w p grows.0 is kept grows.1) grows.2
    (home_next given w p grows.0 kept grows.1 home)

-- ---- of the circuit
walk_runs : (given : CodedGraph) (v : Current) (n : Netlist) (x : State) (k : ℕ) (es : List Event) (m : ℕ)
    → IsCircuit given v n → Stands v x k → Walk v.coded.graph k es m
    → (y : State) × Runs given.graph n x es y × Stands v y m
walk_runs given v n x k [] m c stands walk = let P : ℕ → Type 0 = λ i. Stands v x i in (x, refl, subst P walk stands)
walk_runs given v n x k (e ∷ es) m c stands walk =
    let next = step_fires given v n x k e walk.0 c stands walk.1 in
    let rest = walk_runs given v n next.0 walk.0 es m c next.2 walk.2 in
    (rest.0, (next.0, next.1, rest.1), rest.2)

same_state : (x y : State) → x.values ≡ y.values → x.place ≡ y.place → x ≡ y
same_state x y values place =
    let make : ℕ → Option ℕ → State = λ a b. record { values = a; place = b } in ap₂ make values place

pub comes_back_exactly : (c : CodedGraph) (n : Netlist) (l : History) → Fits c n l → IsHome c.graph c.graph.start
    → (x : State) → IsReached c.graph n x → (es : List Event) × Runs c.graph n x es (start c.graph n)
comes_back_exactly c n l fits home x reached =
    let circ = circuit c n l fits in
    let lin = lineage_of c n l fits in
    let u = l.current in
    let home_u =
    home_along c (given_current c) l.trace u circ.is (keeps_first c circ.is lin.proper) lin.grown home in
    let k = reached_stands c u n x circ reached in
    let walk = home_u k.0 (circ.kept.coded.connected k.0 k.1.there) in
    let r = walk_runs c u n x k.0 walk.0 u.coded.graph.start circ k.1 walk.1 in
    let at = stands_start c u n circ in
    let same : r.0 ≡ start c.graph n =
    same_state r.0 (start c.graph n) (r.2.values ∙ sym at.values) (r.2.place ∙ sym at.place) in
    let P : State → Type 0 = λ y. Runs c.graph n x walk.0 y in
    (walk.0, subst P same r.1)

-- ---- where the circuit never stops, neither does the graph
abbrev final : Class → Bool
final Low = false
final Rising = true
final High = true
final Falling = false

final_there : (c : Class) → insertion.has_copy c (final c) ≡ true
final_there Low = refl
final_there Rising = refl
final_there High = refl
final_there Falling = refl

no_switch : (c : Class) (up : Bool) → final c ≡ not up → c ≡ switching up → ⊥
no_switch Low true h same = cc
no_switch Low false h same = cc
no_switch Rising true h same = true≢false h
no_switch Rising false h same = cc
no_switch High true h same = cc
no_switch High false h same = cc
no_switch Falling true h same = cc
no_switch Falling false h same = true≢false (sym h)

goes_next : (given : CodedGraph) (w : Current) (p : TraceStep) (v : Current) → IsCoded given → Keeps given w
    → Inserts w p v → NeverStops v.coded.graph → NeverStops w.coded.graph
goes_next given w p v is kept ins goes s reachable =
    let m = made_of given w p v kept ins in
    let g = w.coded.graph in
    let x = copy s (final (class_of p.partition s)) in
    let small = reached_within g kept.coded.graph_is s reachable in
    let at =
    placed g p.partition (new_signal p.name) m.copies m.graph x m.inserted (record {
      within = small;
      there = final_there (class_of p.partition s);
    }) in
    let x_at = copy_place given w p v m at.0 x at.2 small in
    let v_kept = keeps_next given w p v is kept ins in
    let step = goes at.0 (v_kept.coded.connected at.0 x_at.inside) in
    let moved =
    leads g p.partition (new_signal p.name) m.copies m.graph at.0 step.0 step.1 x m.inserted
    (step_in given w p v m at.0 step.0 step.1 step.2) at.2 in
    elim moved.2 [
      | inl copied ↦ (step.0, moved.0.state, copied.step)
      | inr switch ↦ absurd (no_switch (class_of p.partition s) step.0.up switch.from switch.class)
    ]

goes_along : (given : CodedGraph) (w : Current) (trace : List TraceStep) (u : Current) → IsCoded given → Keeps given w
    → Grows w trace u → NeverStops u.coded.graph → NeverStops w.coded.graph
goes_along given w [] u is kept grows goes =
    let P : Current → Type 0 = λ v. NeverStops v.coded.graph in subst P (sym grows) goes
goes_along given w (p ∷ trace) u is kept grows goes =
    goes_next given w p grows.0 is kept grows.1
    (goes_along given grows.0 trace u is (keeps_next given w p grows.0 is kept grows.1) grows.2 goes)

pub stops_with_graph : (c : CodedGraph) (n : Netlist) (l : History) → Fits c n l → CircuitNeverStops c.graph n
    → NeverStops c.graph
stops_with_graph c n l fits goes =
    let circ = circuit c n l fits in
    let lin = lineage_of c n l fits in
    goes_along c (given_current c) l.trace l.current circ.is (keeps_first c circ.is lin.proper) lin.grown
    (λ k reachable. of_state circ k reachable)
  where
    of_state : IsCircuit c l.current n → (k : ℕ) → IsReachable l.current.coded.graph k
        → (e : Event) × (t : ℕ) × Step l.current.coded.graph k e t
    of_state circ k reachable =
        let is = circ.kept.coded.graph_is in
        let small = walk_within l.current.coded.graph is l.current.coded.graph.start reachable.0 k is.starts reachable.1 in
        let x = state_reached c l.current n k circ small in
        let f = goes x.0 x.1 in
        let step = fires_step c l.current n x.0 f.0 f.1 k circ x.2 f.2 in
        (f.0, step.0, step.1)
