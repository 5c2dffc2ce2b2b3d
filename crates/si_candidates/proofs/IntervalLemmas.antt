-- Walks without an event, and what is reached along the arcs by other events.
use Rattle.std.proofs.Common.{◌≡◌, ◌≢◌, ℕ, ◌<◌, ◌≤◌, ◌↔◌, ◌∙◌, Bool, sym, subst, List, [], ◌∷◌, length, arith}
use Rattle.si_base.specs.declared.ids.Event.{Event}
use Rattle.si_base.specs.Graph.{StateGraph, IsGraph}
use Rattle.si_base.specs.Sets.{IsIn}
use Rattle.si_base.proofs.StepCodes.{step_within}
use Rattle.si_graph.specs.declared.closure.Along.TheVariants.{OutWithout}
use Rattle.si_graph.specs.Closure.{IsBeside, Path, PathBy, IsClosure}
use Rattle.si_closures.specs.Loops.WordSearch.{column, Passes, IsNextBy, IsClosureBy}
use Rattle.si_closures.specs.Loops.Words.{HasAll, IsEventAt}
use Rattle.si_closures.proofs.SameStates.{same_states}
use Rattle.si_closures.proofs.WordSearchLemmas.{in_column}
use Rattle.si_candidates.specs.Interval.{WalkWithout, IsReachedBefore, IsInterval}

-- s leads to t by another event than `stop`
abbrev pub LeadsWithout : StateGraph → Event → ℕ → ℕ → Type 0
LeadsWithout g stop s t = IsBeside g (OutWithout stop) s t

module _ (g : StateGraph) (stop : Event) where
  along_walk : (P : ℕ → Type 0) → ((s t : ℕ) → P s → LeadsWithout g stop s t → P t)
      → (s : ℕ) (es : List Event) (t : ℕ) → P s → WalkWithout g stop s es t → P t
  along_walk P closed s [] t here walk = subst P walk here
  along_walk P closed s (e ∷ es) t here (u, apart, step, walk) =
      along_walk P closed u es t (closed s u here (e, apart, step)) walk

  -- what has the first states and is closed has each state that is reached
  pub reached_has : (from : List Bool) (P : ℕ → Type 0) → ((s : ℕ) → IsIn from s → P s)
      → ((s t : ℕ) → P s → LeadsWithout g stop s t → P t) → (t : ℕ) → IsReachedBefore g stop from t → P t
  reached_has from P begins closed t r = along_walk P closed r.begin r.events t (begins r.begin r.there) r.walk

  one_way : (from xs ys : List Bool) → IsInterval g from stop xs → IsInterval g from stop ys
      → (t : ℕ) → IsIn xs t → IsIn ys t
  one_way from xs ys a b t there =
      reached_has from (IsIn ys) b.has (λ s u here next. b.closed s next.0 u here next.2 next.1) t (a.reached t there)

  pub one_interval : (from xs ys : List Bool) → IsInterval g from stop xs → IsInterval g from stop ys → xs ≡ ys
  one_interval from xs ys a b =
      same_states xs ys (a.size ∙ sym b.size) (one_way from xs ys a b) (one_way from ys xs b a)

  -- a path is a walk
  pub walk_of : (within : List Bool) (s : ℕ) (path : List ℕ) (t : ℕ) → Path g (OutWithout stop) within s path t
      → (es : List Event) × WalkWithout g stop s es t
  walk_of within s [] t same = ([], same)
  walk_of within s (u ∷ us) t (((e, apart, step), there), path) =
      let rest = walk_of within u us t path in (e ∷ rest.0, (u, apart, step, rest.1))

  -- the closure in all states is the interval
  pub interval_of : (all from set : List Bool) → IsGraph g → ((s : ℕ) → s < g.states → IsIn all s)
      → IsClosure g (OutWithout stop) all from set → IsInterval g from stop set
  interval_of all from set is everywhere closure = record {
    size = closure.size;
    has = closure.seeds_in;
    closed = λ s e t here step apart.
        closure.closed s t here ((e, apart, step), everywhere t (step_within g s e t is step).2);
    reached = λ t there. (
        let r = closure.reached t there in
        let walk = walk_of all r.seed r.path t r.leads in
        record { begin = r.seed; there = r.there; events = walk.0; walk = walk.1 });
  }

  -- so is the least set that is closed along arcs by events with P, where these are the others
  module _ (P : Event → Type 0) (others : (e : Event) → e.sig < length g.signals → P e ↔ (e ≢ stop))
      (is : IsGraph g) where
    walk_by : (within : List Bool) (s : ℕ) (path : List ℕ) (t : ℕ) → PathBy (IsNextBy g P within) s path t
        → (es : List Event) × WalkWithout g stop s es t
    walk_by within s [] t same = ([], same)
    walk_by within s (u ∷ us) t (((e, passes, step), there), path) =
        let rest = walk_by within u us t path in
        (e ∷ rest.0, (u, (others e (step_within g s e u is step).1).0 passes, step, rest.1))

    pub interval_by : (all from set : List Bool) → ((s : ℕ) → s < g.states → IsIn all s)
        → IsClosureBy g P all from set → IsInterval g from stop set
    interval_by all from set everywhere closure = record {
      size = closure.size;
      has = closure.seeds_in;
      closed = λ s e t here step apart. closure.closed s t here (
        (e, (others e (step_within g s e t is step).1).1 apart, step),
        everywhere t (step_within g s e t is step).2,
      );
      reached = λ t there. (
          let r = closure.reached t there in
          let walk = walk_by all r.seed r.path t r.leads in
          record { begin = r.seed; there = r.there; events = walk.0; walk = walk.1 });
    }

-- many at once: the closures of words are intervals, one for each of the events
pub intervals_of : (g : StateGraph) (stops : List Event) (passes within seeds words : List ℕ)
    → IsGraph g → length stops ≤ 128
    → ((k : ℕ) (stop e : Event) → IsEventAt stops k stop → e.sig < length g.signals → Passes passes k e ↔ (e ≢ stop))
    → HasAll g.states within
    → ((k : ℕ) → IsClosureBy g (Passes passes k) (column k within) (column k seeds) (column k words))
    → (k : ℕ) (stop : Event) → IsEventAt stops k stop → IsInterval g (column k seeds) stop (column k words)
intervals_of g stops passes within seeds words is few others all closures k stop at =
    let small : k < 128 = let inside = at.inside in omega (arith, inside, few) in
    interval_by g stop (Passes passes k) (λ e below. others k stop e at below) is (column k within) (column k seeds)
    (column k words) (λ s below. (in_column k within s).1 (all.each k s small below)) (closures k)
