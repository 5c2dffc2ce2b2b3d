-- A set of states and an event have an interval: what is reached along the arcs by other events.
use Rattle.std.proofs.Common.{◌≡◌, ℕ, ◌<◌, Bool, true, false, List, length, get_or, replicate, Contains, arith}
use Rattle.std.proofs.lemmas.List.{length-replicate, get_or-replicate}
use Rattle.si_base.specs.declared.ids.Event.{Event}
use Rattle.si_base.specs.Graph.{StateGraph, IsGraph}
use Rattle.si_base.specs.Sets.{IsIn}
use Rattle.si_base.proofs.StepCodes.{step_within}
use Rattle.si_graph.specs.declared.closure.Along.TheVariants.{OutWithout}
use Rattle.si_graph.specs.Closure.{IsNext}
use Rattle.si_graph.proofs.SearchLemmas.{in_below}
use Rattle.si_regions.specs.Loops.Searching.{IsReachedIn, IsSeed}
use Rattle.si_checks.proofs.SearchDecisions.{same_value}
use Rattle.si_regions.proofs.SetsExist.{listed, some_set, some_marks, some_reached}
use Rattle.si_graph.proofs.ClosureLemmas.{reached_on, reached_seed}
use Rattle.si_candidates.specs.Interval.{IsReachedBefore, IsInterval}
use Rattle.si_candidates.proofs.IntervalLemmas.{reached_has, walk_of}

module _ (g : StateGraph) (stop : Event) where
  abbrev everywhere : List Bool
  everywhere = replicate g.states true

  is_everywhere : (s : ℕ) → s < g.states → IsIn everywhere s
  is_everywhere s within = get_or-replicate g.states s true false within

  module _ (is : IsGraph g) (from : List Bool) (size : length from ≡ g.states) where
    from_within : (s : ℕ) → IsIn from s → s < g.states
    from_within s there = omega (arith, in_below from s there, size)

    begins : (states : List ℕ) × ((s : ℕ) → (Contains states s → IsIn from s) × (IsIn from s → Contains states s))
    begins =
        let all = some_set g (IsIn from) (λ s. same_value (get_or from s false) true) from_within in
        (all.0, λ s. ((all.1.exactly s).0, (all.1.exactly s).1))

    reached_before : (seeds : List ℕ) → ((s : ℕ) → Contains seeds s → IsIn from s) → (t : ℕ)
        → IsReachedIn g (OutWithout stop) everywhere seeds t → IsReachedBefore g stop from t
    reached_before seeds are t r =
        let walk = walk_of g stop everywhere r.seed r.path t r.leads in
        record { begin = r.seed; there = are r.seed r.there.0; events = walk.0; walk = walk.1 }

    reached_within : (t : ℕ) → IsReachedBefore g stop from t → t < g.states
    reached_within t r = reached_has g stop from (λ s. s < g.states) from_within
        (λ s u here next. (step_within g s next.0 u is next.2).2) t r

    pub some_interval : (set : List Bool) × IsInterval g from stop set
    some_interval =
        let seeds = begins in
        let found = some_reached g (OutWithout stop) everywhere seeds.0 (length-replicate g.states true) in
        let before : (t : ℕ) → Contains found.0 t → IsReachedBefore g stop from t =
        λ t there. reached_before seeds.0 (λ s here. (seeds.1 s).0 here) t ((found.1.exactly t).0 there) in
        let marks = some_marks g (Contains found.0) (listed found.0)
        (λ t there. reached_within t (before t there)) in (
          marks.0,
          record {
            size = marks.1.size;
            has = λ s there. (marks.1.exactly s).1 ((found.1.exactly s).1
                (reached_seed (IsNext g (OutWithout stop) everywhere) (IsSeed everywhere seeds.0) s
                ((seeds.1 s).1 there, is_everywhere s (from_within s there))));
            closed = λ s e t there step apart. (marks.1.exactly t).1 ((found.1.exactly t).1
                (reached_on (IsNext g (OutWithout stop) everywhere) (IsSeed everywhere seeds.0) s t
                ((found.1.exactly s).0 ((marks.1.exactly s).0 there))
                ((e, apart, step), is_everywhere t (step_within g s e t is step).2)));
            reached = λ t there. before t ((marks.1.exactly t).0 there);
          },
        )
