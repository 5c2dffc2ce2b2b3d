-- What a reason shows is there to be told.
use Rattle.std.proofs.Common.{◌≡◌, ℕ, ◌<◌, ◌≤◌, Bool, List, [], ◌∷◌, length, Option, Some, None}
use Rattle.std.proofs.Common.{refl, sym, ap, subst, ◌∙◌, arith}
use Rattle.std.proofs.lemmas.List.{length-append}
use Rattle.si_audit.specs.Loops.Within.{IsWithin}
use Rattle.si_audit.proofs.FaultSignalLemmas.{among}
use Rattle.si_audit.proofs.WalkSignals.{new_of, signals_are}
use Rattle.si_base.specs.declared.graph.Signal.{Signal}
use Rattle.si_base.specs.declared.graph.SigKind.{SigKind}
use Rattle.si_base.specs.declared.graph.SigKind.TheVariants.{Input, Output, Internal, Inserted}
use Rattle.si_base.specs.declared.ids.Event.{Event}
use Rattle.si_base.specs.Codes.{CodedGraph, IsCoded}
use Rattle.si_base.specs.Graph.{IsGraph, StateGraph}
use Rattle.si_base.specs.Netlist.{Netlist}
use Rattle.si_base.specs.Proper.{IsProper}
use Rattle.si_base.specs.System.{Follows, IsFor, IsReached, May, Runs, State, start}
use Rattle.si_base.specs.WellFormed.{IsNetlist}
use Rattle.si_base.proofs.StepCodes.{step_within}
use Rattle.si_finder.specs.NotFound.{IsFirstDifference, IsFound, IsObstacle, ShowsNotFound}
use Rattle.si_finder.specs.declared.not_found.Difference.{Difference}
use Rattle.si_finder.specs.declared.not_found.Difference.TheVariants as differs
use Rattle.si_finder.specs.declared.not_found.NotFound.{NotFound}
use Rattle.si_finder.specs.declared.not_found.NotFound.TheVariants as none
use Rattle.si_finder.specs.declared.not_found.Obstacle.{Obstacle}
use Rattle.si_finder.specs.declared.not_found.Obstacle.TheVariants as obstacle
use Rattle.si_finder.proofs.NoneFound.{found_keeps}
use Rattle.si_graph.proofs.SearchLemmas.{in_below}
use Rattle.si_insert.specs.Accepted.{ShowsRejected}
use Rattle.si_insert.specs.Lineage.{History}
use Rattle.si_insert.specs.declared.accept.Rejected.{Rejected}
use Rattle.si_insert.specs.declared.accept.Rejected.TheVariants.{DelaysInput, BreaksPersistency, TooLarge, NoCodeBit}
use Rattle.si_insert.specs.declared.partition.Class.{Class}
use Rattle.si_certify.specs.Loops.There.{DifferenceIsThere, IsThere, ObstacleIsThere}

-- ---- states that the circuit reaches
module _ (g : StateGraph) (n : Netlist) (graph : IsGraph g) where
  -- where it is beside the graph, it is beside one of the graph's states
  abbrev IsPlaced : State → Type 0
  IsPlaced x = (s : ℕ) → x.place ≡ Some s → s < g.states

  follows_within : (s : ℕ) (e : Event) (place : Option ℕ) → Follows g s e place → (t : ℕ) → place ≡ Some t
      → t < g.states
  follows_within s e None follows t is = cc
  follows_within s e (Some u) follows t is =
      let same : u ≡ t = cc in
      subst (λ (k : ℕ). k < g.states) same (step_within g s e u graph follows.step).2

  may_within : (kind : SigKind) (values s : ℕ) (e : Event) (place : Option ℕ) → s < g.states
      → May kind g n values s e place → (t : ℕ) → place ≡ Some t → t < g.states
  may_within Input values s e place within may = follows_within s e place may.1
  may_within Output values s e place within may = follows_within s e place may.1
  may_within Internal values s e place within may = follows_within s e place may.1
  may_within Inserted values s e place within may = λ t is.
      let at : Some s ≡ Some t = sym may.1 ∙ is in
      let same : s ≡ t = cc in
      subst (λ (k : ℕ). k < g.states) same within

  run_within : (es : List Event) (x y : State) → IsPlaced x → Runs g n x es y → IsPlaced y
  run_within [] x y placed run = subst IsPlaced run placed
  run_within (e ∷ es) x y placed run =
      let fires = run.1 in
      run_within es run.0 y
      (may_within fires.signal.kind x.values fires.at e run.0.place (placed fires.at fires.not_astray) fires.may) run.2

  pub reached_there : (x : State) → IsReached g n x → (s : ℕ) → x.place ≡ Some s → s < g.states
  reached_there x reached =
      run_within reached.0 (start g n) x
      (λ s is. let same : g.start ≡ s = cc in subst (λ (k : ℕ). k < g.states) same graph.starts) reached.1

-- ---- partitions that aren't accepted
refused_within : (g : StateGraph) (classes : List Class) (why : Rejected) → ShowsRejected g classes why → IsWithin g why
refused_within g classes (DelaysInput s e) shows =
    subst (λ (k : ℕ). k < g.states) shows.holds.at shows.holds.is_copy.within
refused_within g classes (BreaksPersistency s lost by) shows =
    subst (λ (k : ℕ). k < g.states) shows.1.holds.at shows.1.holds.is_copy.within
refused_within g classes (TooLarge count) shows = tt
refused_within g classes NoCodeBit shows = tt

-- ---- the whole
module _ (c : CodedGraph) (n : Netlist) (is : IsCoded c) (proper : IsProper c.graph) (netlist : IsNetlist n)
    (fits : IsFor c n) where
  given_are_fewer : length c.graph.signals ≤ length n.signals
  given_are_fewer =
      let all = ap (length {A = Signal}) (signals_are c n netlist fits) in
      omega (arith, all, length-append c.graph.signals (new_of n.inserts))

  obstacle_there : (l : History) (plus minus : List Bool) (why : Obstacle) → IsCoded l.current.coded
      → length plus ≡ l.current.coded.graph.states → length l.current.coded.graph.signals < length n.signals
      → IsObstacle l.current.coded.graph plus minus why → ObstacleIsThere n.signals l why
  obstacle_there l plus minus obstacle.NeverUp coded size more shows = tt
  obstacle_there l plus minus obstacle.NeverDown coded size more shows = tt
  obstacle_there l plus minus (obstacle.Both s) coded size more shows =
      omega (arith, in_below plus s shows.2.holds.0, size)
  obstacle_there l plus minus (obstacle.Classes s) coded size more shows = tt
  obstacle_there l plus minus (obstacle.Refused why) coded size more shows =
      let g = l.current.coded.graph in (
        refused_within g shows.1.0 why shows.1.2,
        among g shows.1.0 n.signals why coded.graph_is more netlist.few shows.1.2,
      )

  difference_there : (l : History) (why : Difference) → IsFirstDifference l n why → DifferenceIsThere l why
  difference_there l (differs.Start sig) shows = tt
  difference_there l (differs.Gate sig s) shows = shows.1.holds.within

  as_many : (l : History) → IsFound c n l → c.graph.states ≡ l.given.graph.states
  as_many l found = ap (λ (d : CodedGraph). d.graph.states) (sym found.given_is)

  pub is_there : (why : NotFound) → ShowsNotFound c n why
      → IsThere c.graph.states (length c.graph.signals) n.signals why
  is_there none.NoMemory shows = tt
  is_there none.TooMany shows = tt
  is_there (none.Astray at sig) shows =
      (reached_there c.graph n is.graph_is _ shows.1.reached at.state refl, given_are_fewer)
  is_there (none.Hindered l why) shows =
      let hindered = shows.1 in
      let kept = found_keeps c n l is proper hindered.found in
      let h = hindered.hinders in (
        as_many l hindered.found,
        obstacle_there l h.plus h.minus why kept.coded h.sets.plus_size hindered.next h.shows,
      )
  is_there (none.Unbuilt l why) shows = (as_many l shows.1.found, difference_there l why shows.2)

-- by the graph and the signals that are handed out
pub counted_there : (c d : CodedGraph) (g : StateGraph) (given : List Signal) (n : Netlist) (signals : List Signal)
    (states : List (List ℕ)) (why : NotFound) → d ≡ c → g ≡ d.graph → given ≡ g.signals → signals ≡ n.signals
    → IsCoded d → IsProper c.graph → length states ≡ c.graph.states → IsNetlist n → IsFor c n → ShowsNotFound c n why
    → IsThere (length states) (length given) signals why
counted_there c d g given n signals states why coded graph same all is proper count netlist fits shows =
    let first = same ∙ ap (λ (h : StateGraph). h.signals) graph ∙ ap (λ (k : CodedGraph). k.graph.signals) coded in
    let there = is_there c n (subst IsCoded coded is) proper netlist fits why shows in
    rw (count, first, all) there
