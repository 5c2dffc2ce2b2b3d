-- A graph that is proper, and whose conflicts are then resolved: one result, and what it shows.
use Rattle.std.proofs.Common.{◌≡◌, ℕ, List, Ok, refl, sym, subst}
use Rattle.si_base.specs.Codes.{CodedGraph}
use Rattle.si_base.specs.GivenGraph.{Sg}
use Rattle.si_base.specs.Graph.{StateGraph}
use Rattle.si_base.specs.Proper.{IsProper}
use Rattle.si_insert.specs.Lineage.{History, given_current}
use Rattle.si_refusals.specs.Stages.{Passes, Refuses}
use Rattle.si_resolve.specs.Trace.{EndsResolved}
use Rattle.si_sg.specs.GivenGraph.{IsGivenBy}
use Rattle.si_readings.specs.Checks.{IsSound}
use Rattle.si_readings.specs.Laws.{AtMostOne, HasResult}
use Rattle.si_stages.specs.Resolving.{EndsWithoutConflict, resolution}
use Rattle.si_readings.proofs.CheckLemmas.{proper_one}
use Rattle.si_stages.proofs.ResolvingLemmas.{lineage_one, lineage_some}
use Rattle.si_readings.proofs.ReadingsExist.{proper_some}
use Rattle.si_readings.proofs.StageLemmas.{no_refusal, then_one, then_some}

pub resolution_one : (graph : StateGraph) (states : List (List ℕ)) → AtMostOne (resolution graph states)
resolution_one graph states =
    then_one _ _ (proper_one graph states) (λ coded sound. lineage_one coded states sound.coded_is)

pub resolution_some : (text : List ℕ) (sg : Sg) → IsGivenBy text sg → HasResult (resolution sg.graph sg.states)
resolution_some text sg given = then_some _ _ (proper_some text sg given)
    (λ coded sound. lineage_some coded sg.states sound.coded_is
    (subst (λ (g : StateGraph). IsProper g) (sym sound.same_graph) sound.proper))

-- the lineage begins with the graph, which is proper, and resolves its conflicts
pub record IsResolution (graph : StateGraph) (l : History) : Type 0 where
  pub sound : IsSound graph l.given
  pub resolves : EndsResolved (given_current l.given) l.trace l.current

pub resolution_is : (graph : StateGraph) (states : List (List ℕ)) (l : History) → resolution graph states (Ok l)
    → IsResolution graph l
resolution_is graph states l (Refuses r h same) = absurd (no_refusal (Ok l) l r refl same)
resolution_is graph states l (Passes coded sound ends) =
    let given : coded ≡ l.given = sym ends.given_is in
    record {
      sound = subst (λ (c : CodedGraph). IsSound graph c) given sound;
      resolves = subst (λ (c : CodedGraph). EndsResolved (given_current c) l.trace l.current) given ends.resolves;
    }

pub resolution_of : (graph : StateGraph) (states : List (List ℕ)) (l : History) → IsResolution graph l
    → resolution graph states (Ok l)
resolution_of graph states l is =
    let ends : EndsWithoutConflict l.given l = record { given_is = refl; resolves = is.resolves } in
    Passes l.given is.sound ends
