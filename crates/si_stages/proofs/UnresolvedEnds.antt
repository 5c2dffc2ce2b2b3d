-- Commands over a graph with a conflict that input events join end unresolved.
use Rattle.std.proofs.Common.{ℕ, List, [], refl, sym, subst}
use Rattle.si_base.specs.Codes.{CodedGraph}
use Rattle.si_base.specs.GivenGraph.{Sg}
use Rattle.si_base.specs.Graph.{StateGraph}
use Rattle.si_base.specs.Proper.{IsProper}
use Rattle.si_explain.proofs.ExplainUnresolved.{joined_end_unresolved}
use Rattle.si_insert.specs.Lineage.{AllGiven, History, IsLineage, given_current}
use Rattle.si_readings.specs.Checks.{IsSound}
use Rattle.si_refusals.specs.Stages.{Passes, Refuses}
use Rattle.si_sg.specs.GivenGraph.{IsGivenBy}
use Rattle.si_stages.specs.Resolving.{EndsInConflict, conflict_refusal}
use Rattle.si_stages.specs.UnresolvedLaws.{SynthEndsUnresolved, MapEndsUnresolved}
use Rattle.si_stages.proofs.GivenLineages.{given_signals}
use Rattle.si_walks.specs.Joined.{IsJoinedConflict}

left_over : (text : List ℕ) (given : Sg) (coded : CodedGraph) (pair : ℕ × ℕ) → IsGivenBy text given
    → IsSound given.graph coded → IsJoinedConflict coded pair
    → (l : History) × (last : ℕ × ℕ) × EndsInConflict coded l last
left_over text given coded pair is sound joined =
    let Clean : StateGraph → Type 0 = λ g. AllGiven g.signals in
    let Fine : StateGraph → Type 0 = λ g. IsProper g in
    let same = sym sound.same_graph in
    let none : IsLineage coded [] (given_current coded) =
    record {
      coded = sound.coded_is;
      proper = subst Fine same sound.proper;
      none_inserted = subst Clean same (given_signals text given is);
      grown = refl;
    } in
    let ends = joined_end_unresolved coded [] (given_current coded) pair none joined in
    let l : History = record { given = coded; trace = ends.0; current = ends.1 } in
    (l, ends.2, record { given_is = refl; ends = ends.3 })

pub synth_ends : SynthEndsUnresolved
synth_ends style file text given coded pair is sound joined =
    let left = left_over text given coded pair is sound joined in
    let told = conflict_refusal given.states left.0 left.1 in (
      left.0,
      left.1,
      left.2,
      Passes given is (Refuses told (Passes coded sound (left.0, left.1, left.2, refl)) refl),
    )

pub map_ends : MapEndsUnresolved
map_ends format file text library cells given known coded pair is read sound joined =
    let left = left_over text given coded pair is sound joined in
    let told = conflict_refusal given.states left.0 left.1 in (
      left.0,
      left.1,
      left.2,
      Passes (record { given = given; library = known }) (Passes given is (Passes known read refl))
          (Refuses told (Passes coded sound (left.0, left.1, left.2, refl)) refl),
    )
