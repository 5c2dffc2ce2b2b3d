-- A coded graph has one list of blocks.
use Rattle.std.proofs.Common.{◌≡◌, Bool, List, [], ◌∷◌, ◌++◌, length, refl, sym, ap₂, subst, ◌∙◌}
use Rattle.si_base.specs.declared.ids.Event.{Event}
use Rattle.si_base.specs.Graph.{StateGraph, IsGraph}
use Rattle.si_base.specs.Codes.{CodedGraph, IsCoded}
use Rattle.si_regions.specs.declared.regions.Component.{Component}
use Rattle.si_regions.proofs.RegionComponents.{one_list_of_components, some_components}
use Rattle.si_candidates.specs.Blocks.{state_set, driven_events, AreIntervalsFrom, AreIntervals, blocks_of, AreBlocks}
use Rattle.si_candidates.proofs.IntervalLemmas.{one_interval}
use Rattle.si_candidates.proofs.IntervalsExist.{some_interval}
use Rattle.si_candidates.proofs.BlockMarks.{length-marked}

-- ---- one list
one_from : (g : StateGraph) (from : List Bool) (stops : List Event) (xs ys : List (List Bool))
    → AreIntervalsFrom g from stops xs → AreIntervalsFrom g from stops ys → xs ≡ ys
one_from g from [] [] [] a b = refl
one_from g from [] [] (y ∷ ys) a b = absurd b
one_from g from [] (x ∷ xs) ys a b = absurd a
one_from g from (stop ∷ stops) [] ys a b = absurd a
one_from g from (stop ∷ stops) (x ∷ xs) [] a b = absurd b
one_from g from (stop ∷ stops) (x ∷ xs) (y ∷ ys) (here, rest) (other, others) =
    ap₂ (λ z zs. z ∷ zs) (one_interval g stop from x y here other) (one_from g from stops xs ys rest others)

one_each : (g : StateGraph) (stops : List Event) (components : List Component) (xs ys : List (List Bool))
    → AreIntervals g stops components xs → AreIntervals g stops components ys → xs ≡ ys
one_each g stops [] xs ys a b = a ∙ sym b
one_each g stops (r ∷ components) xs ys (here, rest, is, are, more) (other, others, same, equal, again) =
    is ∙ ap₂ (λ z zs. z ++ zs) (one_from g (state_set g.states r.sr) stops here other are equal)
    (one_each g stops components rest others more again) ∙ sym same

pub one_blocks : (c : CodedGraph) (xs ys : List (List Bool)) → AreBlocks c xs → AreBlocks c ys → xs ≡ ys
one_blocks c xs ys a b =
    let stops = driven_events 0 c.graph.signals in
    let components : a.components ≡ b.components = one_list_of_components c a.components b.components a.are b.are in
    let same : a.intervals ≡ b.intervals = one_each c.graph stops b.components a.intervals b.intervals
    (subst (λ rs. AreIntervals c.graph stops rs a.intervals) components a.intervals_are) b.intervals_are in
    a.blocks_are ∙ ap₂ (blocks_of c.graph.states) components same ∙ sym b.blocks_are

-- ---- some list
pub some_from : (g : StateGraph) (from : List Bool) (stops : List Event) → IsGraph g → length from ≡ g.states
    → (sets : List (List Bool)) × AreIntervalsFrom g from stops sets
some_from g from [] is size = ([], tt)
some_from g from (stop ∷ stops) is size =
    let here = some_interval g stop is from size in
    let rest = some_from g from stops is size in
    (here.0 ∷ rest.0, (here.1, rest.1))

pub some_each : (g : StateGraph) (stops : List Event) (components : List Component) → IsGraph g
    → (sets : List (List Bool)) × AreIntervals g stops components sets
some_each g stops [] is = ([], refl)
some_each g stops (r ∷ components) is =
    let here = some_from g (state_set g.states r.sr) stops is (length-marked g.states r.sr) in
    let rest = some_each g stops components is in
    (here.0 ++ rest.0, (here.0, rest.0, refl, here.1, rest.1))

pub some_blocks : (c : CodedGraph) → IsCoded c → (blocks : List (List Bool)) × AreBlocks c blocks
some_blocks c coded =
    let components = some_components c coded in
    let intervals = some_each c.graph (driven_events 0 c.graph.signals) components.0 coded.graph_is in (
      blocks_of c.graph.states components.0 intervals.0,
      record {
        components = components.0;
        are = components.1;
        intervals = intervals.0;
        intervals_are = intervals.1;
        blocks_are = refl;
      },
    )
