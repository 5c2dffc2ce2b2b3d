-- Each block of a graph has a place for each of its states.
use Rattle.std.proofs.Common.{◌≡◌, ◌==◌, ℕ, suc, ◌<◌, not, arith, Bool, List, [], ◌∷◌, ◌++◌, length, map, All, sym}
use Rattle.std.proofs.Common.{subst}
use Rattle.std.specs.List.{list_any}
use Rattle.std.proofs.lemmas.List.Elements.{All-append, All-cons, All-filter, All-nil, All-take}
use Rattle.std.proofs.lemmas.List.FromFn.{length-map-range_with_len}
use Rattle.si_base.specs.declared.ids.Event.{Event}
use Rattle.si_base.specs.Graph.{StateGraph}
use Rattle.si_base.specs.Codes.{CodedGraph}
use Rattle.si_regions.specs.declared.regions.Component.{Component}
use Rattle.si_candidates.specs.Blocks.{state_set, same_set, without_repeats, AreIntervalsFrom, AreIntervals, max_blocks}
use Rattle.si_candidates.specs.Blocks.{AreBlocks}
use Rattle.si_candidates.specs.Blocks.{block_at}

-- a set of so many places
abbrev pub HasSize : ℕ → List Bool → Type 0
HasSize n set = length set ≡ n

marked_size : (n : ℕ) (set : List ℕ) → HasSize n (state_set n set)
marked_size n set = length-map-range_with_len (λ s. list_any (λ t. t == s) set) 0 n

all_marked : (n : ℕ) (f : Component → List ℕ) (components : List Component)
    → All (HasSize n) (map (λ r. state_set n (f r)) components)
all_marked n f [] = All-nil (HasSize n)
all_marked n f (r ∷ components) = All-cons (HasSize n) (state_set n (f r)) (map (λ r. state_set n (f r)) components)
    (marked_size n (f r)) (all_marked n f components)

from_sizes : (g : StateGraph) (from : List Bool) (stops : List Event) (sets : List (List Bool))
    → AreIntervalsFrom g from stops sets → All (HasSize g.states) sets
from_sizes g from [] [] are = All-nil (HasSize g.states)
from_sizes g from (stop ∷ stops) (set ∷ sets) are =
    All-cons (HasSize g.states) set sets are.0.size (from_sizes g from stops sets are.1)
from_sizes g from [] (set ∷ sets) are = absurd are
from_sizes g from (stop ∷ stops) [] are = absurd are

interval_sizes : (g : StateGraph) (stops : List Event) (components : List Component) (sets : List (List Bool))
    → AreIntervals g stops components sets → All (HasSize g.states) sets
interval_sizes g stops [] sets are = subst (All (HasSize g.states)) (sym are) (All-nil (HasSize g.states))
interval_sizes g stops (r ∷ components) sets (here, rest, same, are, others) =
    subst (All (HasSize g.states)) (sym same) (All-append (HasSize g.states) here rest
    (from_sizes g (state_set g.states r.sr) stops here are) (interval_sizes g stops components rest others))

once_sizes : (n : ℕ) (sets : List (List Bool)) → All (HasSize n) sets → All (HasSize n) (without_repeats sets)
once_sizes n [] all = All-nil (HasSize n)
once_sizes n (x ∷ xs) all = All-cons (HasSize n) x _ (all 0 x (omega arith))
    (All-filter (λ z. not (same_set z x)) (HasSize n) (without_repeats xs)
    (once_sizes n xs (λ k d inside. all (suc k) d (omega arith))))

pub block_sizes : (c : CodedGraph) (blocks : List (List Bool)) → AreBlocks c blocks
    → All (HasSize c.graph.states) blocks
block_sizes c blocks are =
    let n = c.graph.states in
    let P = HasSize n in
    let excited = map (λ (x : Component). state_set n x.er) are.components in
    let switched = map (λ (x : Component). state_set n x.sr) are.components in
    let sizes = interval_sizes c.graph _ are.components are.intervals are.intervals_are in
    let rest : All P (switched ++ are.intervals) = All-append P switched are.intervals
    (all_marked n (λ x. x.sr) are.components) sizes in
    let all : All P (excited ++ (switched ++ are.intervals)) = All-append P excited (switched ++ are.intervals)
    (all_marked n (λ x. x.er) are.components) rest in
    subst (All P) (sym are.blocks_are) (All-take P max_blocks _ (once_sizes n _ all))

pub size_at : (c : CodedGraph) (blocks : List (List Bool)) (k : ℕ) → AreBlocks c blocks → k < length blocks
    → length (block_at blocks k) ≡ c.graph.states
size_at c blocks k are within = block_sizes c blocks are k [] within
