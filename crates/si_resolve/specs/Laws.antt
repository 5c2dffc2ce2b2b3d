-- (law) The laws of resolving, one word each.
use Rattle.std.specs.Prelude.{◌≡◌, ℕ, ◌+◌, ◌<◌, ◌≤◌, ◌⊎◌, Option, Bool, List, ◌++◌, length, Some}
use Rattle.std.specs.Prelude.{None}
use Rattle.si_base.specs.Codes.{CodedGraph, IsCoded}
use Rattle.si_base.specs.Proper.{IsProper}
use Rattle.si_base.specs.Sets.{IsIn}
use Rattle.si_candidates.specs.Blocks.{AreBlocks, block_at}
use Rattle.si_candidates.specs.Blocking.{MaySwitch}
use Rattle.si_resolve.specs.Loops.Search.{IsEarlier, IsBestSoFar, bar}
use Rattle.si_base.specs.Netlist.{Netlist}
use Rattle.si_base.specs.Behaviour.{Implements}
use Rattle.si_conflicts.specs.Conflicts.{HasConflicts}
use Rattle.si_insert.specs.declared.lineage.TraceStep.{TraceStep}
use Rattle.si_insert.specs.Lineage.{Current, IsLineage}
use Rattle.si_insert.specs.Built.{IsBuilt}
use Rattle.si_resolve.specs.Best.{Choice, IsChoice, IsBest, Improves, NoneImproves}
use Rattle.si_resolve.specs.Trace.{IsResolvingTrace, EndsResolved, EndsUnresolved}

-- ---- the best candidate
abbrev pub BestIsUnique : Type 0
BestIsUnique = (c : CodedGraph) (x y : Choice) → IsCoded c → IsBest c x → IsBest c y → x ≡ y

-- where no accepted candidate has fewer conflicts, the best has none fewer
abbrev pub NoneImprovesIsStuck : Type 0
NoneImprovesIsStuck = (c : CodedGraph) (x : Choice) (n : ℕ) → NoneImproves c → IsBest c x
    → HasConflicts c n → n ≤ x.conflicts

-- ---- the search for it
-- it starts before all candidates
abbrev pub SearchStarts : Type 0
SearchStarts = (c : CodedGraph) (blocks : List (List Bool)) (n : ℕ)
    → IsBestSoFar c blocks n 0 0 None

-- a candidate that isn't accepted, or doesn't get below the bar, is passed over
abbrev pub SearchSkips : Type 0
SearchSkips = (c : CodedGraph) (blocks : List (List Bool)) (n j i : ℕ) (o : Option Choice)
    → ((y : Choice) → IsChoice c blocks y → y.j ≡ j → y.i ≡ i → bar n o ≤ y.conflicts)
    → IsBestSoFar c blocks n j i o → IsBestSoFar c blocks n j (i + 1) o

-- one that gets below it is the best so far
abbrev pub SearchTakes : Type 0
SearchTakes = (c : CodedGraph) (blocks : List (List Bool)) (n j i : ℕ) (o : Option Choice)
    (x : Choice)
    → IsCoded c → IsChoice c blocks x → x.j ≡ j → x.i ≡ i → x.conflicts < bar n o
    → IsBestSoFar c blocks n j i o → IsBestSoFar c blocks n j (i + 1) (Some x)

-- the rest of a row is passed over where none of it is accepted and gets below the bar, as at its
-- end
abbrev pub SearchPassesRow : Type 0
SearchPassesRow = (c : CodedGraph) (blocks : List (List Bool)) (n j i : ℕ) (o : Option Choice)
    → ((y : Choice) → IsChoice c blocks y → y.j ≡ j
    → IsEarlier y j i ⊎ ((IsEarlier y j i → ⊥) × (bar n o ≤ y.conflicts)))
    → IsBestSoFar c blocks n j i o → IsBestSoFar c blocks n (j + 1) 0 o

-- at the end of all candidates the best so far is the best, or there is none
abbrev pub SearchFinds : Type 0
SearchFinds = (c : CodedGraph) (blocks : List (List Bool)) (n : ℕ) (x : Choice) → AreBlocks c blocks
    → HasConflicts c n → IsBestSoFar c blocks n (length blocks) 0 (Some x) → Improves c x

abbrev pub SearchFindsNone : Type 0
SearchFindsNone = (c : CodedGraph) (blocks : List (List Bool)) (n : ℕ) → AreBlocks c blocks
    → HasConflicts c n → IsBestSoFar c blocks n (length blocks) 0 None → NoneImproves c

-- a block where the new signal may not switch is in no accepted candidate
abbrev pub BlockRefuses : Type 0
BlockRefuses = (c : CodedGraph) (blocks : List (List Bool)) (x : Choice) → IsCoded c
    → IsProper c.graph → IsChoice c blocks x
    → MaySwitch c.graph (IsIn (block_at blocks x.i))
    × MaySwitch c.graph (IsIn (block_at blocks x.j))

-- ---- traces
-- each insertion lowers the number of conflicts
abbrev pub TracesAreShort : Type 0
TracesAreShort = (v : Current) (trace : List TraceStep) (w : Current) (n : ℕ) → IsCoded v.coded
    → IsResolvingTrace v trace w → HasConflicts v.coded n
    → (m : ℕ) × HasConflicts w.coded m × (length trace + m ≤ n)

abbrev pub ResolvedIsUnique : Type 0
ResolvedIsUnique = (v : Current) (xs ys : List TraceStep) (w u : Current) → IsCoded v.coded
    → EndsResolved v xs w → EndsResolved v ys u → (xs ≡ ys) × (w ≡ u)

abbrev pub UnresolvedIsUnique : Type 0
UnresolvedIsUnique = (v : Current) (xs ys : List TraceStep) (w u : Current) (a b : ℕ × ℕ)
    → IsCoded v.coded → EndsUnresolved v xs w a → EndsUnresolved v ys u b
    → (xs ≡ ys) × (w ≡ u) × (a ≡ b)

abbrev pub EndsExclude : Type 0
EndsExclude = (v : Current) (xs ys : List TraceStep) (w u : Current) (pair : ℕ × ℕ)
    → IsCoded v.coded → EndsResolved v xs w → EndsUnresolved v ys u pair → ⊥

-- a lineage and a resolving trace from it are a lineage
abbrev pub TracesAreLineages : Type 0
TracesAreLineages = (given : CodedGraph) (before trace : List TraceStep) (v w : Current)
    → IsLineage given before v → IsResolvingTrace v trace w → IsLineage given (before ++ trace) w

-- right gates for the last graph of a resolving trace implement the given graph
abbrev pub TracesImplement : Type 0
TracesImplement = (given : CodedGraph) (before trace : List TraceStep) (v w : Current) (n : Netlist)
    → IsLineage given before v → IsResolvingTrace v trace w → IsBuilt w n → Implements n given.graph

-- from each proper graph a trace ends: resolved, or unresolved with a first conflict
abbrev pub ResolvingEnds : Type 0
ResolvingEnds = (v : Current) → IsCoded v.coded → IsProper v.coded.graph
    → (trace : List TraceStep) × (w : Current)
    × (EndsResolved v trace w ⊎ ((pair : ℕ × ℕ) × EndsUnresolved v trace w pair))
