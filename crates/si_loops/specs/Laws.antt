-- (law) The laws of loops, one word each.
use Rattle.std.specs.Prelude.{◌≡◌, ℕ, ◌⊎◌, ◌↔◌, List, [], Contains}
use Rattle.si_base.specs.Netlist.{Netlist}
use Rattle.si_loops.specs.declared.arcs.Arc.{Arc}
use Rattle.si_loops.specs.Arcs.{IsAcyclic, ClosesLoop, Splits}
use Rattle.si_loops.specs.LoopsText.{IsLoopsText}

-- what is kept has no loop
abbrev pub KeptAreAcyclic : Type 0
KeptAreAcyclic = (arcs kept cut : List Arc) → Splits [] arcs kept cut → IsAcyclic kept

-- each arc that is cut closes a loop with those kept: none is superfluous
abbrev pub CutsCloseLoops : Type 0
CutsCloseLoops = (arcs kept cut : List Arc) (a : Arc) → Splits [] arcs kept cut → Contains cut a
    → ClosesLoop kept a

-- each arc is kept or cut, and no other
abbrev pub EachIsKeptOrCut : Type 0
EachIsKeptOrCut = (arcs kept cut : List Arc) (a : Arc) → Splits [] arcs kept cut
    → Contains arcs a ↔ (Contains kept a ⊎ Contains cut a)

-- there is one split at most
abbrev pub SplitsAreOne : Type 0
SplitsAreOne = (arcs kept more cut others : List Arc) → Splits [] arcs kept cut
    → Splits [] arcs more others → (kept ≡ more) × (cut ≡ others)

-- and there is one
abbrev pub SplitsExist : Type 0
SplitsExist = (arcs : List Arc) → (kept : List Arc) × (cut : List Arc) × Splits [] arcs kept cut

-- a netlist has one text of loops
abbrev pub LoopsTextsAreOne : Type 0
LoopsTextsAreOne = (n : Netlist) (text other : List ℕ) → IsLoopsText n text → IsLoopsText n other
    → text ≡ other

-- and it has one
abbrev pub LoopsTextsExist : Type 0
LoopsTextsExist = (n : Netlist) → (text : List ℕ) × IsLoopsText n text
