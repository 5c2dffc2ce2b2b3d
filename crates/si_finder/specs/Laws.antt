-- (law) The laws of what is found, one word each.
use Rattle.std.specs.Prelude.{◌≡◌, ◌≢◌, Result, Ok, Err}
use Rattle.si_base.specs.Codes.{CodedGraph, IsCoded}
use Rattle.si_base.specs.Netlist.{Netlist}
use Rattle.si_base.specs.Proper.{IsProper}
use Rattle.si_base.specs.System.{IsFor}
use Rattle.si_base.specs.WellFormed.{IsNetlist}
use Rattle.si_insert.specs.Lineage.{History}
use Rattle.si_found.specs.Found.{Fits}
use Rattle.si_finder.specs.declared.not_found.NotFound.{NotFound}
use Rattle.si_finder.specs.declared.not_found.NotFound.TheVariants.{NoMemory}
use Rattle.si_finder.specs.NotFound.{ShowsNotFound}

-- a lineage that fits, or a reason, but want of memory
abbrev pub IsAnswer : CodedGraph → Netlist → Result History NotFound → Type 0
IsAnswer c n (Ok l) = Fits c n l
IsAnswer c n (Err why) = ShowsNotFound c n why × (why ≢ NoMemory)

-- where a reason is told no lineage fits
abbrev pub RefusalsFitNone : Type 0
RefusalsFitNone = (c : CodedGraph) (n : Netlist) (why : NotFound) → IsCoded c → IsProper c.graph
    → ShowsNotFound c n why → why ≢ NoMemory → (l : History) → Fits c n l → ⊥

-- of a graph and a netlist there is one answer
abbrev pub AnswersAreOne : Type 0
AnswersAreOne = (c : CodedGraph) (n : Netlist) (one other : Result History NotFound) → IsCoded c
    → IsProper c.graph → IsAnswer c n one → IsAnswer c n other → one ≡ other

-- a graph and a netlist for it have an answer
abbrev pub AnswersExist : Type 0
AnswersExist = (c : CodedGraph) (n : Netlist) → IsCoded c → IsProper c.graph → IsNetlist n
    → IsFor c n → (r : Result History NotFound) × IsAnswer c n r
