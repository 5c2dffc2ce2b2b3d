-- (command) What is read of a graph, proper or not.
use Rattle.std.specs.Prelude.{◌≡◌, Option, None, Some}
use Rattle.si_base.specs.Codes.{CodedGraph, IsCoded}
use Rattle.si_base.specs.Graph.{StateGraph}
use Rattle.si_checks.specs.Laws.{ProperOrBreach, AllHold, HasSplit, HasNoValues, HasFork, HasLoss}
use Rattle.si_pictures.specs.declared.seen.Breach.{Breach}
use Rattle.si_pictures.specs.declared.seen.Breach.TheVariants.{Nondeterministic, Inconsistent}
use Rattle.si_pictures.specs.declared.seen.Breach.TheVariants.{Noncommutative, Nonpersistent}
use Rattle.si_pictures.specs.declared.seen.Seen.{Seen}
use Rattle.si_pictures.specs.declared.seen.Seen.TheVariants.{Proper, Coded, Uncoded}
use Rattle.si_readings.specs.Checks.{IsSound}

-- the first breach, by its states and events; none where the graph is proper
abbrev pub breach_of : {g : StateGraph} → ProperOrBreach g → Option Breach
breach_of (AllHold good) = None
breach_of (HasSplit b first) = Some (Nondeterministic b.s b.e b.t b.u)
breach_of (HasNoValues earlier sig first) = Some (Inconsistent sig)
breach_of (HasFork earlier values b first) = Some (Noncommutative b.s b.a b.c)
breach_of (HasLoss earlier values squares b first) = Some (Nonpersistent b.s b.lost b.by)

-- the breach is the graph's first: of determinism, else of consistency, else of commutativity, else
-- of output persistency
abbrev pub IsFirstBreach : StateGraph → Breach → Type 0
IsFirstBreach graph breach =
    (first : ProperOrBreach graph) × (breach_of first ≡ Some breach)

-- the graph has no codes
abbrev pub HasNoCodes : StateGraph → Type 0
HasNoCodes graph = (coded : CodedGraph) → IsCoded coded → coded.graph ≡ graph → ⊥

-- it is read as proper, with its codes; with its codes and its first breach; or without codes, and
-- with its first breach
abbrev pub IsSeen : StateGraph → Seen → Type 0
IsSeen graph (Proper coded) = IsSound graph coded
IsSeen graph (Coded coded breach) =
    IsCoded coded × (coded.graph ≡ graph) × IsFirstBreach graph breach
IsSeen graph (Uncoded given breach) =
    HasNoCodes graph × (given ≡ graph) × IsFirstBreach graph breach
