-- What a fault of one insertion shows.
use Rattle.std.proofs.Common.{◌≡◌, ℕ, ◌⊎◌, List, refl, sym, subst, inl, inr}
use Rattle.si_base.specs.Codes.{CodedGraph}
use Rattle.si_base.specs.Netlist.{Insertion, Netlist}
use Rattle.si_insert.specs.declared.accept.Rejected.{Rejected}
use Rattle.si_insert.specs.Lineage.{History, given_history}
use Rattle.si_audit.specs.declared.fault.AuditFault.{AuditFault}
use Rattle.si_audit.specs.declared.fault.AuditFault.TheVariants.{NoMemory, States, Classes, Refused, Start, Gate}
use Rattle.si_audit.specs.Audit.{TakesAll}
use Rattle.si_audit.specs.Faults.{IsRefused, IsRejected, IsUnbuilt, ShowsFault, ShowsRejection}
use Rattle.si_audit.specs.Faults.{StopsAt, StopsLast, refused_word}
use Rattle.si_audit.specs.Loops.Within.{TellsRefusal}

-- the fault that is told of a refused partition
pub told_stops : (states : List (List ℕ)) (l : History) (i : Insertion) (k : ℕ) (why : Rejected) (fault : AuditFault)
    → ((state : List ℕ) → state ≡ refused_word states l why → IsRefused states l i state why)
    → TellsRefusal (refused_word states l why) why k fault → StopsAt states l i k fault
told_stops states l i k why NoMemory refused tells = tt
told_stops states l i k why (States at) refused tells = absurd tells
told_stops states l i k why (Classes at) refused tells = absurd tells
told_stops states l i k why (Refused at state told) refused tells =
    (tells.0, subst (λ w. IsRefused states l i state w) (sym tells.2) (refused state tells.1))
told_stops states l i k why (Start sig) refused tells = absurd tells
told_stops states l i k why (Gate sig state) refused tells = absurd tells

-- a fault of an insertion of the netlist is the netlist's
pub stops_show : (states : List (List ℕ)) (c : CodedGraph) (n : Netlist) (l : History) (i : Insertion) (k : ℕ)
    (fault : AuditFault)
    → ((f : AuditFault) → StopsAt states l i k f → IsRejected states c n f)
    → StopsAt states l i k fault → ShowsRejection states c n fault
stops_show states c n l i k NoMemory rejected stops = tt
stops_show states c n l i k (States at) rejected stops = rejected (States at) stops
stops_show states c n l i k (Classes at) rejected stops = rejected (Classes at) stops
stops_show states c n l i k (Refused at state why) rejected stops = rejected (Refused at state why) stops
stops_show states c n l i k (Start sig) rejected stops = absurd stops
stops_show states c n l i k (Gate sig state) rejected stops = absurd stops

-- what insertions show, the whole audit shows
pub rejection_shows : (states : List (List ℕ)) (c : CodedGraph) (n : Netlist) (fault : AuditFault)
    → ShowsRejection states c n fault → ShowsFault states c n fault
rejection_shows states c n NoMemory shows = tt
rejection_shows states c n (States k) shows = shows
rejection_shows states c n (Classes k) shows = shows
rejection_shows states c n (Refused k state why) shows = shows
rejection_shows states c n (Start sig) shows = absurd shows
rejection_shows states c n (Gate sig state) shows = absurd shows

pub is_rejected : (states : List (List ℕ)) (c : CodedGraph) (n : Netlist) (fault : AuditFault)
    → (fault ≡ NoMemory → ⊥) → ShowsRejection states c n fault → IsRejected states c n fault
is_rejected states c n NoMemory other shows = absurd (other refl)
is_rejected states c n (States k) other shows = shows
is_rejected states c n (Classes k) other shows = shows
is_rejected states c n (Refused k state why) other shows = shows
is_rejected states c n (Start sig) other shows = absurd shows
is_rejected states c n (Gate sig state) other shows = absurd shows

-- where the whole audit ends with a fault, an insertion is rejected, or all are taken
pub rejected_or_taken : (states : List (List ℕ)) (c : CodedGraph) (n : Netlist) (fault : AuditFault)
    → ShowsFault states c n fault
    → ShowsRejection states c n fault ⊎ ((l : History) × TakesAll states (given_history c) n.inserts l)
rejected_or_taken states c n NoMemory shows = inl tt
rejected_or_taken states c n (States k) shows = inl shows
rejected_or_taken states c n (Classes k) shows = inl shows
rejected_or_taken states c n (Refused k state why) shows = inl shows
rejected_or_taken states c n (Start sig) shows = inr (shows.lineage, shows.taken)
rejected_or_taken states c n (Gate sig state) shows = inr (shows.lineage, shows.taken)

-- and so is a fault of start or gates
pub last_shows : (states : List (List ℕ)) (c : CodedGraph) (n : Netlist) (l : History) (fault : AuditFault)
    → ((f : AuditFault) → StopsLast states l n f → IsUnbuilt states c n f)
    → StopsLast states l n fault → ShowsFault states c n fault
last_shows states c n l NoMemory unbuilt stops = tt
last_shows states c n l (States at) unbuilt stops = absurd stops
last_shows states c n l (Classes at) unbuilt stops = absurd stops
last_shows states c n l (Refused at state why) unbuilt stops = absurd stops
last_shows states c n l (Start sig) unbuilt stops = unbuilt (Start sig) stops
last_shows states c n l (Gate sig state) unbuilt stops = unbuilt (Gate sig state) stops
