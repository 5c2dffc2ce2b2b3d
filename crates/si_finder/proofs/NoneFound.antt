-- What a refusal shows, shows that no lineage fits.
use Rattle.std.proofs.Common.{◌≡◌, ℕ, ◌<◌, Bool, List, [], ◌∷◌, refl, ap, subst, arith, length}
use Rattle.std.proofs.lemmas.Option.{slice_get_within}
use Rattle.si_base.specs.Bits.{bit}
use Rattle.si_base.specs.declared.graph.Signal.{Signal}
use Rattle.si_base.specs.Codes.{CodedGraph, IsCoded}
use Rattle.si_base.specs.Graph.{StateGraph}
use Rattle.si_base.specs.Netlist.{Netlist}
use Rattle.si_base.specs.Proper.{IsProper}
use Rattle.si_insert.specs.Built.{IsBuilt}
use Rattle.si_insert.specs.declared.lineage.TraceStep.{TraceStep}
use Rattle.si_insert.specs.Insertion.{new_signal}
use Rattle.si_insert.specs.Lineage.{Current, History, IsTrace, Keeps, given_current}
use Rattle.si_insert.proofs.InsertionKeeps.{keeps_first, keeps_next}
use Rattle.si_found.specs.Found.{Finds}
use Rattle.si_found.proofs.Few.{reached_few}
use Rattle.si_found.proofs.NoneFits.{astray_fits_none, none_fits}
use Rattle.si_certified.specs.Sets.{NoneIsFound, Reason, NeverUp as NotUp, NeverDown as NotDown, BothAt, TornAt}
use Rattle.si_certified.specs.Sets.{Refused as IsNotAccepted}
use Rattle.si_certified.proofs.Deciding.{reason_finds_none}
use Rattle.si_reached.proofs.OneAnswer.{astray_is_reached, many_are_reached}
use Rattle.si_finder.specs.declared.not_found.Difference.{Difference}
use Rattle.si_finder.specs.declared.not_found.Difference.TheVariants.{Start, Gate}
use Rattle.si_finder.specs.declared.not_found.NotFound.TheVariants.{NoMemory, TooMany, Astray, Hindered, Unbuilt}
use Rattle.si_finder.specs.declared.not_found.Obstacle.{Obstacle}
use Rattle.si_finder.specs.declared.not_found.Obstacle.TheVariants.{NeverUp, NeverDown, Both, Classes, Refused}
use Rattle.si_finder.specs.NotFound.{FindsAll, IsFirstDifference, IsFound, IsHindered, IsObstacle}
use Rattle.si_finder.specs.Laws.{RefusalsFitNone}

-- ---- the graph to which found insertions lead
keeps_along : (given : CodedGraph) (g : StateGraph) (n : Netlist) (v : Current) (trace : List TraceStep) (u : Current)
    → IsCoded given → Keeps given v → IsTrace (Finds g n) v trace u → Keeps given u
keeps_along given g n v [] u is kept found = subst (λ (w : Current). Keeps given w) found kept
keeps_along given g n v (p ∷ trace) u is kept found =
    keeps_along given g n found.0 trace u is (keeps_next given v p found.0 is kept found.1.0) found.2

pub found_keeps : (c : CodedGraph) (n : Netlist) (l : History) → IsCoded c → IsProper c.graph → IsFound c n l
    → Keeps c l.current
found_keeps c n l is proper found =
    keeps_along c c.graph n (given_current c) l.trace l.current is (keeps_first c is proper) found.trace

-- ---- no insertion is found where there is an obstacle, nor where all signals are inserted
reason_of : (v : Current) (plus minus : List Bool) (why : Obstacle) → IsObstacle v.coded.graph plus minus why
    → Reason v plus minus
reason_of v plus minus NeverUp shows = NotUp shows
reason_of v plus minus NeverDown shows = NotDown shows.1
reason_of v plus minus (Both s) shows = BothAt s shows.2.holds.0 shows.2.holds.1
reason_of v plus minus (Classes s) shows = TornAt s shows.1.holds
reason_of v plus minus (Refused why) shows = IsNotAccepted shows.1.0 why shows.1.1 shows.1.2

pub hindered_finds_none : (c : CodedGraph) (n : Netlist) (l : History) (why : Obstacle) → IsCoded c → IsProper c.graph
    → IsHindered c n l why → NoneIsFound c.graph n l.current
hindered_finds_none c n l why is proper hindered =
    let kept = found_keeps c n l is proper hindered.found in
    let h = hindered.hinders in
    reason_finds_none c.graph n l.current h.plus h.minus kept.coded kept.proper h.sets
    (reason_of l.current h.plus h.minus why h.shows)

pub all_finds_none : (c : CodedGraph) (n : Netlist) (l : History) → FindsAll c n l → NoneIsFound c.graph n l.current
all_finds_none c n l all p u finds =
    let count = length l.current.coded.graph.signals in
    let size : length n.signals ≡ count = ap (length {A = Signal}) all.signals in
    let small = slice_get_within n.signals count (new_signal p.name) finds.1.name in
    omega (arith, small, size)

-- ---- what is found isn't built
pub next_unbuilt : (n : Netlist) (v : Current) → length v.coded.graph.signals < length n.signals → IsBuilt v n → ⊥
next_unbuilt n v next built = (let size = ap (length {A = Signal}) built.signals in omega (arith, size, next))

pub different_unbuilt : (l : History) (n : Netlist) (why : Difference) → IsFirstDifference l n why
    → IsBuilt l.current n → ⊥
different_unbuilt l n (Start sig) first built =
    first.holds.differs (ap (λ (k : ℕ). bit k sig) built.start)
different_unbuilt l n (Gate sig state) first built =
    let wrong = first.1.holds in
    wrong.differs (built.gives.gates state sig wrong.within wrong.gate)

-- ---- so no lineage fits
pub refusals_fit_none : RefusalsFitNone
refusals_fit_none c n NoMemory is proper shows other l fits = other refl
refusals_fit_none c n TooMany is proper shows other l fits =
    let many = many_are_reached c.graph n shows in
    let few = reached_few c n l many.0 fits many.1 many.2 in
    omega (arith, few, many.3)
refusals_fit_none c n (Astray at sig) is proper shows other l fits =
    let away = astray_is_reached c.graph n at sig shows.1 in
    astray_fits_none c n away.0 away.1 away.2 l fits
refusals_fit_none c n (Hindered m why) is proper shows other l fits =
    let hindered = shows.1 in
    none_fits c n m.trace m.current hindered.found.trace (hindered_finds_none c n m why is proper hindered)
    (next_unbuilt n m.current hindered.next) l fits
refusals_fit_none c n (Unbuilt m why) is proper shows other l fits =
    none_fits c n m.trace m.current shows.1.found.trace (all_finds_none c n m shows.1)
    (different_unbuilt m n why shows.2) l fits
