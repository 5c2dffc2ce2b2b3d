-- One insertion after another is found, or one isn't.
use Rattle.std.proofs.Common.{◌≡◌, ℕ, ◌<◌, ◌≤◌, ◌+◌, Bool, List, [], ◌∷◌, ◌++◌, length, map, slice_get, Some, refl, sym}
use Rattle.std.proofs.Common.{ap, subst, ◌∙◌, arith, AllPairs, ◌≢◌}
use Rattle.std.proofs.lemmas.List.{append-nil, length-append}
use Rattle.std.proofs.lemmas.Option.{same_Some}
use Rattle.si_base.specs.Codes.{CodedGraph}
use Rattle.si_base.specs.declared.graph.Signal.{Signal}
use Rattle.si_base.specs.Graph.{StateGraph}
use Rattle.si_base.specs.Netlist.{Insertion, Netlist}
use Rattle.si_base.specs.System.{IsFor}
use Rattle.si_base.specs.WellFormed.{IsNetlist}
use Rattle.si_insert.specs.declared.lineage.TraceStep.{TraceStep}
use Rattle.si_insert.specs.declared.partition.Class.{Class}
use Rattle.si_insert.specs.Fresh.{IsTaken}
use Rattle.si_insert.specs.Insertion.{new_signal}
use Rattle.si_insert.specs.Lineage.{Current, Extends, History, IsTrace, given_current, given_history}
use Rattle.si_insert.proofs.OneInsertion.{trace_on}
use Rattle.si_candidates.specs.declared.classes.ClassFault.{ClassFault}
use Rattle.si_candidates.specs.Parts.{AreClasses, ShowsNoClasses}
use Rattle.si_audit.proofs.WalkSignals.{signals_are, free_before}
use Rattle.si_found.specs.Found.{Finds, IsTold}
use Rattle.si_found.proofs.OneLineage.{append_more, signals_next}
use Rattle.si_found.proofs.Over.{more_signals}
use Rattle.si_certified.specs.Sets.{AreSwitchSets}
use Rattle.si_certified.proofs.Reasons.{classes_found}
use Rattle.si_finder.specs.declared.next.Next.{Next}
use Rattle.si_finder.specs.declared.next.Next.TheVariants.{Found, Stopped}
use Rattle.si_finder.specs.declared.not_found.NotFound.{NotFound}
use Rattle.si_finder.specs.declared.not_found.NotFound.TheVariants.{NoMemory, TooMany, Astray, Hindered, Unbuilt}
use Rattle.si_finder.specs.declared.not_found.Obstacle.{Obstacle}
use Rattle.si_finder.specs.NotFound.{FindsAll, Hinders, IsHindered, IsObstacle, ShowsUninserted, SwitchesBothWays}
use Rattle.si_finder.specs.Loops.Next.{IsDecided, IsJudged, IsNextFor, IsTorn, TellsClasses}
use Rattle.si_finder.specs.Loops.Steps.{FindsNext, IsFoundTo, StopsNext}

-- ---- one insertion
pub decided_next : (g : StateGraph) (n : Netlist) (v : Current) (plus minus : List Bool) (d : CodedGraph) (next : Next)
    → AreSwitchSets g n v plus minus → d ≡ v.coded → IsDecided d.graph plus minus next → IsNextFor g n v next
decided_next g n v plus minus d next sets same decided =
    by next (subst (λ (e : CodedGraph). IsDecided e.graph plus minus next) same decided)
  where
    by : (x : Next) → IsDecided v.coded.graph plus minus x → IsNextFor g n v x
    by (Found classes) is =
        record { plus = plus; minus = minus; sets = sets; parted = is.0; accepted = is.1 }
    by (Stopped why) is = record { plus = plus; minus = minus; sets = sets; shows = is }

pub judged_decides : (g : StateGraph) (plus minus : List Bool) (classes : List Class) (next : Next)
    → SwitchesBothWays plus minus → AreClasses g plus minus classes → IsJudged g classes next
    → IsDecided g plus minus next
judged_decides g plus minus classes (Found accepted) both parted judged =
    (subst (λ (xs : List Class). AreClasses g plus minus xs) (sym judged.0) parted, judged.1)
judged_decides g plus minus classes (Stopped why) both parted judged =
    subst (λ (w : Obstacle). IsObstacle g plus minus w) (sym judged.1) (both, (classes, parted, judged.2))

pub torn_decides : (g : StateGraph) (plus minus : List Bool) (fault : ClassFault) (next : Next)
    → SwitchesBothWays plus minus → ShowsNoClasses g plus minus fault → IsTorn fault next → IsDecided g plus minus next
torn_decides g plus minus fault next both shows torn =
    let first = subst (λ (f : ClassFault). ShowsNoClasses g plus minus f) torn.1 shows in
    subst (λ (x : Next). IsDecided g plus minus x) (sym torn.2) (both, first)

pub found_next : (n : Netlist) (l m : History) (name : List ℕ) (classes : List Class)
    → TellsClasses l.given.graph n l.current classes
    → slice_get n.signals (length l.current.coded.graph.signals) ≡ Some (new_signal name)
    → Extends l (record { name = name; partition = classes }) m → FindsNext n l m
found_next n l m name classes tells named extends =
    let p : TraceStep = record { name = name; partition = classes } in
    record {
      step = p;
      extends = extends;
      told =
          (classes_found l.given.graph n l.current tells.plus tells.minus p m.current tells.sets tells.parted named
          extends.inserts).1;
    }

-- ---- all insertions
abbrev signals_later : List Insertion → List Signal
signals_later later = map (λ (i : Insertion). new_signal i.name) later

pub begins : (c : CodedGraph) (n : Netlist) (z : ℕ) (l : History) → IsNetlist n → IsFor c n
    → z ≡ length c.graph.signals → l ≡ given_history c → IsFoundTo c n z l
begins c n z l is fits count given =
    subst (λ (m : History). IsFoundTo c n z m) (sym given) (record {
      found = record { given_is = refl; trace = refl };
      count = count;
      later = n.inserts;
      signals = signals_are c n is fits;
    })

-- the signals from the current ones on, of which there are more
record Cut (signals now : List Signal) (later : List Insertion) : Type 0 where
  insertion : Insertion
  rest : List Insertion
  cut : signals ≡ now ++ (new_signal insertion.name ∷ signals_later rest)

cut_next : (signals now : List Signal) (later : List Insertion) → signals ≡ now ++ signals_later later
    → length now < length signals → Cut signals now later
cut_next signals now [] same small =
    absurd (let size = ap (length {A = Signal}) same in omega (arith, size, length-append now [], small))
cut_next signals now (i ∷ later) same small = record { insertion = i; rest = later; cut = same }

cut_last : (signals now : List Signal) (later : List Insertion) → signals ≡ now ++ signals_later later
    → length signals ≤ length now → signals ≡ now
cut_last signals now [] same past = same ∙ append-nil now
cut_last signals now (i ∷ later) same past =
    absurd (let size = ap (length {A = Signal}) same in
    omega (arith, size, length-append now (new_signal i.name ∷ signals_later later), past))

front_of : (xs : List Signal) (y : Signal) (ys : List Signal) → slice_get (xs ++ (y ∷ ys)) (length xs) ≡ Some y
front_of [] y ys = refl
front_of (x ∷ xs) y ys = front_of xs y ys

module _ (c : CodedGraph) (n : Netlist) (z : ℕ) (l : History) (to : IsFoundTo c n z l) where
  pub all_found : length n.signals ≤ z → FindsAll c n l
  all_found past = record {
    found = to.found;
    signals = cut_last n.signals l.current.coded.graph.signals to.later to.signals (omega (arith, past, to.count));
  }

  module _ (within : z < length n.signals) where
    next_cut : Cut n.signals l.current.coded.graph.signals to.later
    next_cut = cut_next n.signals l.current.coded.graph.signals to.later to.signals (omega (arith, within, to.count))

    next_at : slice_get n.signals (length l.current.coded.graph.signals) ≡ Some (new_signal next_cut.insertion.name)
    next_at =
        ap (λ (xs : List Signal). slice_get xs (length l.current.coded.graph.signals)) next_cut.cut
        ∙ front_of l.current.coded.graph.signals (new_signal next_cut.insertion.name) (signals_later next_cut.rest)

    next_is : (x : Signal) → slice_get n.signals z ≡ Some x → x ≡ new_signal next_cut.insertion.name
    next_is x at = same_Some x (new_signal next_cut.insertion.name)
        (sym at ∙ ap (λ (k : ℕ). slice_get n.signals k) to.count ∙ next_at)

    pub next_named : (x : Signal) → slice_get n.signals z ≡ Some x
        → slice_get n.signals (length l.current.coded.graph.signals) ≡ Some (new_signal x.name)
    next_named x at =
        next_at ∙ ap (λ (y : Signal). Some (new_signal y.name)) (sym (next_is x at))

    pub next_free : IsNetlist n → (x : Signal) → slice_get n.signals z ≡ Some x
        → IsTaken l.current.coded.graph.signals x.name → ⊥
    next_free is x at taken =
        let now = l.current.coded.graph.signals in
        let Apart : List Signal → Type 0 = λ xs. AllPairs (λ x y. x.name ≢ y.name) xs in
        free_before now (signals_later next_cut.rest) (new_signal next_cut.insertion.name)
        (subst Apart next_cut.cut is.distinct)
        (subst (λ (y : Signal). IsTaken now y.name) (next_is x at) taken)

    pub goes_on : (m : History) → FindsNext n l m → IsFoundTo c n (z + 1) m
    goes_on m next =
        let ext = next.extends in
        let p = next.step in
        let now = l.current.coded.graph.signals in
        let rest = signals_later next_cut.rest in
        let told : IsTold c.graph n l.current p =
        subst (λ (d : CodedGraph). IsTold d.graph n l.current p) to.found.given_is next.told in
        let finds : Finds c.graph n l.current p m.current = (ext.inserts, told) in
        let trace = trace_on (Finds c.graph n) (given_current c) l.trace l.current p m.current to.found.trace finds in
        let same : new_signal p.name ≡ new_signal next_cut.insertion.name =
        same_Some (new_signal p.name) (new_signal next_cut.insertion.name) (sym next.told.name ∙ next_at) in
        let grown : m.current.coded.graph.signals ≡ now ++ new_signal next_cut.insertion.name ∷ [] =
        signals_next l.current p m.current ext.inserts ∙ ap (λ (y : Signal). now ++ y ∷ []) same in
        let size = more_signals l.current p m.current ext.inserts in
        record {
          found = record {
            given_is = ext.given_stays ∙ to.found.given_is;
            trace = subst (λ (t : List TraceStep). IsTrace (Finds c.graph n) (given_current c) t m.current)
                (sym ext.trace_grows) trace;
          };
          count = omega (arith, size, to.count);
          later = next_cut.rest;
          signals = next_cut.cut ∙ sym (append_more now (new_signal next_cut.insertion.name ∷ []) rest)
              ∙ ap (λ (xs : List Signal). xs ++ rest) (sym grown);
        }

    pub ends_there : (why : NotFound) → StopsNext n l why → ShowsUninserted c n why
    ends_there NoMemory stops = tt
    ends_there TooMany stops = absurd stops
    ends_there (Astray at sig) stops = absurd stops
    ends_there (Hindered m why) stops =
        let hindered : IsHindered c n l why = record {
          found = to.found;
          next = omega (arith, within, to.count);
          hinders = subst (λ (d : CodedGraph). Hinders d.graph n l.current why) to.found.given_is stops.1;
        } in
        subst (λ (k : History). IsHindered c n k why) (sym stops.0) hindered
    ends_there (Unbuilt m why) stops = absurd stops
