-- An audit has one answer.
use Rattle.std.proofs.Common.{◌≡◌, ℕ, ◌<◌, Bool, List, [], ◌∷◌, ◌++◌, All, refl, sym, ap, ap₂, subst, subst₂, ◌∙◌}
use Rattle.std.proofs.Common.{arith}
use Rattle.std.proofs.lemmas.List.Elements.{All-head, All-tail}
use Rattle.si_base.specs.Codes.{CodedGraph}
use Rattle.si_base.specs.Netlist.{Insertion, Netlist}
use Rattle.si_base.specs.Sets.{IsIn}
use Rattle.si_base.specs.WellFormed.{IsInsertion}
use Rattle.si_graph.proofs.SearchLemmas.{in_below}
use Rattle.si_insert.specs.declared.lineage.TraceStep.{TraceStep}
use Rattle.si_insert.specs.declared.partition.Class.{Class}
use Rattle.si_insert.specs.declared.accept.Rejected.{Rejected}
use Rattle.si_insert.specs.Accepted.{ShowsRejected}
use Rattle.si_insert.specs.Lineage.{History, IsLineage, Keeps, given_history}
use Rattle.si_insert.proofs.AcceptedByTests.{rejected_is_not}
use Rattle.si_insert.proofs.InsertionKeeps.{keeps}
use Rattle.si_insert.proofs.OneInsertion.{lineage_on, one_view}
use Rattle.si_candidates.specs.Parts.{AreClasses, HasBothLevels}
use Rattle.si_candidates.proofs.PartLaws.{classes_lawful, classes_unique, torn_have_none}
use Rattle.si_audit.specs.declared.fault.AuditFault.{AuditFault}
use Rattle.si_audit.specs.declared.fault.AuditFault.TheVariants.{NoMemory, States, Classes, Refused, Start, Gate}
use Rattle.si_audit.specs.Named.{NamesSets}
use Rattle.si_audit.specs.Audit.{Takes, TakesAll}
use Rattle.si_audit.specs.Faults.{IsRefused, StopsAt, refused_word}
use Rattle.si_audit.specs.Laws.{CanBeAudited}
use Rattle.si_audit.proofs.StateWords.{HasStateNames}
use Rattle.si_audit.proofs.OneFaultReason.{one_reason}
use Rattle.si_audit.proofs.NamedSetWords.{one_set, some_state}
use Rattle.si_audit.proofs.WalkSignals.{none_inserted}

-- ---- lineages
pub same_history : (l m : History) → l.given ≡ m.given → l.trace ≡ m.trace → l.current ≡ m.current → l ≡ m
same_history l m given trace current = λ i. record { given = given i; trace = trace i; current = current i }

pub goes_on : (states : List (List ℕ)) (l : History) (i : Insertion) (m : History)
    → IsLineage l.given l.trace l.current → Takes states l i m → IsLineage m.given m.trace m.current
goes_on states l i m lineage takes =
    let on = lineage_on l.given l.trace l.current takes.step m.current lineage takes.extends.inserts in
    let P : CodedGraph → List TraceStep → Type 0 = λ c t. IsLineage c t m.current in
    subst₂ P (sym takes.extends.given_stays) (sym takes.extends.trace_grows) on

pub spelled_first : (states : List (List ℕ)) (c : CodedGraph) (n : Netlist) → CanBeAudited states c n
    → HasStateNames states (given_history c)
spelled_first states c n can = record {
  lineage = record {
    coded = can.coded;
    proper = can.proper;
    none_inserted = none_inserted c n can.fits;
    grown = refl;
  };
  count = can.count;
  apart = can.apart;
}

module _ (states : List (List ℕ)) where
  pub spelled_next : (l : History) (i : Insertion) (m : History) → HasStateNames states l → Takes states l i m
      → HasStateNames states m
  spelled_next l i m spelled takes = record {
    lineage = goes_on states l i m spelled.lineage takes;
    count = spelled.count ∙ ap (λ (c : CodedGraph). c.graph.states) (sym takes.extends.given_stays);
    apart = spelled.apart;
  }

  pub spelled_all : (l : History) (inserts : List Insertion) (m : History) → HasStateNames states l
      → TakesAll states l inserts m → HasStateNames states m
  spelled_all l [] m spelled taken = subst (HasStateNames states) taken spelled
  spelled_all l (i ∷ rest) m spelled taken =
      spelled_all taken.0 rest m (spelled_next l i taken.0 spelled taken.1) taken.2

  module _ (l : History) (i : Insertion) (spelled : HasStateNames states l) (form : IsInsertion i) where
    same_sets : (p q x y : List Bool) → NamesSets states l i p q → NamesSets states l i x y → (p ≡ x) × (q ≡ y)
    same_sets p q x y one other =
        (one_set states l i.up p x spelled one.up other.up, one_set states l i.down q y spelled one.down other.down)

    kept : Keeps l.given l.current
    kept = keeps l.given l.trace l.current spelled.lineage

    -- both sets have a state
    pub have_states : (p q : List Bool) → NamesSets states l i p q
        → (r : ℕ) × (f : ℕ) × IsIn p r × (r < l.current.coded.graph.states) × IsIn q f
        × (f < l.current.coded.graph.states)
    have_states p q names =
        let r = some_state states l i.up p names.up form.some_up in
        let f = some_state states l i.down q names.down form.some_down in (
          r.0,
          f.0,
          r.1,
          omega (arith, in_below p r.0 r.1, names.up.size),
          f.1,
          omega (arith, in_below q f.0 f.1, names.down.size),
        )

    same_classes : (p q x y : List Bool) (a b : List Class) → NamesSets states l i p q → NamesSets states l i x y
        → AreClasses l.current.coded.graph p q a → AreClasses l.current.coded.graph x y b → a ≡ b
    same_classes p q x y a b one other are also =
        let g = l.current.coded.graph in
        let same = same_sets p q x y one other in
        let P : List Bool → List Bool → Type 0 = λ u v. AreClasses g u v b in
        let at = have_states p q one in
        classes_unique g p q a b at.0 at.1 kept.coded.graph_is kept.coded.connected at.2 at.3 at.4 at.5 are
        (subst₂ P (sym same.0) (sym same.1) also)

    pub takes_one : (m w : History) → Takes states l i m → Takes states l i w → m ≡ w
    takes_one m w one other =
        let parts : one.step.partition ≡ other.step.partition =
        same_classes one.names.plus one.names.minus other.names.plus other.names.minus one.step.partition
        other.step.partition one.names.names other.names.names one.names.parted other.names.parted in
        let name : one.step.name ≡ other.step.name = one.name_is ∙ sym other.name_is in
        let make : List ℕ → List Class → TraceStep = λ n p. record { name = n; partition = p } in
        let step : one.step ≡ other.step = ap₂ make name parts in
        let trace : m.trace ≡ w.trace =
        one.extends.trace_grows ∙ ap (λ (p : TraceStep). l.trace ++ p ∷ []) step ∙ sym other.extends.trace_grows in
        let given : m.given ≡ w.given = one.extends.given_stays ∙ sym other.extends.given_stays in
        let P : CodedGraph → List TraceStep → Type 0 = λ c t. IsLineage c t w.current in
        let second : IsLineage m.given m.trace w.current =
        subst₂ P (sym given) (sym trace) (goes_on states l i w spelled.lineage other) in
        same_history m w given trace
        (one_view m.given m.trace m.current w.current (goes_on states l i m spelled.lineage one) second)

    -- ---- a fault of the insertion
    pub never_stops : (k : ℕ) (fault : AuditFault) (m : History) → (fault ≡ NoMemory → ⊥)
        → StopsAt states l i k fault → Takes states l i m → ⊥
    never_stops k NoMemory m other stops takes = other refl
    never_stops k (States at) m other stops takes = stops.1 takes.names.plus takes.names.minus takes.names.names
    never_stops k (Classes at) m other stops takes =
        let h = stops.1 in
        let g = l.current.coded.graph in
        let same = same_sets takes.names.plus takes.names.minus h.plus h.minus takes.names.names h.names in
        let P : List Bool → List Bool → Type 0 = λ u v. AreClasses g u v takes.step.partition in
        torn_have_none g h.plus h.minus takes.step.partition h.state (subst₂ P same.0 same.1 takes.names.parted) h.torn
    never_stops k (Refused at state why) m other stops takes =
        let h = stops.1 in
        let same : h.classes ≡ takes.step.partition =
        same_classes h.plus h.minus takes.names.plus takes.names.minus h.classes takes.step.partition h.names
        takes.names.names h.parted takes.names.parted in
        let P : List Class → Type 0 = λ p. ShowsRejected l.current.coded.graph p why in
        rejected_is_not l.current.coded takes.step.partition why kept.coded kept.proper takes.names.accepted.lawful
        (subst P same h.shows) takes.names.accepted
    never_stops k (Start sig) m other stops takes = stops
    never_stops k (Gate sig state) m other stops takes = stops

    torn_not_refused : (p q x y : List Bool) (s : ℕ) (a : List Class) → NamesSets states l i p q
        → HasBothLevels l.current.coded.graph p q s → NamesSets states l i x y → AreClasses l.current.coded.graph x y a
        → ⊥
    torn_not_refused p q x y s a one torn other are =
        let g = l.current.coded.graph in
        let same = same_sets p q x y one other in
        let P : List Bool → List Bool → Type 0 = λ u v. AreClasses g u v a in
        torn_have_none g p q a s (subst₂ P (sym same.0) (sym same.1) are) torn

    same_refusal : (a b : ℕ) (s t : List ℕ) (v w : Rejected) → a ≡ b → IsRefused states l i s v
        → IsRefused states l i t w → Refused a s v ≡ Refused b t w
    same_refusal a b s t v w at one other =
        let g = l.current.coded.graph in
        let parts : one.classes ≡ other.classes =
        same_classes one.plus one.minus other.plus other.minus one.classes other.classes one.names other.names
        one.parted other.parted in
        let place = have_states one.plus one.minus one.names in
        let lawful = classes_lawful g one.plus one.minus one.classes place.0 place.1 kept.coded.graph_is one.parted
        place.2 place.3 place.4 place.5 in
        let P : List Class → Type 0 = λ p. ShowsRejected g p w in
        let why : v ≡ w =
        one_reason l.current.coded one.classes kept.coded kept.proper lawful v w one.shows
        (subst P (sym parts) other.shows) in
        let word : s ≡ t = one.word ∙ ap (λ (r : Rejected). refused_word states l r) why ∙ sym other.word in
        cc

    pub one_stop : (k : ℕ) (a b : AuditFault) → (a ≡ NoMemory → ⊥) → (b ≡ NoMemory → ⊥) → StopsAt states l i k a
        → StopsAt states l i k b → a ≡ b
    one_stop k NoMemory b not_a not_b one other = absurd (not_a refl)
    one_stop k (Start z) b not_a not_b one other = absurd one
    one_stop k (Gate z s) b not_a not_b one other = absurd one
    one_stop k (States j) NoMemory not_a not_b one other = absurd (not_b refl)
    one_stop k (States j) (States m) not_a not_b one other = ap (λ (x : ℕ). States x) (one.0 ∙ sym other.0)
    one_stop k (States j) (Classes m) not_a not_b one other =
        absurd (one.1 other.1.plus other.1.minus other.1.names)
    one_stop k (States j) (Refused m s w) not_a not_b one other =
        absurd (one.1 other.1.plus other.1.minus other.1.names)
    one_stop k (States j) (Start z) not_a not_b one other = absurd other
    one_stop k (States j) (Gate z s) not_a not_b one other = absurd other
    one_stop k (Classes j) NoMemory not_a not_b one other = absurd (not_b refl)
    one_stop k (Classes j) (States m) not_a not_b one other = absurd (other.1 one.1.plus one.1.minus one.1.names)
    one_stop k (Classes j) (Classes m) not_a not_b one other = ap (λ (x : ℕ). Classes x) (one.0 ∙ sym other.0)
    one_stop k (Classes j) (Refused m s w) not_a not_b one other =
        absurd (torn_not_refused one.1.plus one.1.minus other.1.plus other.1.minus one.1.state other.1.classes
        one.1.names one.1.torn other.1.names other.1.parted)
    one_stop k (Classes j) (Start z) not_a not_b one other = absurd other
    one_stop k (Classes j) (Gate z s) not_a not_b one other = absurd other
    one_stop k (Refused j t v) NoMemory not_a not_b one other = absurd (not_b refl)
    one_stop k (Refused j t v) (States m) not_a not_b one other =
        absurd (other.1 one.1.plus one.1.minus one.1.names)
    one_stop k (Refused j t v) (Classes m) not_a not_b one other =
        absurd (torn_not_refused other.1.plus other.1.minus one.1.plus one.1.minus other.1.state one.1.classes
        other.1.names other.1.torn one.1.names one.1.parted)
    one_stop k (Refused j t v) (Refused m s w) not_a not_b one other =
        same_refusal j m t s v w (one.0 ∙ sym other.0) one.1 other.1
    one_stop k (Refused j t v) (Start z) not_a not_b one other = absurd other
    one_stop k (Refused j t v) (Gate z s) not_a not_b one other = absurd other

  -- ---- all insertions
  pub all_one : (l : History) (inserts : List Insertion) (m w : History) → HasStateNames states l
      → All IsInsertion inserts → TakesAll states l inserts m → TakesAll states l inserts w → m ≡ w
  all_one l [] m w spelled forms one other = sym one ∙ other
  all_one l (i ∷ rest) m w spelled forms one other =
      let form = All-head IsInsertion i rest forms in
      let same : one.0 ≡ other.0 = takes_one l i spelled form one.0 other.0 one.1 other.1 in
      let P : History → Type 0 = λ h. TakesAll states h rest w in
      all_one one.0 rest m w (spelled_next l i one.0 spelled one.1) (All-tail IsInsertion i rest forms) one.2
      (subst P (sym same) other.2)

  pub taken_parts : (l : History) (xs ys : List Insertion) (m : History) → TakesAll states l (xs ++ ys) m
      → (w : History) × TakesAll states l xs w × TakesAll states w ys m
  taken_parts l [] ys m taken = (l, refl, taken)
  taken_parts l (x ∷ xs) ys m taken =
      let rest = taken_parts taken.0 xs ys m taken.2 in (rest.0, (taken.0, taken.1, rest.1), rest.2)
