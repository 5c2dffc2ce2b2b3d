-- For the next hidden signal there is an insertion that is found, or a reason.
use Rattle.std.proofs.Common.{◌≡◌, ℕ, ◌<◌, ◌⊎◌, Bool, true, false, List, sym, subst, ◌∙◌, arith, length, slice_get, Some, inl, inr}
use Rattle.std.proofs.Common.{zero, suc}
use Rattle.std.specs.List.{slice_index_or}
use Rattle.std.proofs.lemmas.Bool.{true≢false, cases_Bool, cases_eq}
use Rattle.si_base.specs.Codes.{IsCoded}
use Rattle.si_base.specs.Graph.{StateGraph}
use Rattle.si_base.specs.Netlist.{Netlist}
use Rattle.si_base.specs.Proper.{IsProper}
use Rattle.si_base.specs.Sets.{IsIn}
use Rattle.si_graph.proofs.SearchLemmas.{in_below}
use Rattle.si_insert.specs.declared.lineage.TraceStep.{TraceStep}
use Rattle.si_insert.specs.declared.partition.Class.{Class}
use Rattle.si_insert.specs.Fresh.{IsTaken}
use Rattle.si_insert.specs.Insertion.{new_signal}
use Rattle.si_insert.specs.Lineage.{Current}
use Rattle.si_insert.proofs.InsertionsExist.{some_next}
use Rattle.si_base.specs.Sets.{IsDisjoint}
use Rattle.si_candidates.specs.Parts.{AreClasses}
use Rattle.si_candidates.proofs.ClassesExist.{classes_or_torn}
use Rattle.si_candidates.proofs.PartLaws.{classes_lawful}
use Rattle.si_audit.proofs.FaultReasonExists.{accepted_or_reason}
use Rattle.si_found.specs.Found.{Finds}
use Rattle.si_certified.specs.Sets.{AreSwitchSets, NoneIsFound, Reason, NeverUp, NeverDown, BothAt, TornAt, Refused}
use Rattle.si_certified.proofs.Reasons.{classes_found, both_find_none, never_finds_none, torn_find_none, refused_find_none}

-- some state below k is in both sets, or none is
meet_or_not : (one other : List Bool) (k : ℕ) → ((s : ℕ) × IsIn one s × IsIn other s)
    ⊎ ((s : ℕ) → s < k → IsIn one s → IsIn other s → ⊥)
meet_or_not one other zero = inr (λ s small. absurd (omega (arith, small)))
meet_or_not one other (suc k) = elim (meet_or_not one other k) [
  | inl found ↦ inl found
  | inr none ↦ elim (cases_Bool (slice_index_or one k false)) [
    | inr out ↦ inr (λ s small in_one in_other. last s small none in_one in_other
        (λ same. true≢false (sym (subst (λ (i : ℕ). IsIn one i) same in_one) ∙ out)) (cases_eq s k))
    | inl in_k ↦ elim (cases_Bool (slice_index_or other k false)) [
      | inl also ↦ inl (k, in_k, also)
      | inr out ↦ inr (λ s small in_one in_other. last s small none in_one in_other
          (λ same. true≢false (sym (subst (λ (i : ℕ). IsIn other i) same in_other) ∙ out)) (cases_eq s k))
    ]
  ]
]
  where
    last : (s : ℕ) → s < suc k → ((t : ℕ) → t < k → IsIn one t → IsIn other t → ⊥) → IsIn one s → IsIn other s
        → (s ≡ k → ⊥) → ((s ≡ k) ⊎ (s ≡ k → ⊥)) → ⊥
    last s small none in_one in_other not_k (inl same) = not_k same
    last s small none in_one in_other not_k (inr before) = none s (omega (arith, small, before)) in_one in_other

some_or_none : (set : List Bool) → ((s : ℕ) × IsIn set s) ⊎ ((s : ℕ) → IsIn set s → ⊥)
some_or_none set = elim (meet_or_not set set (length set)) [
  | inl found ↦ inl (found.0, found.1)
  | inr none ↦ inr (λ s there. none s (in_below set s there) there there)
]

apart_or_not : (one other : List Bool) → ((s : ℕ) × IsIn one s × IsIn other s) ⊎ IsDisjoint one other
apart_or_not one other = elim (meet_or_not one other (length one)) [
  | inl found ↦ inl found
  | inr none ↦ inr (λ s in_one in_other. none s (in_below one s in_one) in_one in_other)
]

module _ (g : StateGraph) (n : Netlist) (v : Current) (plus minus : List Bool) (name : List ℕ) (is : IsCoded v.coded)
    (proper : IsProper v.coded.graph) (sets : AreSwitchSets g n v plus minus)
    (named : slice_get n.signals (length v.coded.graph.signals) ≡ Some (new_signal name))
    (free : IsTaken v.coded.graph.signals name → ⊥) where
  abbrev Answer : Type 0
  Answer = ((p : TraceStep) × (u : Current) × Finds g n v p u) ⊎ Reason v plus minus

  with_classes : (r f : ℕ) → IsIn plus r → IsIn minus f → (classes : List Class)
      → AreClasses v.coded.graph plus minus classes → Answer
  with_classes r f rises falls classes are =
      let r_in : r < v.coded.graph.states = (let b = in_below plus r rises in omega (arith, b, sets.plus_size)) in
      let f_in : f < v.coded.graph.states = (let b = in_below minus f falls in omega (arith, b, sets.minus_size)) in
      let lawful = classes_lawful v.coded.graph plus minus classes r f is.graph_is are rises r_in falls f_in in
      elim (accepted_or_reason v.coded classes is proper lawful) [
        | inl accepted ↦
            (let p : TraceStep = record { name = name; partition = classes } in
            let next = some_next v p is accepted free in
            inl (p, next.0, classes_found g n v plus minus p next.0 sets are named next.1.inserts))
        | inr why ↦ inr (Refused classes why.0 are why.1)
      ]

  with_states : (r f : ℕ) → IsIn plus r → IsIn minus f → IsDisjoint plus minus → Answer
  with_states r f rises falls apart =
      elim (classes_or_torn v.coded.graph plus minus r f is.graph_is is.connected sets.plus_size sets.minus_size apart rises
      falls) [
        | inl classes ↦ with_classes r f rises falls classes.0 classes.1
        | inr torn ↦ inr (TornAt torn.0 torn.1)
      ]

  answer : Answer
  answer = elim (some_or_none plus) [
    | inr never ↦ inr (NeverUp never)
    | inl r ↦ elim (some_or_none minus) [
      | inr never ↦ inr (NeverDown never)
      | inl f ↦ elim (apart_or_not plus minus) [
        | inl s ↦ inr (BothAt s.0 s.1 s.2)
        | inr apart ↦ with_states r.0 f.0 r.1 f.1 apart
      ]
    ]
  ]

pub found_or_reason : (g : StateGraph) (n : Netlist) (v : Current) (plus minus : List Bool) (name : List ℕ)
    → IsCoded v.coded → IsProper v.coded.graph → AreSwitchSets g n v plus minus
    → slice_get n.signals (length v.coded.graph.signals) ≡ Some (new_signal name)
    → (IsTaken v.coded.graph.signals name → ⊥)
    → ((p : TraceStep) × (u : Current) × Finds g n v p u) ⊎ Reason v plus minus
found_or_reason g n v plus minus name is proper sets named free = answer g n v plus minus name is proper sets named free

pub reason_finds_none : (g : StateGraph) (n : Netlist) (v : Current) (plus minus : List Bool)
    → IsCoded v.coded → IsProper v.coded.graph → AreSwitchSets g n v plus minus
    → Reason v plus minus → NoneIsFound g n v
reason_finds_none g n v plus minus is proper sets (NeverUp none) =
    never_finds_none g n v true (λ s small switches. none s ((sets.plus_is s small).1 switches))
reason_finds_none g n v plus minus is proper sets (NeverDown none) =
    never_finds_none g n v false (λ s small switches. none s ((sets.minus_is s small).1 switches))
reason_finds_none g n v plus minus is proper sets (BothAt s rises falls) =
    (let b = in_below plus s rises in
    both_find_none g n v plus minus s sets (omega (arith, b, sets.plus_size)) rises falls)
reason_finds_none g n v plus minus is proper sets (TornAt s torn) = torn_find_none g n v plus minus s is sets torn
reason_finds_none g n v plus minus is proper sets (Refused classes why parted shows) =
    refused_find_none g n v plus minus classes why is proper sets parted shows
