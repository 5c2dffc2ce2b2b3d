-- A gate has the next values of the signal that is inserted by the partition for it.
use Rattle.std.proofs.Common.{◌≡◌, ℕ, ◌<◌, ◌&&◌, ◌||◌, not, Bool, true, false, List, length, refl, sym, ap, subst, ◌∙◌}
use Rattle.std.proofs.Common.{inl, inr}
use Rattle.std.proofs.lemmas.Bool.{cases_Bool}
use mathlib.Core.Bool.{beq}
use Rattle.si_base.specs.Codes.{CodedGraph, IsCoded, code, next_value}
use Rattle.si_base.specs.Graph.{StateGraph}
use Rattle.si_base.specs.Netlist.{value_of}
use Rattle.si_divisor.proofs.InstanceLaws.{new_fits}
use Rattle.si_divisor.proofs.SameForced.{ForceAlike, partitions_alike}
use Rattle.si_divisor.specs.Laws.{IsUnate}
use Rattle.si_divisor.specs.PartitionFor.{IsPartitionFor}
use Rattle.si_divisor.specs.Targets.{forced_by}
use Rattle.si_insert.proofs.InsertionCopies.{copy_at}
use Rattle.si_insert.proofs.InsertionProper.{code_at}
use Rattle.si_insert.specs.Insertion.{Copy, IsInsertedGraph, coded, copy_code, new_signal}
use Rattle.si_insert.specs.Lineage.{Current}
use Rattle.si_insert.specs.declared.partition.Class.{Class}
use Rattle.si_by_hand.specs.Forcing.{own_value}
use Rattle.si_by_hand.specs.GateLaws.{GatesMakeTheirSignals, HasNextValues}

-- ---- values that don't fall as the own signal rises
-- 1 too where the value would fall
abbrev risen : (ℕ → Bool → Bool) → ℕ → Bool → Bool
risen value k own = value k false || (own && value k true)

or_false : (a : Bool) → (a || false) ≡ a
or_false true = refl
or_false false = refl

risen_unate : (value : ℕ → Bool → Bool) → IsUnate (risen value)
risen_unate value k high = or_left (value k false) (value k true) (sym (or_false (value k false)) ∙ high)
  where
    or_left : (a b : Bool) → a ≡ true → (a || b) ≡ true
    or_left true b is = refl
    or_left false b is = absurd cc

-- where a value never falls it is the same
same_risen : (value : ℕ → Bool → Bool) (k : ℕ) → (value k false ≡ true → value k true ≡ true) → (own : Bool)
    → risen value k own ≡ value k own
same_risen value k keeps false = or_false (value k false)
same_risen value k keeps true = elim (cases_Bool (value k false)) [
  | inl high ↦ ap (λ (a : Bool). a || value k true) high ∙ sym (keeps high)
  | inr low ↦ ap (λ (a : Bool). a || value k true) low
]

-- ---- at states of a graph with a partition
module _ (c : CodedGraph) (value : ℕ → Bool → Bool) (classes : List Class) (is : IsCoded c)
    (p : IsPartitionFor c.graph (forced_by value c) classes) where
  -- no state is forced to both values
  keeps_at : (s : ℕ) → s < c.graph.states → value (code c s) false ≡ true → value (code c s) true ≡ true
  keeps_at s within high = elim (cases_Bool (value (code c s) true)) [
    | inl stays ↦ stays
    | inr falls ↦ absurd (p.are.targets.one s (record {
      one = p.are.settled.at_one.meets.begins s within (ap (λ (v : Bool). beq v true) high);
      zero = p.are.settled.at_zero.meets.begins s within (ap (λ (v : Bool). beq v false) falls);
    }))
  ]

  same_at : (s : ℕ) → s < c.graph.states → (own : Bool) → risen value (code c s) own ≡ value (code c s) own
  same_at s within own = same_risen value (code c s) (keeps_at s within) own

  alike : ForceAlike c.graph (forced_by value c) (forced_by (risen value) c)
  alike b s within = ap (λ (v : Bool). beq v b) (sym (same_at s within (not b)))

  risen_partition : IsPartitionFor c.graph (forced_by (risen value) c) classes
  risen_partition =
      partitions_alike c.graph (forced_by value c) (forced_by (risen value) c) classes is.graph_is alike p

  -- the value at a copy is the next value there
  pub own_is_next : (name : List ℕ) (copies : List Copy) (h : StateGraph) → IsInsertedGraph c.graph classes
      (new_signal name) copies h → (k : ℕ) → k < h.states
      → (x : Copy) × (code (coded c copies h) k ≡ copy_code c x)
      × (value (code c x.state) x.value ≡ next_value (coded c copies h) k (length c.graph.signals))
  own_is_next name copies h inserted k within =
      let at = copy_at c.graph classes (new_signal name) copies h k inserted within in
      let x = at.0 in
      let here = at.2.within in
      let next = new_fits c (risen value) classes (new_signal name) copies h k x is (risen_unate value)
      risen_partition inserted at.1 in
      (x, code_at c copies h k x at.1, sym (same_at x.state here x.value) ∙ next)

pub gates_make : GatesMakeTheirSignals
gates_make c gate name classes l is p extends =
    let inserts = extends.inserts in
    let z : ℕ = length c.graph.signals in
    let next = own_is_next c (own_value gate z) classes is p name inserts.copies inserts.graph inserts.insertion in
    let there : HasNextValues (coded c inserts.copies inserts.graph) z gate = λ k within.
    (let x = next k within in ap (value_of gate z) x.1 ∙ x.2) in
    subst (λ (v : Current). HasNextValues v.coded z gate) (sym inserts.makes) there
