-- A graph has one best divisor.
use Rattle.std.proofs.Common.{◌≡◌, ℕ, List, subst, subst₂}
use Rattle.si_base.specs.Codes.{CodedGraph}
use Rattle.si_cell.specs.Library.{Library, Instance, instance_value}
use Rattle.si_divisor.specs.PartitionFor.{IsPartitionFor}
use Rattle.si_divisor.specs.Targets.{forced_by}
use Rattle.si_divisor.proofs.OnePartitionFor.{one_partition}
use Rattle.si_insert.specs.declared.partition.Class.{Class}
use Rattle.si_insert.proofs.RowSearchLemmas.{one_least}
use Rattle.si_map.specs.Best.{Choice, LeavesWeight, IsDivisorAt, Serves}
use Rattle.si_map.specs.Laws.{BestIsUnique}
use Rattle.si_map.proofs.BestDivisors.{one_divisor}
use Rattle.si_map.proofs.BestWeight.{weight_is_one}

-- ---- one place, one choice
module _ (c : CodedGraph) (library : Library) where
  pub one_classes : (x y : Choice) → Serves c library x → Serves c library y → x.signal ≡ y.signal
      → x.place ≡ y.place → x.classes ≡ y.classes
  one_classes x y a b same_signal same_place =
      let P : ℕ → ℕ → Type 0 = λ z k. IsDivisorAt c library z k a.divisor in
      let at : P y.signal y.place = subst₂ P same_signal same_place a.at in
      let divisor : a.divisor ≡ b.divisor =
      one_divisor c library y.signal y.place a.divisor b.divisor at b.at in
      let R : Instance → Type 0 = λ d. IsPartitionFor c.graph (forced_by (instance_value library d) c) x.classes in
      one_partition c.graph (forced_by (instance_value library b.divisor) c) x.classes y.classes
      (subst R divisor a.are) b.are

  pub one_weight : (x y : Choice) → Serves c library x → Serves c library y → x.signal ≡ y.signal
      → x.place ≡ y.place → x.weight ≡ y.weight
  one_weight x y a b same_signal same_place =
      let P : List Class → Type 0 = λ xs. LeavesWeight c library xs x.weight in
      let classes = one_classes x y a b same_signal same_place in
      weight_is_one c library y.classes x.weight y.weight (subst P classes a.leaves) b.leaves

pub same_choice : (x y : Choice) → x.signal ≡ y.signal → x.place ≡ y.place → x.classes ≡ y.classes
    → x.weight ≡ y.weight → x ≡ y
same_choice x y p q r s = λ k. record { signal = p k; place = q k; classes = r k; weight = s k }

-- ---- the best one
pub one_best : BestIsUnique
one_best c library x y is a b =
    let same = one_least (Serves c library) (λ z. z.weight) (λ z. z.signal) (λ z. z.place) x y a b in
    same_choice x y same.1 same.2 (one_classes c library x y a.holds b.holds same.1 same.2) same.0
