-- What the calls of the search hand out, as a partition or a reason.
use Rattle.std.proofs.Common.{◌≡◌, ℕ, ◌<◌, Bool, true, false, List, length, slice_index_or, ◌∙◌, sym, subst, arith}
use Rattle.si_base.specs.Graph.{StateGraph, IsGraph}
use Rattle.si_base.specs.Codes.{CodedGraph, IsCoded}
use Rattle.si_insert.specs.declared.partition.Class.{Class}
use Rattle.si_insert.specs.Partition.{class_of, IsLawful}
use Rattle.si_divisor.specs.Targets.{IsLeast, AreSettled, AreForced, IsUnforced, SettlesAtBoth, forced_by, forced_in}
use Rattle.si_divisor.specs.Targets.{target}
use Rattle.si_divisor.specs.Switching.{Switches}
use Rattle.si_divisor.specs.PartitionFor.{Sets, AreSets, LeavesAt, HasSome, class_for, IsPartitionFor, HasNone}
use Rattle.si_divisor.specs.PartitionFor.{ShowsNone}
use Rattle.si_divisor.specs.declared.fault.NoPartition.{NoPartition}
use Rattle.si_divisor.proofs.PartitionLemmas.{lawful}
use Rattle.si_divisor.proofs.SameForced.{ForceAlike, partitions_alike, reasons_alike}

abbrev pub sets_of : List Bool → List Bool → List Bool → List Bool → Sets
sets_of ones zeros plus minus = record { ones = ones; zeros = zeros; plus = plus; minus = minus }

pub are_sets : (g : StateGraph) (forced : Bool → ℕ → Bool) (ones zeros plus minus : List Bool)
    → AreSettled g forced ones zeros → ((s : ℕ) → IsUnforced g ones zeros s → ⊥)
    → ((s : ℕ) → SettlesAtBoth ones zeros s → ⊥)
    → IsLeast g.states (Switches g (target ones) true) plus → IsLeast g.states (Switches g (target ones) false) minus
    → AreSets g forced (sets_of ones zeros plus minus)
are_sets g forced ones zeros plus minus settled some one rising falling = record {
  settled = settled;
  targets = record { some = some; one = one };
  rising = rising;
  falling = falling;
}

-- the class of each state is that by the sets
abbrev pub AreClassesBy : List Bool → List Bool → List Bool → List Class → Type 0
AreClassesBy ones plus minus classes = (s : ℕ) → s < length plus
    → class_of classes s ≡ class_for (slice_index_or plus s false) (slice_index_or minus s false)
    (slice_index_or ones s false)

pub is_partition : (g : StateGraph) (forced : Bool → ℕ → Bool) (ones zeros plus minus : List Bool)
    (classes : List Class)
    → AreSets g forced (sets_of ones zeros plus minus) → ((s : ℕ) → LeavesAt forced plus minus s → ⊥) → HasSome plus
    → HasSome minus → length classes ≡ length plus → AreClassesBy ones plus minus classes
    → IsPartitionFor g forced classes
is_partition g forced ones zeros plus minus classes are stays up down count each = record {
  sets = sets_of ones zeros plus minus;
  are = are;
  stays = stays;
  rises = up;
  falls = down;
  count = count ∙ are.rising.size;
  classes_are = λ s within. each s (omega (arith, within, are.rising.size));
}

-- sets of forced states tell what is forced
pub tells_forced : (forced : Bool → ℕ → Bool) (n : ℕ) (up down : List Bool) → AreForced forced n up down → (b : Bool)
    (s : ℕ) → s < n → forced_in up down b s ≡ forced b s
tells_forced forced n up down are true s within = are.up_is s within
tells_forced forced n up down are false s within = are.down_is s within

-- ---- from sets of forced states to an instance
module _ (value : ℕ → Bool → Bool) (c : CodedGraph) (g : StateGraph) (up down : List Bool) (is : g ≡ c.graph)
    (coded : IsCoded c) (are : AreForced (forced_by value c) c.graph.states up down) where
  graph : IsGraph g
  graph = subst IsGraph (sym is) coded.graph_is

  same : ForceAlike g (forced_in up down) (forced_by value c)
  same b s within =
      tells_forced (forced_by value c) c.graph.states up down are b s
      (subst (λ (h : StateGraph). s < h.states) is within)

  pub partition_carried : (classes : List Class) → IsPartitionFor g (forced_in up down) classes
      → IsPartitionFor c.graph (forced_by value c) classes
  partition_carried classes p =
      let P : StateGraph → Type 0 = λ h. IsPartitionFor h (forced_by value c) classes in
      subst P is (partitions_alike g (forced_in up down) (forced_by value c) classes graph same p)

  pub lawful_carried : (classes : List Class) → IsPartitionFor g (forced_in up down) classes
      → IsLawful c.graph classes
  lawful_carried classes p = subst (λ (h : StateGraph). IsLawful h classes) is
      (lawful g (forced_in up down) classes graph p)

  pub reason_carried : (why : NoPartition) → ShowsNone g (forced_in up down) why
      → ShowsNone c.graph (forced_by value c) why
  reason_carried why shows =
      let P : StateGraph → Type 0 = λ h. ShowsNone h (forced_by value c) why in
      subst P is (reasons_alike g (forced_in up down) (forced_by value c) why graph same shows)

  pub none_carried : HasNone g (forced_in up down) → HasNone c.graph (forced_by value c)
  none_carried none classes p =
      let P : StateGraph → Type 0 = λ h. IsPartitionFor h (forced_by value c) classes in
      none classes (partitions_alike g (forced_by value c) (forced_in up down) classes graph
      (λ b s within. sym (same b s within)) (subst P (sym is) p))
