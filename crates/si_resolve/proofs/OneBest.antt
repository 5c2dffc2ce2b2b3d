-- A graph has one best candidate.
use Rattle.std.proofs.Common.{◌≡◌, ℕ, ◌≤◌, Bool, List, sym, subst, subst₂}
use Rattle.si_base.specs.Order.{IsFirst}
use Rattle.si_base.specs.Codes.{CodedGraph, IsCoded}
use Rattle.si_conflicts.specs.Conflicts.{HasConflicts}
use Rattle.si_conflicts.specs.Left.{LeavesConflicts}
use Rattle.si_conflicts.proofs.LeftCount.{one_left}
use Rattle.si_candidates.specs.Blocks.{block_at}
use Rattle.si_candidates.specs.Parts.{AreClasses}
use Rattle.si_candidates.proofs.BlocksExist.{one_blocks}
use Rattle.si_candidates.proofs.PartLaws.{classes_unique}
use Rattle.si_insert.specs.declared.partition.Class.{Class}
use Rattle.si_insert.proofs.RowSearchLemmas.{one_least}
use Rattle.si_resolve.specs.Best.{Choice, IsChoice, choice_place, IsBest, NoneImproves}

-- ---- one pair of blocks, one choice
pub one_classes : (c : CodedGraph) (blocks : List (List Bool)) (x y : Choice) → IsCoded c → IsChoice c blocks x
    → IsChoice c blocks y → x.j ≡ y.j → x.i ≡ y.i → x.classes ≡ y.classes
one_classes c blocks x y is a b same_j same_i =
    let P : ℕ → ℕ → Type 0 = λ i j. AreClasses c.graph (block_at blocks i) (block_at blocks j) y.classes in
    let are : P x.i x.j = subst₂ P (sym same_i) (sym same_j) b.are in
    let r = a.accepted.lawful.rises in
    let f = a.accepted.lawful.falls in
    classes_unique c.graph (block_at blocks x.i) (block_at blocks x.j) x.classes y.classes
    r.0 f.0 is.graph_is is.connected
    ((a.are.rising r.0 r.1).0 r.2) r.1 ((a.are.falling f.0 f.1).0 f.2) f.1 a.are are

pub one_number : (c : CodedGraph) (blocks : List (List Bool)) (x y : Choice) → IsCoded c → IsChoice c blocks x
    → IsChoice c blocks y → x.j ≡ y.j → x.i ≡ y.i → x.conflicts ≡ y.conflicts
one_number c blocks x y is a b same_j same_i =
    let classes = one_classes c blocks x y is a b same_j same_i in
    let P : List Class → Type 0 = λ z. LeavesConflicts c z y.conflicts in
    one_left c is x.classes a.accepted.lawful x.conflicts y.conflicts a.leaves (subst P (sym classes) b.leaves)

-- ---- the best one
same_choice : (x y : Choice) → x.i ≡ y.i → x.j ≡ y.j → x.classes ≡ y.classes → x.conflicts ≡ y.conflicts → x ≡ y
same_choice x y p q r s = λ k. record { i = p k; j = q k; classes = r k; conflicts = s k }

pub one_best : (c : CodedGraph) (x y : Choice) → IsCoded c → IsBest c x → IsBest c y → x ≡ y
one_best c x y is a b =
    let P : List (List Bool) → Type 0 = λ blocks. IsFirst choice_place (IsChoice c blocks) y in
    let other : IsFirst choice_place (IsChoice c a.blocks) y =
    subst P (one_blocks c b.blocks a.blocks b.are a.are) b.first in
    let same = one_least (IsChoice c a.blocks) (λ z. z.conflicts) (λ z. z.j) (λ z. z.i) x y a.first other in
    let classes = one_classes c a.blocks x y is a.first.holds other.holds same.1 same.2 in
    same_choice x y same.2 same.1 classes same.0

pub none_improves_is_stuck : (c : CodedGraph) (x : Choice) (n : ℕ) → NoneImproves c → IsBest c x → HasConflicts c n
    → n ≤ x.conflicts
none_improves_is_stuck c x n none best counted = none x best.blocks n best.are best.first.holds counted
