-- There is one partition for an instance, or one reason why there is none.
use Rattle.std.proofs.Common.{◌≡◌, ℕ, ◌<◌, Bool, true, false, List, refl, sym, ap, subst, ◌∙◌, arith, inl, inr}
use Rattle.std.proofs.lemmas.Bool.{cases_order}
use Rattle.si_base.specs.Order.{IsFirst}
use Rattle.si_base.specs.Graph.{StateGraph}
use Rattle.si_insert.specs.declared.partition.Class.{Class}
use Rattle.si_insert.proofs.PartitionClasses.{same_classes}
use Rattle.si_divisor.specs.declared.fault.NoPartition.{NoPartition}
use Rattle.si_divisor.specs.declared.fault.NoPartition.TheVariants.{NoMemory, Unforced, Contradiction, LeavesForced}
use Rattle.si_divisor.specs.declared.fault.NoPartition.TheVariants.{Constant}
use Rattle.si_divisor.specs.Targets.{IsLeast, Settles, AreSettled, IsUnforced, SettlesAtBoth, target}
use Rattle.si_divisor.specs.Switching.{Switches}
use Rattle.si_divisor.specs.PartitionFor.{Sets, AreSets, Leaves, HasSome, class_by, IsPartitionFor, state_place}
use Rattle.si_divisor.specs.PartitionFor.{ShowsNone}
use Rattle.si_divisor.specs.Laws.{PartitionsAreUnique, ReasonsAreUnique, ReasonsExclude}
use Rattle.si_divisor.proofs.TargetSets.{one_least}

pub one_first : (P : ℕ → Type 0) (s t : ℕ) → IsFirst state_place P s → IsFirst state_place P t → s ≡ t
one_first P s t a b = elim (cases_order s t) [
  | inl same ↦ same
  | inr (inl below) ↦ absurd (b.none_before s a.holds (inl below))
  | inr (inr above) ↦ absurd (a.none_before t b.holds (inl above))
]

pub one_ones : (g : StateGraph) (forced : Bool → ℕ → Bool) (a b x y : List Bool) → AreSettled g forced a b
    → AreSettled g forced x y → a ≡ x
one_ones g forced a b x y p q = one_least g.states (Settles g forced true) a x p.at_one q.at_one

pub one_zeros : (g : StateGraph) (forced : Bool → ℕ → Bool) (a b x y : List Bool) → AreSettled g forced a b
    → AreSettled g forced x y → b ≡ y
one_zeros g forced a b x y p q = one_least g.states (Settles g forced false) b y p.at_zero q.at_zero

pub one_sets : (g : StateGraph) (forced : Bool → ℕ → Bool) (x y : Sets) → AreSets g forced x → AreSets g forced y
    → x ≡ y
one_sets g forced x y a b = λ i. record { ones = ones i; zeros = zeros i; plus = plus i; minus = minus i }
  where
    ones : x.ones ≡ y.ones
    ones = one_ones g forced x.ones x.zeros y.ones y.zeros a.settled b.settled

    zeros : x.zeros ≡ y.zeros
    zeros = one_zeros g forced x.ones x.zeros y.ones y.zeros a.settled b.settled

    plus : x.plus ≡ y.plus
    plus = one_least g.states (Switches g (target y.ones) true) x.plus y.plus
        (subst (λ k. IsLeast g.states (Switches g (target k) true) x.plus) ones a.rising) b.rising

    minus : x.minus ≡ y.minus
    minus = one_least g.states (Switches g (target y.ones) false) x.minus y.minus
        (subst (λ k. IsLeast g.states (Switches g (target k) false) x.minus) ones a.falling) b.falling

pub one_partition : PartitionsAreUnique
one_partition g forced xs ys p q =
    let sets = one_sets g forced p.sets q.sets p.are q.are in
    same_classes xs ys (p.count ∙ sym q.count) (λ s h. (
    let within : s < g.states = omega (arith, h, p.count) in
    p.classes_are s within ∙ ap (λ x. class_by x s) sets ∙ sym (q.classes_are s within)))

-- ---- each reason excludes what comes after it
-- what the first two reasons show against sets that settle
unforced_not : (g : StateGraph) (forced : Bool → ℕ → Bool) (s : ℕ) (ones zeros : List Bool)
    → ShowsNone g forced (Unforced s) → AreSettled g forced ones zeros → ((t : ℕ) → IsUnforced g ones zeros t → ⊥) → ⊥
unforced_not g forced s ones zeros (a, b, are, first) also none =
    let P : List Bool → Type 0 = λ x. IsUnforced g x b s in
    let Q : List Bool → Type 0 = λ y. IsUnforced g ones y s in
    none s (subst Q (one_zeros g forced a b ones zeros are also)
    (subst P (one_ones g forced a b ones zeros are also) first.holds))

torn_not : (g : StateGraph) (forced : Bool → ℕ → Bool) (s : ℕ) (ones zeros : List Bool)
    → ShowsNone g forced (Contradiction s) → AreSettled g forced ones zeros → ((t : ℕ) → SettlesAtBoth ones zeros t → ⊥)
    → ⊥
torn_not g forced s ones zeros (a, b, are, passed, first) also none =
    let P : List Bool → Type 0 = λ x. SettlesAtBoth x b s in
    let Q : List Bool → Type 0 = λ y. SettlesAtBoth ones y s in
    none s (subst Q (one_zeros g forced a b ones zeros are also)
    (subst P (one_ones g forced a b ones zeros are also) first.holds))

leaves_not : (g : StateGraph) (forced : Bool → ℕ → Bool) (s : ℕ) (x : Sets) → ShowsNone g forced (LeavesForced s)
    → AreSets g forced x → ((t : ℕ) → Leaves forced x t → ⊥) → ⊥
leaves_not g forced s x (y, are, first) also none =
    let P : Sets → Type 0 = λ k. Leaves forced k s in
    none s (subst P (one_sets g forced y x are also) first.holds)

constant_not : (g : StateGraph) (forced : Bool → ℕ → Bool) (x : Sets) → ShowsNone g forced Constant
    → AreSets g forced x → HasSome x.plus → HasSome x.minus → ⊥
constant_not g forced x (y, are, stays, inl none) also up down =
    none (subst (λ (k : Sets). HasSome k.plus) (one_sets g forced x y also are) up)
constant_not g forced x (y, are, stays, inr none) also up down =
    none (subst (λ (k : Sets). HasSome k.minus) (one_sets g forced x y also are) down)

reason_excludes : (g : StateGraph) (forced : Bool → ℕ → Bool) (xs : List Class) (why : NoPartition)
    → (why ≡ NoMemory → ⊥) → ShowsNone g forced why → IsPartitionFor g forced xs → ⊥
reason_excludes g forced xs NoMemory memory shows p = memory refl
reason_excludes g forced xs (Unforced s) memory shows p =
    unforced_not g forced s p.sets.ones p.sets.zeros shows p.are.settled p.are.targets.some
reason_excludes g forced xs (Contradiction s) memory shows p =
    torn_not g forced s p.sets.ones p.sets.zeros shows p.are.settled p.are.targets.one
reason_excludes g forced xs (LeavesForced s) memory shows p = leaves_not g forced s p.sets shows p.are p.stays
reason_excludes g forced xs Constant memory shows p = constant_not g forced p.sets shows p.are p.rises p.falls

-- what a reason says of the ones before it
one_known_reason : (g : StateGraph) (forced : Bool → ℕ → Bool) (x y : NoPartition) → (x ≡ NoMemory → ⊥)
    → (y ≡ NoMemory → ⊥) → ShowsNone g forced x → ShowsNone g forced y → x ≡ y
one_known_reason g forced NoMemory y m n p q = absurd (m refl)
one_known_reason g forced x NoMemory m n p q = absurd (n refl)
one_known_reason g forced (Unforced s) (Unforced t) m n (a, b, are, first) (x, y, also, other) =
    let P : List Bool → Type 0 = λ k. IsFirst state_place (IsUnforced g k b) s in
    let Q : List Bool → Type 0 = λ k. IsFirst state_place (IsUnforced g x k) s in
    ap (λ k. Unforced k) (one_first (IsUnforced g x y) s t (subst Q (one_zeros g forced a b x y are also)
    (subst P (one_ones g forced a b x y are also) first)) other)
one_known_reason g forced (Unforced s) (Contradiction t) m n p (x, y, also, passed, other) =
    absurd (unforced_not g forced s x y p also passed)
one_known_reason g forced (Unforced s) (LeavesForced t) m n p (x, also, other) =
    absurd (unforced_not g forced s x.ones x.zeros p also.settled also.targets.some)
one_known_reason g forced (Unforced s) Constant m n p (x, also, stays, other) =
    absurd (unforced_not g forced s x.ones x.zeros p also.settled also.targets.some)
one_known_reason g forced (Contradiction s) (Unforced t) m n (a, b, are, passed, first) q =
    absurd (unforced_not g forced t a b q are passed)
one_known_reason g forced (Contradiction s) (Contradiction t) m n (a, b, are, passed, first) (
  x,
  y,
  also,
  other_passed,
  other,
) =
    let P : List Bool → Type 0 = λ k. IsFirst state_place (SettlesAtBoth k b) s in
    let Q : List Bool → Type 0 = λ k. IsFirst state_place (SettlesAtBoth x k) s in
    ap (λ k. Contradiction k)
    (one_first (SettlesAtBoth x y) s t (subst Q (one_zeros g forced a b x y are also)
    (subst P (one_ones g forced a b x y are also) first)) other)
one_known_reason g forced (Contradiction s) (LeavesForced t) m n p (x, also, other) =
    absurd (torn_not g forced s x.ones x.zeros p also.settled also.targets.one)
one_known_reason g forced (Contradiction s) Constant m n p (x, also, stays, other) =
    absurd (torn_not g forced s x.ones x.zeros p also.settled also.targets.one)
one_known_reason g forced (LeavesForced s) (Unforced t) m n (x, are, first) q =
    absurd (unforced_not g forced t x.ones x.zeros q are.settled are.targets.some)
one_known_reason g forced (LeavesForced s) (Contradiction t) m n (x, are, first) q =
    absurd (torn_not g forced t x.ones x.zeros q are.settled are.targets.one)
one_known_reason g forced (LeavesForced s) (LeavesForced t) m n (x, are, first) (y, also, other) =
    let P : Sets → Type 0 = λ k. IsFirst state_place (Leaves forced k) s in
    ap (λ k. LeavesForced k) (one_first (Leaves forced y) s t (subst P (one_sets g forced x y are also) first) other)
one_known_reason g forced (LeavesForced s) Constant m n p (x, also, stays, other) =
    absurd (leaves_not g forced s x p also stays)
one_known_reason g forced Constant (Unforced t) m n (x, are, stays, first) q =
    absurd (unforced_not g forced t x.ones x.zeros q are.settled are.targets.some)
one_known_reason g forced Constant (Contradiction t) m n (x, are, stays, first) q =
    absurd (torn_not g forced t x.ones x.zeros q are.settled are.targets.one)
one_known_reason g forced Constant (LeavesForced t) m n (x, are, stays, first) q =
    absurd (leaves_not g forced t x q are stays)
one_known_reason g forced Constant Constant m n p q = refl

pub reasons_exclude : ReasonsExclude
reasons_exclude g forced classes why r p = reason_excludes g forced classes why r.known r.shows p

pub reasons_are_unique : ReasonsAreUnique
reasons_are_unique g forced x y p q = one_known_reason g forced x y p.known q.known p.shows q.shows
