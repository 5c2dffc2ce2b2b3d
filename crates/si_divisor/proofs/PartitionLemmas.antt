-- The partition for an instance is lawful, accepted, the least, and the only one.
use Rattle.std.proofs.Common.{◌≡◌, ℕ, zero, suc, ◌<◌, ◌↔◌, Bool, true, false, List, [], ◌∷◌, length, slice_index_or}
use Rattle.std.proofs.Common.{refl, sym, ap, ◌∙◌, arith, inl, inr}
use Rattle.std.proofs.lemmas.Bool.{true≢false, false_from_ne_true, true_from_ne_false}
use mathlib.Core.Bool.{beq}
use Rattle.si_base.specs.Graph.{StateGraph, IsGraph}
use Rattle.si_base.specs.Codes.{code}
use Rattle.si_base.specs.Sets.{IsIn}
use Rattle.si_insert.specs.declared.partition.Class.{Class}
use Rattle.si_insert.specs.declared.partition.Class.TheVariants.{Low, Rising, High, Falling}
use Rattle.si_insert.specs.Partition.{class_of}
use Rattle.si_insert.specs.Insertion.{has_copy}
use Rattle.si_insert.specs.GraphOfCopies.{switches}
use Rattle.si_insert.proofs.AcceptedByTests.{accepts_at_tests}
use Rattle.si_divisor.specs.Targets.{forced_by, target}
use Rattle.si_divisor.specs.Switching.{Switches}
use Rattle.si_divisor.specs.PartitionFor.{class_for, IsPartitionFor}
use Rattle.si_divisor.specs.Laws.{to_one, AreClassed, Passes, InstancesFit, PartitionsAreLawful, PartitionsAreAccepted}
use Rattle.si_divisor.specs.Laws.{PartitionsAreLeast}
use Rattle.si_divisor.proofs.TargetSets.{least_within, in_or_not}
use Rattle.si_divisor.proofs.SwitchingRules.{switches_at, rules_are_acceptance}

from_rising : (plus minus one : Bool) → class_for plus minus one ≡ Rising → plus ≡ true
from_rising true minus one h = refl
from_rising false true one h = let x : Falling ≡ Rising = h in cc
from_rising false false true h = let x : High ≡ Rising = h in cc
from_rising false false false h = let x : Low ≡ Rising = h in cc

from_falling : (plus minus one : Bool) → class_for plus minus one ≡ Falling → minus ≡ true
from_falling true minus one h = let x : Rising ≡ Falling = h in cc
from_falling false true one h = refl
from_falling false false true h = let x : High ≡ Falling = h in cc
from_falling false false false h = let x : Low ≡ Falling = h in cc

-- where Rising states have target 1 and Falling ones target 0, the class tells the target
target_by : (plus minus one : Bool) → (plus ≡ true → one ≡ true) → (minus ≡ true → one ≡ false)
    → one ≡ to_one (class_for plus minus one)
target_by true minus one up down = up refl
target_by false true one up down = down refl
target_by false false true up down = refl
target_by false false false up down = refl

-- ---- the sets of a partition
up_forced : (g : StateGraph) (forced : Bool → ℕ → Bool) (classes : List Class) (p : IsPartitionFor g forced classes)
    (s : ℕ) → IsIn p.sets.plus s → forced true s ≡ true
up_forced g forced classes p s up = true_from_ne_false (forced true s) (λ h. p.stays s (inl (up, h)))

down_forced : (g : StateGraph) (forced : Bool → ℕ → Bool) (classes : List Class) (p : IsPartitionFor g forced classes)
    (s : ℕ) → IsIn p.sets.minus s → forced false s ≡ true
down_forced g forced classes p s down = true_from_ne_false (forced false s) (λ h. p.stays s (inr (down, h)))

up_one : (g : StateGraph) (forced : Bool → ℕ → Bool) (classes : List Class) (p : IsPartitionFor g forced classes)
    (s : ℕ) → s < g.states → IsIn p.sets.plus s → IsIn p.sets.ones s
up_one g forced classes p s within up = p.are.settled.at_one.meets.begins s within (up_forced g forced classes p s up)

down_zero : (g : StateGraph) (forced : Bool → ℕ → Bool) (classes : List Class) (p : IsPartitionFor g forced classes)
    (s : ℕ) → s < g.states → IsIn p.sets.minus s → slice_index_or p.sets.ones s false ≡ false
down_zero g forced classes p s within down = elim (in_or_not p.sets.ones s) [
  | inl one ↦
      absurd (p.are.targets.one s (record {
        one = one;
        zero =
            p.are.settled.at_zero.meets.begins s within (down_forced g forced classes p s down);
      }))
  | inr none ↦ none
]

pub are_classed : (g : StateGraph) (forced : Bool → ℕ → Bool) (classes : List Class)
    (p : IsPartitionFor g forced classes) → AreClassed g classes (target p.sets.ones) p.sets.plus p.sets.minus
are_classed g forced classes p = record {
  plus_is = λ s within. (
    (λ up. p.classes_are s within
        ∙ ap (λ b. class_for b (slice_index_or p.sets.minus s false) (slice_index_or p.sets.ones s false)) up),
    (λ h. from_rising (slice_index_or p.sets.plus s false) (slice_index_or p.sets.minus s false)
        (slice_index_or p.sets.ones s false) (sym (p.classes_are s within) ∙ h)),
  );
  minus_is = λ s within. (
    (λ down. (
        let low = down_zero g forced classes p s within down in
        let not_up : slice_index_or p.sets.plus s false ≡ false = elim (in_or_not p.sets.plus s) [
          | inl up ↦ absurd (true≢false (sym (up_one g forced classes p s within up) ∙ low))
          | inr none ↦ none
        ] in
        p.classes_are s within
        ∙ ap (λ b. class_for b (slice_index_or p.sets.minus s false) (slice_index_or p.sets.ones s false)) not_up
        ∙ ap (λ b. class_for false b (slice_index_or p.sets.ones s false)) down)),
    (λ h. from_falling (slice_index_or p.sets.plus s false) (slice_index_or p.sets.minus s false)
        (slice_index_or p.sets.ones s false) (sym (p.classes_are s within) ∙ h)),
  );
  target_is = λ s within. target_by (slice_index_or p.sets.plus s false) (slice_index_or p.sets.minus s false)
      (slice_index_or p.sets.ones s false) (up_one g forced classes p s within)
      (down_zero g forced classes p s within) ∙ sym (ap to_one (p.classes_are s within));
}

pub passes : (g : StateGraph) (forced : Bool → ℕ → Bool) (classes : List Class) → IsGraph g
    → IsPartitionFor g forced classes → Passes g classes
passes g forced classes graph p =
    (rules_are_acceptance g classes (target p.sets.ones) p.sets.plus p.sets.minus graph
    (are_classed g forced classes p)).1 (record {
      count = p.count;
      rises = (p.rises.0, within_plus, p.rises.1);
      falls = (p.falls.0, within_minus, p.falls.1);
      rising = p.are.rising.meets;
      falling = p.are.falling.meets;
    })
  where
    within_plus : p.rises.0 < g.states
    within_plus =
        least_within g.states (Switches g (target p.sets.ones) true) p.sets.plus p.rises.0 p.are.rising p.rises.1

    within_minus : p.falls.0 < g.states
    within_minus =
        least_within g.states (Switches g (target p.sets.ones) false) p.sets.minus p.falls.0 p.are.falling p.falls.1

pub lawful : PartitionsAreLawful
lawful g forced classes graph p = (passes g forced classes graph p).lawful

pub accepted : PartitionsAreAccepted
accepted c forced classes is proper p =
    let x = passes c.graph forced classes is.graph_is p in
    let tests = accepts_at_tests c classes is proper x.lawful in (
      (λ a. (let t = tests.0 a in (t.2, t.3))),
      (λ sizes. tests.1 (x.inputs, x.losses, sizes.0, sizes.1)),
    )

-- ---- the least of those that are accepted
set_of : Bool → List Class → List Bool
set_of b [] = []
set_of b (c ∷ cs) = switches b c ∷ set_of b cs

set_size : (b : Bool) (cs : List Class) → length (set_of b cs) ≡ length cs
unfolding set_of
set_size b [] = refl
set_size b (c ∷ cs) = let k = set_size b cs in omega arith

set_at : (b : Bool) (cs : List Class) (s : ℕ) → s < length cs
    → slice_index_or (set_of b cs) s false ≡ switches b (class_of cs s)
unfolding set_of
set_at b [] s h = absurd (omega (arith, h))
set_at b (c ∷ cs) zero h = refl
set_at b (c ∷ cs) (suc s) h = set_at b cs s (omega (arith, h))

is_rising : (c : Class) → (switches true c ≡ true) ↔ (c ≡ Rising)
is_rising Low = ((λ h. absurd (true≢false (sym h))), (λ (h : Low ≡ Rising). cc))
is_rising Rising = ((λ h. refl), (λ h. refl))
is_rising High = ((λ h. absurd (true≢false (sym h))), (λ (h : High ≡ Rising). cc))
is_rising Falling = ((λ h. absurd (true≢false (sym h))), (λ (h : Falling ≡ Rising). cc))

is_falling : (c : Class) → (switches false c ≡ true) ↔ (c ≡ Falling)
is_falling Low = ((λ h. absurd (true≢false (sym h))), (λ (h : Low ≡ Falling). cc))
is_falling Rising = ((λ h. absurd (true≢false (sym h))), (λ (h : Rising ≡ Falling). cc))
is_falling High = ((λ h. absurd (true≢false (sym h))), (λ (h : High ≡ Falling). cc))
is_falling Falling = ((λ h. refl), (λ h. refl))

pub least : PartitionsAreLeast
least c forced classes others is proper p a to s within = (
  (λ h. (up_at s within).0
      (p.are.rising.least up up_size (switches_at g others (target p.sets.ones) false up is.graph_is up_at to x) s
      ((mine.plus_is s within).1 h))),
  (λ h. (down_at s within).0
      (p.are.falling.least down down_size (switches_at g others (target p.sets.ones) true down is.graph_is down_at to
      x) s ((mine.minus_is s within).1 h))),
)
  where
    g : StateGraph
    g = c.graph

    mine : AreClassed g classes (target p.sets.ones) p.sets.plus p.sets.minus
    mine = are_classed g forced classes p

    x : Passes g others
    x = let t = (accepts_at_tests c others is proper a.lawful).0 a in
        record { lawful = a.lawful; inputs = t.0; losses = t.1 }

    up : List Bool
    up = set_of true others

    down : List Bool
    down = set_of false others

    up_size : length up ≡ g.states
    up_size = set_size true others ∙ a.lawful.count

    down_size : length down ≡ g.states
    down_size = set_size false others ∙ a.lawful.count

    up_at : (t : ℕ) → t < g.states → IsIn up t ↔ (class_of others t ≡ Rising)
    up_at t h =
        let same = set_at true others t (omega (arith, h, a.lawful.count)) in
        let k = is_rising (class_of others t) in ((λ i. k.0 (sym same ∙ i)), (λ i. same ∙ k.1 i))

    down_at : (t : ℕ) → t < g.states → IsIn down t ↔ (class_of others t ≡ Falling)
    down_at t h =
        let same = set_at false others t (omega (arith, h, a.lawful.count)) in
        let k = is_falling (class_of others t) in ((λ i. k.0 (sym same ∙ i)), (λ i. same ∙ k.1 i))

-- ---- the instance is a gate for the new signal
from_true : (b : Bool) → beq b true ≡ true → b ≡ true
from_true true h = refl
from_true false h = absurd (true≢false (sym h))

from_false : (b : Bool) → beq b false ≡ true → b ≡ false
from_false true h = absurd (true≢false (sym h))
from_false false h = refl

pub fits : InstancesFit
fits c value classes unate p s b within there = cases (class_of classes s) b refl there
  where
    k : ℕ
    k = code c s

    mine : AreClassed c.graph classes (target p.sets.ones) p.sets.plus p.sets.minus
    mine = are_classed c.graph (forced_by value c) classes p

    up : class_of classes s ≡ Rising → value k false ≡ true
    up h = from_true (value k false) (up_forced c.graph (forced_by value c) classes p s ((mine.plus_is s within).1 h))

    down : class_of classes s ≡ Falling → value k true ≡ false
    down h = from_false (value k true) (down_forced c.graph (forced_by value c) classes p s
        ((mine.minus_is s within).1 h))

    one : class_of classes s ≡ High → IsIn p.sets.ones s
    one h = mine.target_is s within ∙ ap to_one h

    cases : (d : Class) (v : Bool) → class_of classes s ≡ d → has_copy d v ≡ true → value k v ≡ to_one d
    cases Low true h i = absurd (true≢false (sym i))
    cases Low false h i = false_from_ne_true (value k false) (λ one. (
        let zero : target p.sets.ones s ≡ false = mine.target_is s within ∙ ap to_one h in
        let forced : forced_by value c true s ≡ true = rw one refl in
        true≢false (sym (p.are.settled.at_one.meets.begins s within forced) ∙ zero)))
    cases Rising true h i = unate k (up h)
    cases Rising false h i = up h
    cases High true h i = true_from_ne_false (value k true) (λ zero. (
        let forced : forced_by value c false s ≡ true = rw zero refl in
        p.are.targets.one s (record { one = one h; zero = p.are.settled.at_zero.meets.begins s within forced })))
    cases High false h i = absurd (true≢false (sym i))
    cases Falling true h i = down h
    cases Falling false h i = false_from_ne_true (value k false) (λ one. true≢false (sym (unate k one) ∙ down h))
