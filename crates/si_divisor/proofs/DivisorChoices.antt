-- Divisors are instances over the graph's signals, by pins on distinct signals, and all of these.
use Rattle.std.proofs.Common.{◌≡◌, ◌≢◌, ◌↔◌, ℕ, zero, suc, ◌<◌, ◌≤◌, ◌==◌, ◌&&◌, not, true, List, [], ◌∷◌, length, map}
use Rattle.std.proofs.Common.{filter, take, get_or, All, AllPairs, Contains, nat_le, refl, sym, ap, subst, ◌∙◌, arith}
use Rattle.std.proofs.Common.{inl, inr}
use Rattle.std.specs.List.{list_all}
use Rattle.std.proofs.lemmas.Bool.{true≢false, and_from, and_parts}
use Rattle.std.proofs.lemmas.Bool.Decides.{eqb_tells, leb_tells}
use Rattle.std.proofs.lemmas.List.{take_all, get_or-take, length-take}
use Rattle.std.proofs.lemmas.List.Elements.{All-nil, All-cons, Contains-get_or}
use Rattle.std.proofs.lemmas.List.Kept.{AllPairs-cons}
use Rattle.si_base.specs.Codes.{CodedGraph, IsCoded}
use Rattle.si_base.specs.declared.ids.Literal.{Literal}
use Rattle.si_base.proofs.OrderLemmas.{in_contains}
use Rattle.si_base.proofs.OrderAscending.{In}
use Rattle.si_base.proofs.GivenGraphUnique.{contains_from_in}
use Rattle.si_graph.proofs.ListMembers.{Contains-filter, Contains-from_filter}
use Rattle.si_cell.specs.Library.{Library, Instance}
use Rattle.si_cell.specs.Literals.{has_literal}
use Rattle.si_match.specs.Fit.{instances, lists_of}
use Rattle.si_match.proofs.FitLemmas.{in_flat, from_flat, in_map, from_map, instance_in, instance_over}
use Rattle.si_divisor.specs.Divisors.{AreDivisors, is_divisor, are_apart, has_few_pins, max_divisors, max_divisor_pins}
use Rattle.si_divisor.specs.Divisors.{divisors_of}
use Rattle.si_divisor.specs.DivisorLaws.{AreChosen, IsDivisor}
use Rattle.si_divisor.proofs.PinLemmas.{has_in, in_has}

-- ---- literals on distinct signals
abbrev Apart : List Literal → Type 0
Apart ls = AllPairs (λ l m. l.sig ≢ m.sig) ls

others_from : (l : Literal) (ls : List Literal) → list_all (λ m. not (m.sig == l.sig)) ls ≡ true
    → All (λ (m : Literal). l.sig ≢ m.sig) ls
others_from l [] on = All-nil (λ (m : Literal). l.sig ≢ m.sig)
others_from l (m ∷ ms) on =
    let parts = and_parts (not (m.sig == l.sig)) (list_all (λ x. not (x.sig == l.sig)) ms) on in
    let apart : l.sig ≢ m.sig = elim (eqb_tells m.sig l.sig) [
      | inl same ↦ absurd (true≢false (sym parts.0 ∙ ap not same.0))
      | inr other ↦ λ e. other.1 (sym e)
    ] in
    All-cons (λ (x : Literal). l.sig ≢ x.sig) m ms apart (others_from l ms parts.1)

others_to : (l : Literal) (ls : List Literal) → All (λ (m : Literal). l.sig ≢ m.sig) ls
    → list_all (λ m. not (m.sig == l.sig)) ls ≡ true
others_to l [] all = refl
others_to l (m ∷ ms) all = elim (eqb_tells m.sig l.sig) [
  | inl same ↦ absurd (all 0 m (omega arith) (sym same.1))
  | inr other ↦ (
      let no = other.0 in
      rw no (others_to l ms (λ k d inside. all (suc k) d (omega (arith, inside)))))
]

apart_from : (ls : List Literal) → are_apart ls ≡ true → Apart ls
apart_from [] on = λ i j d less within. absurd (omega (arith, within))
apart_from (l ∷ ls) on =
    let parts = and_parts (list_all (λ m. not (m.sig == l.sig)) ls) (are_apart ls) on in
    AllPairs-cons (λ (k m : Literal). k.sig ≢ m.sig) l ls (others_from l ls parts.0) (apart_from ls parts.1)

apart_to : (ls : List Literal) → Apart ls → are_apart ls ≡ true
apart_to [] apart = refl
apart_to (l ∷ ls) apart =
    let head : All (λ (m : Literal). l.sig ≢ m.sig) ls =
    λ k d inside. apart 0 (suc k) d (omega arith) (omega (arith, inside)) in
    let tail : Apart ls = λ i j d less within. apart (suc i) (suc j) d (omega (arith, less)) (omega (arith, within)) in
    and_from _ _ (others_to l ls head) (apart_to ls tail)

-- ---- lists of pins
abbrev Among : List Literal → List Literal → Type 0
Among pins ls = All (λ l. Contains pins l) ls

from_lists : (n : ℕ) (pins ls : List Literal) → In ls (lists_of n pins) → (length ls ≡ n) × Among pins ls
from_lists zero pins ls (inl same) = rw same (refl, All-nil (λ (l : Literal). Contains pins l))
from_lists zero pins ls (inr none) = absurd none
from_lists (suc n) pins ls there =
    let (l, among, at) = from_flat (λ m. map (λ ms. m ∷ ms) (lists_of n pins)) ls pins there in
    let (rest, rest_in, same) = from_map (λ ms. l ∷ ms) ls (lists_of n pins) at in
    let (count, all) = from_lists n pins rest rest_in in
    rw same (
      ap suc count,
      All-cons (λ (m : Literal). Contains pins m) l rest (contains_from_in pins l among) all,
    )

in_lists : (pins ls : List Literal) → Among pins ls → In ls (lists_of (length ls) pins)
in_lists pins [] all = inl refl
in_lists pins (l ∷ ls) all =
    in_flat (λ m. map (λ ms. m ∷ ms) (lists_of (length ls) pins)) l (l ∷ ls) pins
    (in_contains pins l (all 0 l (omega arith)))
    (in_map (λ ms. l ∷ ms) ls (lists_of (length ls) pins)
    (in_lists pins ls (λ k d inside. all (suc k) d (omega (arith, inside)))))

pub choices_are_all : (n : ℕ) (pins ls : List Literal) → Contains (filter are_apart (lists_of n pins)) ls
    ↔ ((length ls ≡ n) × AreChosen pins ls)
choices_are_all n pins ls = (
  (λ there.
      let (listed, apart) = Contains-from_filter are_apart (lists_of n pins) ls there in
      let (count, all) = from_lists n pins ls (in_contains (lists_of n pins) ls listed) in
      (count, record { pins = all; apart = apart_from ls apart })),
  (λ (count, chosen).
      let listed = subst (λ k. In ls (lists_of k pins)) count (in_lists pins ls chosen.pins) in
      Contains-filter are_apart (lists_of n pins) ls (contains_from_in (lists_of n pins) ls listed)
      (apart_to ls chosen.apart)),
)

-- ---- divisors
among_from : (pins ls : List Literal) → list_all (has_literal pins) ls ≡ true → Among pins ls
among_from pins [] on = All-nil (λ (l : Literal). Contains pins l)
among_from pins (l ∷ ls) on =
    let parts = and_parts (has_literal pins l) (list_all (has_literal pins) ls) on in
    All-cons (λ (m : Literal). Contains pins m) l ls (has_in pins l parts.0) (among_from pins ls parts.1)

among_to : (pins ls : List Literal) → Among pins ls → list_all (has_literal pins) ls ≡ true
among_to pins [] all = refl
among_to pins (l ∷ ls) all =
    and_from _ _ (in_has pins l (all 0 l (omega arith)))
    (among_to pins ls (λ k d inside. all (suc k) d (omega (arith, inside))))

few_from : (n : ℕ) → has_few_pins n ≡ true → (1 ≤ n) × (n ≤ max_divisor_pins)
few_from n on =
    let parts = and_parts (nat_le 1 n) (nat_le n max_divisor_pins) on in
    (within 1 n parts.0, within n max_divisor_pins parts.1)
  where
    within : (a b : ℕ) → nat_le a b ≡ true → a ≤ b
    within a b test = elim (leb_tells a b) [ inl is ↦ is.1 | inr none ↦ absurd (true≢false (sym test ∙ none.0)) ]

few_to : (n : ℕ) → 1 ≤ n → n ≤ max_divisor_pins → has_few_pins n ≡ true
few_to n some few = and_from _ _ (passes 1 n some) (passes n max_divisor_pins few)
  where
    passes : (a b : ℕ) → a ≤ b → nat_le a b ≡ true
    passes a b less = elim (leb_tells a b) [
      | inl is ↦ is.0
      | inr none ↦ (let above = none.1 in absurd (omega (arith, less, above)))
    ]

module _ (c : CodedGraph) (library : Library) (pins : List Literal) (coded : IsCoded c) where
  abbrev all : List Instance
  all = filter (is_divisor pins) (instances (length c.graph.signals) library)

  is_one : (i : Instance) → Contains all i → IsDivisor c library pins i
  is_one i there =
      let (listed, passes) =
      Contains-from_filter (is_divisor pins) (instances (length c.graph.signals) library) i there in
      let parts = and_parts (has_few_pins (length i.literals) && list_all (has_literal pins) i.literals)
      (are_apart i.literals) passes in
      let first = and_parts (has_few_pins (length i.literals)) (list_all (has_literal pins) i.literals) parts.0 in
      let few = few_from (length i.literals) first.0 in
      record {
        over = instance_over c library i coded.graph_is.few_signals
            (in_contains (instances (length c.graph.signals) library) i listed);
        some = few.0;
        few = few.1;
        chosen = record { pins = among_from pins i.literals first.1; apart = apart_from i.literals parts.1 };
      }

  has_one : (i : Instance) → IsDivisor c library pins i → Contains all i
  has_one i is = Contains-filter (is_divisor pins) (instances (length c.graph.signals) library) i
      (contains_from_in (instances (length c.graph.signals) library) i (instance_in c library i is.over))
      (and_from _ _ (and_from _ _ (few_to (length i.literals) is.some is.few)
      (among_to pins i.literals is.chosen.pins)) (apart_to i.literals is.chosen.apart))

from_taken : (n : ℕ) (xs : List Instance) (k : ℕ) (d : Instance) → k < length (take n xs)
    → Contains xs (get_or (take n xs) k d)
from_taken n xs k d inside =
    let count = length-take n xs in
    let below : k < n = omega (arith, inside, count) in
    let within : k < length xs = omega (arith, inside, count) in
    subst (Contains xs) (sym (get_or-take n xs k d below)) (Contains-get_or xs k d within)

pub are_instances : (c : CodedGraph) (library : Library) (z : ℕ) (divisors : List Instance) → IsCoded c
    → (d : AreDivisors c library z divisors) → All (IsDivisor c library d.pins) divisors
unfolding divisors_of
are_instances c library z divisors coded d =
    let found = all c library d.pins coded in
    subst (All (IsDivisor c library d.pins)) (sym d.are)
    (λ k x inside. is_one c library d.pins coded (get_or (take max_divisors found) k x)
    (from_taken max_divisors found k x inside))

pub are_all : (c : CodedGraph) (library : Library) (z : ℕ) (divisors : List Instance) (i : Instance) → IsCoded c
    → (d : AreDivisors c library z divisors) → length divisors < max_divisors → IsDivisor c library d.pins i
    → Contains divisors i
unfolding divisors_of
are_all c library z divisors i coded d room is =
    let found = all c library d.pins coded in
    let count = ap length d.are ∙ length-take max_divisors found in
    let few : length found ≤ max_divisors = omega (arith, count, room) in
    subst (λ (is : List Instance). Contains is i) (sym (d.are ∙ take_all max_divisors found few))
    (has_one c library d.pins coded i is)

pub are_few : (c : CodedGraph) (library : Library) (z : ℕ) (divisors : List Instance)
    → AreDivisors c library z divisors → length divisors ≤ max_divisors
unfolding divisors_of
are_few c library z divisors d =
    let count = ap length d.are
    ∙ length-take max_divisors (filter (is_divisor d.pins) (instances (length c.graph.signals) library)) in
    omega (arith, count)
