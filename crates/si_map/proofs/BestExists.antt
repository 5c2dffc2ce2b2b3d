-- A graph has a best divisor, or none serves.
use Rattle.std.proofs.Common.{◌≡◌, ℕ, ◌<◌, ◌≤◌, ◌⊎◌, Bool, List, is_some, length, codes, Option, Some, None, slice_get}
use Rattle.std.proofs.Common.{refl, ap, subst, subst₂, arith, inl, inr}
use Rattle.std.proofs.lemmas.Bool.{cases_lt}
use Rattle.std.proofs.lemmas.Option.{slice_get_cases}
use Rattle.si_base.specs.Codes.{CodedGraph, IsCoded}
use Rattle.si_base.specs.Limits.{max_signals, max_states}
use Rattle.si_base.specs.Proper.{IsProper, HasNoConflict}
use Rattle.si_cell.specs.Library.{Library, Instance, instance_value}
use Rattle.si_checks.specs.Loops.Searches.{IsFirstOrNone}
use Rattle.si_checks.proofs.SearchDecisions.{Decided, both, driven, less}
use Rattle.si_conflicts.specs.Left.{LeavesConflicts}
use Rattle.si_conflicts.proofs.LeftCount.{one_left, some_left}
use Rattle.si_divisor.specs.DivisorLaws.{DivisorsExist}
use Rattle.si_divisor.specs.Divisors.{AreDivisors}
use Rattle.si_divisor.specs.Laws.{PartitionsExist}
use Rattle.si_divisor.specs.PartitionFor.{IsPartitionFor}
use Rattle.si_divisor.specs.Targets.{forced_by}
use Rattle.si_divisor.proofs.PartitionLemmas.{accepted}
use Rattle.si_divisor.proofs.OnePartitionFor.{one_partition, reasons_exclude}
use Rattle.si_insert.specs.declared.partition.Class.{Class}
use Rattle.si_insert.specs.Accepted.{IsAccepted, copy_count}
use Rattle.si_insert.specs.Insertion.{coded, new_signal}
use Rattle.si_insert.specs.GraphOfCopies.{copies_of}
use Rattle.si_insert.specs.Partition.{IsLawful}
use Rattle.si_insert.proofs.InsertionsExist.{some_insertion}
use Rattle.si_insert.proofs.OneFreshName.{some_fresh}
use Rattle.si_insert.proofs.RowSearchLemmas.{first_or_none}
use Rattle.si_match.specs.Fit.{first_fit}
use Rattle.si_match.specs.Weight.{weight_of}
use Rattle.si_map.specs.Best.{Choice, IsUnfit, IsDivisorAt, LeavesWeight, Serves, IsBest, NoneServes, choice_place}
use Rattle.si_map.proofs.BestDivisors.{one_divisor, place_within, same_list}
use Rattle.si_map.proofs.EndLemmas.{not_both, fits_or_not}
use Rattle.si_map.proofs.OneBest.{one_weight}
use Rattle.si_map.proofs.SearchSteps.{weight, row, place, lower, within}
use Rattle.si_map.proofs.BestWeight.{weight_is_one}

at_most : (n m : ℕ) → Decided (n ≤ m)
at_most n m = elim (cases_lt m n) [
  | inl more ↦ inr (λ few. absurd (omega arith))
  | inr few ↦ inl few
]

is_zero : (n : ℕ) → Decided (n ≡ 0)
is_zero n = elim (cases_lt 0 n) [
  | inl more ↦ inr (λ none. absurd (omega (arith, more, none)))
  | inr few ↦ inl (omega (arith, few))
]

unfit_or_not : (c : CodedGraph) (library : Library) (z : ℕ) → Decided (IsUnfit c library z)
unfit_or_not c library z = elim (driven c.graph.signals z) [
  | inr input ↦ inr (λ unfit. input unfit.driven)
  | inl is ↦ elim (fits_or_not (first_fit c library z)) [
    | inl fits ↦ inr (λ unfit. not_both (first_fit c library z) fits unfit.unfit)
    | inr none ↦ inl (record { driven = is; unfit = none })
  ]
]

-- ---- one partition
-- it is accepted, leaves no conflict, and leaves a weight that is lower
record Passes (c : CodedGraph) (library : Library) (classes : List Class) (n : ℕ) : Type 0 where
  accepted : IsAccepted c.graph classes
  free : LeavesConflicts c classes 0
  leaves : LeavesWeight c library classes n
  lower : n < weight_of c library

some_weight : (c : CodedGraph) (library : Library) (classes : List Class) → IsCoded c → IsAccepted c.graph classes
    → (n : ℕ) × LeavesWeight c library classes n
some_weight c library classes is accepts =
    let name = some_fresh c.graph.signals (codes "map") is.graph_is.few_signals in
    let made = some_insertion c classes name.0 is accepts name.1.free in (
      weight_of (coded c (copies_of classes) made.0) library,
      record {
        new = new_signal name.0;
        copies = copies_of classes;
        graph = made.0;
        insertion = made.1;
        weighs = refl;
      },
    )

lower_or_not : (c : CodedGraph) (library : Library) (classes : List Class) → IsCoded c → IsAccepted c.graph classes
    → Decided ((n : ℕ) × LeavesWeight c library classes n × (n < weight_of c library))
lower_or_not c library classes is accepts =
    let (n, leaves) = some_weight c library classes is accepts in
    elim (less n (weight_of c library)) [
      | inl lower ↦ inl (n, leaves, lower)
      | inr not_lower ↦ inr (λ (m, other, lower).
          not_lower (subst (λ k. k < weight_of c library) (weight_is_one c library classes m n other leaves) lower))
    ]

free_or_not : (c : CodedGraph) (classes : List Class) → IsCoded c → IsLawful c.graph classes
    → Decided (LeavesConflicts c classes 0)
free_or_not c classes is lawful =
    let (n, leaves) = some_left c is classes lawful in
    elim (is_zero n) [
      | inl zero ↦ inl (subst (LeavesConflicts c classes) zero leaves)
      | inr some ↦ inr (λ free. some (one_left c is classes lawful n 0 leaves free))
    ]

accepted_or_not : (c : CodedGraph) (forced : Bool → ℕ → Bool) (classes : List Class) → IsCoded c → IsProper c.graph
    → IsPartitionFor c.graph forced classes → Decided (IsAccepted c.graph classes)
accepted_or_not c forced classes is proper are =
    let by_size = accepted c forced classes is proper are in
    elim (both (at_most (copy_count classes) max_states) (less (length c.graph.signals) max_signals)) [
      | inl room ↦ inl (by_size.1 room)
      | inr none ↦ inr (λ accepts. none (by_size.0 accepts))
    ]

passes_or_not : (c : CodedGraph) (library : Library) (forced : Bool → ℕ → Bool) (classes : List Class) → IsCoded c
    → IsProper c.graph → IsPartitionFor c.graph forced classes → Decided ((n : ℕ) × Passes c library classes n)
passes_or_not c library forced classes is proper are =
    elim (accepted_or_not c forced classes is proper are) [
      | inr refused ↦ inr (λ (n, passes). refused passes.accepted)
      | inl accepts ↦
          elim (both (free_or_not c classes is accepts.lawful) (lower_or_not c library classes is accepts)) [
            | inr none ↦ inr (λ (n, passes). none (passes.free, (n, passes.leaves, passes.lower)))
            | inl (free, (n, leaves, lower)) ↦
                inl (n, record { accepted = accepts; free = free; leaves = leaves; lower = lower })
          ]
    ]

-- ---- one place
-- the divisor at the place in the list of z, and the partition for it
record IsPlan (c : CodedGraph) (library : Library) (z place : ℕ) (divisor : Instance) (classes : List Class)
    : Type 0 where
  at : IsDivisorAt c library z place divisor
  are : IsPartitionFor c.graph (forced_by (instance_value library divisor) c) classes

-- what serves at that place
record ServesAt (c : CodedGraph) (library : Library) (z place : ℕ) (x : Choice) : Type 0 where
  serves : Serves c library x
  at_signal : x.signal ≡ z
  at_place : x.place ≡ place

plan_of : (c : CodedGraph) (library : Library) (z place : ℕ) (x : Choice) → (s : ServesAt c library z place x)
    → IsPlan c library z place s.serves.divisor x.classes
plan_of c library z place x s =
    let P : ℕ → ℕ → Type 0 = λ a b. IsPlan c library a b s.serves.divisor x.classes in
    subst₂ P s.at_signal s.at_place (record { at = s.serves.at; are = s.serves.are })

passes_of : (c : CodedGraph) (library : Library) (x : Choice) → Serves c library x → Passes c library x.classes x.weight
passes_of c library x s =
    record { accepted = s.accepted; free = s.free; leaves = s.leaves; lower = s.lower }

serves_by : (c : CodedGraph) (library : Library) (z place n : ℕ) (divisor : Instance) (classes : List Class)
    → IsUnfit c library z → IsPlan c library z place divisor classes → Passes c library classes n
    → (x : Choice) × ServesAt c library z place x
serves_by c library z place n divisor classes unfit plan passes =
    let x : Choice = record { signal = z; place = place; classes = classes; weight = n } in
    let serves : Serves c library x = record {
      unfit = unfit;
      divisor = divisor;
      at = plan.at;
      are = plan.are;
      accepted = passes.accepted;
      free = passes.free;
      leaves = passes.leaves;
      lower = passes.lower;
    } in
    (x, record { serves = serves; at_signal = refl; at_place = refl })

module _ (c : CodedGraph) (library : Library) where
  with_divisor : (z place : ℕ) (i j : Instance) (xs : List Class) → IsDivisorAt c library z place i
      → IsPlan c library z place j xs → IsPartitionFor c.graph (forced_by (instance_value library i) c) xs
  with_divisor z place i j xs at plan =
      let P : Instance → Type 0 = λ k. IsPartitionFor c.graph (forced_by (instance_value library k) c) xs in
      subst P (one_divisor c library z place j i plan.at at) plan.are

  one_plan : (z place : ℕ) (i j : Instance) (xs ys : List Class) → IsPlan c library z place i xs
      → IsPlan c library z place j ys → xs ≡ ys
  one_plan z place i j xs ys a b =
      one_partition c.graph (forced_by (instance_value library i) c) xs ys a.are (with_divisor z place i j ys a.at b)

  -- ---- whether some divisor serves at a place
  module _ (divisors_exist : DivisorsExist) (partitions_exist : PartitionsExist) (is : IsCoded c)
      (proper : IsProper c.graph) (none : HasNoConflict c) where
    by_classes : (z place : ℕ) (i : Instance) (classes : List Class) → IsUnfit c library z
        → IsPlan c library z place i classes → Decided ((x : Choice) × ServesAt c library z place x)
    by_classes z place i classes unfit plan =
        elim (passes_or_not c library (forced_by (instance_value library i) c) classes is proper plan.are) [
          | inl (n, passes) ↦ inl (serves_by c library z place n i classes unfit plan passes)
          | inr fails ↦ inr (λ (x, s). (
              let same = one_plan z place s.serves.divisor i x.classes classes (plan_of c library z place x s) plan in
              let P : List Class → Type 0 = λ xs. Passes c library xs x.weight in
              fails (x.weight, subst P same (passes_of c library x s.serves))))
        ]

    by_divisor : (z place : ℕ) (i : Instance) → IsUnfit c library z → IsDivisorAt c library z place i
        → Decided ((x : Choice) × ServesAt c library z place x)
    by_divisor z place i unfit at =
        let forced : Bool → ℕ → Bool = forced_by (instance_value library i) c in
        elim (partitions_exist c.graph forced is.graph_is) [
          | inl (classes, are) ↦ by_classes z place i classes unfit (record { at = at; are = are })
          | inr (why, reason) ↦ inr (λ (x, s).
              reasons_exclude c.graph forced x.classes why reason
              (with_divisor z place i s.serves.divisor x.classes at (plan_of c library z place x s)))
        ]

    by_list : (z place : ℕ) (ds : List Instance) → IsUnfit c library z → AreDivisors c library z ds
        → Decided ((x : Choice) × ServesAt c library z place x)
    by_list z place ds unfit are = elim (slice_get_cases ds place).1 [
      | inl there ↦
          by_divisor z place there.0 unfit (record { divisors = ds; are = are; there = there.2 })
      | inr past ↦ inr (λ (x, s). (
          let at = (plan_of c library z place x s).at in
          let found = same_list c library z place s.serves.divisor ds are at in
          not_both (slice_get ds place) (ap (λ o. is_some o) found) past.1))
    ]

    serves_or_none : (z place : ℕ) → Decided ((x : Choice) × ServesAt c library z place x)
    serves_or_none z place = elim (unfit_or_not c library z) [
      | inr fits ↦ inr (λ (x, s). fits (subst (IsUnfit c library) s.at_signal s.serves.unfit))
      | inl unfit ↦ (
          let (ds, are) = divisors_exist c library z is proper none unfit.driven in
          by_list z place ds unfit are)
    ]

    -- ---- the first of those that serve
    item_or_none : (z k : ℕ) → Decided ((x : Choice) × Serves c library x × (x.signal ≡ z) × (x.place ≡ k))
    item_or_none z k = elim (serves_or_none z k) [
      | inl (x, s) ↦ inl (x, s.serves, s.at_signal, s.at_place)
      | inr none_serves ↦ inr (λ (x, serves, at_signal, at_place).
          none_serves (x, record { serves = serves; at_signal = at_signal; at_place = at_place }))
    ]

    -- where each divisor of z that serves stands
    width : (z : ℕ) → (n : ℕ) × ((y : Choice) → Serves c library y → y.signal ≡ z → y.place < n)
    width z = elim (unfit_or_not c library z) [
      | inr fits ↦ (0, λ y serves at. absurd (fits (subst (IsUnfit c library) at serves.unfit)))
      | inl unfit ↦ (
          let (ds, are) = divisors_exist c library z is proper none unfit.driven in (
            length ds,
            λ y serves at. (
                let P : ℕ → Type 0 = λ a. IsDivisorAt c library a y.place serves.divisor in
                place_within c library z y.place serves.divisor ds are (subst P at serves.at)),
          ))
    ]

    first_serving : (found : Option Choice) × IsFirstOrNone choice_place (Serves c library) found
    first_serving = first_or_none (Serves c library) weight row place (weight_of c library) (lower c library)
        (one_weight c library) item_or_none width (length c.graph.signals) (within c library)

    best_by : (found : Option Choice) → IsFirstOrNone choice_place (Serves c library) found
        → ((x : Choice) × IsBest c library x) ⊎ NoneServes c library
    best_by None none_serves = inr none_serves
    best_by (Some x) best = inl (x, best)

    pub best_or_none : ((x : Choice) × IsBest c library x) ⊎ NoneServes c library
    best_or_none = best_by first_serving.0 first_serving.1
