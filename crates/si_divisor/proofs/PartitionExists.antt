-- For each graph there is a partition for an instance, or a reason why there is none.
use Rattle.std.proofs.Common.{◌≡◌, ℕ, ◌<◌, ◌⊎◌, Bool, true, false, List, length, map, arith, inl, inr}
use Rattle.std.specs.List.{range_with_len}
use Rattle.std.proofs.lemmas.List.FromFn.{length-map-range_with_len, get_or-map-range_with_len}
use Rattle.si_base.specs.Order.{IsFirst}
use Rattle.si_base.specs.Graph.{StateGraph, IsGraph}
use Rattle.si_base.specs.Sets.{IsIn}
use Rattle.si_graph.proofs.SearchLemmas.{in_below}
use Rattle.si_checks.proofs.SearchDecisions as decide
use Rattle.si_checks.proofs.SearchDecisions.{Decided}
use Rattle.si_insert.specs.declared.partition.Class.{Class}
use Rattle.si_insert.specs.declared.partition.Class.TheVariants.{Low}
use Rattle.si_divisor.specs.declared.fault.NoPartition.{NoPartition}
use Rattle.si_divisor.specs.declared.fault.NoPartition.TheVariants.{NoMemory, Unforced, Contradiction, LeavesForced}
use Rattle.si_divisor.specs.declared.fault.NoPartition.TheVariants.{Constant}
use Rattle.si_divisor.specs.Targets.{AreSettled, IsUnforced, SettlesAtBoth, target}
use Rattle.si_divisor.specs.PartitionFor.{Sets, AreSets, Leaves, HasSome, class_by, IsPartitionFor, state_place}
use Rattle.si_divisor.specs.Laws.{IsReason, PartitionsExist}
use Rattle.si_divisor.proofs.TargetLeastExists.{first_below, is_in, either, some_settled, some_switching}

-- the first state with P, where all with P are below n
first_or_none : (P : ℕ → Type 0) (n : ℕ) → ((s : ℕ) → Decided (P s)) → ((s : ℕ) → P s → s < n)
    → ((s : ℕ) × IsFirst state_place P s) ⊎ ((s : ℕ) → P s → ⊥)
first_or_none P n decided below = elim (first_below P decided n) [
  | inl (s, inside, p, none) ↦ inl (
    s,
    record {
      holds = p;
      none_before = λ t also before. elim before [ inl less ↦ none t less also | inr same ↦ same.1 ];
    },
  )
  | inr none ↦ inr (λ s p. none s (below s p) p)
]

module _ (g : StateGraph) (graph : IsGraph g) (forced : Bool → ℕ → Bool) where
  abbrev Answer : Type 0
  Answer = ((classes : List Class) × IsPartitionFor g forced classes) ⊎ ((why : NoPartition) × IsReason g forced why)

  unforced : (ones zeros : List Bool) (s : ℕ) → Decided (IsUnforced g ones zeros s)
  unforced ones zeros s =
      elim (decide.both (decide.less s g.states)
      (decide.both (decide.not (is_in ones s)) (decide.not (is_in zeros s)))) [
        | inl is ↦ inl (record { within = is.0; not_one = is.1.0; not_zero = is.1.1 })
        | inr none ↦ inr (λ u. none (u.within, (u.not_one, u.not_zero)))
      ]

  torn : (ones zeros : List Bool) (s : ℕ) → Decided (SettlesAtBoth ones zeros s)
  torn ones zeros s = elim (decide.both (is_in ones s) (is_in zeros s)) [
    | inl is ↦ inl (record { one = is.0; zero = is.1 })
    | inr none ↦ inr (λ t. none (t.one, t.zero))
  ]

  leaves : (x : Sets) (s : ℕ) → Decided (Leaves forced x s)
  leaves x s = either (decide.both (is_in x.plus s) (decide.same_value (forced true s) false))
      (decide.both (is_in x.minus s) (decide.same_value (forced false s) false))

  has_some : (set : List Bool) → Decided (HasSome set)
  has_some set = elim (first_below (IsIn set) (is_in set) (length set)) [
    | inl (s, below, there, none) ↦ inl (s, there)
    | inr none ↦ inr (λ some. none some.0 (in_below set some.0 some.1) some.1)
  ]

  classes_by : Sets → List Class
  classes_by x = map (class_by x) (range_with_len 0 g.states)

  partition_by : (x : Sets) → AreSets g forced x → ((s : ℕ) → Leaves forced x s → ⊥) → HasSome x.plus
      → HasSome x.minus → IsPartitionFor g forced (classes_by x)
  unfolding classes_by
  partition_by x are stays rises falls = record {
    sets = x;
    are = are;
    stays = stays;
    rises = rises;
    falls = falls;
    count = length-map-range_with_len (class_by x) 0 g.states;
    classes_are = λ s within. get_or-map-range_with_len (class_by x) 0 g.states s s Low within (omega arith);
  }

  is_constant : (x : Sets) → AreSets g forced x → ((s : ℕ) → Leaves forced x s → ⊥)
      → (HasSome x.plus → ⊥) ⊎ (HasSome x.minus → ⊥) → Answer
  is_constant x are stays none =
      inr (Constant, record { known = λ (h : Constant ≡ NoMemory). cc; shows = (x, are, stays, none) })

  with_sets : (x : Sets) → AreSets g forced x → Answer
  with_sets x are = elim (first_or_none (Leaves forced x) g.states (leaves x) below) [
    | inl (s, first) ↦
        inr (LeavesForced s, record { known = λ (h : LeavesForced s ≡ NoMemory). cc; shows = (x, are, first) })
    | inr stays ↦ elim (has_some x.plus) [
      | inr none ↦ is_constant x are stays (inl none)
      | inl rises ↦ elim (has_some x.minus) [
        | inr none ↦ is_constant x are stays (inr none)
        | inl falls ↦ inl (classes_by x, partition_by x are stays rises falls)
      ]
    ]
  ]
    where
      below : (s : ℕ) → Leaves forced x s → s < g.states
      below s (inl up) = let k = in_below x.plus s up.0 in omega (arith, k, are.rising.size)
      below s (inr down) = let k = in_below x.minus s down.0 in omega (arith, k, are.falling.size)

  with_settled : (ones zeros : List Bool) → AreSettled g forced ones zeros → Answer
  with_settled ones zeros are =
      elim (first_or_none (IsUnforced g ones zeros) g.states (unforced ones zeros) (λ s u. u.within)) [
        | inl (s, first) ↦ inr (
          Unforced s,
          record { known = λ (h : Unforced s ≡ NoMemory). cc; shows = (ones, zeros, are, first) },
        )
        | inr some ↦ elim (first_or_none (SettlesAtBoth ones zeros) g.states (torn ones zeros) below) [
          | inl (s, first) ↦ inr (
            Contradiction s,
            record {
              known = λ (h : Contradiction s ≡ NoMemory). cc;
              shows = (ones, zeros, are, some, first);
            },
          )
          | inr one ↦ (
              let plus = some_switching g graph (target ones) true in
              let minus = some_switching g graph (target ones) false in
              with_sets (record { ones = ones; zeros = zeros; plus = plus.0; minus = minus.0 }) (record {
                settled = are;
                targets = record { some = some; one = one };
                rising = plus.1;
                falling = minus.1;
              }))
        ]
      ]
    where
      below : (s : ℕ) → SettlesAtBoth ones zeros s → s < g.states
      below s t = let k = in_below ones s t.one in omega (arith, k, are.at_one.size)

  pub some_answer : Answer
  some_answer =
      let ones = some_settled g graph forced true in
      let zeros = some_settled g graph forced false in
      with_settled ones.0 zeros.0 (record { at_one = ones.1; at_zero = zeros.1 })

pub partitions_exist : PartitionsExist
partitions_exist g forced graph = some_answer g graph forced
