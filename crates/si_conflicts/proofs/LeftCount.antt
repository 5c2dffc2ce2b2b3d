-- The number of conflicts that an insertion leaves.
use Rattle.std.proofs.Common.{◌≡◌, ℕ, ◌+◌, List, [], Option, Some, None, IfSome, IfNone, ◌≤◌, ◌<◌, ◌↔◌, true, ltb, inl}
use Rattle.std.proofs.Common.{inr, le-ltb, map, arith, refl, sym, ap, ap₂, subst, ◌∙◌}
use Rattle.std.proofs.lemmas.Bool.{cases_lt, lt-ltb, true≢false}
use Rattle.si_base.specs.declared.graph.Signal.{Signal}
use Rattle.si_base.specs.Graph.{StateGraph}
use Rattle.si_base.specs.Codes.{CodedGraph, IsCoded}
use Rattle.si_insert.specs.declared.partition.Class.{Class}
use Rattle.si_insert.specs.Partition.{IsLawful}
use Rattle.si_insert.specs.Insertion.{Copy, IsInsertedGraph, coded, new_signal}
use Rattle.si_insert.specs.GraphOfCopies.{copies_of, graph_of_copies}
use Rattle.si_insert.proofs.ApplyInserts.{made_is_insertion}
use Rattle.si_insert.proofs.OneInsertion.{same_copies}
use Rattle.si_conflicts.specs.declared.keys.Key.{Key}
use Rattle.si_conflicts.specs.declared.members.Member.{Member}
use Rattle.si_conflicts.specs.Conflicts.{HasConflicts}
use Rattle.si_conflicts.specs.Loops.Keys.{IsKey, clash_count}
use Rattle.si_conflicts.specs.Loops.Chains.{AreRings, AreMembers}
use Rattle.si_conflicts.specs.Loops.Apart.{AreStaying, AllStaying, stable_count, pair_sum, switching_count}
use Rattle.si_conflicts.specs.Left.{LeavesConflicts}
use Rattle.si_conflicts.proofs.OneConflictList.{one_count}
use Rattle.si_conflicts.proofs.ApartCopyCount.{copies_clash}
use Rattle.si_conflicts.proofs.CopyKeys.{copy_key, are_keys, have_values}
use Rattle.si_conflicts.proofs.KeyNumbers.{some_key, some_staying}
use Rattle.si_conflicts.proofs.KeyPairs.{as_many}

-- a signal that an insertion may add
abbrev some_signal : Signal
some_signal = new_signal []

module _ (c : CodedGraph) (is : IsCoded c) (classes : List Class) (lawful : IsLawful c.graph classes) where
  abbrev pub own : ℕ → Key
  own s = (some_key c s).0

  own_is : (s : ℕ) → IsKey c s (own s)
  own_is s = (some_key c s).1

  abbrev pub staying : ℕ → ℕ
  staying = (some_staying c.graph classes).0

  pub stay : (s : ℕ) → AreStaying c.graph classes s (staying s)
  stay = (some_staying c.graph classes).1

  -- each inserted graph has as many conflicts as keys of copies clash
  counted : (new : Signal) (copies : List Copy) (h : StateGraph) → IsInsertedGraph c.graph classes new copies h
      → HasConflicts (coded c copies h) (clash_count (map (copy_key c classes own staying) copies))
  counted new copies h inserted = as_many (coded c copies h)
      (have_values c is classes lawful own own_is staying stay new copies h inserted)
      (map (copy_key c classes own staying) copies) _
      (are_keys c is classes lawful own own_is staying stay new copies h inserted) refl

  inserted : IsInsertedGraph c.graph classes some_signal (copies_of classes)
      (graph_of_copies c.graph classes some_signal)
  inserted = made_is_insertion c.graph classes some_signal is.graph_is lawful refl

  -- that number
  abbrev pub left : ℕ
  left = clash_count (map (copy_key c classes own staying) (copies_of classes))

  pub leaves : LeavesConflicts c classes left
  leaves = record {
    new = some_signal;
    copies = copies_of classes;
    graph = graph_of_copies c.graph classes some_signal;
    insertion = inserted;
    counted = counted some_signal (copies_of classes) (graph_of_copies c.graph classes some_signal) inserted;
  }

  pub some_left : (n : ℕ) × LeavesConflicts c classes n
  some_left = (left, leaves)

  -- the number, whatever the new signal is called
  pub left_is : (n : ℕ) → LeavesConflicts c classes n → n ≡ left
  left_is n l =
      one_count (coded c l.copies l.graph) n (clash_count (map (copy_key c classes own staying) l.copies)) l.counted
      (counted l.new l.copies l.graph l.insertion)
      ∙ ap (λ xs. clash_count (map (copy_key c classes own staying) xs)) same
    where
      renamed : IsInsertedGraph c.graph classes l.new (copies_of classes) (graph_of_copies c.graph classes l.new)
      renamed = made_is_insertion c.graph classes l.new is.graph_is lawful l.insertion.kind

      same : l.copies ≡ copies_of classes
      same = same_copies c.graph classes l.new l.copies (copies_of classes) l.graph
          (graph_of_copies c.graph classes l.new)
          l.insertion renamed

  pub one_left : (n m : ℕ) → LeavesConflicts c classes n → LeavesConflicts c classes m → n ≡ m
  one_left n m a b = left_is n a ∙ sym (left_is m b)

  -- what a trial counts
  pub trial_count : (next : List ℕ) (members : List Member) → AreRings c next → AreMembers c next members
      → LeavesConflicts c classes (pair_sum (stable_count classes) members + switching_count classes staying members)
  trial_count next members rings are = subst (λ n. LeavesConflicts c classes n)
      (copies_clash c is classes lawful.count own own_is staying stay next rings members are) leaves

  pub trial_is : (next : List ℕ) (members : List Member) (told rest : ℕ) → AreRings c next → AreMembers c next members
      → told ≡ pair_sum (stable_count classes) members
      → ((staying : ℕ → ℕ) → AllStaying c.graph classes staying → rest ≡ switching_count classes staying members)
      → LeavesConflicts c classes (told + rest)
  trial_is next members told rest rings are told_is rest_is = subst (λ n. LeavesConflicts c classes n)
      (sym (ap₂ (λ m n. m + n) told_is (rest_is staying (λ s within. stay s)))) (trial_count next members rings are)

  -- the conflicts that are told apart are among them
  pub at_least : (next : List ℕ) (members : List Member) (bar n : ℕ) → AreRings c next → AreMembers c next members
      → bar ≤ pair_sum (stable_count classes) members → LeavesConflicts c classes n → bar ≤ n
  at_least next members bar n rings are enough left_n =
      let same = one_left n _ left_n (trial_count next members rings are) in
      omega (arith, same)

-- the same where the parts are known by equations
pub trial_found : (c : CodedGraph) (classes : List Class) (next : List ℕ) (members : List Member)
    (d : CodedGraph) (g : StateGraph) (given : List Class) (ms : List Member) (told rest : ℕ)
    → d ≡ c → g ≡ d.graph → given ≡ classes → ms ≡ members → IsCoded d → IsLawful c.graph classes
    → AreRings c next → AreMembers c next members
    → told ≡ pair_sum (stable_count given) members
    → ((staying : ℕ → ℕ) → AllStaying g given staying → rest ≡ switching_count given staying ms)
    → LeavesConflicts c classes (told + rest)
trial_found c classes next members d g given ms told rest d_is g_is given_is ms_is coded lawful rings are told_is
    rest_is =
    trial_is c (subst IsCoded d_is coded) classes lawful next members told rest rings are
    (told_is ∙ ap (λ xs. pair_sum (stable_count xs) members) given_is)
    (λ staying all. rest_is staying (there staying all)
    ∙ ap₂ (λ xs ys. switching_count xs staying ys) given_is ms_is)
  where
    graph_is : g ≡ c.graph
    graph_is = g_is ∙ ap (λ (x : CodedGraph). x.graph) d_is

    there : (staying : ℕ → ℕ) → AllStaying c.graph classes staying → AllStaying g given staying
    there staying all = subst (λ h. AllStaying h given staying) (sym graph_is)
        (subst (λ xs. AllStaying c.graph xs staying) (sym given_is) all)

pub none_below : (c : CodedGraph) (classes : List Class) (next : List ℕ) (members : List Member)
    (d : CodedGraph) (bar : ℕ) → d ≡ c → IsCoded d → IsLawful c.graph classes
    → AreRings c next → AreMembers c next members → bar ≤ pair_sum (stable_count classes) members
    → (n : ℕ) → LeavesConflicts c classes n → bar ≤ n
none_below c classes next members d bar d_is coded lawful rings are enough n left_n =
    at_least c (subst IsCoded d_is coded) classes lawful next members bar n rings are enough left_n

-- ---- the answer below a bar
pub below_is : (c : CodedGraph) (classes : List Class) (n bar : ℕ) (o : Option ℕ) → LeavesConflicts c classes n
    → IfSome o (λ m. (m ≡ n) × (n < bar)) → IfSome o (λ m. LeavesConflicts c classes m × (m < bar))
below_is c classes n bar (Some m) left_n found =
    let same = found.0 in
    let few = found.1 in
    (subst (λ k. LeavesConflicts c classes k) (sym same) left_n, omega arith)
below_is c classes n bar None left_n found = found

pub below_none : (c d : CodedGraph) → d ≡ c → IsCoded d → (classes : List Class) → IsLawful c.graph classes
    → (n bar : ℕ) (o : Option ℕ) → LeavesConflicts c classes n → IfNone o (bar ≤ n)
    → IfNone o ((m : ℕ) → LeavesConflicts c classes m → bar ≤ m)
below_none c d d_is coded classes lawful n bar (Some m) left_n enough = enough
below_none c d d_is coded classes lawful n bar None left_n enough = λ m left_m. (
    let same = one_left c (subst IsCoded d_is coded) classes lawful m n left_m left_n in omega (arith, same, enough))

pub enough_told : (o : Option ℕ) (total sum bar : ℕ) → IfNone o (bar ≤ total) → (bar ≤ total → bar ≤ sum)
    → IfNone o (bar ≤ sum)
enough_told (Some m) total sum bar enough more = enough
enough_told None total sum bar enough more = more enough

-- a count up to a bar is below it just where the sum is
pub told_below : (total sum bar : ℕ) → (total < bar → total ≡ sum) → (bar ≤ total → bar ≤ sum)
    → (ltb total bar ≡ true) ↔ (sum < bar)
told_below total sum bar all more = elim (cases_lt total bar) [
  | inl below ↦ (
      let same = all below in (
        λ _. omega (arith, below, same),
        λ _. lt-ltb total bar below,
      ))
  | inr above ↦ (
      let enough = more above in (
        λ yes_below. absurd (true≢false (sym yes_below ∙ le-ltb total bar above)),
        λ below. absurd (omega (arith, enough, below)),
      ))
]
