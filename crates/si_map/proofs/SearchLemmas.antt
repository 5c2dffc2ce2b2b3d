-- What becomes of a search with each divisor.
use Rattle.std.proofs.Common.{◌≡◌, ℕ, ◌+◌, ◌<◌, ◌≤◌, ◌⊎◌, List, [], Option, Some, None}
use Rattle.std.proofs.Common.{IfSome, IfNone, MatchOption, is_some, not, Bool, true, false, cond, refl, sym, ap, subst}
use Rattle.std.proofs.Common.{◌∙◌, arith, inl, inr, Vec, Global}
use Rattle.std.proofs.lemmas.Bool.{true≢false, cases_Bool}
use Rattle.std.specs.BTreeMap.{is_at}
use Rattle.std.specs.BTreeSet.{BTreeSet, Updates, contains}
use Rattle.std.specs.List.{list_any}
use Rattle.std.proofs.lemmas.Map.Text.{is_eq-slice_cmp}
use Rattle.std.proofs.lemmas.Slice.Eq.{bytes_eq-Decides}
use Rattle.si_base.specs.Codes.{CodedGraph, IsCoded}
use Rattle.si_base.specs.Proper.{HasNoConflict, IsProper}
use Rattle.si_cell.specs.Library.{Library, Instance, instance_value}
use Rattle.si_conflicts.specs.Loops.Chains.{AreChains}
use Rattle.si_conflicts.specs.Left.{LeavesConflicts}
use Rattle.si_divisor.specs.declared.function.Function.{Function}
use Rattle.si_divisor.specs.Functions.{IsFunction, function_cmp}
use Rattle.si_divisor.specs.PartitionFor.{Answers, IsPartitionFor}
use Rattle.si_divisor.specs.Targets.{forced_by}
use Rattle.si_divisor.proofs.PartitionLemmas.{passes}
use Rattle.si_divisor.proofs.SameFunction.{same_function}
use Rattle.si_divisor.proofs.OnePartitionFor.{one_partition}
use Rattle.si_insert.specs.declared.partition.Class.{Class}
use Rattle.si_insert.specs.Partition.{IsLawful}
use Rattle.si_insert.specs.Accepted.{DelaysNoInput, IsAccepted, StaysProper}
use Rattle.si_insert.specs.Loops.Applied.{IsApplied}
use Rattle.si_insert.specs.Fresh.{IsTaken}
use Rattle.si_insert.specs.Insertion.{coded, new_signal}
use Rattle.si_insert.specs.GraphOfCopies.{copies_of}
use Rattle.si_insert.proofs.AcceptedLosses.{no_delay, proper_if_none}
use Rattle.si_insert.proofs.InsertionCodes.{is_coded as inserted_coded}
use Rattle.si_insert.proofs.InsertionsExist.{some_insertion}
use Rattle.si_match.specs.Weight.{weight_of}
use Rattle.si_map.specs.declared.search.Search.{Search}
use Rattle.si_map.specs.Best.{Choice, IsDivisorAt, LeavesWeight, Serves}
use Rattle.si_bounds.specs.Loops.Bounds.{AreBounds}
use Rattle.si_bounds.specs.Loops.Fitted.{AreFitted}
use Rattle.si_bounds.specs.Loops.Least.{WeighsAtLeast}
use Rattle.si_map.specs.Loops.Progress.{IsReady, IsSearching, HasTried, IsPassed, IsNewBest, IsTried}
use Rattle.si_map.specs.Loops.Packed.{ArePacked, words_cmp}
use Rattle.si_map.specs.Loops.Progress.{ArePassed, IsKnown}
use Rattle.si_map.specs.Loops.Progress.{MayHaveRecorded, IsSpent, AreSpent, LeavesBelow, LeavesNoneBelow}
use Rattle.si_map.proofs.BestDivisors.{one_divisor}
use Rattle.si_map.proofs.PackedLemmas.{one_packed}
use Rattle.si_map.proofs.SearchConflicts.{none_left}
use Rattle.si_map.proofs.SearchSteps.{bar_low, search_skip, search_take}
use Rattle.si_map.proofs.BestWeight.{weight_is_one}

-- ---- the inserted graph of a partition
module _ (c : CodedGraph) (library : Library) (classes : List Class) (name : List ℕ) (h : CodedGraph)
    (applied : IsApplied c classes name h) where
  is_coded : coded c (copies_of classes) h.graph ≡ h
  is_coded = let codes = sym applied.codes in λ i. record { graph = h.graph; codes = codes i }

  pub inserted_free : IsCoded c → IsLawful c.graph classes → LeavesConflicts c classes 0 → HasNoConflict h
  inserted_free is lawful free = subst HasNoConflict is_coded
      (none_left c classes (new_signal name) (copies_of classes) h.graph is lawful free applied.insertion)

  pub inserted_leaves : LeavesWeight c library classes (weight_of h library)
  inserted_leaves = record {
    new = new_signal name;
    copies = copies_of classes;
    graph = h.graph;
    insertion = applied.insertion;
    weighs = ap (λ d. weight_of d library) is_coded;
  }

  pub inserted_none : (low : ℕ) → low ≤ weight_of h library → LeavesNoneBelow c library classes low
  inserted_none low high n free leaves =
      let same = weight_is_one c library classes n (weight_of h library) leaves inserted_leaves in
      omega (arith, same, high)

pub conflict_leaves_none : (c : CodedGraph) (library : Library) (classes : List Class) (low : ℕ)
    → ((n : ℕ) → LeavesConflicts c classes n → 1 ≤ n) → LeavesNoneBelow c library classes low
conflict_leaves_none c library classes low some n free leaves =
    let more = some 0 free in absurd (omega (arith, more))

-- where each inserted graph weighs as much, none leaves less
pub heavy_leaves_none : (c : CodedGraph) (library : Library) (classes : List Class) (name : List ℕ) (bar : ℕ)
    → IsCoded c → IsAccepted c.graph classes → (IsTaken c.graph.signals name → ⊥)
    → WeighsAtLeast c library classes bar → LeavesNoneBelow c library classes bar
heavy_leaves_none c library classes name bar is accepts fresh heavy n free leaves =
    let copies = copies_of classes in
    let new = new_signal name in
    let (h, inserted, graph) = some_insertion c classes name is accepts fresh in
    let made = inserted_coded c classes new copies h is accepts.lawful inserted graph in
    let none = none_left c classes new copies h is accepts.lawful free inserted in
    let own : LeavesWeight c library classes (weight_of (coded c copies h) library) =
    record { new = new; copies = copies; graph = h; insertion = inserted; weighs = refl } in
    let one = weight_is_one c library classes n (weight_of (coded c copies h) library) leaves own in
    let least = heavy new copies h inserted made none in
    omega (arith, least, one)

-- what a trial of the conflicts tells
pub conflict_left : (c : CodedGraph) (library : Library) (classes given : List Class) (o : Option ℕ) (none : Bool)
    (low : ℕ) → given ≡ classes → is_some o ≡ not none → none ≡ true
    → IfNone o ((n : ℕ) → LeavesConflicts c given n → 1 ≤ n) → LeavesNoneBelow c library classes low
conflict_left c library classes given None none low same told is some =
    conflict_leaves_none c library classes low
    (subst (λ (xs : List Class). (n : ℕ) → LeavesConflicts c xs n → 1 ≤ n) same some)
conflict_left c library classes given (Some n) none low same told is some =
    absurd (true≢false (told ∙ ap not is))

pub free_left : (c : CodedGraph) (classes given : List Class) (o : Option ℕ) (none : Bool) → given ≡ classes
    → is_some o ≡ not none → none ≡ false → IfSome o (λ n. LeavesConflicts c given n × (n < 1))
    → LeavesConflicts c classes 0
free_left c classes given None none same told is few = absurd (true≢false (sym (told ∙ ap not is)))
free_left c classes given (Some n) none same told is few =
    let zero : n ≡ 0 = omega (arith, few.1) in
    subst (λ (xs : List Class). LeavesConflicts c xs 0) same (subst (LeavesConflicts c given) zero few.0)

-- and what the weight of the inserted graph tells
module _ (c : CodedGraph) (library : Library) (classes : List Class) (name : List ℕ) (h lent : CodedGraph)
    (applied : IsApplied c classes name h) (same : lent ≡ h) where
  pub below_left : (o : Option ℕ) (low : ℕ) → LeavesConflicts c classes 0
      → IfSome o (λ w. (w ≡ weight_of lent library) × (w < low)) → IfSome o (LeavesBelow c library classes low)
  below_left None low free told = told
  below_left (Some w) low free told =
      let weight : weight_of h library ≡ w = sym (told.0 ∙ ap (λ d. weight_of d library) same) in
      record {
        free = free;
        leaves = subst (LeavesWeight c library classes) weight (inserted_leaves c library classes name h applied);
        below = told.1;
      }

  pub none_below_left : (o : Option ℕ) (low : ℕ) → IfNone o (low ≤ weight_of lent library)
      → IfNone o (LeavesNoneBelow c library classes low)
  none_below_left None low told = inserted_none c library classes name h applied low
      (subst (λ d. low ≤ weight_of d library) same told)
  none_below_left (Some w) low told = told

-- ---- the search
module _ (c : CodedGraph) (library : Library) (z k : ℕ) (s : Search) (so : IsSearching c library z k s) where
  pub skip : (t : Search) → IsReady c library t → t.bar ≡ s.bar → t.best ≡ s.best
      → ((y : Choice) → Serves c library y → y.signal ≡ z → y.place ≡ k → s.bar ≤ y.weight)
      → IsSearching c library z (k + 1) t
  skip t ready bar best high = record {
    ready = ready;
    best = so.best;
    is_best = search_skip c library z k so.best
        (λ y serves at_signal at_place. (let more = high y serves at_signal at_place in
        omega (arith, so.bar_is, more))) so.is_best;
    bar_is = bar ∙ so.bar_is;
    kept = best ∙ so.kept;
  }

  pub take : (t : Search) (x : Choice) → IsReady c library t → Serves c library x → x.signal ≡ z → x.place ≡ k
      → x.weight < s.bar → t.bar ≡ x.weight → t.best ≡ Some x.classes → IsSearching c library z (k + 1) t
  take t x ready serves at_signal at_place below bar_is kept = record {
    ready = ready;
    best = Some x;
    is_best = search_take c library z k so.best x serves at_signal at_place (omega (arith, so.bar_is, below))
        so.is_best;
    bar_is = bar_is;
    kept = kept;
  }

  pub under : (n : ℕ) → n < s.bar → n < weight_of c library
  under n below =
      let least = bar_low c library z k so.best so.is_best in omega (arith, so.bar_is, below, least)

-- ---- one partition
known_leaves : (c : CodedGraph) (library : Library) (s : Search) (classes : List Class) (words : Vec ℕ Global)
    → IsReady c library s → ArePacked classes words.items → IsKnown s classes words → IsAccepted c.graph classes
    → LeavesNoneBelow c library classes s.bar
known_leaves c library s classes words ready are (inl best) accepted =
    subst (λ o. IfSome o (λ p. LeavesNoneBelow c library p s.bar)) best ready.best_known
known_leaves c library s classes words ready are (inr there) accepted =
    ready.tried_known classes words are there accepted

same_words : (v w : Vec ℕ Global) → is_at (words_cmp v) w ≡ true → v.items ≡ w.items
same_words v w level = (bytes_eq-Decides v.items w.items).0 (sym (is_eq-slice_cmp v.items w.items) ∙ level)

more_passed : (c : CodedGraph) (library : Library) (bar : ℕ) (classes : List Class) (words : Vec ℕ Global)
    (old new : BTreeSet (Vec ℕ Global)) → ArePacked classes words.items
    → (IsAccepted c.graph classes → LeavesNoneBelow c library classes bar) → ArePassed c library bar old
    → Updates words_cmp old new words true → ArePassed c library bar new
more_passed c library bar classes words old new are none before added others key packed there =
    elim (cases_Bool (is_at (words_cmp words) key)) [
      | inl level ↦ (let P = ArePacked others in
          let same = one_packed classes others words.items are (subst P (sym (same_words words key level)) packed) in
          subst (λ (xs : List Class). IsAccepted c.graph xs → LeavesNoneBelow c library xs bar) same none)
      | inr apart ↦ before others key packed
          (sym (added.0 key ∙ ap (λ b. cond b true (contains words_cmp old key)) apart) ∙ there)
    ]

lower : (c : CodedGraph) (library : Library) (classes : List Class) (low high : ℕ) → low < high
    → LeavesNoneBelow c library classes high → LeavesNoneBelow c library classes low
lower c library classes low high less none n free leaves =
    let more = none n free leaves in omega (arith, less, more)

module _ (c : CodedGraph) (library : Library) (s : Search) (ready : IsReady c library s) (classes : List Class) where
  stays : (IsAccepted c.graph classes → LeavesNoneBelow c library classes s.bar) → IsTried c library classes s s
  stays none = inl (record { ready = ready; bar = refl; best = refl; none = none })

  pub known : (words : Vec ℕ Global) → ArePacked classes words.items → IsKnown s classes words
      → IsTried c library classes s s
  known words are is = stays (known_leaves c library s classes words ready are is)

  grown : (words : Vec ℕ Global) (t : Search) → ArePacked classes words.items → MayHaveRecorded s words t
      → (IsAccepted c.graph classes → LeavesNoneBelow c library classes s.bar) → IsTried c library classes s t
  grown words t are is none = inl (record {
    ready = record {
      coded = ready.coded;
      proper = ready.proper;
      chains = subst (AreChains c) (sym is.chains) ready.chains;
      new = subst (λ name. IsTaken c.graph.signals name → ⊥) (sym is.name) ready.new;
      fitted = subst (AreFitted c library) (sym is.fitted) ready.fitted;
      bounds = subst (AreBounds c library) (sym is.bounds) ready.bounds;
      best_known = subst (λ o. IfSome o (λ p. LeavesNoneBelow c library p t.bar)) (sym is.best)
          (subst (λ low. IfSome s.best (λ p. LeavesNoneBelow c library p low)) (sym is.bar) ready.best_known);
      tried_known = subst (λ low. ArePassed c library low t.tried) (sym is.bar) (all is.tried);
    };
    bar = is.bar;
    best = is.best;
    none = none;
  })
    where
      all : (t.tried ≡ s.tried) ⊎ Updates words_cmp s.tried t.tried words true → ArePassed c library s.bar t.tried
      all (inl same) = subst (ArePassed c library s.bar) (sym same) ready.tried_known
      all (inr added) = more_passed c library s.bar classes words s.tried t.tried are none ready.tried_known added

  pub refused : (words : Vec ℕ Global) (t : Search) → ArePacked classes words.items
      → (IsAccepted c.graph classes → ⊥) → MayHaveRecorded s words t → IsTried c library classes s t
  refused words t are never more = grown words t are more (λ accepted. absurd (never accepted))

  pub kept_tried : (given : List Class) (words : Vec ℕ Global) (m t : Search) (o : Option ℕ)
      → ArePacked classes words.items → given ≡ classes → m ≡ s → o ≡ None
      → IfNone o (LeavesNoneBelow c library given s.bar) → MayHaveRecorded m words t → IsTried c library classes s t
  kept_tried given words m t o are same before is told more =
      grown words t are (subst (λ x. MayHaveRecorded x words t) before more)
      (λ accepted. subst (λ (xs : List Class). LeavesNoneBelow c library xs s.bar) same
      (subst (λ p. IfNone p (LeavesNoneBelow c library given s.bar)) is told))

  -- the search with a partition as the best so far
  abbrev with_best : List Class → ℕ → Search → Search
  with_best given n m =
      record {
        bar = n;
        best = Some given;
        tried = m.tried;
        chains = m.chains;
        name = m.name;
        fitted = m.fitted;
        bounds = m.bounds;
      }

  taken_best : (n : ℕ) → IsAccepted c.graph classes → LeavesBelow c library classes s.bar n
      → IsTried c library classes s (with_best classes n s)
  taken_best n accepted left = inr (record {
    ready = record {
      coded = ready.coded;
      proper = ready.proper;
      chains = ready.chains;
      new = ready.new;
      fitted = ready.fitted;
      bounds = ready.bounds;
      best_known = λ m free leaves. (let same = weight_is_one c library classes n m left.leaves leaves in
          omega (arith, same));
      tried_known = λ others words packed there accepted. lower c library others n s.bar left.below
          (ready.tried_known others words packed there accepted);
    };
    accepted = accepted;
    left = left;
    best = refl;
  })

  pub kept_best : (given : List Class) (m : Search) (o : Option ℕ) (n : ℕ) → given ≡ classes → m ≡ s → o ≡ Some n
      → IsAccepted c.graph given → IfSome o (LeavesBelow c library given s.bar)
      → IsTried c library classes s (with_best given n m)
  kept_best given m o n same before is accepted told =
      let found : LeavesBelow c library given s.bar n =
      subst (λ p. IfSome p (LeavesBelow c library given s.bar)) is told in
      let taken = taken_best n (subst (IsAccepted c.graph) same accepted)
      (subst (λ (xs : List Class). LeavesBelow c library xs s.bar n) same found) in
      subst (λ x. IsTried c library classes s (with_best given n x)) (sym before)
      (subst (λ (xs : List Class). IsTried c library classes s (with_best xs n s)) (sym same) taken)

-- ---- one divisor
module _ (c : CodedGraph) (library : Library) (divisor : Instance) where
  abbrev IsPartition : List Class → Type 0
  IsPartition classes = IsPartitionFor c.graph (forced_by (instance_value library divisor) c) classes

  -- a choice at the divisor's place has the partition for it
  pub partition_here : (z k : ℕ) (y : Choice) → IsDivisorAt c library z k divisor → Serves c library y → y.signal ≡ z
      → y.place ≡ k → IsPartition y.classes
  partition_here z k y here serves at_signal at_place =
      let P : ℕ → Type 0 = λ a. IsDivisorAt c library a y.place serves.divisor in
      let Q : ℕ → Type 0 = λ b. IsDivisorAt c library z b serves.divisor in
      let at : IsDivisorAt c library z k serves.divisor = subst Q at_place (subst P at_signal serves.at) in
      let same = one_divisor c library z k serves.divisor divisor at here in
      let R : Instance → Type 0 = λ d. IsPartitionFor c.graph (forced_by (instance_value library d) c) y.classes in
      subst R same serves.are

  pub zero_tried : (s : Search) → s.bar ≡ 0 → HasTried c library divisor s s
  zero_tried s zero z k unfit here so = skip c library z k s so s so.ready refl refl
      (λ y serves at_signal at_place. omega (arith, zero))

  pub spent_tried : (s : Search) → IsSpent c library s.bar divisor → HasTried c library divisor s s
  spent_tried s spent z k unfit here so = skip c library z k s so s so.ready refl refl
      (λ y serves at_signal at_place. spent y.classes (partition_here z k y here serves at_signal at_place)
      serves.accepted y.weight serves.free serves.leaves)

  passed : (classes : List Class) (s t : Search) → IsPartition classes → IsPassed c library classes s t
      → HasTried c library divisor s t
  passed classes s t are is z k unfit here so =
      skip c library z k s so t is.ready is.bar is.best high
    where
      high : (y : Choice) → Serves c library y → y.signal ≡ z → y.place ≡ k → s.bar ≤ y.weight
      high y serves at_signal at_place =
          let same = one_partition c.graph (forced_by (instance_value library divisor) c) y.classes classes
          (partition_here z k y here serves at_signal at_place) are in
          is.none (subst (IsAccepted c.graph) same serves.accepted) y.weight
          (subst (λ xs. LeavesConflicts c xs 0) same serves.free)
          (subst (λ xs. LeavesWeight c library xs y.weight) same serves.leaves)

  taken : (classes : List Class) (s t : Search) → IsPartition classes → IsNewBest c library classes s t
      → HasTried c library divisor s t
  taken classes s t are is z k unfit here so =
      let x : Choice = record { signal = z; place = k; classes = classes; weight = t.bar } in
      let serves : Serves c library x =
      record {
        unfit = unfit;
        divisor = divisor;
        at = here;
        are = are;
        accepted = is.accepted;
        free = is.left.free;
        leaves = is.left.leaves;
        lower = under c library z k s so t.bar is.left.below;
      } in
      take c library z k s so t x is.ready serves refl refl is.left.below refl is.best

  tried : (classes : List Class) (s t : Search) → IsPartition classes → IsTried c library classes s t
      → HasTried c library divisor s t
  tried classes s t are (inl is) = passed classes s t are is
  tried classes s t are (inr is) = taken classes s t are is

  pub none_spent : (low : ℕ) (o : Option (List Class)) → o ≡ None
      → MatchOption o ((classes : List Class) → IsPartition classes → ⊥)
      (λ p. IsPartition p × IsLawful c.graph p) → IsSpent c library low divisor
  none_spent low o is told classes are accepted =
      absurd (subst (λ p. MatchOption p ((classes : List Class) → IsPartition classes → ⊥)
      (λ p. IsPartition p × IsLawful c.graph p)) is told classes are)

  pub found_tried : (classes : List Class) (s t : Search) (o : Option (List Class)) → o ≡ Some classes
      → MatchOption o ((classes : List Class) → IsPartition classes → ⊥)
      (λ p. IsPartition p × IsLawful c.graph p) → IsTried c library classes s t → HasTried c library divisor s t
  found_tried classes s t o is told =
      let found : IsPartition classes × IsLawful c.graph classes =
      subst (λ p. MatchOption p ((classes : List Class) → IsPartition classes → ⊥)
      (λ p. IsPartition p × IsLawful c.graph p)) is told in
      tried classes s t found.0

  pub found_spent : (classes : List Class) (s t : Search) (o : Option (List Class)) → o ≡ Some classes
      → MatchOption o ((classes : List Class) → IsPartition classes → ⊥)
      (λ p. IsPartition p × IsLawful c.graph p) → IsTried c library classes s t → IsSpent c library t.bar divisor
  found_spent classes s t o is told done others are accepted =
      by_end done (one_partition c.graph (forced_by (instance_value library divisor) c) others classes are found.0)
    where
      found : IsPartition classes × IsLawful c.graph classes
      found = subst (λ p. MatchOption p ((classes : List Class) → IsPartition classes → ⊥)
          (λ p. IsPartition p × IsLawful c.graph p)) is told

      by_end : IsTried c library classes s t → others ≡ classes → LeavesNoneBelow c library others t.bar
      by_end (inl is) same = subst (λ (low : ℕ). LeavesNoneBelow c library others low) (sym is.bar)
          (subst (λ (xs : List Class). LeavesNoneBelow c library xs s.bar) (sym same)
          (is.none (subst (IsAccepted c.graph) same accepted)))
      by_end (inr is) same = λ n free leaves. (
          let one = weight_is_one c library classes t.bar n is.left.leaves
          (subst (λ (xs : List Class). LeavesWeight c library xs n) same leaves) in
          omega (arith, one))

-- the partition for a value is lawful; its inserted graph is proper and delays no input
pub found_stays : (c : CodedGraph) (value : ℕ → Bool → Bool) (classes : List Class) (o : Option (List Class))
    → IsCoded c → IsProper c.graph → o ≡ Some classes → Answers c value o
    → IsLawful c.graph classes × (StaysProper c.graph classes × DelaysNoInput c.graph classes)
found_stays c value classes o coded proper is told =
    let found : Answers c value (Some classes) = subst (Answers c value) is told in
    let tests = passes c.graph (forced_by value c) classes coded.graph_is found.0 in (
      found.1,
      (
        proper_if_none c classes coded proper tests.lawful tests.losses,
        no_delay c.graph classes coded.graph_is tests.lawful tests.inputs,
      ),
    )

pub lowers : (c : CodedGraph) (library : Library) (classes : List Class) (s t : Search)
    → IsTried c library classes s t → t.bar ≤ s.bar
lowers c library classes s t (inl is) = omega (arith, is.bar)
lowers c library classes s t (inr is) = omega (arith, is.left.below)

-- ---- the functions of divisors
pub spent_below : (c : CodedGraph) (library : Library) (high low : ℕ) (i : Instance) → low ≤ high
    → IsSpent c library high i → IsSpent c library low i
spent_below c library high low i less spent classes are accepted n free leaves =
    let more = spent classes are accepted n free leaves in omega (arith, less, more)

pub none_yet : (c : CodedGraph) (library : Library) (bar : ℕ) (functions : BTreeSet Function) → functions.keys ≡ []
    → AreSpent c library bar functions
none_yet c library bar functions none f i there =
    absurd (true≢false (sym there ∙ ap (λ (ks : List Function). list_any (is_at (function_cmp f)) ks) none))

pub more_spent : (c : CodedGraph) (library : Library) (high low : ℕ) (f : Function) (old new : BTreeSet Function)
    → low ≤ high → AreSpent c library high old
    → ((i : Instance) → IsFunction library i f → IsSpent c library low i) → Updates function_cmp old new f true
    → AreSpent c library low new
more_spent c library high low f old new less before spent added g i there is =
    elim (cases_Bool (is_at (function_cmp f) g)) [
      | inl level ↦ spent i (subst (IsFunction library i) (sym (same_function f g level)) is)
      | inr apart ↦ spent_below c library high low i less
          (before g i (sym (added.0 g ∙ ap (λ b. cond b true (contains function_cmp old g)) apart) ∙ there) is)
    ]
