-- Turns of members, and the pass over them that counts.
use Rattle.std.proofs.Common.{◌≡◌, ℕ, zero, suc, ◌+◌, ◌*◌, ◌<◌, ◌≤◌, Bool, true, false, cond, List, [], ◌∷◌, ◌++◌}
use Rattle.std.proofs.Common.{length, map, take, get_or, All, count_by, refl, sym, ap, ap₂, subst, ◌∙◌, arith, inr}
use Rattle.std.proofs.lemmas.List.{take_more, take_all, length-map, length-take-le, map-append}
use Rattle.std.proofs.lemmas.List.Elements.{All-cons, All-map, All-more, All-nil, All-tail, All-weaker}
use Rattle.std.proofs.lemmas.List.Sums.{count_by-le-length}
use Rattle.std.specs.List.{sum_by}
use Rattle.std.specs.List.Sorted.{IsSorted}
use Rattle.si_base.specs.Limits.{max_states}
use Rattle.si_base.specs.Codes.{CodedGraph, IsCoded}
use Rattle.si_insert.specs.declared.partition.Class.{Class}
use Rattle.si_insert.specs.Partition.{class_of}
use Rattle.si_conflicts.specs.declared.keys.Key.{Key}
use Rattle.si_conflicts.specs.declared.members.Member.{Member}
use Rattle.si_conflicts.specs.declared.tally.Role.{Role}
use Rattle.si_conflicts.specs.declared.tally.Tally.{Tally}
use Rattle.si_conflicts.specs.declared.turns.Change.{Change}
use Rattle.si_conflicts.specs.declared.turns.Turn.{Turn}
use Rattle.si_conflicts.specs.Loops.Keys.{no_key}
use Rattle.si_conflicts.specs.Loops.Chains.{AreMembers, member_cmp}
use Rattle.si_conflicts.specs.Loops.Turns.{change_between, turns_after, AreTurns, HaveMembers}
use Rattle.si_conflicts.specs.Loops.Apart.{role_at, RoleAndKey, are_apart, role_and_key, stable_count, pair_sum}
use Rattle.si_conflicts.specs.Loops.Apart.{IsUpTo, AreUpTo, IsTally, HasTally}
use Rattle.si_conflicts.proofs.ApartPairSums.{sum_two, sum_map, pair_push}
use Rattle.si_conflicts.proofs.RingLemmas.{few_given}
use Rattle.si_conflicts.proofs.TallyLemmas.{first_key, up_to, up_to_later}

-- ---- turns
abbrev pub no_member : Member
no_member = record { key = no_key; state = 0 }

abbrev pub turn_of : Key → Member → Turn
turn_of key m = record { state = m.state; change = change_between key m.key }

-- the last key, where the members follow one of that key
abbrev pub last_key : Key → List Member → Key
last_key key [] = key
last_key key (m ∷ ms) = last_key m.key ms

last_pushed : (key : Key) (ms : List Member) (m : Member) → last_key key (ms ++ m ∷ []) ≡ m.key
last_pushed key [] m = refl
last_pushed key (x ∷ ms) m = last_pushed x.key ms m

turns_pushed : (key : Key) (ms : List Member) (m : Member)
    → turns_after key (ms ++ m ∷ []) ≡ turns_after key ms ++ turn_of (last_key key ms) m ∷ []
turns_pushed key [] m = refl
turns_pushed key (x ∷ ms) m = ap (λ ts. turn_of key x ∷ ts) (turns_pushed x.key ms m)

module _ (ms : List Member) (i : ℕ) (m : Member) (inside : i < length ms) (at : m ≡ get_or ms i m) where
  taken : take (i + 1) ms ≡ take i ms ++ m ∷ []
  taken = take_more ms i m inside ∙ ap (λ x. take i ms ++ x ∷ []) (sym at)

  pub last_more : m.key ≡ last_key no_key (take (i + 1) ms)
  last_more = sym (ap (last_key no_key) taken ∙ last_pushed no_key (take i ms) m)

  pub turns_more : (last : Key) (turns : List Turn) (change : Change) → turns ≡ turns_after no_key (take i ms)
      → last ≡ last_key no_key (take i ms) → change ≡ change_between last m.key
      → turns ++ record { state = m.state; change = change } ∷ [] ≡ turns_after no_key (take (i + 1) ms)
  turns_more last turns change turns_are last_is change_is =
      ap₂ (λ (xs : List Turn) (c : Change). xs ++ record { state = m.state; change = c } ∷ []) turns_are
      (change_is ∙ ap (λ k. change_between k m.key) last_is)
      ∙ sym (ap (turns_after no_key) taken ∙ turns_pushed no_key (take i ms) m)

turns_length : (key : Key) (ms : List Member) → length (turns_after key ms) ≡ length ms
turns_length key [] = refl
turns_length key (x ∷ ms) = let rest = turns_length x.key ms in omega arith

turn_at : (key : Key) (ms : List Member) (i : ℕ) (t : Turn) (d : Member) → i < length ms
    → get_or (turns_after key ms) i t ≡ turn_of (last_key key (take i ms)) (get_or ms i d)
turn_at key [] i t d inside = absurd (omega arith)
turn_at key (m ∷ ms) zero t d inside = refl
turn_at key (m ∷ ms) (suc i) t d inside = turn_at m.key ms i t d (omega arith)

turns_within : (n : ℕ) (key : Key) (ms : List Member) → All (λ m. m.state < n) ms
    → All (λ t. t.state < n) (turns_after key ms)
turns_within n key [] all = All-nil (λ t. t.state < n)
turns_within n key (m ∷ ms) all = All-cons (λ t. t.state < n) (turn_of key m) (turns_after m.key ms)
    (all 0 m (omega arith)) (turns_within n m.key ms (All-tail (λ x. x.state < n) m ms all))

pub few_turns : (ms : List Member) (ts : List Turn) → AreTurns ms ts → length ts ≡ length ms
few_turns ms ts are = ap (λ (xs : List Turn). length xs) are.turns_are ∙ turns_length no_key ms

-- the same where the parts are known by equations
pub turns_given : (members ms : List Member) (ts xs : List Turn) → AreTurns ms xs → ms ≡ members → ts ≡ xs
    → AreTurns members ts
turns_given members ms ts xs are ms_is ts_is =
    subst (λ ys. AreTurns ys ts) ms_is (subst (λ ys. AreTurns ms ys) (sym ts_is) are)

pub states_within : (n k : ℕ) (ms : List Member) (ts : List Turn) → AreTurns ms ts → k ≡ n
    → All (λ m. m.state < n) ms → All (λ t. t.state < k) ts
states_within n k ms ts are size all = subst (λ xs. All (λ (t : Turn). t.state < k) xs) (sym are.turns_are)
    (subst (λ m. All (λ (t : Turn). t.state < m) (turns_after no_key ms)) (sym size) (turns_within n no_key ms all))

pub have_given : (c d : CodedGraph) (next : List ℕ) (members ms : List Member) (ts xs : List Turn)
    → AreMembers c next members → d ≡ c → IsCoded d → AreTurns ms xs → ms ≡ members → ts ≡ xs → HaveMembers ts
have_given c d next members ms ts xs are d_is coded turns ms_is ts_is = record {
  members = members;
  few = few_given c d next members members are d_is coded refl;
  are = turns_given members ms ts xs turns ms_is ts_is;
}

-- the key of the member at i isn't before that of the one before
next_key : (ms : List Member) (i : ℕ) → IsSorted member_cmp ms → i < length ms
    → IsUpTo (last_key no_key (take i ms)) (get_or ms i no_member).key
next_key [] i sorted inside = absurd (omega arith)
next_key (m ∷ ms) zero sorted inside = first_key m.key
next_key (m ∷ ms) (suc i) sorted inside =
    let xs = m ∷ ms in
    let same : i + 1 ≡ suc i = omega arith in
    let last = ap (last_key no_key) (take_more xs i no_member (omega arith))
    ∙ last_pushed no_key (take i xs) (get_or xs i no_member) in
    subst (λ j. IsUpTo (last_key no_key (take j xs)) (get_or xs j no_member).key) same
    (subst (λ k. IsUpTo k (get_or xs (i + 1) no_member).key) (sym last)
    (up_to (get_or xs i no_member) (get_or xs (i + 1) no_member) (sorted i no_member (omega arith) (omega arith))))

-- ---- the pass
abbrev pub tallied_to : List Class → Bool → List Member → ℕ → List RoleAndKey
tallied_to classes b ms i = map (role_and_key classes b) (take i ms)

tallied_length : (classes : List Class) (b : Bool) (ms : List Member) (i : ℕ) → i < length ms
    → length (tallied_to classes b ms i) ≡ i
tallied_length classes b ms i inside =
    length-map (take i ms) (role_and_key classes b) ∙ length-take-le i ms (omega arith)

few_met : (q : RoleAndKey → Bool) (classes : List Class) (b : Bool) (ms : List Member) (i n : ℕ)
    → n ≡ count_by q (tallied_to classes b ms i) → i < length ms → n ≤ i
few_met q classes b ms i n is inside =
    let few = count_by-le-length q (tallied_to classes b ms i) in
    let size = tallied_length classes b ms i inside in
    omega arith

-- what it has found before the member at i
pub record Passed (classes : List Class) (ms : List Member) (i : ℕ) (low high : Tally) (total : ℕ) : Type 0 where
  pub low_is : IsTally (last_key no_key (take i ms)) (tallied_to classes false ms i) low
  pub high_is : IsTally (last_key no_key (take i ms)) (tallied_to classes true ms i) high
  pub order : All (λ m. IsUpTo m.key (last_key no_key (take i ms))) (take i ms)
  pub total_is : total ≡ pair_sum (stable_count classes) (take i ms)

pub all_passed : (classes : List Class) (ms : List Member) (ts : List Turn) → AreTurns ms ts → (i : ℕ)
    → length ts ≤ i → pair_sum (stable_count classes) (take i ms) ≡ pair_sum (stable_count classes) ms
all_passed classes ms ts are i most = ap (pair_sum (stable_count classes))
    (take_all i ms (let size = few_turns ms ts are in omega (arith, size, most)))

-- what Tally::for_change promises
abbrev Changes : Change → Tally → Tally → Type 0
Changes change old new = (copies : List RoleAndKey) → (from to : Key) → change ≡ change_between from to
    → IsUpTo from to → AreUpTo copies from → IsTally from copies old → IsTally to copies new

-- what Tally::conflicts promises
abbrev Meets : Tally → Role → ℕ → Type 0
Meets tally role n = (copies : List RoleAndKey) → (key : Key) → IsTally key copies tally
    → n ≡ count_by (λ e. are_apart e (role, key)) copies

-- what Tally::with promises
abbrev Adds : Tally → Role → Tally → Type 0
Adds old role new = (copies : List RoleAndKey) → (key : Key) → IsTally key copies old
    → IsTally key (copies ++ (role, key) ∷ []) new

module _ (classes : List Class) (ms : List Member) (ts : List Turn) (are : AreTurns ms ts) (i : ℕ) (t : Turn)
    (inside : i < length ts) (at : t ≡ get_or ts i t)
  where
    abbrev member : Member
    member = get_or ms i no_member

    abbrev last : Key
    last = last_key no_key (take i ms)

    within : i < length ms
    within = let size = few_turns ms ts are in omega (arith, size, inside)

    turn_is : t ≡ turn_of last member
    turn_is = at ∙ ap (λ xs. get_or xs i t) are.turns_are ∙ turn_at no_key ms i t no_member within

    with_member : take (i + 1) ms ≡ take i ms ++ member ∷ []
    with_member = take_more ms i no_member within

    next_last : last_key no_key (take (i + 1) ms) ≡ member.key
    next_last = ap (last_key no_key) with_member ∙ last_pushed no_key (take i ms) member

    -- the tally of the members before, as the key of this one sees it
    seen : (b : Bool) (old new : Tally) → Changes t.change old new → All (λ m. IsUpTo m.key last) (take i ms)
        → IsTally last (tallied_to classes b ms i) old → IsTally member.key (tallied_to classes b ms i) new
    seen b old new changes order is = changes (tallied_to classes b ms i) last member.key
        (ap (λ (x : Turn). x.change) turn_is) (next_key ms i are.sorted within)
        (All-map (λ e. IsUpTo e.1 last) (role_and_key classes b) (take i ms) order) is

    pub has_tally : length ms ≤ max_states → (b : Bool) (old new : Tally) → Changes t.change old new
        → All (λ m. IsUpTo m.key last) (take i ms) → IsTally last (tallied_to classes b ms i) old → HasTally new
    has_tally few b old new changes order is = record {
      key = member.key;
      copies = tallied_to classes b ms i;
      few = (let size = tallied_length classes b ms i within in omega (arith, size, few, within));
      is = seen b old new changes order is;
    }

    module _ (at_low at_high : Role) (low_role : at_low ≡ role_at false (class_of classes t.state))
        (high_role : at_high ≡ role_at true (class_of classes t.state)) (low high low_now high_now : Tally) (total : ℕ)
        (passed : Passed classes ms i low high total)
        (low_changes : Changes t.change low low_now) (high_changes : Changes t.change high high_now)
        (met_low met_high : ℕ) (low_meets : Meets low_now at_low met_low) (high_meets : Meets high_now at_high met_high)
      where
        low_seen : IsTally member.key (tallied_to classes false ms i) low_now
        low_seen = seen false low low_now low_changes passed.order passed.low_is

        high_seen : IsTally member.key (tallied_to classes true ms i) high_now
        high_seen = seen true high high_now high_changes passed.order passed.high_is

        role_is : (b : Bool) (role : Role) → role ≡ role_at b (class_of classes t.state)
            → role_and_key classes b member ≡ (role, member.key)
        role_is b role is = ap (λ (r : Role). (r, member.key))
            (sym (is ∙ ap (λ (x : Turn). role_at b (class_of classes x.state)) turn_is))

        pub few_more : length ms ≤ max_states → total ≤ i * (2 * max_states)
            → total + (met_low + met_high) ≤ (i + 1) * (2 * max_states)
        few_more few before =
            let lower = few_met _ classes false ms i met_low (low_meets _ _ low_seen) within in
            let higher = few_met _ classes true ms i met_high (high_meets _ _ high_seen) within in
            omega (arith, lower, higher, before, within, few)

        pub total_more : total + (met_low + met_high) ≡ pair_sum (stable_count classes) (take (i + 1) ms)
        total_more =
            let more = ap (pair_sum (stable_count classes)) with_member in
            let push = pair_push (stable_count classes) (take i ms) member in
            let two = sum_two (apart false) (apart true) (take i ms) in
            let lower = met false at_low low_role in
            let higher = met true at_high high_role in
            omega (
              arith,
              more,
              push,
              two,
              lower,
              higher,
              passed.total_is,
              low_meets _ _ low_seen,
              high_meets _ _ high_seen,
            )
          where
            apart : Bool → Member → ℕ
            apart b y = cond (are_apart (role_and_key classes b y) (role_and_key classes b member)) 1 0

            met : (b : Bool) (role : Role) → role ≡ role_at b (class_of classes t.state)
                → count_by (λ e. are_apart e (role, member.key)) (tallied_to classes b ms i)
                ≡ sum_by (apart b) (take i ms)
            met b role is =
                ap (λ (x : RoleAndKey). count_by (λ e. are_apart e x) (tallied_to classes b ms i))
                (sym (role_is b role is))
                ∙ sum_map (role_and_key classes b) (λ e. cond (are_apart e (role_and_key classes b member)) 1 0)
                (take i ms)

        pub passed_more : (low_with high_with : Tally) → Adds low_now at_low low_with → Adds high_now at_high high_with
            → Passed classes ms (i + 1) low_with high_with (total + (met_low + met_high))
        passed_more low_with high_with low_adds high_adds = record {
          low_is = tallied false at_low low_role low_with (low_adds _ _ low_seen);
          high_is = tallied true at_high high_role high_with (high_adds _ _ high_seen);
          order = subst (λ k. All (λ m. IsUpTo m.key k) (take (i + 1) ms)) (sym next_last)
              (All-more (λ m. IsUpTo m.key member.key) ms i no_member within
              (All-weaker (λ m. IsUpTo m.key last) (λ m. IsUpTo m.key member.key)
              (λ m up. up_to_later m.key last member.key up (next_key ms i are.sorted within)) (take i ms) passed.order)
              (inr (refl, omega arith)));
          total_is = total_more;
        }
          where
            tallied : (b : Bool) (role : Role) → role ≡ role_at b (class_of classes t.state) → (tally : Tally)
                → IsTally member.key (tallied_to classes b ms i ++ (role, member.key) ∷ []) tally
                → IsTally (last_key no_key (take (i + 1) ms)) (tallied_to classes b ms (i + 1)) tally
            tallied b role role_is_at tally is =
                subst (λ k. IsTally k (tallied_to classes b ms (i + 1)) tally) (sym next_last)
                (subst (λ es. IsTally member.key es tally) (sym (ap (map (role_and_key classes b)) with_member
                ∙ map-append (role_and_key classes b) (take i ms) (member ∷ [])
                ∙ ap (λ e. tallied_to classes b ms i ++ e ∷ []) (role_is b role role_is_at))) is)
