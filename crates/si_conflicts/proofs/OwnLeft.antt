-- What an insertion leaves of its conflicts, by the states where the new signal rises and those where it falls.
use Rattle.std.proofs.Common.{◌≡◌, ℕ, suc, ◌+◌, ◌<◌, ◌↔◌, Bool, true, false, cond, List, [], ◌∷◌, map, filter, All}
use Rattle.std.proofs.Common.{get_or, refl, sym, ap, ap₂, subst, ◌∙◌, arith}
use Rattle.std.proofs.lemmas.Bool.{true≢false}
use Rattle.si_base.specs.Graph.{StateGraph, IsGraph}
use Rattle.si_base.specs.Codes.{CodedGraph, IsCoded}
use Rattle.si_base.specs.Sets.{IsIn, is_in}
use Rattle.si_base.proofs.Booleans.{same_if}
use Rattle.si_base.proofs.StepCodes.{step_within}
use Rattle.si_insert.specs.declared.partition.Class.{Class}
use Rattle.si_insert.specs.declared.partition.Class.TheVariants.{Low, Rising, High, Falling}
use Rattle.si_insert.specs.Partition.{IsLawful, class_of}
use Rattle.si_conflicts.specs.declared.members.Member.{Member}
use Rattle.si_conflicts.specs.Left.{LeavesConflicts}
use Rattle.si_conflicts.specs.Loops.Own.{AllStayingIn, HasOwnConflicts, StaysIn, own_keys}
use Rattle.si_conflicts.specs.Loops.Apart.{AllStaying, Stays, is_switching, pair_sum, role_at, stable_count}
use Rattle.si_conflicts.specs.Loops.Apart.{switching_count, switching_keys}
use Rattle.si_conflicts.specs.Loops.Chains.{AreChains, Chains}
use Rattle.si_conflicts.specs.Loops.Keys.{clash_count}
use Rattle.si_conflicts.proofs.LeftCount.{stay, staying, trial_count}

filter_same : (p q : Member → Bool) (ms : List Member) → All (λ m. p m ≡ q m) ms → filter p ms ≡ filter q ms
filter_same p q [] same = refl
filter_same p q (m ∷ ms) same =
    let here : p m ≡ q m = same 0 m (omega arith) in
    let later = filter_same p q ms (λ k d inside. same (suc k) d (omega (arith, inside))) in
    ap₂ (λ b rest. cond b (m ∷ rest) rest) here later

-- the class whose copies at a value are those where the new signal may switch
rising_switch : (d : Class) → (is_switching (role_at false d) ≡ true) ↔ (d ≡ Rising)
rising_switch Low = (λ on. absurd (true≢false (sym on)), λ (e : Low ≡ Rising). cc)
rising_switch Rising = (λ on. refl, λ same. refl)
rising_switch High = (λ on. absurd (true≢false (sym on)), λ (e : High ≡ Rising). cc)
rising_switch Falling = (λ on. absurd (true≢false (sym on)), λ (e : Falling ≡ Rising). cc)

falling_switch : (d : Class) → (is_switching (role_at true d) ≡ true) ↔ (d ≡ Falling)
falling_switch Low = (λ on. absurd (true≢false (sym on)), λ (e : Low ≡ Falling). cc)
falling_switch Rising = (λ on. absurd (true≢false (sym on)), λ (e : Rising ≡ Falling). cc)
falling_switch High = (λ on. absurd (true≢false (sym on)), λ (e : High ≡ Falling). cc)
falling_switch Falling = (λ on. refl, λ same. refl)

-- the set has just the states of one class, at whose copies at that value the new signal may switch
module _ (g : StateGraph) (is : IsGraph g) (classes : List Class) (set : List Bool) (value : Bool) (of : Class)
    (switch : (d : Class) → (is_switching (role_at value d) ≡ true) ↔ (d ≡ of))
    (just : (s : ℕ) → s < g.states → (class_of classes s ≡ of) ↔ IsIn set s) where
  -- an arc from the set stays within the class just where it stays within the set
  staying_same : (s z : ℕ) → s < g.states → IsIn set s → Stays g classes s z ↔ StaysIn g set s z
  staying_same s z within inside = (
    λ x. record {
      non_input = x.non_input;
      up = x.up;
      to = x.to;
      step = x.step;
      inside = (
          let there = step_within g s (record { sig = z; up = x.up }) x.to is x.step in
          (just x.to there.2).0 (x.class ∙ (just s within).1 inside));
    },
    λ x. record {
      non_input = x.non_input;
      up = x.up;
      to = x.to;
      step = x.step;
      class = (
          let there = step_within g s (record { sig = z; up = x.up }) x.to is x.step in
          (just x.to there.2).1 x.inside ∙ sym ((just s within).1 inside));
    },
  )

  pub staying_within : (staying : ℕ → ℕ) → AllStaying g classes staying → AllStayingIn g set staying
  staying_within staying all s within inside z =
      let same = staying_same s z within inside in
      (λ on. same.0 ((all s within z).0 on), λ x. (all s within z).1 (same.1 x))

  switches_inside : (s : ℕ) → s < g.states → is_switching (role_at value (class_of classes s)) ≡ is_in set s
  switches_inside s within =
      let to_class = switch (class_of classes s) in
      let to_set = just s within in
      same_if (is_switching (role_at value (class_of classes s))) (is_in set s)
      (λ on. to_set.0 (to_class.0 on)) (λ on. to_class.1 (to_set.1 on))

  pub keys_same : (staying : ℕ → ℕ) (ms : List Member) → All (λ m. m.state < g.states) ms
      → switching_keys classes staying value ms ≡ own_keys set staying ms
  keys_same staying ms within =
      ap (map (λ (m : Member). record { code = m.key.code; excited = staying m.state }))
      (filter_same (λ m. is_switching (role_at value (class_of classes m.state))) (λ m. is_in set m.state) ms
      (λ k d inside. switches_inside (get_or ms k d).state (within k d inside)))

-- what an insertion leaves is what is told apart and what each set has of its own
pub left_by_sets : (c : CodedGraph) (chains : Chains) (classes : List Class) (plus minus : List Bool) (a b : ℕ)
    → IsCoded c → AreChains c chains → IsLawful c.graph classes
    → ((s : ℕ) → s < c.graph.states → (class_of classes s ≡ Rising) ↔ IsIn plus s)
    → ((s : ℕ) → s < c.graph.states → (class_of classes s ≡ Falling) ↔ IsIn minus s)
    → HasOwnConflicts c.graph chains.members plus a → HasOwnConflicts c.graph chains.members minus b
    → LeavesConflicts c classes (pair_sum (stable_count classes) chains.members + a + b)
left_by_sets c chains classes plus minus a b is are lawful rises falls has_plus has_minus =
    let g = c.graph in
    let members = chains.members in
    let within = are.members_are.within in
    let stays = staying c is classes lawful in
    let all : AllStaying g classes stays = λ s inside. stay c is classes lawful s in
    let low = keys_same g is.graph_is classes plus false Rising rising_switch rises stays members within in
    let high = keys_same g is.graph_is classes minus true Falling falling_switch falls stays members within in
    let a_is = has_plus stays (staying_within g is.graph_is classes plus false Rising rising_switch rises stays all) in
    let b_is = has_minus stays
    (staying_within g is.graph_is classes minus true Falling falling_switch falls stays all) in
    let told = pair_sum (stable_count classes) members in
    let split : told + switching_count classes stays members ≡ told + a + b =
    omega (arith, ap clash_count low, ap clash_count high, a_is, b_is) in
    subst (λ n. LeavesConflicts c classes n) split
    (trial_count c is classes lawful chains.next members are.rings are.members_are)
