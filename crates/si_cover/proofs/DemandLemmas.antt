-- The demands on sums of a graph without conflicts can be met.
use Rattle.std.proofs.Common.{◌≡◌, ℕ, zero, suc, ◌+◌, ◌<◌, ◌^◌, ◌&&◌, not, Bool, true, false, List, [], ◌∷◌, length}
use Rattle.std.proofs.Common.{get_or, map, filter, All, Contains, refl, sym, subst, ◌∙◌, arith, inl, inr}
use Rattle.std.specs.List.{enumerate_from}
use Rattle.std.proofs.lemmas.Bool.{cases_Bool, true≢false, and_parts, or_cases, not-true}
use Rattle.si_base.specs.Bits.{bit}
use Rattle.si_base.specs.Graph.{enables, rise, fall, IsNonInput}
use Rattle.si_base.specs.Codes.{CodedGraph, IsCoded, code}
use Rattle.si_base.specs.Proper.{HasNoConflict}
use Rattle.si_base.proofs.GraphSteps.{step_from_enables}
use Rattle.std.proofs.lemmas.List.Elements.{Contains-get_or}
use Rattle.si_base.specs.WellFormed.{IsSum}
use Rattle.si_base.proofs.StepCodes.{code_fits, step_within, old_value}
use Rattle.si_base.proofs.OrderAscending.{In}
use Rattle.si_base.proofs.OrderLemmas.{in_contains}
use Rattle.si_checks.proofs.ConflictFree.{same_enables, same_next}
use Rattle.si_cover.specs.declared.kind.SumKind.{SumKind}
use Rattle.si_cover.specs.declared.kind.SumKind.TheVariants.{Next, Set, Reset}
use Rattle.si_cover.specs.Demands.{codes_where, is_required, is_forbidden, demand, chosen_sum}
use Rattle.si_cube.specs.Covers.{IsMeetable, IsPrimeCover}
use Rattle.si_cube.specs.Order.{HaveSame}
use Rattle.si_cube.specs.Rule.{chosen}
use Rattle.si_cube.proofs.OrderLemmas.{same_chosen}
use Rattle.si_cube.proofs.RuleLemmas.{IsFit, is_prime_cover}
use Rattle.si_cube.proofs.SumLemmas.{chosen_is_sum}

-- ---- the codes of the states at which a test holds
kept : (ℕ → Bool) → ℕ → List ℕ → List ℕ
kept test i xs = map (λ (p : ℕ × ℕ). p.1) (filter (λ (p : ℕ × ℕ). test p.0) (enumerate_from i xs))

kept_yes : (test : ℕ → Bool) (i x : ℕ) (xs : List ℕ) → test i ≡ true → kept test i (x ∷ xs) ≡ x ∷ kept test (i + 1) xs
unfolding kept
kept_yes test i x xs holds = rw holds refl

kept_no : (test : ℕ → Bool) (i x : ℕ) (xs : List ℕ) → test i ≡ false → kept test i (x ∷ xs) ≡ kept test (i + 1) xs
unfolding kept
kept_no test i x xs fails = rw fails refl

-- a state from the i-th on, at which the test holds, has the code
abbrev HasState : (ℕ → Bool) → ℕ → List ℕ → ℕ → Type 0
HasState test i xs k = (j : ℕ) × (j < length xs) × (test (i + j) ≡ true) × (get_or xs j 0 ≡ k)

later_state : (test : ℕ → Bool) (i x : ℕ) (xs : List ℕ) (k : ℕ) → HasState test (i + 1) xs k
    → HasState test i (x ∷ xs) k
later_state test i x xs k rest =
    let at : i + 1 + rest.0 ≡ i + suc rest.0 = omega arith in
    (suc rest.0, omega (arith, rest.1), subst (λ (n : ℕ). test n ≡ true) at rest.2, rest.3)

kept_state : (test : ℕ → Bool) (i : ℕ) (xs : List ℕ) (k : ℕ) → In k (kept test i xs) → HasState test i xs k
unfolding kept
kept_state test i [] k here = absurd here
kept_state test i (x ∷ xs) k here = elim (cases_Bool (test i)) [
  | inl holds ↦
      elim (let cases : In k (x ∷ kept test (i + 1) xs) = subst (λ (ys : List ℕ). In k ys)
      (kept_yes test i x xs holds) here in cases) [
        | inl same ↦
            (let at : i ≡ i + 0 = omega arith in (0, omega arith, subst (λ (n : ℕ). test n ≡ true) at holds, sym same))
        | inr later ↦ later_state test i x xs k (kept_state test (i + 1) xs k later)
      ]
  | inr fails ↦
      later_state test i x xs k (kept_state test (i + 1) xs k
      (subst (λ (ys : List ℕ). In k ys) (kept_no test i x xs fails) here))
]

state_kept : (test : ℕ → Bool) (i : ℕ) (xs : List ℕ) (j : ℕ) → j < length xs → test (i + j) ≡ true
    → In (get_or xs j 0) (kept test i xs)
state_kept test i [] j within holds = absurd (omega arith)
state_kept test i (x ∷ xs) zero within holds =
    let at : i + 0 ≡ i = omega arith in
    let here : test i ≡ true = subst (λ (n : ℕ). test n ≡ true) at holds in
    subst (λ (ys : List ℕ). In x ys) (sym (kept_yes test i x xs here)) (inl refl)
state_kept test i (x ∷ xs) (suc j) within holds =
    let at : i + suc j ≡ i + 1 + j = omega arith in
    let rest = state_kept test (i + 1) xs j (omega arith) (subst (λ (n : ℕ). test n ≡ true) at holds) in
    elim (cases_Bool (test i)) [
      | inl holds_i ↦ subst (λ (ys : List ℕ). In (get_or xs j 0) ys) (sym (kept_yes test i x xs holds_i)) (inr rest)
      | inr fails ↦ subst (λ (ys : List ℕ). In (get_or xs j 0) ys) (sym (kept_no test i x xs fails)) rest
    ]

-- a state at which the test holds has the code
pub record HasStateWhere (c : CodedGraph) (test : ℕ → Bool) (k : ℕ) : Type 0 where
  pub state : ℕ
  pub within : state < length c.codes
  pub holds : test state ≡ true
  pub has_code : code c state ≡ k

pub state_of : (c : CodedGraph) (test : ℕ → Bool) (k : ℕ) → In k (codes_where c test) → HasStateWhere c test k
unfolding kept
state_of c test k here =
    let found = kept_state test 0 c.codes k here in
    let at : 0 + found.0 ≡ found.0 = omega arith in
    record {
      state = found.0;
      within = found.1;
      holds = subst (λ (n : ℕ). test n ≡ true) at found.2;
      has_code = found.3;
    }

pub code_in : (c : CodedGraph) (test : ℕ → Bool) (s : ℕ) → s < length c.codes → test s ≡ true
    → In (code c s) (codes_where c test)
unfolding kept
code_in c test s within holds =
    let at : s ≡ 0 + s = omega arith in
    state_kept test 0 c.codes s within (subst (λ (n : ℕ). test n ≡ true) at holds)

-- ---- states of equal code
-- an event that is enabled finds its signal at the old value
pub value_before : (c : CodedGraph) (s z : ℕ) (up : Bool) → IsCoded c
    → enables c.graph s (record { sig = z; up = up }) ≡ true → bit (code c s) z ≡ not up
value_before c s z up is enabled =
    let step = step_from_enables c.graph s (record { sig = z; up = up }) enabled in
    let within = step_within c.graph s (record { sig = z; up = up }) step.0 is.graph_is step.1 in
    old_value c.graph z (λ s. bit (code c s) z) s step.0 up (is.values z within.1) step.1

never_both : (c : CodedGraph) (s z : ℕ) → IsCoded c → enables c.graph s (rise z) ≡ true
    → enables c.graph s (fall z) ≡ true → ⊥
never_both c s z is up down = true≢false (sym (value_before c s z false is down) ∙ value_before c s z true is up)

-- two states of one code, and what is asked of the graph
record Pair (c : CodedGraph) (z p q : ℕ) : Type 0 where
  coded : IsCoded c
  none : HasNoConflict c
  non_input : IsNonInput c.graph.signals z
  within_p : p < c.graph.states
  within_q : q < c.graph.states
  same : code c p ≡ code c q

moved : (c : CodedGraph) (z p q : ℕ) (up : Bool) → Pair c z p q
    → enables c.graph p (record { sig = z; up = up }) ≡ true → enables c.graph q (record { sig = z; up = up }) ≡ true
moved c z p q up pair enabled =
    sym (same_enables c p q (record { sig = z; up = up })
    pair.none pair.within_p pair.within_q pair.same pair.non_input) ∙ enabled

-- a state that asks for the code, and one that forbids it, have other codes
apart : (kind : SumKind) (c : CodedGraph) (z p q : ℕ) → Pair c z p q → is_required kind c z p ≡ true
    → is_forbidden kind c z q ≡ true → ⊥
apart Next c z p q pair required forbidden =
    true≢false (sym required ∙ same_next c p q z pair.none pair.within_p pair.within_q pair.same pair.non_input
    ∙ not-true _ forbidden)
apart Set c z p q pair required forbidden =
    let rises = moved c z p q true pair required in
    elim (or_cases (not (bit (code c q) z) && not (enables c.graph q (rise z)))
    (enables c.graph q (fall z)) forbidden) [
      | inl idle ↦
          true≢false (sym rises ∙ not-true (enables c.graph q (rise z))
          (and_parts (not (bit (code c q) z)) (not (enables c.graph q (rise z))) idle).1)
      | inr falls ↦ never_both c q z pair.coded rises falls
    ]
apart Reset c z p q pair required forbidden =
    let falls = moved c z p q false pair required in
    elim (or_cases (bit (code c q) z && not (enables c.graph q (fall z))) (enables c.graph q (rise z)) forbidden) [
      | inl idle ↦
          true≢false (sym falls ∙ not-true (enables c.graph q (fall z))
          (and_parts (bit (code c q) z) (not (enables c.graph q (fall z))) idle).1)
      | inr rises ↦ never_both c q z pair.coded rises falls
    ]

pub meetable : (kind : SumKind) (c : CodedGraph) (z : ℕ) → IsCoded c → HasNoConflict c → IsNonInput c.graph.signals z
    → IsMeetable (demand kind c z)
meetable kind c z is none non_input k required forbidden =
    let one = state_of c (is_required kind c z) k (in_contains _ k required) in
    let other = state_of c (is_forbidden kind c z) k (in_contains _ k forbidden) in
    apart kind c z one.state other.state (record {
      coded = is;
      none = none;
      non_input = non_input;
      within_p = omega (arith, is.count, one.within);
      within_q = omega (arith, is.count, other.within);
      same = one.has_code ∙ sym other.has_code;
    }) one.holds other.holds

pub codes_fit : (c : CodedGraph) (test : ℕ → Bool) → IsCoded c → (k : ℕ) → In k (codes_where c test)
    → k < 2 ^ length c.graph.signals
codes_fit c test is k here =
    let found = state_of c test k here in
    subst (λ (n : ℕ). n < 2 ^ length c.graph.signals) found.has_code
    (code_fits c found.state is (omega (arith, is.count, found.within)))

pub is_fit : (kind : SumKind) (c : CodedGraph) (z : ℕ) → IsCoded c → HasNoConflict c → IsNonInput c.graph.signals z
    → IsFit (length c.graph.signals) (demand kind c z)
is_fit kind c z is none non_input = record {
  required_fit = codes_fit c (is_required kind c z) is;
  forbidden_fit = codes_fit c (is_forbidden kind c z) is;
  meetable = meetable kind c z is none non_input;
}

-- the chosen sum of a graph without conflicts
pub chosen_is_prime_cover : (kind : SumKind) (c : CodedGraph) (z : ℕ) → IsCoded c → HasNoConflict c
    → IsNonInput c.graph.signals z → IsPrimeCover (demand kind c z) (chosen_sum kind c z)
unfolding chosen_sum
chosen_is_prime_cover kind c z is none non_input =
    is_prime_cover (length c.graph.signals) (demand kind c z) (is_fit kind c z is none non_input)

pub chosen_sum_is_sum : (kind : SumKind) (c : CodedGraph) (z : ℕ) → IsSum (length c.graph.signals) (chosen_sum kind c z)
unfolding chosen_sum
chosen_sum_is_sum kind c z = chosen_is_sum (length c.graph.signals) (demand kind c z)

-- ---- codes in another order
pub all_fit : (c : CodedGraph) (test : ℕ → Bool) (signals : ℕ) (codes others : List ℕ) → IsCoded c
    → signals ≡ length c.graph.signals → codes ≡ codes_where c test → HaveSame others codes
    → All (λ k. k < 2 ^ signals) others
all_fit c test signals codes others is signals_are codes_are same = λ i d within.
    (let there = (same (get_or others i d)).0 (Contains-get_or others i d within) in
    let fits =
    codes_fit c test is (get_or others i d)
    (subst (λ (ks : List ℕ). In (get_or others i d) ks) codes_are (in_contains codes (get_or others i d) there)) in
    rw signals_are fits)

pub still_meetable : (kind : SumKind) (c : CodedGraph) (z : ℕ) (required forbidden ordered : List ℕ)
    → IsMeetable (demand kind c z)
    → required ≡ codes_where c (is_required kind c z) → forbidden ≡ codes_where c (is_forbidden kind c z)
    → HaveSame ordered forbidden → IsMeetable (record { required = required; forbidden = ordered })
still_meetable kind c z required forbidden ordered meetable required_are forbidden_are same =
    λ k here also. meetable k (subst (λ (ks : List ℕ). Contains ks k) required_are here)
    (subst (λ (ks : List ℕ). Contains ks k) forbidden_are ((same k).0 also))

pub still_chosen : (kind : SumKind) (c : CodedGraph) (z signals : ℕ) (required forbidden ordered : List ℕ)
    → signals ≡ length c.graph.signals → required ≡ codes_where c (is_required kind c z)
    → forbidden ≡ codes_where c (is_forbidden kind c z) → HaveSame ordered forbidden
    → chosen signals (record { required = required; forbidden = ordered }) ≡ chosen_sum kind c z
unfolding chosen_sum
still_chosen kind c z signals required forbidden ordered signals_are required_are forbidden_are same =
    same_chosen signals required forbidden ordered same ∙ rw (signals_are, required_are, forbidden_are) refl
