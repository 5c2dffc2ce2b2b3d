-- Each coded graph has a list of conflicts, a number of them, and for each limit a list of the first.
use Rattle.std.proofs.Common.{◌≡◌, ◌≢◌, ℕ, zero, suc, ◌+◌, ◌<◌, ◌⊎◌, List, [], ◌∷◌, ◌++◌, length, take, get_or}
use Rattle.std.proofs.Common.{Contains, refl, sym, subst, ◌∙◌, arith, inl, inr}
use Rattle.std.proofs.lemmas.Bool.{cases_Bool, cases_eq, cases_lt}
use Rattle.std.proofs.lemmas.List.{get_or_default, get_or-take, length-take}
use Rattle.si_base.specs.declared.ids.Event.{Event}
use Rattle.si_base.specs.declared.graph.Edge.{Edge}
use Rattle.si_base.specs.Graph.{StateGraph, IsNonInput, arc, enables}
use Rattle.si_base.specs.Order.{Before}
use Rattle.si_base.specs.Codes.{CodedGraph, code}
use Rattle.si_base.specs.Proper.{IsConflict, pair_place}
use Rattle.si_base.proofs.GraphSteps.{step_from_enables}
use Rattle.si_checks.proofs.SearchDecisions as decide
use Rattle.si_checks.proofs.SearchDecisions.{Decided}
use Rattle.si_conflicts.specs.Conflicts.{AreConflicts, HasConflicts, AreFirstConflicts}
use Rattle.si_conflicts.specs.Loops.Search.{AreBelow}
use Rattle.si_conflicts.proofs.SearchLemmas.{below_none, below_gap, below_take, below_row, below_all}

-- ---- whether two states are a conflict
-- a non-input event, and just one of p and q enables it
abbrev Tells : StateGraph → ℕ → ℕ → Event → Type 0
Tells g p q e = IsNonInput g.signals e.sig × (enables g p e ≢ enables g q e)

tells : (g : StateGraph) (p q : ℕ) (e : Event) → Decided (Tells g p q e)
tells g p q e = decide.both (decide.driven g.signals e.sig)
    (decide.not (decide.same_value (enables g p e) (enables g q e)))

-- an event that one of them enables has an arc
has_arc : (g : StateGraph) (p q : ℕ) (e : Event) → enables g p e ≢ enables g q e
    → (a : Edge) × Contains g.edges a × (a.event ≡ e)
has_arc g p q e apart = elim (cases_Bool (enables g p e)) [
  | inl on ↦ (let to = step_from_enables g p e on in (arc p e to.0, to.1, refl))
  | inr off ↦ elim (cases_Bool (enables g q e)) [
    | inl on ↦ (let to = step_from_enables g q e on in (arc q e to.0, to.1, refl))
    | inr also ↦ absurd (apart (off ∙ sym also))
  ]
]

some_tells : (g : StateGraph) (p q : ℕ) → Decided ((e : Event) × Tells g p q e)
some_tells g p q = elim (decide.some_of (λ a. Tells g p q a.event) (λ a. tells g p q a.event) g.edges) [
  | inl (a, there, is) ↦ inl (a.event, is)
  | inr none ↦ inr (λ (e, is). (
      let a = has_arc g p q e is.1 in
      none (a.0, a.1, subst (Tells g p q) (sym a.2) is)))
]

module _ (c : CodedGraph) where
  conflict : (p q : ℕ) → Decided (IsConflict c (p, q))
  conflict p q = elim (decide.both (decide.less p q) (decide.both (decide.less q c.graph.states)
      (decide.both (cases_eq (code c p) (code c q)) (some_tells c.graph p q)))) [
        | inl is ↦ inl (record {
          order = is.0;
          within = is.1.0;
          same_code = is.1.1.0;
          event = is.1.1.1.0;
          non_input = is.1.1.1.1.0;
          differ = is.1.1.1.1.1;
        })
        | inr none ↦ inr (λ is. none (is.order, (is.within, (is.same_code, (is.event, (is.non_input, is.differ))))))
      ]

  -- ---- place by place
  abbrev Found : ℕ → ℕ → Type 0
  Found p k = (pairs : List (ℕ × ℕ)) × AreBelow c p k pairs

  found_next : (p q : ℕ) → Found p q → Found p (q + 1)
  found_next p q (pairs, are) = elim (conflict p q) [
    | inl is ↦ (pairs ++ (p, q) ∷ [], below_take c p q pairs is are)
    | inr none ↦ (
      pairs,
      below_gap c p q (q + 1) pairs (omega arith)
          (λ t from to is. (let same : t ≡ q = omega arith in none (subst (λ k. IsConflict c (p, k)) same is))) are,
    )
  ]

  found_in_row : (p k : ℕ) → Found p 0 → Found p k
  found_in_row p zero found = found
  found_in_row p (suc k) found =
      let next : k + 1 ≡ suc k = omega arith in
      subst (Found p) next (found_next p k (found_in_row p k found))

  found_in_rows : (p : ℕ) → Found p 0
  found_in_rows zero = ([], below_none c)
  found_in_rows (suc p) =
      let next : p + 1 ≡ suc p = omega arith in
      let row = found_in_row p c.graph.states (found_in_rows p) in
      subst (λ n. Found n 0) next (row.0, below_row c p row.0 row.1)

  pub some_conflicts : (pairs : List (ℕ × ℕ)) × AreConflicts c pairs
  some_conflicts =
      let all = found_in_rows c.graph.states in
      (all.0, below_all c c.graph.states all.0 (omega arith) all.1)

  pub some_count : (n : ℕ) × HasConflicts c n
  some_count =
      let all = some_conflicts in
      (length all.0, record { pairs = all.0; are = all.1; count = refl })

-- ---- the first of them
module _ (c : CodedGraph) (limit : ℕ) (all : List (ℕ × ℕ)) (are : AreConflicts c all) where
  abbrev few : List (ℕ × ℕ)
  few = take limit all

  few_there : (k : ℕ) (d : ℕ × ℕ) → k < length few
      → (k < limit) × (k < length all) × (get_or few k d ≡ get_or all k d)
  few_there k d within =
      let size = length-take limit all in
      let before : k < limit = omega arith in
      (before, omega arith, get_or-take limit all k d before)

  taken : (k : ℕ) (pair : ℕ × ℕ) → k < limit → k < length all → get_or all k pair ≡ pair → Contains few pair
  taken k pair before within at =
      let size = length-take limit all in (k, omega arith, get_or-take limit all k pair before ∙ at)

  first_taken : AreFirstConflicts c limit few
  first_taken = record {
    each = λ pair there. (
        let is = few_there there.0 pair there.1 in
        (are.exactly pair).0 (there.0, is.1, sym is.2 ∙ there.2));
    in_order = λ i j d before within. (
        let first = few_there i d (omega arith) in
        let later = few_there j d within in
        rw (first.2, later.2) (are.in_order i j d before later.1));
    few = (let size = length-take limit all in omega arith);
    first = λ pair is. later pair ((are.exactly pair).1 is);
  }
    where
      later : (pair : ℕ × ℕ) → Contains all pair → Contains few pair
          ⊎ ((length few ≡ limit) × ((x : ℕ × ℕ) → Contains few x → Before (pair_place x) (pair_place pair)))
      later pair (k, within, at) = elim (cases_lt k limit) [
        | inl before ↦ inl (taken k pair before within at)
        | inr behind ↦ inr (
          (let size = length-take limit all in omega arith),
          λ x there. (
              let is = few_there there.0 x there.1 in
              let one : get_or all there.0 pair ≡ x =
              get_or_default all there.0 pair x is.1 ∙ sym is.2 ∙ there.2 in
              rw (one, at) at (are.in_order there.0 k pair (omega (arith, is.0)) within)),
        )
      ]

pub some_first : (c : CodedGraph) (limit : ℕ) → (pairs : List (ℕ × ℕ)) × AreFirstConflicts c limit pairs
some_first c limit =
    let all = some_conflicts c in
    (take limit all.0, first_taken c limit all.0 all.1)
