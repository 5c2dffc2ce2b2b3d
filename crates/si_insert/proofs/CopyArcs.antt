-- The arcs out of the copies, one copy after another: as the loops make them, and how many they are.
use Rattle.std.proofs.Common.{◌≡◌, ℕ, suc, ◌+◌, ◌*◌, ◌<◌, ◌≤◌, ◌==◌, not, Bool, true, false, List, [], ◌∷◌, ◌++◌}
use Rattle.std.proofs.Common.{length, get_or, take, map, filter, sym, ap, ◌∙◌, arith, inl, inr}
use Rattle.std.proofs.Common.{length-append, nat_lt, lt-ltb, le-ltb, eq-eqb, ne_eqb}
use Rattle.std.proofs.lemmas.Bool.{cases_Bool, cases_order, eqb-true}
use Rattle.std.proofs.lemmas.List.{length-map, take_all}
use Rattle.std.proofs.lemmas.List.Sums.{length-filter, count_by-le-length}
use Rattle.std.proofs.lemmas.List.Kept.{IsStrictlySortedBy-filter}
use Rattle.std.specs.List.{flat_map}
use Rattle.si_base.specs.declared.graph.Edge.{Edge}
use Rattle.si_base.specs.EdgeOrder.{edge_cmp}
use Rattle.si_base.specs.Graph.{StateGraph}
use Rattle.si_base.proofs.RightGateLemmas.{step_within}
use Rattle.si_base.proofs.GivenGraphUnique.{same_edges}
use Rattle.si_graph.specs.Loops.Arcs.{AreOut}
use Rattle.si_graph.proofs.ListMembers.{Contains-filter, Contains-from_filter}
use Rattle.si_insert.specs.declared.partition.Class.{Class}
use Rattle.si_insert.specs.declared.partition.Class.TheVariants.{Low, Rising, High, Falling}
use Rattle.si_insert.specs.Partition.{class_of}
use Rattle.si_insert.specs.Insertion.{Copy}
use Rattle.si_insert.specs.GraphOfCopies.{copies_from, edge_has_copy, copied_edge, out_of, copied_edges, switches}
use Rattle.si_insert.specs.GraphOfCopies.{switch_edges}
use Rattle.si_insert.specs.GraphOfCopies.{edges_from}

-- ---- the loops
-- the arcs that a graph hands out for a state
pub out_is : (g : StateGraph) (s : ℕ) (arcs : List Edge) → AreOut g s arcs → arcs ≡ out_of g s
out_is g s arcs out =
    let p : Edge → Bool = λ a. a.from == s in
    same_edges arcs (out_of g s) out.ordered (IsStrictlySortedBy-filter edge_cmp p g.edges out.graph.ordered)
    (λ a there. (let r = (out.exactly a).0 there in Contains-filter p g.edges a r.0 (eq-eqb a.from s r.1)))
    (λ a there. (let r = Contains-from_filter p g.edges a there in
    (out.exactly a).1 (r.0, eqb-true a.from s r.1)))

-- they lie between states
pub out_within : (g : StateGraph) (s : ℕ) (arcs : List Edge) (k : ℕ) (a : Edge) → AreOut g s arcs → k < length arcs
    → a ≡ get_or arcs k a → (a.from < g.states) × (a.to < g.states)
out_within g s arcs k a out within item =
    let there = (out.exactly a).0 (k, within, sym item) in
    let parts = step_within g a.from a.event a.to out.graph there.0 in
    (parts.0, parts.2)

-- they are out of the state
pub out_from : (g : StateGraph) (s : ℕ) (arcs : List Edge) (k : ℕ) (a : Edge) → AreOut g s arcs → k < length arcs
    → a ≡ get_or arcs k a → s ≡ a.from
out_from g s arcs k a out within item = sym ((out.exactly a).0 (k, within, sym item)).1

-- where a loop over them ends, all are copied
pub all_copied : (g : StateGraph) (classes : List Class) (x : Copy) (arcs : List Edge) (k : ℕ) (initial new : List Edge)
    → AreOut g x.state arcs → length arcs ≤ k
    → new ≡ initial ++ map (copied_edge classes x.value) (filter (edge_has_copy classes x.value) (take k arcs))
    → new ≡ initial ++ copied_edges g classes x
all_copied g classes x arcs k initial new out last made =
    let copies : List Edge → List Edge =
    λ xs. initial ++ map (copied_edge classes x.value) (filter (edge_has_copy classes x.value) xs) in
    made ∙ ap copies (take_all k arcs last ∙ out_is g x.state arcs out)

-- ---- how many
-- the arc is from the state or one after it
abbrev pub from_on : ℕ → Edge → Bool
from_on i a = nat_lt i (suc a.from)

pub filtered_few : (p : Edge → Bool) (edges : List Edge) → length (filter p edges) ≤ length edges
filtered_few p edges =
    let less = count_by-le-length p edges in
    let same = length-filter p edges in
    omega (arith, less, same)

next_on : (g : List Edge) (i : ℕ)
    → length (filter (λ a. a.from == i) g) + length (filter (from_on (i + 1)) g) ≤ length (filter (from_on i) g)
next_on [] i = omega arith
next_on (a ∷ rest) i =
    let h = next_on rest i in
    elim (cases_order a.from i) [
      | inl same ↦
          (let here : (a.from == i) ≡ true = eq-eqb a.from i same in
          let now : nat_lt i (suc a.from) ≡ true = lt-ltb i (suc a.from) (omega arith) in
          let next : nat_lt (i + 1) (suc a.from) ≡ false = le-ltb (i + 1) (suc a.from) (omega arith) in
          rw (here, now, next) (omega (arith, h)))
      | inr (inl before) ↦
          (let here : (a.from == i) ≡ false = ne_eqb a.from i (λ same. omega arith) in
          let now : nat_lt i (suc a.from) ≡ false = le-ltb i (suc a.from) (omega arith) in
          let next : nat_lt (i + 1) (suc a.from) ≡ false = le-ltb (i + 1) (suc a.from) (omega arith) in
          rw (here, now, next) h)
      | inr (inr after) ↦
          (let here : (a.from == i) ≡ false = ne_eqb a.from i (λ same. omega arith) in
          let now : nat_lt i (suc a.from) ≡ true = lt-ltb i (suc a.from) (omega arith) in
          let next : nat_lt (i + 1) (suc a.from) ≡ true = lt-ltb (i + 1) (suc a.from) (omega arith) in
          rw (here, now, next) (omega (arith, h)))
    ]

-- out of a copy there is an arc for each arc out of its state at most, and one of the new signal
few_at : (g : StateGraph) (classes : List Class) (x : Copy)
    → length (edges_from g classes x) ≤ length (out_of g x.state) + 1
few_at g classes x =
    let both = length-append (copied_edges g classes x) (switch_edges g classes x) in
    let copied = length-map (filter (edge_has_copy classes x.value) (out_of g x.state)) (copied_edge classes x.value) in
    let fewer = filtered_few (edge_has_copy classes x.value) (out_of g x.state) in
    let one : length (switch_edges g classes x) ≤ 1 =
    elim (cases_Bool (switches (not x.value) (class_of classes x.state))) [
      | inl yes_x ↦ rw yes_x (omega arith)
      | inr no_x ↦ rw no_x (omega arith)
    ] in
    omega (arith, both, copied, fewer, one)

module _ (g : StateGraph) (classes : List Class) where
  one_copy : (x : Copy) (rest : List Copy) → length (flat_map (edges_from g classes) (x ∷ rest))
      ≤ length (out_of g x.state) + 1 + length (flat_map (edges_from g classes) rest)
  one_copy x rest =
      let both = length-append (edges_from g classes x) (flat_map (edges_from g classes) rest) in
      let few = few_at g classes x in
      omega (arith, both, few)

  two_copies : (i : ℕ) (c : Class) (rest : List Class) → length (flat_map (edges_from g classes)
      (copies_from (i + 1) rest)) ≤ 2 * length (filter (from_on (i + 1)) g.edges) + 2 * length rest
      → length (flat_map (edges_from g classes) (record { state = i; value = false } ∷ record {
        state = i;
        value = true;
      } ∷ copies_from (i + 1) rest)) ≤ 2 * length (filter (from_on i) g.edges) + 2 * length (c ∷ rest)
  two_copies i c rest h =
      let low = one_copy (record { state = i; value = false })
      (record { state = i; value = true } ∷ copies_from (i + 1) rest) in
      let high = one_copy (record { state = i; value = true }) (copies_from (i + 1) rest) in
      let next = next_on g.edges i in
      omega (arith, h, low, high, next)

  -- out of the copies of the states from i on, two for each arc and each state at most
  pub few_from : (i : ℕ) (xs : List Class) → length (flat_map (edges_from g classes) (copies_from i xs))
      ≤ 2 * length (filter (from_on i) g.edges) + 2 * length xs
  few_from i [] = omega arith
  few_from i (Low ∷ rest) =
      let h = few_from (i + 1) rest in
      let now = one_copy (record { state = i; value = false }) (copies_from (i + 1) rest) in
      let next = next_on g.edges i in
      omega (arith, h, now, next)
  few_from i (High ∷ rest) =
      let h = few_from (i + 1) rest in
      let now = one_copy (record { state = i; value = true }) (copies_from (i + 1) rest) in
      let next = next_on g.edges i in
      omega (arith, h, now, next)
  few_from i (Rising ∷ rest) = two_copies i Rising rest (few_from (i + 1) rest)
  few_from i (Falling ∷ rest) = two_copies i Falling rest (few_from (i + 1) rest)
