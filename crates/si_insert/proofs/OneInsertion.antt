-- There is one inserted graph, and a lineage goes on by one insertion.
use Rattle.std.proofs.Common.{◌≡◌, ◌<◌, ◌==◌, Bool, true, false, List, [], ◌∷◌, ◌++◌, Contains, refl, sym, ap₂, subst}
use Rattle.std.proofs.Common.{◌∙◌, arith, inl, inr, Less, Greater, nat_lt, le-ltb, eq-eqb, ne_eqb}
use Rattle.std.proofs.lemmas.Bool.{cases_order}
use Rattle.std.specs.Ordering.{bool_cmp}
use Rattle.si_base.specs.declared.graph.Signal.{Signal}
use Rattle.si_base.specs.Graph.{StateGraph, IsGraph}
use Rattle.si_base.specs.Codes.{CodedGraph}
use Rattle.si_base.proofs.OrderAscending.{In, IsStrict, same_elements}
use Rattle.si_base.proofs.GivenGraphUnique.{in_from_contains, contains_from_in, same_edges, same_graph}
use Rattle.si_insert.specs.declared.partition.Class.{Class}
use Rattle.si_insert.specs.Insertion.{Copy, copy_cmp, IsInsertedGraph, new_signal}
use Rattle.si_insert.specs.declared.lineage.TraceStep.{TraceStep}
use Rattle.si_insert.specs.Lineage.{Current, Inserts, IsTrace, Grows, IsLineage, given_current, next_current}
use Rattle.si_insert.proofs.InsertionCopies.{before_itself, one_place}

not_less : (x y : Copy) → y.state < x.state → copy_cmp x y ≡ Less → ⊥
not_less x y after less =
    let low : nat_lt x.state y.state ≡ false = le-ltb x.state y.state (omega arith) in
    let other : (x.state == y.state) ≡ false = ne_eqb x.state y.state (λ same. omega arith) in
    let e : Greater ≡ Less = rw (low, other) at less in cc

at_same : (x y : Copy) → x.state ≡ y.state → copy_cmp x y ≡ Less → bool_cmp x.value y.value ≡ Less
at_same x y same less =
    let low : nat_lt x.state y.state ≡ false = le-ltb x.state y.state (omega arith) in
    let equal : (x.state == y.state) ≡ true = eq-eqb x.state y.state same in
    rw (low, equal) at less

not_both : (a b : Bool) → bool_cmp a b ≡ Less → bool_cmp b a ≡ Less → ⊥
not_both true true p q = cc
not_both true false p q = cc
not_both false true p q = cc
not_both false false p q = cc

pub strict : IsStrict copy_cmp
strict = record {
  irreflexive = before_itself;
  asymmetric = λ x y less more. elim (cases_order x.state y.state) [
    | inr (inl before) ↦ not_less y x before more
    | inr (inr after) ↦ not_less x y after less
    | inl same ↦ not_both x.value y.value (at_same x y same less) (at_same y x (sym same) more)
  ];
}

has_in : (xs : List Copy) (a : Copy) → Contains xs a → In a xs
has_in xs a there = in_from_contains xs a there.0 there.1 there.2

pub same_copies : (g : StateGraph) (classes : List Class) (new : Signal) (copies more : List Copy) (h k : StateGraph)
    → IsInsertedGraph g classes new copies h → IsInsertedGraph g classes new more k → copies ≡ more
same_copies g classes new copies more h k a b = same_elements copy_cmp strict copies more a.in_order b.in_order
    (λ x there. has_in more x ((b.exactly x).1 ((a.exactly x).0 (contains_from_in copies x there))))
    (λ x there. has_in copies x ((a.exactly x).1 ((b.exactly x).0 (contains_from_in more x there))))

-- there is one inserted graph
pub one_graph : (g : StateGraph) (classes : List Class) (new : Signal) (copies more : List Copy) (h k : StateGraph)
    → IsInsertedGraph g classes new copies h → IsInsertedGraph g classes new more k → IsGraph h → IsGraph k
    → (copies ≡ more) × (h ≡ k)
one_graph g classes new copies more h k a b h_is k_is =
    let same = same_copies g classes new copies more h k a b in
    let P : List Copy → Type 0 = λ xs. IsInsertedGraph g classes new xs k in
    let c = subst P (sym same) b in (
      same,
      same_graph h k (a.signals ∙ sym c.signals) (a.count ∙ sym c.count)
          (same_edges h.edges k.edges h_is.ordered k_is.ordered
          (λ d there. (c.arcs d.from d.event d.to).1 ((a.arcs d.from d.event d.to).0 there))
          (λ d there. (a.arcs d.from d.event d.to).1 ((c.arcs d.from d.event d.to).0 there)))
          (one_place copies h.start k.start _ a.in_order a.starts c.starts),
    )

-- ---- one more insertion
pub trace_on : (Step : Current → TraceStep → Current → Type 0) (v : Current) (trace : List TraceStep) (w : Current)
    (p : TraceStep) (u : Current) → IsTrace Step v trace w → Step w p u → IsTrace Step v (trace ++ p ∷ []) u
trace_on Step v [] w p u same step =
    let P : Current → Type 0 = λ x. Step x p u in
    (u, subst P (sym same) step, refl)
trace_on Step v (q ∷ trace) w p u (x, first, rest) step = (x, first, trace_on Step x trace w p u rest step)

pub lineage_on : (given : CodedGraph) (trace : List TraceStep) (w : Current) (p : TraceStep) (u : Current)
    → IsLineage given trace w → Inserts w p u → IsLineage given (trace ++ p ∷ []) u
lineage_on given trace w p u l ins =
    record {
      coded = l.coded;
      proper = l.proper;
      none_inserted = l.none_inserted;
      grown = trace_on Inserts _ trace w p u l.grown ins;
    }

-- ---- a trace makes one graph
pub one_insertion : (v : Current) (p : TraceStep) (w u : Current) → Inserts v p w → Inserts v p u → w ≡ u
one_insertion v p w u a b =
    let r =
    one_graph v.coded.graph p.partition (new_signal p.name) a.copies b.copies a.graph b.graph a.insertion
    b.insertion a.limits b.limits in
    let make : List Copy → StateGraph → Current = λ xs h. next_current v xs h in
    a.makes ∙ ap₂ make r.0 r.1 ∙ sym b.makes

one_growth : (v : Current) (trace : List TraceStep) (w u : Current) → Grows v trace w → Grows v trace u → w ≡ u
one_growth v [] w u a b = sym a ∙ b
one_growth v (p ∷ trace) w u a b =
    let P : Current → Type 0 = λ x. Grows x trace u in
    one_growth a.0 trace w u a.2 (subst P (sym (one_insertion v p a.0 b.0 a.1 b.1)) b.2)

pub one_view : (given : CodedGraph) (trace : List TraceStep) (v u : Current) → IsLineage given trace v
    → IsLineage given trace u → v ≡ u
one_view given trace v u a b = one_growth (given_current given) trace v u a.grown b.grown
