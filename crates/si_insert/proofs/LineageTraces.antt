-- Traces: where they lead, that they are lineages, and that there is one to an end.
use Rattle.std.proofs.Common.{◌≡◌, ℕ, zero, suc, ◌+◌, ◌<◌, ◌≤◌, ◌⊎◌, List, [], ◌∷◌, ◌++◌, length, refl, sym, ap, ap₂}
use Rattle.std.proofs.Common.{subst, ◌∙◌, arith, inl, inr, append_assoc}
use Rattle.std.proofs.lemmas.List.{append-nil}
use Rattle.si_base.specs.Behaviour.{Implements}
use Rattle.si_base.specs.Codes.{CodedGraph, IsCoded}
use Rattle.si_base.specs.Netlist.{Netlist}
use Rattle.si_insert.specs.declared.lineage.TraceStep.{TraceStep}
use Rattle.si_insert.specs.Built.{IsBuilt}
use Rattle.si_insert.specs.Fresh.{IsFresh}
use Rattle.si_insert.specs.Insertion.{new_signal}
use Rattle.si_insert.specs.Lineage.{Current, Inserts, IsTrace, IsLineage}
use Rattle.si_insert.proofs.LineageChain.{implements}
use Rattle.si_insert.proofs.InsertionCodes.{is_coded}
use Rattle.si_insert.proofs.OneFreshName.{one_name}
use Rattle.si_insert.proofs.OneInsertion.{one_insertion, lineage_on}

-- ---- one insertion
pub coded_next : (v : Current) (p : TraceStep) (u : Current) → IsCoded v.coded → Inserts v p u → IsCoded u.coded
coded_next v p u is ins =
    let P : Current → Type 0 = λ x. IsCoded x.coded in
    subst P (sym ins.makes) (is_coded v.coded p.partition (new_signal p.name) ins.copies ins.graph is
    ins.accepted.lawful ins.insertion ins.limits)

-- insertions of one partition by fresh names of one stem
pub one_step : (v : Current) (stem : List ℕ) (p q : TraceStep) (u w : Current) → p.partition ≡ q.partition
    → IsFresh v.coded.graph.signals stem p.name → IsFresh v.coded.graph.signals stem q.name
    → Inserts v p u → Inserts v q w → (p ≡ q) × (u ≡ w)
one_step v stem p q u w partitions one other a b =
    let names = one_name v.coded.graph.signals stem p.name q.name one other in
    let same : p ≡ q = λ i. record { name = names i; partition = partitions i } in
    let P : TraceStep → Type 0 = λ x. Inserts v x w in
    (same, one_insertion v p u w a (subst P (sym same) b))

-- ---- traces
module _ (Step : Current → TraceStep → Current → Type 0) where
  -- what each insertion keeps a trace keeps
  pub kept_along : (Kept : Current → Type 0)
      → ((v : Current) (p : TraceStep) (u : Current) → Kept v → Step v p u → Kept u)
      → (v : Current) (trace : List TraceStep) (w : Current) → Kept v → IsTrace Step v trace w → Kept w
  kept_along Kept next v [] w kept same = subst Kept same kept
  kept_along Kept next v (p ∷ trace) w kept (u, step, rest) =
      kept_along Kept next u trace w (next v p u kept step) rest

  -- where each insertion makes a weight less, a trace has no more insertions than that
  pub trace_is_short : (weight : Current → ℕ)
      → ((v : Current) (p : TraceStep) (u : Current) → IsCoded v.coded → Step v p u → weight u < weight v)
      → ((v : Current) (p : TraceStep) (u : Current) → Step v p u → Inserts v p u)
      → (v : Current) (trace : List TraceStep) (w : Current) → IsCoded v.coded → IsTrace Step v trace w
      → length trace + weight w ≤ weight v
  trace_is_short weight less inserts v [] w is same = let even = ap weight same in omega (arith, even)
  trace_is_short weight less inserts v (p ∷ trace) w is (u, step, rest) =
      let coded = coded_next v p u is (inserts v p u step) in
      let next = trace_is_short weight less inserts u trace w coded rest in
      let here = less v p u is step in
      omega (arith, next, here)

  -- ---- a trace to an end
  module _ (IsEnd : Current → Type 0) where
    abbrev pub Ends : Current → Type 0
    Ends v = (trace : List TraceStep) × (w : Current) × IsTrace Step v trace w × IsEnd w

    -- there is one, where each graph is an end or comes to one of less weight
    module _ (Good : Current → Type 0) (weight : Current → ℕ)
        (next : (v : Current) → Good v
        → IsEnd v ⊎ ((p : TraceStep) × (u : Current) × Step v p u × Good u × (weight u < weight v))) where
      ends_below : (bound : ℕ) (v : Current) → weight v < bound → Good v → Ends v
      ends_below zero v below good = absurd (omega (arith, below))
      ends_below (suc bound) v below good = elim (next v good) [
        | inl end ↦ ([], v, refl, end)
        | inr (p, u, step, also, less) ↦ (
            let (trace, w, rest, end) = ends_below bound u (omega (arith, less, below)) also in
            (p ∷ trace, w, (u, step, rest), end))
      ]

      pub some_end : (v : Current) → Good v → Ends v
      some_end v good = ends_below (weight v + 1) v (omega arith) good

    -- and one only, where each graph comes to one and an end to none
    pub one_trace : ((v : Current) (p : TraceStep) (u : Current) → IsEnd v → Step v p u → ⊥)
        → ((v : Current) (p : TraceStep) (u : Current) → Step v p u → Inserts v p u)
        → ((v : Current) (p q : TraceStep) (u w : Current) → IsCoded v.coded → Step v p u → Step v q w
        → (p ≡ q) × (u ≡ w))
        → (v : Current) (xs ys : List TraceStep) (w u : Current) → IsCoded v.coded → IsTrace Step v xs w
        → IsTrace Step v ys u → IsEnd w → IsEnd u → (xs ≡ ys) × (w ≡ u)
    one_trace stops inserts one v [] [] w u is a b at_w at_u = (refl, sym a ∙ b)
    one_trace stops inserts one v [] (q ∷ ys) w u is a (z, step, rest) at_w at_u =
        absurd (stops v q z (subst IsEnd (sym a) at_w) step)
    one_trace stops inserts one v (p ∷ xs) [] w u is (x, step, rest) b at_w at_u =
        absurd (stops v p x (subst IsEnd (sym b) at_u) step)
    one_trace stops inserts one v (p ∷ xs) (q ∷ ys) w u is (x, step, more) (z, other, rest) at_w at_u =
        let same = one v p q x z is step other in
        let P : Current → Type 0 = λ k. IsTrace Step k ys u in
        let coded = coded_next v p x is (inserts v p x step) in
        let next = one_trace stops inserts one x xs ys w u coded more (subst P (sym same.1) rest) at_w at_u in
        (ap₂ (λ a b. a ∷ b) same.0 next.0, next.1)

  -- ---- lineages
  module _ (inserts : (v : Current) (p : TraceStep) (u : Current) → Step v p u → Inserts v p u) where
    pub traces_are_lineages : (given : CodedGraph) (before trace : List TraceStep) (v w : Current)
        → IsLineage given before v → IsTrace Step v trace w → IsLineage given (before ++ trace) w
    traces_are_lineages given before [] v w line same =
        let P : Current → Type 0 = λ x. IsLineage given before x in
        let Q : List TraceStep → Type 0 = λ xs. IsLineage given xs w in
        subst Q (sym (append-nil before)) (subst P same line)
    traces_are_lineages given before (p ∷ trace) v w line (u, step, rest) =
        let Q : List TraceStep → Type 0 = λ xs. IsLineage given xs w in
        let next = lineage_on given before v p u line (inserts v p u step) in
        subst Q (append_assoc before (p ∷ []) trace) (traces_are_lineages given (before ++ p ∷ []) trace u w next rest)

    pub traces_implement : (given : CodedGraph) (before trace : List TraceStep) (v w : Current) (n : Netlist)
        → IsLineage given before v → IsTrace Step v trace w → IsBuilt w n → Implements n given.graph
    traces_implement given before trace v w n line leads built =
        implements given (before ++ trace) w n (traces_are_lineages given before trace v w line leads) built
