-- Resolving as a stage has one result; and what insertions of a resolving trace keep.
use Rattle.std.proofs.Common.{◌≡◌, ℕ, ◌≤◌, ◌⊎◌, not, List, [], ◌∷◌, ◌++◌, length, filter, IsTrue, Ok, Err, codes}
use Rattle.std.proofs.Common.{refl, sym, ap, ap₂, subst, ◌∙◌, arith, inl, inr}
use Rattle.std.proofs.lemmas.Bool.{cases_lt}
use Rattle.std.proofs.lemmas.List.{append-nil}
use Rattle.std.proofs.lemmas.List.Elements.{filter-append}
use Rattle.si_base.specs.declared.graph.Signal.{Signal}
use Rattle.si_base.specs.Codes.{CodedGraph, IsCoded}
use Rattle.si_base.specs.Limits.{max_signals}
use Rattle.si_base.specs.Proper.{IsProper, HasNoConflict}
use Rattle.si_base.specs.System.{is_inserted}
use Rattle.si_base.specs.Words.{is_signal_name}
use Rattle.si_candidates.proofs.BlocksExist.{some_blocks}
use Rattle.si_circuit.proofs.SpelledInsertions.{new_signals}
use Rattle.si_conflicts.proofs.OneConflictList.{none_is_none}
use Rattle.si_insert.specs.declared.lineage.TraceStep.{TraceStep}
use Rattle.si_insert.specs.Fresh.{IsFresh}
use Rattle.si_insert.specs.Lineage.{AllGiven, Current, History, IsLineage, given_current}
use Rattle.si_insert.proofs.FreshNameExists.{next_free}
use Rattle.si_insert.proofs.FreshNames.{stays_signal_name}
use Rattle.si_insert.proofs.LineageTraceLength.{AreNamed, named_after}
use Rattle.si_resolve.specs.Trace.{IsResolvingTrace, EndsResolved, EndsUnresolved}
use Rattle.si_resolve.proofs.EndsExist.{resolving_ends}
use Rattle.si_resolve.proofs.TraceLemmas.{resolved_is_unique, unresolved_is_unique, ends_exclude, traces_are_lineages}
use Rattle.si_audit.proofs.OneAudit.{same_history}
use Rattle.si_readings.specs.Laws.{AtMostOne, HasResult}
use Rattle.si_stages.specs.Resolving.{conflict_refusal, lineage_of}

-- ---- one result
pub lineage_one : (coded : CodedGraph) (states : List (List ℕ)) → IsCoded coded → AtMostOne (lineage_of coded states)
lineage_one coded states is (Ok l) (Ok m) one other =
    let same = resolved_is_unique (given_current coded) l.trace m.trace l.current m.current is one.resolves
    other.resolves in
    ap Ok (same_history l m (one.given_is ∙ sym other.given_is) same.0 same.1)
lineage_one coded states is (Ok l) (Err r) one (m, pair, other, at) =
    absurd
    (ends_exclude (given_current coded) l.trace m.trace l.current m.current pair is one.resolves other.ends)
lineage_one coded states is (Err r) (Ok m) (l, pair, one, at) other =
    absurd
    (ends_exclude (given_current coded) m.trace l.trace m.current l.current pair is other.resolves one.ends)
lineage_one coded states is (Err r) (Err q) (l, a, one, at) (m, b, other, by) =
    let same = unresolved_is_unique (given_current coded) l.trace m.trace l.current m.current a b is one.ends
    other.ends in
    let lineages = same_history l m (one.given_is ∙ sym other.given_is) same.0 same.1 in
    ap Err (at ∙ ap₂ (conflict_refusal states) lineages same.2 ∙ sym by)

pub lineage_some : (coded : CodedGraph) (states : List (List ℕ)) → IsCoded coded → IsProper coded.graph
    → HasResult (lineage_of coded states)
lineage_some coded states is proper = go (resolving_ends some_blocks (given_current coded) is proper)
  where
    go : (trace : List TraceStep) × (w : Current)
        × (EndsResolved (given_current coded) trace w
        ⊎ ((pair : ℕ × ℕ) × EndsUnresolved (given_current coded) trace w pair))
        → HasResult (lineage_of coded states)
    go (trace, w, inl ends) =
        (Ok (record { given = coded; trace = trace; current = w }), record { given_is = refl; resolves = ends })
    go (trace, w, inr (pair, ends)) =
        let l : History = record { given = coded; trace = trace; current = w } in
        (Err (conflict_refusal states l pair), (l, pair, record { given_is = refl; ends = ends }, refl))

-- a graph without conflicts needs no insertion
pub none_needed : (v : Current) (trace : List TraceStep) (w : Current) → HasNoConflict v.coded
    → IsResolvingTrace v trace w
    → trace ≡ []
none_needed v [] w free goes = refl
none_needed v (p ∷ trace) w free (u, step, rest) =
    let none = (none_is_none v.coded step.improves.before step.improves.counted).0 free in
    absurd (omega (arith, none, step.improves.fewer))

-- ---- what insertions keep
pub resolved_lineage : (c : CodedGraph) (trace : List TraceStep) (w : Current) → IsCoded c → IsProper c.graph
    → AllGiven c.graph.signals → IsResolvingTrace (given_current c) trace w → IsLineage c trace w
resolved_lineage c trace w coded proper clean goes =
    let none : IsLineage c [] (given_current c) =
    record { coded = coded; proper = proper; none_inserted = clean; grown = refl } in
    traces_are_lineages c [] trace (given_current c) w none goes

-- the names of the inserted signals are signal names
pub fresh_named : (signals : List Signal) (stem name : List ℕ) → IsTrue (is_signal_name stem)
    → length signals ≤ max_signals → IsFresh signals stem name → IsTrue (is_signal_name name)
fresh_named signals stem name good few fresh = elim (cases_lt (length signals) fresh.number) [
  | inl more ↦ absurd
      (next_free signals stem (length signals) few refl (λ j below. fresh.least j (omega (arith, below, more)))
      (fresh.least (length signals) more))
  | inr low ↦ stays_signal_name signals signals stem name fresh.number refl few low fresh.is good
]

pub named_along : (v : Current) (trace : List TraceStep) (w : Current) → IsResolvingTrace v trace w → AreNamed v
    → AreNamed w
named_along v [] w same named = subst (λ (x : Current). AreNamed x) same named
named_along v (p ∷ trace) w (u, step, rest) named =
    let few : length v.coded.graph.signals ≤ max_signals = omega (arith, step.inserts.accepted.few_signals) in
    named_along u trace w rest
    (named_after v p u step.inserts (fresh_named v.coded.graph.signals (codes "csc") p.name refl few step.name) named)

-- the signals that aren't inserted
pub none_kept : (trace : List TraceStep) → filter (λ x. not (is_inserted x.kind)) (new_signals trace) ≡ []
none_kept [] = refl
none_kept (p ∷ trace) = none_kept trace

pub given_kept : (xs : List Signal) (trace : List TraceStep) → filter (λ x. not (is_inserted x.kind)) xs ≡ xs
    → filter (λ x. not (is_inserted x.kind)) (xs ++ new_signals trace) ≡ xs
given_kept xs trace all =
    let kept = filter (λ (x : Signal). not (is_inserted x.kind)) in
    filter-append (λ (x : Signal). not (is_inserted x.kind)) xs (new_signals trace)
    ∙ ap₂ (λ (a b : List Signal). a ++ b) all (none_kept trace) ∙ append-nil xs
