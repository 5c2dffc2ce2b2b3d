-- Each text of a graph comes to an answer.
use Rattle.std.proofs.Common.{◌≡◌, ℕ, ◌<◌, ◌≤◌, ◌⊎◌, List, [], ◌∷◌, length, Contains, Option, Some, None, IsTrue, Ok, Err, codes}
use Rattle.std.proofs.Common.{refl, sym, subst, subst₂, arith, inl, inr}
use Rattle.std.proofs.Math.Nat.{le_refl}
use Rattle.std.proofs.lemmas.Bool.{cases_lt}
use Rattle.si_base.specs.declared.graph.Signal.{Signal}
use Rattle.si_base.specs.Codes.{CodedGraph, IsCoded}
use Rattle.si_base.specs.GivenGraph.{Sg}
use Rattle.si_base.specs.Graph.{StateGraph}
use Rattle.si_base.specs.Limits.{max_signals}
use Rattle.si_base.specs.Netlist.{Insertion, Netlist}
use Rattle.si_base.specs.NetlistText.{netlist_text}
use Rattle.si_base.specs.Proper.{IsProper, pair_place}
use Rattle.si_base.specs.Words.{is_signal_name}
use Rattle.si_candidates.proofs.BlocksExist.{some_blocks}
use Rattle.si_checks.specs.Loops.Searches.{IsFirstOrNone}
use Rattle.si_checks.proofs.SearchDecisions.{Decided, first_candidate}
use Rattle.si_circuit.specs.Circuits.{AreStateNames, IsCircuit, circuit_of}
use Rattle.si_circuit.specs.Gates.{gate_of}
use Rattle.si_circuit.specs.Spelled.{AreSpelled}
use Rattle.si_circuit.specs.Spelling.{current_word, insertions_of}
use Rattle.si_circuit.specs.declared.style.Style.{Style}
use Rattle.si_circuit.proofs.CircuitLemmas.{gates_circuit}
use Rattle.si_circuit.proofs.CoveredGates.{chosen_give, chosen_are_prime}
use Rattle.si_circuit.proofs.GateLemmas.{chosen_is_netlist}
use Rattle.si_circuit.proofs.SpelledInsertions.{are_inserted}
use Rattle.si_conflicts.specs.Conflicts.{AreConflicts, AreFirstConflicts}
use Rattle.si_conflicts.proofs.ConflictsExist.{some_conflicts, some_first}
use Rattle.si_conflicts.proofs.OneConflictList.{first_unique}
use Rattle.si_insert.specs.declared.lineage.TraceStep.{TraceStep}
use Rattle.si_insert.specs.Fresh.{IsFresh}
use Rattle.si_insert.specs.Lineage.{AllGiven, Current, History, IsLineage, given_current}
use Rattle.si_insert.proofs.FreshNameExists.{next_free}
use Rattle.si_insert.proofs.FreshNames.{stays_signal_name}
use Rattle.si_insert.proofs.InsertionKeeps.{keeps}
use Rattle.si_insert.proofs.LineageTraceLength.{AreNamed, named_after}
use Rattle.si_readings.specs.Checks.{IsSound}
use Rattle.si_readings.specs.Laws.{HasResult}
use Rattle.si_readings.proofs.ReadingsExist.{graph_some, proper_some}
use Rattle.si_readings.proofs.StageLemmas.{then_some}
use Rattle.si_refusals.specs.Refusal.{NotFound, Unresolvable}
use Rattle.si_resolve.specs.Trace.{EndsResolved, EndsUnresolved, IsResolvingTrace}
use Rattle.si_resolve.proofs.EndsExist.{resolving_ends}
use Rattle.si_resolve.proofs.TraceLemmas.{resolved_is_unique, traces_are_lineages}
use Rattle.si_sg.specs.CanonicalText.{state_at}
use Rattle.si_sg.specs.GivenGraph.{IsGivenBy}
use Rattle.si_suggest.specs.Literals.{literals_of}
use Rattle.si_suggest.specs.Never.{IsFirstNeverOrNone, IsNeverResolved, max_looked_at}
use Rattle.si_suggestion.specs.Suggestion.{suggest, suggestion}
use Rattle.si_suggestion.proofs.GivenNetlists.{has_model, is_for_given, given_signals, given_spelled, given_state_names}
use Rattle.si_walks.specs.Joined.{IsSource, IsSourceOrNone, Source}
use Rattle.si_walks.specs.Twins.{AreTwins, max_twin_states}
use Rattle.si_walks.proofs.SourceLemmas.{some_source_or_none}
use Rattle.si_walks.proofs.TwinsDecided.{twins_or_not, twins_within}

-- ---- a conflict that is never resolved, or none
module _ (c : CodedGraph) (coded : IsCoded c) where
  twins_of : (pair : ℕ × ℕ) → Decided (AreTwins c pair.0 pair.1)
  twins_of pair = elim (cases_lt pair.0 c.graph.states) [
    | inl first ↦ elim (cases_lt pair.1 c.graph.states) [
      | inl second ↦ twins_or_not c coded pair.0 pair.1 first second
      | inr past ↦ inr (λ twins. absurd (omega (arith, past, (twins_within c coded pair.0 pair.1 twins).1)))
    ]
    | inr past ↦ inr (λ twins. absurd (omega (arith, past, (twins_within c coded pair.0 pair.1 twins).0)))
  ]

  -- both states are within the graph, and inputs lead to them from one
  abbrev Joins : ℕ × ℕ → Type 0
  Joins pair = (pair.0 < c.graph.states) × (pair.1 < c.graph.states) × (x : Source) × IsSource c pair x

  joins_or_not : (pair : ℕ × ℕ) → Decided (Joins pair)
  joins_or_not pair = elim (cases_lt pair.0 c.graph.states) [
    | inl p ↦ elim (cases_lt pair.1 c.graph.states) [
      | inl q ↦ (let found = some_source_or_none c pair.0 pair.1 coded p q in by p q found.0 found.1)
      | inr past ↦ inr (λ joins. absurd (omega (arith, past, joins.1)))
    ]
    | inr past ↦ inr (λ joins. absurd (omega (arith, past, joins.0)))
  ]
    where
      by : pair.0 < c.graph.states → pair.1 < c.graph.states → (found : Option Source) → IsSourceOrNone c pair found
          → Decided (Joins pair)
      by p q None none = inr (λ joins. none joins.2 joins.3)
      by p q (Some x) is = inl (p, q, x, is.is_first.holds)

  pub some_never : (found : Option (ℕ × ℕ)) × IsFirstNeverOrNone c found
  some_never = elim (cases_lt max_twin_states c.graph.states) [
    | inl many ↦ (let found = of_larger many in (found.0, told found.0 found.1))
    | inr few ↦ (let found = of_smaller few in (found.0, told found.0 found.1))
  ]
    where
      all : (pairs : List (ℕ × ℕ)) × AreConflicts c pairs
      all = some_conflicts c

      firsts : (pairs : List (ℕ × ℕ)) × AreFirstConflicts c max_looked_at pairs
      firsts = some_first c max_looked_at

      told : (found : Option (ℕ × ℕ)) → IsFirstOrNone pair_place (IsNeverResolved c) found → IsFirstNeverOrNone c found
      told None none = none
      told (Some x) first = first

      of_smaller : c.graph.states ≤ max_twin_states
          → (found : Option (ℕ × ℕ)) × IsFirstOrNone pair_place (IsNeverResolved c) found
      of_smaller few = first_candidate pair_place (IsNeverResolved c) (λ pair. pair) (λ pair. AreTwins c pair.0 pair.1)
          twins_of all.0
          (λ pair there twins. inl (record {
            few = few;
            twins = record { conflict = (all.1.exactly pair).0 there; twins = twins };
          }))
          (λ pair never. elim never [
            | inl twin ↦ (pair, (all.1.exactly pair).1 twin.twins.conflict, twin.twins.twins, refl)
            | inr also ↦ absurd (omega (arith, few, also.many))
          ])

      of_larger : max_twin_states < c.graph.states
          → (found : Option (ℕ × ℕ)) × IsFirstOrNone pair_place (IsNeverResolved c) found
      of_larger many = first_candidate pair_place (IsNeverResolved c) (λ pair. pair) Joins joins_or_not firsts.0
          (λ pair there joins. inr (record {
            many = many;
            joined = record {
              conflict = firsts.1.each pair there;
              source = joins.2.state;
              to_first = (joins.2.first, joins.3.to_first);
              to_second = (joins.2.second, joins.3.to_second);
            };
            looked_at = firsts.0;
            first = firsts.1;
            among = there;
          }))
          (λ pair never. elim never [
            | inl twin ↦ absurd (omega (arith, many, twin.few))
            | inr also ↦ (
              pair,
              subst (λ (l : List (ℕ × ℕ)). Contains l pair)
                  (first_unique c max_looked_at also.looked_at firsts.0 also.first firsts.1) also.among,
              (
                omega (arith, also.joined.conflict.order, also.joined.conflict.within),
                also.joined.conflict.within,
                record { state = also.joined.source; first = also.joined.to_first.0; second = also.joined.to_second.0 },
                record { to_first = also.joined.to_first.1; to_second = also.joined.to_second.1 },
              ),
              refl,
            )
          ])

-- ---- what the rule's insertions keep
resolved_lineage : (c : CodedGraph) (trace : List TraceStep) (w : Current) → IsCoded c → IsProper c.graph
    → AllGiven c.graph.signals → IsResolvingTrace (given_current c) trace w → IsLineage c trace w
resolved_lineage c trace w coded proper clean goes =
    let none : IsLineage c [] (given_current c) =
    record { coded = coded; proper = proper; none_inserted = clean; grown = refl } in
    traces_are_lineages c [] trace (given_current c) w none goes

fresh_named : (signals : List Signal) (stem name : List ℕ) → IsTrue (is_signal_name stem)
    → length signals ≤ max_signals → IsFresh signals stem name → IsTrue (is_signal_name name)
fresh_named signals stem name good few fresh = elim (cases_lt (length signals) fresh.number) [
  | inl more ↦ absurd
      (next_free signals stem (length signals) few refl (λ j below. fresh.least j (omega (arith, below, more)))
      (fresh.least (length signals) more))
  | inr low ↦ stays_signal_name signals signals stem name fresh.number refl few low fresh.is good
]

named_along : (v : Current) (trace : List TraceStep) (w : Current) → IsResolvingTrace v trace w → AreNamed v
    → AreNamed w
named_along v [] w same named = subst (λ (x : Current). AreNamed x) same named
named_along v (p ∷ trace) w (u, step, rest) named =
    let few : length v.coded.graph.signals ≤ max_signals = omega (arith, step.inserts.accepted.few_signals) in
    named_along u trace w rest
    (named_after v p u step.inserts (fresh_named v.coded.graph.signals (codes "csc") p.name refl few step.name) named)

-- ---- an answer for a graph that was read
module _ (style : Style) (text : List ℕ) (sg : Sg) (given : IsGivenBy text sg) (c : CodedGraph)
    (sound : IsSound sg.graph c) where
  clean : AllGiven c.graph.signals
  clean = subst (λ (g : StateGraph). AllGiven g.signals) (sym sound.same_graph) (given_signals text sg given)

  proper_is : IsProper c.graph
  proper_is = subst (λ (g : StateGraph). IsProper g) (sym sound.same_graph) sound.proper

  state_names : AreStateNames c.graph sg.states
  state_names = subst (λ (g : StateGraph). AreStateNames g sg.states) (sym sound.same_graph)
      (given_state_names text sg given)

  spelled : AreSpelled sg.model c.graph.signals
  spelled = subst (λ (g : StateGraph). AreSpelled sg.model g.signals) (sym sound.same_graph)
      (given_spelled text sg given)

  by_rule : (trace : List TraceStep) (w : Current) → EndsResolved (given_current c) trace w
      → HasResult (suggestion style sg.model sg.states c)
  by_rule trace w ends = (
    Ok (netlist_text n),
    record {
      lineage = l;
      given_is = refl;
      line = line;
      free = ends.done;
      netlist = n;
      is_netlist = chosen_is_netlist style w.coded sg.model inserts coded last_spelled
          (are_inserted sg.states l line state_names);
      output_is = refl;
      model_is = has_model style sg.model sg.states l;
      gates_are = refl;
      prime = chosen_are_prime style w.coded sg.model inserts coded ends.done;
      is_for = is_for_given style sg.model sg.states l line;
      circuit = circuit;
      implements = circuit.implements;
      light = λ other u also.
          (let same = resolved_is_unique (given_current c) trace other w u sound.coded_is ends also in
          heavy other u same.0 same.1);
    },
  )
    where
      l : History
      l = record { given = c; trace = trace; current = w }

      line : IsLineage c trace w
      line = resolved_lineage c trace w sound.coded_is proper_is clean ends.goes

      coded : IsCoded w.coded
      coded = (keeps c trace w line).coded

      inserts : List Insertion
      inserts = insertions_of sg.states l

      n : Netlist
      n = circuit_of style sg.model sg.states l

      last_spelled : AreSpelled sg.model w.coded.graph.signals
      last_spelled = record {
        model_name = spelled.model_name;
        names = named_along (given_current c) trace w ends.goes spelled.names;
      }

      circuit : IsCircuit l n
      circuit = gates_circuit (gate_of style w.coded) sg.model sg.states l line
          (chosen_give style w.coded sg.model inserts coded ends.done)

      heavy : (other : List TraceStep) (u : Current) → trace ≡ other → w ≡ u
          → literals_of n ≤ literals_of (circuit_of style sg.model sg.states
          (record { given = c; trace = other; current = u }))
      heavy other u same_trace same_end =
          subst₂ (λ (t : List TraceStep) (v : Current). literals_of n
          ≤ literals_of (circuit_of style sg.model sg.states (record { given = c; trace = t; current = v })))
          same_trace same_end (le_refl (literals_of n))

  pub suggestion_some : HasResult (suggestion style sg.model sg.states c)
  suggestion_some = (let never = some_never c sound.coded_is in go never.0 never.1)
    where
      go : (found : Option (ℕ × ℕ)) → IsFirstNeverOrNone c found → HasResult (suggestion style sg.model sg.states c)
      go (Some pair) first = (
        Err (Unresolvable (state_at sg.states pair.0) (state_at sg.states pair.1)),
        inl (record { pair = pair; first = first; refusal_is = refl }),
      )
      go None none = end (resolving_ends some_blocks (given_current c) sound.coded_is proper_is)
        where
          end : (trace : List TraceStep) × (w : Current) × (EndsResolved (given_current c) trace w
              ⊎ ((pair : ℕ × ℕ) × EndsUnresolved (given_current c) trace w pair))
              → HasResult (suggestion style sg.model sg.states c)
          end (trace, w, inl ends) = by_rule trace w ends
          end (trace, w, inr (pair, ends)) =
              let l : History = record { given = c; trace = trace; current = w } in (
                Err (NotFound (current_word sg.states l pair.0) (current_word sg.states l pair.1)
                    (insertions_of sg.states l) 0),
                inr (record {
                  lineage = l;
                  pair = pair;
                  not_found = record { may_be = none; given_is = refl; ends = ends };
                  tried = 0;
                  refusal_is = refl;
                }),
              )

-- whatever the text is
pub suggest_some : (style : Style) (file text : List ℕ) → HasResult (suggest style file text)
suggest_some style file text = then_some _ _ (graph_some file text) (λ sg given.
    then_some _ _ (proper_some text sg given) (λ c sound. suggestion_some style text sg given c sound))
