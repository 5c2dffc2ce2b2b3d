-- Each stage has a result.
use Rattle.std.proofs.Common.{◌≡◌, ℕ, zero, suc, ◌+◌, ◌<◌, ◌⊎◌, List, [], ◌∷◌, length, Ok, Err}
use Rattle.std.proofs.Common.{Option, Some, None, slice_get, bytes_eq, refl, sym, ap, ap₂, subst, ◌∙◌, arith}
use Rattle.std.proofs.Common.{inl, inr}
use Rattle.std.proofs.lemmas.Bool.{cases_Bool, cases_eq, cases_lt, cases_order, true≢false}
use Rattle.std.proofs.lemmas.Slice.Eq.{bytes_eq-Decides}
use Rattle.si_base.specs.declared.fault.TextKind.{TextKind}
use Rattle.si_base.specs.declared.graph.SigKind.{SigKind}
use Rattle.si_base.specs.declared.graph.SigKind.TheVariants.{Input, Output, Internal, Inserted}
use Rattle.si_base.specs.declared.graph.Signal.{Signal}
use Rattle.si_base.specs.Bits.{bit}
use Rattle.si_base.specs.Codes.{CodedGraph, code}
use Rattle.si_base.specs.GivenGraph.{Sg}
use Rattle.si_base.specs.Graph.{kind_place}
use Rattle.si_base.specs.Netlist.{Netlist}
use Rattle.si_checks.proofs.BreachesDecided.{proper_or_breach}
use Rattle.si_checks.proofs.SearchDecisions.{Decided, same_value}
use Rattle.si_checks.proofs.ByCodesExist.{some_codes}
use Rattle.si_checks.specs.Laws.{ProperOrBreach, AllHold, HasSplit, HasNoValues, HasFork, HasLoss}
use Rattle.si_sg.proofs.GivenExists.{some_given}
use Rattle.si_sg.specs.GivenGraph.{IsGivenBy}
use Rattle.si_sg.specs.GraphText.{graph_fault}
use Rattle.si_system.specs.Lists.{given, AreSameAt, AreSameLists, ShowsFirst}
use Rattle.si_readings.specs.Checks.{IsNamed, breach_name, proper, match_graphs, match_lists}
use Rattle.si_readings.specs.Laws.{HasResult}
use Rattle.si_readings.specs.Readings.{graph_in}
use Rattle.si_refusals.specs.declared.breach.NamedBreach.{NamedBreach}
use Rattle.si_refusals.specs.Refusal.{BadText, ListsDiffer, Improper}
use Rattle.si_readings.proofs.CheckNames.{given_named_states}

-- ---- the netlist is for the graph, or there is a first place at which it isn't

kind_at : ℕ → SigKind
kind_at zero = Input
kind_at (suc zero) = Output
kind_at (suc (suc zero)) = Internal
kind_at (suc (suc (suc n))) = Inserted

kind_back : (kind : SigKind) → kind_at (kind_place kind) ≡ kind
unfolding kind_at
kind_back Input = refl
kind_back Output = refl
kind_back Internal = refl
kind_back Inserted = refl

same_kinds : (k l : SigKind) → Decided (k ≡ l)
same_kinds k l = elim (cases_eq (kind_place k) (kind_place l)) [
  | inl same ↦ inl (sym (kind_back k) ∙ ap kind_at same ∙ kind_back l)
  | inr other ↦ inr (λ same. other (ap kind_place same))
]

same_signals : (x y : Signal) → Decided (x ≡ y)
same_signals x y = elim (cases_Bool (bytes_eq x.name y.name)) [
  | inr other ↦
      inr (λ same. true≢false (sym ((bytes_eq-Decides x.name y.name).1 (ap (λ (z : Signal). z.name) same)) ∙ other))
  | inl names ↦ elim (same_kinds x.kind y.kind) [
    | inr other ↦ inr (λ same. other (ap (λ (z : Signal). z.kind) same))
    | inl kinds ↦ inl (ap₂ (λ (n : List ℕ) (k : SigKind). let z : Signal = record { name = n; kind = k } in z)
        ((bytes_eq-Decides x.name y.name).0 names) kinds)
  ]
]

same_places : (x y : Option Signal) → Decided (x ≡ y)
same_places None None = inl refl
same_places None (Some y) = inr (λ same. cc)
same_places (Some x) None = inr (λ same. cc)
same_places (Some x) (Some y) = elim (same_signals x y) [
  | inl same ↦ inl (ap Some same)
  | inr other ↦ inr (λ same. other cc)
]

-- two lists of signals with their start values
module _ (own : List Signal) (values : ℕ) (others : List Signal) (start : ℕ) where
  abbrev Same : ℕ → Type 0
  Same k = AreSameAt own values others start k

  same_at : (k : ℕ) → Decided (Same k)
  same_at k = elim (same_places (slice_get others k) (slice_get own k)) [
    | inr other ↦ inr (λ same. other same.signal)
    | inl signal ↦ elim (cases_lt k (length own)) [
      | inr beyond ↦ inl (record { signal = signal; value = λ within. absurd (omega (arith, beyond, within)) })
      | inl within ↦ elim (same_value (bit start k) (bit values k)) [
        | inl value ↦ inl (record { signal = signal; value = λ inside. value })
        | inr other ↦ inr (λ same. other (same.value within))
      ]
    ]
  ]

  -- up to each place the lists are the same, or they have a first difference
  same_below : (k : ℕ) → ((j : ℕ) → j < k → Same j) ⊎ ((place : ℕ) × ShowsFirst Same place)
  same_below zero = inl (λ j below. absurd (omega (arith, below)))
  same_below (suc k) = elim (same_below k) [
    | inr differs ↦ inr differs
    | inl before ↦ elim (same_at k) [
      | inr other ↦ inr (k + 1, (k, refl, record { differs = other; before = before }))
      | inl here ↦ inl (λ j below. elim (cases_order j k) [
        | inl same ↦ subst (λ (i : ℕ). Same i) (sym same) here
        | inr (inl less) ↦ before j less
        | inr (inr more) ↦ absurd (omega (arith, below, more))
      ])
    ]
  ]

same_gets : (xs ys : List Signal) (k : ℕ) → length xs + length ys < k
    → ((j : ℕ) → j < k → slice_get xs j ≡ slice_get ys j) → xs ≡ ys
same_gets xs ys zero many same = absurd (omega arith)
same_gets [] [] (suc k) many same = refl
same_gets [] (y ∷ ys) (suc k) many same = (let first = same 0 (omega arith) in cc)
same_gets (x ∷ xs) [] (suc k) many same = (let first = same 0 (omega arith) in cc)
same_gets (x ∷ xs) (y ∷ ys) (suc k) many same =
    let first = same 0 (omega arith) in
    let heads : x ≡ y = cc in
    ap₂ (λ (z : Signal) (zs : List Signal). z ∷ zs) heads
    (same_gets xs ys k (omega arith) (λ j below. same (suc j) (omega arith)))

-- they are the same, or have a first difference
same_or_not : (own : List Signal) (values : ℕ) (others : List Signal) (start : ℕ)
    → AreSameLists own values others start
    ⊎ ((place : ℕ) × ShowsFirst (AreSameAt own values others start) place)
same_or_not own values others start =
    let k : ℕ = length others + length own + 1 in
    elim (same_below own values others start k) [
      | inl same ↦ inl (record {
        signals = same_gets others own k (omega arith) (λ j below. (same j below).signal);
        values_are = λ a within. (same a (omega arith)).value within;
      })
      | inr differs ↦ inr differs
    ]

pub match_lists_some : (file : List ℕ) (coded : CodedGraph) (net : Netlist) → HasResult (match_lists file coded net)
match_lists_some file coded net =
    elim (same_or_not coded.graph.signals (code coded coded.graph.start) (given net) net.start) [
      | inl same ↦ (Ok tt, record { signals = same.signals; values = same.values_are })
      | inr differs ↦ (Err (ListsDiffer file differs.0), (differs.0, differs.1, refl))
    ]

pub match_graphs_some : (file : List ℕ) (one other : CodedGraph) → HasResult (match_graphs file one other)
match_graphs_some file one other =
    elim (same_or_not one.graph.signals (code one one.graph.start) other.graph.signals (code other other.graph.start)) [
      | inl same ↦ (Ok tt, same)
      | inr differs ↦ (Err (ListsDiffer file differs.0), (differs.0, differs.1, refl))
    ]

pub proper_some : (text : List ℕ) (sg : Sg) → IsGivenBy text sg → HasResult (proper sg.graph sg.states)
proper_some text sg given = go (proper_or_breach sg.graph is.is_graph is.connected)
  where
    is : IsNamed sg.graph sg.states
    is = given_named_states text sg given

    refused : (found : ProperOrBreach sg.graph) (shown : NamedBreach) → breach_name sg.states found ≡ Some shown
        → HasResult (proper sg.graph sg.states)
    refused found shown same = (Err (Improper shown), (shown, (found, same), refl))

    go : ProperOrBreach sg.graph → HasResult (proper sg.graph sg.states)
    go (AllHold good) =
        let some = some_codes sg.graph is.is_graph is.connected good.deterministic good.consistent in
        (Ok some.0, record { coded_is = some.2; same_graph = some.1; proper = good })
    go (HasSplit b first) = refused (HasSplit b first) _ refl
    go (HasNoValues d a first) = refused (HasNoValues d a first) _ refl
    go (HasFork d v b first) = refused (HasFork d v b first) _ refl
    go (HasLoss d v q b first) = refused (HasLoss d v q b first) _ refl

pub graph_some : (file text : List ℕ) → HasResult (graph_in file text)
graph_some file text = decided_by (graph_fault text) refl
  where
    decided_by : (fault : Option (ℕ × TextKind)) → graph_fault text ≡ fault → HasResult (graph_in file text)
    decided_by None none = (let given = some_given text none in (Ok given.0, given.1))
    decided_by (Some at) is = (Err (BadText file at.0 at.1), (at, is, refl))
