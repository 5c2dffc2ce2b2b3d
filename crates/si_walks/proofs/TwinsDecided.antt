-- Whether two states are twins can be decided: some set has just the pairs of twins.
use Rattle.std.proofs.Common.{[], ◌∷◌, ◌≡◌, ℕ, zero, suc, ◌+◌, ◌*◌, ◌/◌, ◌%◌, ◌<◌, ◌≤◌, ◌⊎◌, Bool, true, false, not, cond, List, []}
use Rattle.std.proofs.Common.{length, get_or, set, Contains, Some, slice_get, slice_index_or, refl, sym, ap, subst, ◌∙◌, arith, inl, inr}
use Rattle.std.proofs.Common.{length-set}
use Rattle.std.proofs.Math.ListN.{replicate}
use Rattle.std.proofs.lemmas.Bool.{cases_eq, cases_lt, cases_order, true≢false}
use Rattle.std.proofs.lemmas.List.{length-replicate}
use Rattle.std.proofs.lemmas.List.Sums.{sum_by-set}
use Rattle.std.proofs.lemmas.Option.{slice_get-get_or, slice_get_within, same_Some}
use Rattle.si_base.specs.declared.ids.Event.{Event}
use Rattle.si_base.specs.declared.graph.Edge.{Edge}
use Rattle.si_base.specs.declared.graph.Signal.{Signal}
use Rattle.si_base.specs.declared.graph.SigKind.{SigKind}
use Rattle.si_base.specs.declared.graph.SigKind.TheVariants.{Input, Output, Internal, Inserted}
use Rattle.si_base.specs.Codes.{CodedGraph, IsCoded, code}
use Rattle.si_base.specs.Graph.{StateGraph, Step, arc}
use Rattle.si_base.specs.Sets.{IsIn}
use Rattle.si_base.proofs.StepCodes.{step_within}
use Rattle.si_checks.proofs.SearchDecisions.{Decided, both, driven, equal_events, same_value, some_of}
use Rattle.si_checks.proofs.SearchDecisions as decide
use Rattle.si_graph.specs.Loops.Reach.{unmarked}
use Rattle.si_graph.proofs.SearchLemmas.{in_cases, in_none, is_set, stays_in}
use Rattle.si_insert.specs.Accepted.{IsInput}
use Rattle.si_walks.specs.Twins.{AreTwinPairs, AreTwins, Move, MovesLead, OfBoth, OfFirst, OfSecond, TellsTwins}
use Rattle.si_walks.specs.Twins.{max_twin_states, pair_number}
use Rattle.si_base.proofs.Booleans.{same_if}
use Rattle.si_walks.specs.Loops.TwinMoves.{BothMoveBy, ByStep, FirstMovesBy, IsDiagonal, MovesFrom}
use Rattle.si_walks.specs.Loops.TwinMoves.{MovesPair, SecondMovesBy}
use Rattle.si_walks.proofs.TwinSearch.{ExploresTwins, IsOfTwins, all_twins, diagonal_of_twins, moved_on}
use Rattle.si_walks.proofs.TwinSearch.{pair_below}

-- ---- moves
either : {P Q : Type 0} → Decided P → Decided Q → Decided (P ⊎ Q)
either (inl p) q = inl (inl p)
either (inr not_p) (inl q) = inl (inr q)
either (inr not_p) (inr not_q) = inr (λ found. elim found [ inl p ↦ not_p p | inr q ↦ not_q q ])

input_kind : (kind : SigKind) → Decided (kind ≡ Input)
input_kind Input = inl refl
input_kind Output = inr (λ (is : Output ≡ Input). cc)
input_kind Internal = inr (λ (is : Internal ≡ Input). cc)
input_kind Inserted = inr (λ (is : Inserted ≡ Input). cc)

input_or_not : (signals : List Signal) (a : ℕ) → Decided (IsInput signals a)
input_or_not signals a = elim (cases_lt a (length signals)) [
  | inl within ↦ (
      let other : Signal = record { name = []; kind = Output } in
      let x : Signal = get_or signals a other in
      let at : slice_get signals a ≡ Some x = slice_get-get_or signals a other within in
      elim (input_kind x.kind) [
        | inl is ↦ inl (x, at, is)
        | inr is_not ↦ inr (λ (y, also, is). is_not (ap (λ (w : Signal). w.kind) (same_Some x y (sym at ∙ also)) ∙ is))
      ])
  | inr past ↦ inr (λ (y, at, is). absurd (omega (arith, slice_get_within signals a y at)))
]

step_or_not : (g : StateGraph) (s : ℕ) (P : Event → ℕ → ℕ → Type 0) (l : ℕ)
    → ((e : Event) (u : ℕ) → Decided (P e u l)) → Decided (ByStep g s P l)
step_or_not g s P l decided =
    elim (some_of Leads (λ a. both (cases_eq a.from s) (decided a.event a.to)) g.edges) [
      | inl (a, there, leads) ↦ inl (
        a.event,
        a.to,
        subst (λ (x : ℕ). Step g x a.event a.to) leads.0 there,
        leads.1,
      )
      | inr none ↦ inr (λ (e, u, step, leads). none (arc s e u, step, (refl, leads)))
    ]
  where
    Leads : Edge → Type 0
    Leads a = (a.from ≡ s) × P a.event a.to l

both_or_not : (g : StateGraph) (t : ℕ) (e : Event) (u l : ℕ) → Decided (BothMoveBy g t e u l)
both_or_not g t e u l = elim (driven g.signals e.sig) [
  | inr input ↦ inr (λ found. input found.0)
  | inl drives ↦ elim (some_of Goes
      (λ a. both (cases_eq a.from t) (both (equal_events a.event e) (cases_eq l (pair_number g.states u a.to)))) g.edges) [
        | inl (a, there, goes) ↦ inl (
          drives,
          a.to,
          subst (λ (x : ℕ). Step g x e a.to) goes.0
              (subst (λ (x : Event). Contains g.edges (arc a.from x a.to)) goes.1.0 there),
          goes.1.1,
        )
        | inr none ↦ inr (λ (also, w, step, is). none (arc t e w, step, (refl, (refl, is))))
      ]
]
  where
    Goes : Edge → Type 0
    Goes a = (a.from ≡ t) × ((a.event ≡ e) × (l ≡ pair_number g.states u a.to))

moves_or_not : (c : CodedGraph) (k l : ℕ) → Decided (MovesPair c k l)
moves_or_not c k l = from (k / c.graph.states) (k % c.graph.states)
  where
    g : StateGraph
    g = c.graph

    from : (s t : ℕ) → Decided (MovesFrom c s t l)
    from s t =
        either (step_or_not g s (FirstMovesBy g t) l
        (λ e u. both (input_or_not g.signals e.sig) (cases_eq l (pair_number g.states u t))))
        (either (step_or_not g t (SecondMovesBy g s) l
        (λ e u. both (input_or_not g.signals e.sig) (cases_eq l (pair_number g.states s u))))
        (both (cases_eq (code c s) (code c t)) (step_or_not g s (BothMoveBy g t) l (λ e u. both_or_not g t e u l))))

-- ---- numbers
at_most : (m n : ℕ) → Decided (m ≤ n)
at_most m n = elim (cases_lt n m) [ inl above ↦ inr (λ few. absurd (omega (arith, above, few))) | inr few ↦ inl few ]

some_below : (R : ℕ → Type 0) → ((k : ℕ) → Decided (R k)) → (n : ℕ) → Decided ((k : ℕ) × (k < n) × R k)
some_below R decided zero = inr (λ (k, below, is). absurd (omega (arith, below)))
some_below R decided (suc n) = elim (decided n) [
  | inl is ↦ inl (n, omega arith, is)
  | inr is_not ↦ elim (some_below R decided n) [
    | inl (k, below, is) ↦ inl (k, omega (arith, below), is)
    | inr none ↦ inr (λ (k, below, is). elim (cases_order k n) [
      | inl same ↦ is_not (subst R same is)
      | inr (inl before) ↦ none (k, before, is)
      | inr (inr after) ↦ absurd (omega (arith, below, after))
    ])
  ]
]

-- ---- the set
module _ (c : CodedGraph) (is : IsCoded c) where
  abbrev n : ℕ
  n = c.graph.states

  record AreFound (marks : List Bool) : Type 0 where
    size : length marks ≡ n * n
    begun : (k : ℕ) → IsDiagonal n k → IsIn marks k
    sound : (k : ℕ) → IsIn marks k → IsOfTwins c k

  member : (marks : List Bool) (l : ℕ) → Decided (IsIn marks l)
  member marks l = same_value (slice_index_or marks l false) true

  -- a move leads from k out of the set
  abbrev LeavesTo : List Bool → ℕ → ℕ → Type 0
  LeavesTo marks k l = MovesPair c k l × (IsIn marks l → ⊥)

  abbrev Leaves : List Bool → ℕ → Type 0
  Leaves marks k = IsIn marks k × ((l : ℕ) × (l < n * n) × LeavesTo marks k l)

  leaves_or_not : (marks : List Bool) (k : ℕ) → Decided (Leaves marks k)
  leaves_or_not marks k = both (member marks k)
      (some_below (LeavesTo marks k) (λ l. both (moves_or_not c k l) (decide.not (member marks l))) (n * n))

  one_more : (marks : List Bool) (k l : ℕ) → AreFound marks → IsIn marks k → l < n * n → MovesPair c k l
      → AreFound (set marks l true)
  one_more marks k l are here below moves =
      let within : l < length marks = omega (arith, are.size, below) in
      record {
        size = length-set marks l true ∙ are.size;
        begun = λ x diagonal. stays_in marks l x within (are.begun x diagonal);
        sound = λ x there. elim (in_cases marks l x there) [
          | inl same ↦ subst (IsOfTwins c) (sym same) (moved_on c k l is (are.sound k here) moves)
          | inr old ↦ are.sound x old
        ];
      }

  fewer : (marks : List Bool) (l : ℕ) → length marks ≡ n * n → l < n * n → (IsIn marks l → ⊥)
      → unmarked (set marks l true) < unmarked marks
  fewer marks l size below out =
      let within : l < length marks = omega (arith, size, below) in
      let fresh : get_or marks l false ≡ false = none_here (get_or marks l false) out in
      omega (arith, rw fresh at (sum_by-set (λ x. cond (not x) 1 0) marks l true false within))
    where
      none_here : (b : Bool) → (b ≡ true → ⊥) → b ≡ false
      none_here true not_true = absurd (not_true refl)
      none_here false not_true = refl

  spread : (m : ℕ) (marks : List Bool) → unmarked marks < m → AreFound marks → (done : List Bool) × AreTwinPairs c done
  spread zero marks few are = absurd (omega (arith, few))
  spread (suc m) marks few are = elim (some_below (Leaves marks) (leaves_or_not marks) (n * n)) [
    | inl (k, k_below, (here, (l, below, (moves, out)))) ↦
        spread m (set marks l true) (omega (arith, few, fewer marks l are.size below out))
        (one_more marks k l are here below moves)
    | inr none ↦ (marks, all_twins c is marks (ended none) are.size)
  ]
    where
      ended : (((k : ℕ) × (k < n * n) × Leaves marks k) → ⊥) → ExploresTwins c marks []
      ended none = record {
        begun = are.begun;
        sound = are.sound;
        closed = λ k here. inr (λ l moves. elim (member marks l) [
          | inl there ↦ there
          | inr out ↦ (
              let from = are.sound k here in
              let to = moved_on c k l is from moves in
              absurd (none (k, from.below, (here, (l, to.below, (moves, out))))))
        ]);
        queued = λ k waiting. absurd (omega (arith, waiting.1));
      }

  -- the pairs of the first states with themselves
  record AreDiagonal (m : ℕ) (marks : List Bool) : Type 0 where
    size : length marks ≡ n * n
    each : (s : ℕ) → s < m → IsIn marks (pair_number n s s)
    no_more : (k : ℕ) → IsIn marks k → IsDiagonal n k

  diagonal : (m : ℕ) → m ≤ n → (marks : List Bool) × AreDiagonal m marks
  diagonal zero few = (
    replicate (n * n) false,
    record {
      size = length-replicate (n * n) false;
      each = λ s below. absurd (omega (arith, below));
      no_more = λ k there. absurd (in_none (n * n) k there);
    },
  )
  diagonal (suc m) few =
      let before = diagonal m (omega (arith, few)) in
      let marks = before.0 in
      let last = pair_number n m m in
      let within : last < length marks = omega (arith, before.1.size, pair_below n m m (omega (arith, few)) (omega (arith, few))) in (
        set marks last true,
        record {
          size = length-set marks last true ∙ before.1.size;
          each = λ s below. elim (cases_eq s m) [
            | inl same ↦ subst (λ (x : ℕ). IsIn (set marks last true) (pair_number n x x)) (sym same)
                (is_set marks last within)
            | inr other ↦ stays_in marks last _ within (before.1.each s (omega (arith, below)))
          ];
          no_more = λ k there. elim (in_cases marks last k there) [
            | inl same ↦ (m, omega (arith, few), same)
            | inr old ↦ before.1.no_more k old
          ];
        },
      )

  pub some_twin_pairs : (set : List Bool) × AreTwinPairs c set
  some_twin_pairs =
      let first = diagonal n (omega arith) in
      spread (unmarked first.0 + 1) first.0 (omega arith) (record {
        size = first.1.size;
        begun = λ k d. subst (IsIn first.0) (sym d.2) (first.1.each d.0 d.1);
        sound = λ k there. diagonal_of_twins c k (first.1.no_more k there);
      })

  pub twins_or_not : (p q : ℕ) → p < n → q < n → Decided (AreTwins c p q)
  twins_or_not p q first second =
      let pairs = some_twin_pairs in
      let tells = pairs.1.exactly p q first second in
      elim (member pairs.0 (pair_number n p q)) [
        | inl there ↦ inl (tells.0 there)
        | inr out ↦ inr (λ twins. out (tells.1 twins))
      ]

  pub some_told : (p q : ℕ) → p < n → q < n → (told : Bool) × TellsTwins c p q told
  some_told p q first second = elim (both (at_most n max_twin_states) (twins_or_not p q first second)) [
    | inl are ↦ (true, (λ told. are, λ told. refl))
    | inr not_all ↦ (false, (λ told. absurd (true≢false (sym told)), λ are. absurd (not_all are)))
  ]

pub told_once : (c : CodedGraph) (p q : ℕ) (one other : Bool) → TellsTwins c p q one → TellsTwins c p q other
    → one ≡ other
told_once c p q one other tells also = same_if one other (λ told. also.1 (tells.0 told)) (λ told. tells.1 (also.0 told))

-- moves lead from states of the graph to states of it
lead_within : (c : CodedGraph) → IsCoded c → (ms : List Move) (s t p q : ℕ) → s < c.graph.states → t < c.graph.states
    → MovesLead c ms s t p q → (p < c.graph.states) × (q < c.graph.states)
lead_within c is [] s t p q first second lead =
    (subst (λ (x : ℕ). x < c.graph.states) lead.0 first, subst (λ (x : ℕ). x < c.graph.states) lead.1 second)
lead_within c is (OfFirst e ∷ ms) s t p q first second (u, input, step, rest) =
    lead_within c is ms u t p q (step_within c.graph s e u is.graph_is step).2 second rest
lead_within c is (OfSecond e ∷ ms) s t p q first second (u, input, step, rest) =
    lead_within c is ms s u p q first (step_within c.graph t e u is.graph_is step).2 rest
lead_within c is (OfBoth e ∷ ms) s t p q first second (u, w, same, drives, step, other, rest) =
    lead_within c is ms u w p q (step_within c.graph s e u is.graph_is step).2
    (step_within c.graph t e w is.graph_is other).2 rest

pub twins_within : (c : CodedGraph) → IsCoded c → (p q : ℕ) → AreTwins c p q
    → (p < c.graph.states) × (q < c.graph.states)
twins_within c is p q twins = lead_within c is twins.moves twins.source twins.source p q twins.within twins.within twins.lead
