-- The search for twins: moves of pairs of states, by the numbers of the pairs.
use Rattle.std.proofs.Common.{◌≡◌, ℕ, zero, suc, ◌+◌, ◌*◌, ◌/◌, ◌%◌, ◌<◌, ◌≤◌, Bool, ◌∙◌, sym, refl, ap, subst, arith}
use Rattle.std.proofs.Common.{Some, List, [], ◌∷◌, ◌++◌, length, get_or, inl, inr, ◌⊎◌}
use Rattle.std.proofs.lemmas.Bool.{cases_eq}
use Rattle.std.proofs.lemmas.List.{get_or_default}
use Rattle.std.proofs.lemmas.Nat.{div-mul-add, mod-mul-add}
use Rattle.std.proofs.Math.Nat.{mul-le-mul_right, mod-lt, div-lt_iff_lt-mul, suc-mul}
use Rattle.si_base.specs.declared.ids.Event.{Event}
use Rattle.si_base.specs.declared.graph.Edge.{Edge}
use Rattle.si_base.specs.Codes.{CodedGraph, IsCoded, code}
use Rattle.si_base.specs.Graph.{StateGraph, Step, arc}
use Rattle.si_base.specs.Sets.{IsIn}
use Rattle.si_base.proofs.StepCodes.{step_within}
use Rattle.si_graph.specs.Loops.Arcs.{AreOut, edge_at, no_edge}
use Rattle.si_graph.specs.Loops.Reach.{Marks, MarksAll}
use Rattle.si_graph.proofs.SearchLemmas.{Explores, in_none, marks_all_as, marks_both}
use Rattle.si_walks.specs.Twins.{AreTwinPairs, AreTwins, MovesLead, Move, OfFirst, OfSecond, OfBoth, pair_number}
use Rattle.si_walks.specs.Twins.{IsFirstTwinOrNone, IsTwinConflict, max_twin_states}
use Rattle.si_base.specs.Order.{Before}
use Rattle.si_base.specs.Proper.{IsConflict, pair_place}
use Rattle.std.proofs.Math.Nat.{div-add-mod, mul_comm}
use Rattle.si_walks.specs.Loops.TwinMoves.{BothMove, ByStep, FirstMoves, IsDiagonal, MovesFrom, MovesPair, SecondMoves}
use Rattle.si_walks.specs.Loops.TwinMoves.{none_of}

-- ---- what a call marks
-- one call after the other
pub both_taken : (Q R : ℕ → Type 0) (a : List Bool) (w : List ℕ) (b : List Bool) (v : List ℕ) (d : List Bool)
    (u : List ℕ) → MarksAll Q a w b v → MarksAll R b v d u → MarksAll (λ l. Q l ⊎ R l) a w d u
both_taken Q R a w b v d u one other = record {
  marks_are = marks_both Q R (λ l. Q l ⊎ R l) a w b v d u (λ l q. inl q) (λ l r. inr r) one.marks_are other.marks_are;
  all = λ l has. elim has [ inl q ↦ other.marks_are.grows l (one.all l q) | inr r ↦ other.all l r ];
}

-- the steps by the first n arcs have led on
abbrev pub AreDone : List Edge → (Event → ℕ → ℕ → Type 0) → ℕ → List Bool → Type 0
AreDone arcs P n marks = (j : ℕ) → j < n → (l : ℕ) → P (edge_at arcs j).event (edge_at arcs j).to l → IsIn marks l

module _ (g : StateGraph) (s : ℕ) (arcs : List Edge) (out : AreOut g s arcs) where
  step_at : (n : ℕ) (a : Edge) → n < length arcs → a ≡ get_or arcs n a → Step g s a.event a.to
  step_at n a inside at =
      let both = (out.exactly a).0 (n, inside, sym at) in
      subst (λ (x : ℕ). Step g x a.event a.to) both.1 both.0

  pub sig_within : (n : ℕ) (a : Edge) → n < length arcs → a ≡ get_or arcs n a → a.event.sig < length g.signals
  sig_within n a inside at = (step_within g s a.event a.to out.graph (step_at n a inside at)).1

  pub target_within : (n : ℕ) (a : Edge) → n < length arcs → a ≡ get_or arcs n a → a.to < g.states
  target_within n a inside at = (step_within g s a.event a.to out.graph (step_at n a inside at)).2

  module _ (P : Event → ℕ → ℕ → Type 0) where
    pub marks_more : (n : ℕ) (a : Edge) (Q : ℕ → Type 0) (marks : List Bool) (work : List ℕ) (b : List Bool)
        (v : List ℕ) (d : List Bool) (u : List ℕ) → n < length arcs → a ≡ get_or arcs n a
        → ((l : ℕ) → Q l → P a.event a.to l) → Marks (ByStep g s P) marks work b v → MarksAll Q b v d u
        → Marks (ByStep g s P) marks work d u
    marks_more n a Q marks work b v d u inside at leads before one =
        marks_both (ByStep g s P) Q (ByStep g s P) marks work b v d u (λ l x. x)
        (λ l q. (a.event, a.to, step_at n a inside at, leads l q)) before one.marks_are

    pub done_more : (n : ℕ) (a : Edge) (Q : ℕ → Type 0) (b : List Bool) (v : List ℕ) (d : List Bool) (u : List ℕ)
        → n < length arcs → a ≡ get_or arcs n a → ((l : ℕ) → P a.event a.to l → Q l) → MarksAll Q b v d u
        → AreDone arcs P n b → AreDone arcs P (n + 1) d
    done_more n a Q b v d u inside at asks one before j below l leads = elim (cases_eq j n) [
      | inl same ↦ (
          let is : edge_at arcs j ≡ a =
          ap (λ (k : ℕ). edge_at arcs k) same ∙ get_or_default arcs n no_edge a inside ∙ sym at in
          one.all l (asks l (subst (λ (x : Edge). P x.event x.to l) is leads)))
      | inr other ↦ one.marks_are.grows l (before j (omega arith) l leads)
    ]

    pub all_done : (n : ℕ) (a : List Bool) (w : List ℕ) (d : List Bool) (u : List ℕ) → length arcs ≤ n
        → Marks (ByStep g s P) a w d u → AreDone arcs P n d → MarksAll (ByStep g s P) a w d u
    all_done n a w d u all marks done = record {
      marks_are = marks;
      all = λ l (e, t, step, leads). (
          let place = (out.exactly (arc s e t)).1 (step, refl) in
          let is : edge_at arcs place.0 ≡ arc s e t =
          get_or_default arcs place.0 no_edge (arc s e t) place.1 ∙ place.2 in
          done place.0 (omega (arith, place.1)) l (subst (λ (x : Edge). P x.event x.to l) (sym is) leads));
    }

-- all moves of a pair, one kind after another
module _ (c : CodedGraph) (k s t : ℕ) (first : s ≡ k / c.graph.states) (second : t ≡ k % c.graph.states)
    (a : List Bool) (w : List ℕ) (b : List Bool) (v : List ℕ) (d : List Bool) (u : List ℕ)
    (firsts : MarksAll (FirstMoves c.graph s t) a w b v) (seconds : MarksAll (SecondMoves c.graph s t) b v d u) where
  by_number : (e : List Bool) (x : List ℕ) → MarksAll (MovesFrom c s t) a w e x → MarksAll (MovesPair c k) a w e x
  by_number e x taken =
      subst (λ (y : ℕ). MarksAll (MovesFrom c y (k % c.graph.states)) a w e x) first
      (subst (λ (z : ℕ). MarksAll (MovesFrom c s z) a w e x) second taken)

  pub all_moves : (e : List Bool) (x : List ℕ) → code c s ≡ code c t → MarksAll (BothMove c.graph s t) d u e x
      → MarksAll (MovesPair c k) a w e x
  all_moves e x same boths = by_number e x (marks_all_as _ (MovesFrom c s t) a w e x with_code without_code
      (both_taken _ _ a w b v e x firsts (both_taken _ _ b v d u e x seconds boths)))
    where
      with_code : (l : ℕ) → FirstMoves c.graph s t l ⊎ (SecondMoves c.graph s t l ⊎ BothMove c.graph s t l)
          → MovesFrom c s t l
      with_code l (inl is) = inl is
      with_code l (inr (inl is)) = inr (inl is)
      with_code l (inr (inr is)) = inr (inr (same, is))

      without_code : (l : ℕ) → MovesFrom c s t l
          → FirstMoves c.graph s t l ⊎ (SecondMoves c.graph s t l ⊎ BothMove c.graph s t l)
      without_code l (inl is) = inl is
      without_code l (inr (inl is)) = inr (inl is)
      without_code l (inr (inr is)) = inr (inr is.1)

  pub moves_of_inputs : (code c s ≡ code c t → ⊥) → MarksAll (MovesPair c k) a w d u
  moves_of_inputs apart = by_number d u (marks_all_as _ (MovesFrom c s t) a w d u as_move of_inputs
      (both_taken _ _ a w b v d u firsts seconds))
    where
      as_move : (l : ℕ) → FirstMoves c.graph s t l ⊎ SecondMoves c.graph s t l → MovesFrom c s t l
      as_move l (inl is) = inl is
      as_move l (inr is) = inr (inl is)

      of_inputs : (l : ℕ) → MovesFrom c s t l → FirstMoves c.graph s t l ⊎ SecondMoves c.graph s t l
      of_inputs l (inl is) = inl is
      of_inputs l (inr (inl is)) = inr is
      of_inputs l (inr (inr is)) = absurd (apart is.0)

-- ---- numbers of pairs
pub pair_below : (n s t : ℕ) → s < n → t < n → pair_number n s t < n * n
pair_below n s t first second =
    let next : suc s ≤ n = omega (arith, first) in
    omega (arith, mul-le-mul_right n next, suc-mul s n, second)

pub first_below : (n k : ℕ) → k < n * n → k / n < n
first_below zero k none = absurd (omega (arith, none))
first_below (suc n) k below = (div-lt_iff_lt-mul {k = suc n} {x = k} {y = suc n} (omega arith)).1 below

pub second_below : (n k : ℕ) → k < n * n → k % n < n
second_below zero k none = absurd (omega (arith, none))
second_below (suc n) k below = mod-lt k (omega arith)

-- ---- where a search stands: it has reached pairs of twins
pub record IsOfTwins (c : CodedGraph) (k : ℕ) : Type 0 where
  pub below : k < c.graph.states * c.graph.states
  pub twins : AreTwins c (k / c.graph.states) (k % c.graph.states)

numbered : (c : CodedGraph) (u w l : ℕ) → u < c.graph.states → w < c.graph.states
    → l ≡ pair_number c.graph.states u w → AreTwins c u w → IsOfTwins c l
numbered c u w l first second is twins = record {
  below = subst (λ (x : ℕ). x < n * n) (sym is) (pair_below n u w first second);
  twins = subst (λ (x : ℕ). AreTwins c (x / n) (x % n)) (sym is)
      (subst (λ (x : ℕ). AreTwins c x (pair_number n u w % n)) (sym (div-mul-add u n w second))
      (subst (λ (y : ℕ). AreTwins c u y) (sym (mod-mul-add u n w second)) twins));
}
  where
    n : ℕ
    n = c.graph.states

pub diagonal_of_twins : (c : CodedGraph) (k : ℕ) → IsDiagonal c.graph.states k → IsOfTwins c k
diagonal_of_twins c k d =
    numbered c d.0 d.0 k d.1 d.1 d.2 (record { source = d.0; within = d.1; moves = []; lead = (refl, refl) })

-- one move more at the end
lead_on : (c : CodedGraph) (ms : List Move) (m : Move) (s t p q u w : ℕ) → MovesLead c ms s t p q
    → MovesLead c (m ∷ []) p q u w → MovesLead c (ms ++ m ∷ []) s t u w
lead_on c [] m s t p q u w lead move =
    subst (λ (x : ℕ). MovesLead c (m ∷ []) x t u w) (sym lead.0)
    (subst (λ (y : ℕ). MovesLead c (m ∷ []) p y u w) (sym lead.1) move)
lead_on c (OfFirst e ∷ ms) m s t p q u w lead move =
    (lead.0, lead.1, lead.2, lead_on c ms m lead.0 t p q u w lead.3 move)
lead_on c (OfSecond e ∷ ms) m s t p q u w lead move =
    (lead.0, lead.1, lead.2, lead_on c ms m s lead.0 p q u w lead.3 move)
lead_on c (OfBoth e ∷ ms) m s t p q u w lead move =
    (lead.0, lead.1, lead.2, lead.3, lead.4, lead.5, lead_on c ms m lead.0 lead.1 p q u w lead.6 move)

twins_on : (c : CodedGraph) (m : Move) (p q u w : ℕ) → AreTwins c p q → MovesLead c (m ∷ []) p q u w
    → AreTwins c u w
twins_on c m p q u w twins move = record {
  source = twins.source;
  within = twins.within;
  moves = twins.moves ++ m ∷ [];
  lead = lead_on c twins.moves m twins.source twins.source p q u w twins.lead move;
}

pub moved_on : (c : CodedGraph) (k l : ℕ) → IsCoded c → IsOfTwins c k → MovesPair c k l → IsOfTwins c l
moved_on c k l is at moves = by moves
  where
    n : ℕ
    n = c.graph.states

    s : ℕ
    s = k / n

    t : ℕ
    t = k % n

    by : MovesFrom c s t l → IsOfTwins c l
    by (inl (e, u, step, (input, number))) =
        numbered c u t l (step_within c.graph s e u is.graph_is step).2 (second_below n k at.below) number
        (twins_on c (OfFirst e) s t u t at.twins (u, input, step, (refl, refl)))
    by (inr (inl (e, u, step, (input, number)))) =
        numbered c s u l (first_below n k at.below) (step_within c.graph t e u is.graph_is step).2 number
        (twins_on c (OfSecond e) s t s u at.twins (u, input, step, (refl, refl)))
    by (inr (inr (same, (e, u, step, (driven, w, other, number))))) =
        numbered c u w l (step_within c.graph s e u is.graph_is step).2 (step_within c.graph t e w is.graph_is other).2
        number (twins_on c (OfBoth e) s t u w at.twins (u, w, same, driven, step, other, (refl, refl)))

-- ---- and where it has ended, all of them
abbrev pub ExploresTwins : CodedGraph → List Bool → List ℕ → Type 0
ExploresTwins c marks work = Explores (MovesPair c) (IsDiagonal c.graph.states) (IsOfTwins c) marks work

pub explores_from_one_state : (c : CodedGraph) (marks : List Bool) (work : List ℕ)
    → MarksAll (IsDiagonal c.graph.states) (none_of (c.graph.states * c.graph.states)) [] marks work
    → ExploresTwins c marks work
explores_from_one_state c marks work taken = record {
  begun = taken.all;
  sound = λ k there. elim (taken.marks_are.sound k there) [
    | inl old ↦ absurd (in_none (c.graph.states * c.graph.states) k old)
    | inr diagonal ↦ diagonal_of_twins c k diagonal
  ];
  closed = λ k there. elim (taken.marks_are.queued k there) [
    | inl old ↦ absurd (in_none (c.graph.states * c.graph.states) k old)
    | inr waiting ↦ inl waiting
  ];
  queued = λ k waiting. elim (taken.marks_are.marked k waiting) [
    | inl old ↦ absurd (omega (arith, old.1))
    | inr marked ↦ marked
  ];
}

module _ (c : CodedGraph) (is : IsCoded c) (marks : List Bool) (ended : ExploresTwins c marks []) where
  closed : (k l : ℕ) → IsIn marks k → MovesPair c k l → IsIn marks l
  closed k l there moves = elim (ended.closed k there) [
    | inl waiting ↦ absurd (omega (arith, waiting.1))
    | inr done ↦ done l moves
  ]

  -- a move from a pair, by its number
  moved_from : (s t l : ℕ) → t < c.graph.states → MovesFrom c s t l
      → MovesPair c (pair_number c.graph.states s t) l
  moved_from s t l below moves =
      subst (λ (x : ℕ). MovesFrom c x (pair_number c.graph.states s t % c.graph.states) l)
      (sym (div-mul-add s c.graph.states t below))
      (subst (λ (y : ℕ). MovesFrom c s y l) (sym (mod-mul-add s c.graph.states t below)) moves)

  found_along : (ms : List Move) (s t p q : ℕ) → s < c.graph.states → t < c.graph.states
      → IsIn marks (pair_number c.graph.states s t) → MovesLead c ms s t p q
      → IsIn marks (pair_number c.graph.states p q)
  found_along [] s t p q first second there lead =
      subst (λ (x : ℕ). IsIn marks (pair_number c.graph.states x q)) lead.0
      (subst (λ (y : ℕ). IsIn marks (pair_number c.graph.states s y)) lead.1 there)
  found_along (OfFirst e ∷ ms) s t p q first second there (u, input, step, rest) =
      found_along ms u t p q (step_within c.graph s e u is.graph_is step).2 second
      (closed _ _ there (moved_from s t _ second (inl (e, u, step, (input, refl))))) rest
  found_along (OfSecond e ∷ ms) s t p q first second there (u, input, step, rest) =
      found_along ms s u p q first (step_within c.graph t e u is.graph_is step).2
      (closed _ _ there (moved_from s t _ second (inr (inl (e, u, step, (input, refl)))))) rest
  found_along (OfBoth e ∷ ms) s t p q first second there (u, w, same, driven, step, other, rest) =
      found_along ms u w p q (step_within c.graph s e u is.graph_is step).2
      (step_within c.graph t e w is.graph_is other).2
      (closed _ _ there (moved_from s t _ second (inr (inr (same, (e, u, step, (driven, w, other, refl))))))) rest

  pub all_twins : length marks ≡ c.graph.states * c.graph.states → AreTwinPairs c marks
  all_twins size = record {
    size = size;
    exactly = λ p q first second. (
      λ there. (
          let at = (ended.sound (pair_number c.graph.states p q) there).twins in
          subst (λ (x : ℕ). AreTwins c x q) (div-mul-add p c.graph.states q second)
          (subst (λ (y : ℕ). AreTwins c (pair_number c.graph.states p q / c.graph.states) y)
          (mod-mul-add p c.graph.states q second) at)),
      λ twins. found_along twins.moves twins.source twins.source p q twins.within twins.within
          (ended.begun _ (twins.source, twins.within, refl)) twins.lead,
    );
  }

-- ---- the first conflict of twins
-- no conflict of twins has a number below k
abbrev pub NoneBelow : CodedGraph → ℕ → Type 0
NoneBelow c k = (pair : ℕ × ℕ) → IsTwinConflict c pair → pair_number c.graph.states pair.0 pair.1 < k → ⊥

earlier_rows : (n a b p q : ℕ) → b < n → a < p → pair_number n a b < pair_number n p q
earlier_rows n a b p q below before =
    let next : suc a ≤ p = omega (arith, before) in
    omega (arith, mul-le-mul_right n next, suc-mul a n, below)

before_by_number : (n a b p q : ℕ) → b < n → Before (pair_place (a, b)) (pair_place (p, q))
    → pair_number n a b < pair_number n p q
before_by_number n a b p q below (inl before) = earlier_rows n a b p q below before
before_by_number n a b p q below (inr (same, inl before)) =
    subst (λ (x : ℕ). pair_number n a b < x * n + q) same (omega (arith, before))
before_by_number n a b p q below (inr (same, inr after)) = absurd after.1

pub first_there : (c : CodedGraph) (set : List Bool) (k : ℕ) → AreTwinPairs c set
    → (few : c.graph.states ≤ max_twin_states) → k < c.graph.states * c.graph.states → IsIn set k
    → IsConflict c (k / c.graph.states, k % c.graph.states) → NoneBelow c k
    → IsFirstTwinOrNone c (Some (k / c.graph.states, k % c.graph.states))
first_there c set k are few below there conflict none = (
  few,
  record {
    holds = record { conflict = conflict; twins = (are.exactly s t first second).0 (subst (IsIn set) (sym number) there) };
    none_before = λ pair twin before. none pair twin
        (subst (λ (x : ℕ). pair_number n pair.0 pair.1 < x) number
        (before_by_number n pair.0 pair.1 s t twin.conflict.within before));
  },
)
  where
    n : ℕ
    n = c.graph.states

    s : ℕ
    s = k / n

    t : ℕ
    t = k % n

    first : s < n
    first = first_below n k below

    second : t < n
    second = second_below n k below

    number : pair_number n s t ≡ k
    number = omega (arith, div-add-mod k n, mul_comm s n)

pub none_at : (c : CodedGraph) (set : List Bool) (k : ℕ) → AreTwinPairs c set → NoneBelow c k
    → (IsIn set k → IsConflict c (k / c.graph.states, k % c.graph.states) → ⊥) → NoneBelow c (k + 1)
none_at c set k are none not_here pair twin below = elim (cases_eq (pair_number n pair.0 pair.1) k) [
  | inl same ↦ not_here
      (subst (IsIn set) same ((are.exactly pair.0 pair.1 (first twin.conflict) twin.conflict.within).1 twin.twins))
      (subst (λ (x : ℕ). IsConflict c (x / n, x % n)) same
      (subst (λ (y : ℕ). IsConflict c (y, pair_number n pair.0 pair.1 % n))
      (sym (div-mul-add pair.0 n pair.1 twin.conflict.within))
      (subst (λ (z : ℕ). IsConflict c (pair.0, z)) (sym (mod-mul-add pair.0 n pair.1 twin.conflict.within))
      twin.conflict)))
  | inr other ↦ none pair twin (omega (arith, below))
]
  where
    n : ℕ
    n = c.graph.states

    first : IsConflict c pair → pair.0 < n
    first conflict = omega (arith, conflict.order, conflict.within)

pub none_of_all : (c : CodedGraph) (k : ℕ) → c.graph.states * c.graph.states ≤ k → NoneBelow c k
    → (pair : ℕ × ℕ) → IsTwinConflict c pair → ⊥
none_of_all c k all none pair twin =
    none pair twin (omega (
      arith,
      all,
      pair_below c.graph.states pair.0 pair.1
          (omega (arith, twin.conflict.order, twin.conflict.within)) twin.conflict.within,
    ))
