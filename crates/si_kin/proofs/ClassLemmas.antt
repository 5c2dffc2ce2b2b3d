-- Classes of kin: trees that are joined along all input arcs.
use Rattle.std.proofs.Common.{◌≡◌, ℕ, ◌+◌, ◌<◌, ◌≤◌, ◌∙◌, List, [], ◌∷◌, length, get_or, sym, ap, subst}
use Rattle.std.proofs.Common.{arith, inl, inr}
use Rattle.std.proofs.Common.{◌↔◌, Bool, true, false, not, IsTrue, refl}
use Rattle.std.proofs.lemmas.Bool.{cases_eq, true≢false}
use Rattle.si_base.specs.declared.graph.Signal.{Signal}
use Rattle.std.proofs.lemmas.List.{get_or_default}
use Rattle.si_base.specs.declared.graph.Edge.{Edge}
use Rattle.si_base.specs.declared.ids.Event.{Event}
use Rattle.si_base.specs.Codes.{CodedGraph, IsCoded}
use Rattle.si_base.specs.Graph.{IsNonInput, StateGraph, Step, arc}
use Rattle.si_graph.specs.Loops.Arcs.{edge_at, no_edge}
use Rattle.si_insert.specs.Accepted.{IsInput}
use Rattle.si_kin.specs.Kin.{AreKin, AreKinClasses, AreNext, RowTo}
use Rattle.si_kin.specs.Loops.Forest.{AreJoined, AreOfKin, AreOrdered, AreSettledTo}
use Rattle.si_kin.specs.Loops.Forest.{IsSettledTo, Joins, KeepsLabels, parent}
use Rattle.si_walks.proofs.WalkEvents.{input_if_not_driven, input_not_driven}
use Rattle.si_kin.proofs.KinRows.{kin_back, kin_next, kin_on, kin_self}

-- the ends of each of the first n arcs that is by an input are of one tree
abbrev pub AreJoinedTo : StateGraph → ℕ → List ℕ → Type 0
AreJoinedTo g n parents = (j : ℕ) → j < n → IsInput g.signals (edge_at g.edges j).event.sig
    → AreJoined parents (edge_at g.edges j).from (edge_at g.edges j).to

pub joined_still : (g : StateGraph) (n : ℕ) (old new : List ℕ) → KeepsLabels old new → AreJoinedTo g n old
    → AreJoinedTo g n new
joined_still g n old new keeps joined j below input label is = joined j below input label (keeps label is)

-- one arc more
pub joined_more : (g : StateGraph) (n : ℕ) (a : Edge) (new : List ℕ) → n < length g.edges → a ≡ get_or g.edges n a
    → (IsInput g.signals a.event.sig → AreJoined new a.from a.to) → AreJoinedTo g n new → AreJoinedTo g (n + 1) new
joined_more g n a new inside at one joined j below = elim (cases_eq j n) [
  | inl same ↦ (
      let is : edge_at g.edges j ≡ a =
      ap (λ (k : ℕ). edge_at g.edges k) same ∙ get_or_default g.edges n no_edge a inside ∙ sym at in
      subst (λ (x : Edge). IsInput g.signals x.event.sig → AreJoined new x.from x.to) (sym is) one)
  | inr other ↦ joined j (omega (arith, below, other))
]

-- ---- the classes
module _ (c : CodedGraph) (classes : List ℕ) (size : length classes ≡ c.graph.states)
    (settled : AreSettledTo classes (length classes)) (of_kin : AreOfKin c classes)
    (joined : AreJoinedTo c.graph (length c.graph.edges) classes) where
  abbrev class : ℕ → ℕ
  class s = get_or classes s 0

  same_by_step : (e : Event) (s t : ℕ) → IsInput c.graph.signals e.sig → Step c.graph s e t → class s ≡ class t
  same_by_step e s t input (k, inside, at) =
      let is : edge_at c.graph.edges k ≡ arc s e t = get_or_default c.graph.edges k no_edge (arc s e t) inside ∙ at in
      subst (λ (x : Edge). IsInput c.graph.signals x.event.sig → AreJoined classes x.from x.to) is
      (joined k inside) input class settled

  same_next : (s t : ℕ) → AreNext c s t → class s ≡ class t
  same_next s t (e, input, inl step) = same_by_step e s t input step
  same_next s t (e, input, inr step) = sym (same_by_step e t s input step)

  same_row : (s : ℕ) (row : List ℕ) (t : ℕ) → RowTo c s row t → class s ≡ class t
  same_row s [] t same = ap class same
  same_row s (u ∷ row) t (next, later) = same_next s u next ∙ same_row u row t later

  pub classes_are : AreKinClasses c classes
  classes_are = record {
    count = size;
    exactly = λ s t one other. (
      λ same. kin_on c s (class s) t (of_kin s (omega (arith, one, size)))
          (subst (λ (x : ℕ). AreKin c x t) (sym same) (kin_back c t (class t) (of_kin t (omega (arith, other, size))))),
      λ kin. same_row s kin.0 t kin.1,
    );
  }

-- ---- arc after arc
pub input_told : (signals : List Signal) (z : ℕ) (driven : Bool) → z < length signals
    → IsTrue driven ↔ IsNonInput signals z → IsTrue (not driven) ↔ IsInput signals z
input_told signals z true within tells = (
  λ never. absurd (true≢false (sym never)),
  λ input. absurd (input_not_driven signals z input (tells.0 refl)),
)
input_told signals z false within tells =
    (λ _. input_if_not_driven signals z within (λ is. true≢false (sym (tells.1 is))), λ _. refl)

-- the trees are joined along the first n arcs
pub record AreJoinedAlong (c : CodedGraph) (n : ℕ) (parents : List ℕ) : Type 0 where
  pub size : length parents ≡ c.graph.states
  pub order : AreOrdered parents
  pub of_kin : AreOfKin c parents
  pub joined : AreJoinedTo c.graph n parents

pub none_joined : (c : CodedGraph) (parents : List ℕ) → length parents ≡ c.graph.states
    → ((s : ℕ) → s < length parents → parent parents s ≡ s) → AreJoinedAlong c 0 parents
none_joined c parents size own = record {
  size = size;
  order = λ s inside. (let at = own s inside in omega (arith, at));
  of_kin = λ s inside. subst (λ (x : ℕ). AreKin c s x) (sym (own s inside)) (kin_self c s);
  joined = λ j below. absurd (omega (arith, below));
}

module _ (c : CodedGraph) (is : IsCoded c) (n : ℕ) (a : Edge) (old : List ℕ) (inside : n < length c.graph.edges)
    (at : a ≡ get_or c.graph.edges n a) (so_far : AreJoinedAlong c n old) where
  step : Step c.graph a.from a.event a.to
  step = (n, inside, sym at)

  pub joined_along : (new : List ℕ) → IsInput c.graph.signals a.event.sig → Joins old a.from a.to new
      → AreJoinedAlong c (n + 1) new
  joined_along new input joins = record {
    size = joins.size ∙ so_far.size;
    order = joins.order;
    of_kin = joins.kin c (kin_next c a.from a.to (a.event, input, inl step)) so_far.of_kin;
    joined = joined_more c.graph n a new inside at (λ _. joins.joined)
        (joined_still c.graph n old new joins.labels so_far.joined);
  }

  pub passed_by : (IsInput c.graph.signals a.event.sig → ⊥) → AreJoinedAlong c (n + 1) old
  passed_by driven = record {
    size = so_far.size;
    order = so_far.order;
    of_kin = so_far.of_kin;
    joined = joined_more c.graph n a old inside at
        (λ input. absurd (driven input)) so_far.joined;
  }

pub all_joined : (c : CodedGraph) (n : ℕ) (old new : List ℕ) → length c.graph.edges ≤ n → AreJoinedAlong c n old
    → IsSettledTo old (length old) new → AreKinClasses c new
all_joined c n old new all so_far is =
    classes_are c new (is.size ∙ so_far.size) (subst (AreSettledTo new) (sym is.size) is.settled)
    (is.kin c so_far.of_kin) (λ j below input. (
    let kept = joined_still c.graph n old new is.labels so_far.joined in kept j (omega (arith, below, all)) input))
