-- The answers of `accept`, over the copies of its arguments that its calls hand out.
use Rattle.std.proofs.Common.{◌≡◌, ◌≤◌, List, length, sym, ap, subst, subst₂, ◌∙◌, arith}
use Rattle.si_base.specs.declared.graph.Edge.{Edge}
use Rattle.si_base.specs.Order.{IsFirst}
use Rattle.si_base.specs.Limits.{max_states}
use Rattle.si_base.specs.Graph.{StateGraph, arc}
use Rattle.si_base.specs.Codes.{CodedGraph, IsCoded, IsDeterministic}
use Rattle.si_base.specs.Proper.{IsProper, loss_place}
use Rattle.si_insert.specs.declared.partition.Class.{Class}
use Rattle.si_insert.specs.Partition.{IsLawful, edge_place}
use Rattle.si_insert.specs.Accepted.{DelaysNoInput, StaysProper, Delays, delay_place, LosesAtCopy}
use Rattle.si_insert.specs.Loops.Pairs.{ArcWaits, PairBreaks, ArcBreaks}
use Rattle.si_insert.proofs.PairTests.{first_waiting, first_broken, arc_of_delay, arc_of_loss}
use Rattle.si_insert.proofs.AcceptedLosses.{no_delay, proper_if_none}
use Rattle.si_insert.proofs.AcceptedByTests.{first_delay, first_loss}

-- k and g are what the calls hand out of m, and xs of p
pub record Handed (m k : CodedGraph) (g : StateGraph) (p xs : List Class) : Type 0 where
  pub same : k ≡ m
  pub graph : g ≡ k.graph
  pub classes : xs ≡ p
  pub coded : IsCoded k
  pub proper : IsProper m.graph
  pub lawful : IsLawful m.graph p

pub is_coded : (m k : CodedGraph) (g : StateGraph) (p xs : List Class) → Handed m k g p xs → IsCoded m
is_coded m k g p xs h = subst IsCoded h.same h.coded

pub graph_is : (m k : CodedGraph) (g : StateGraph) (p xs : List Class) → Handed m k g p xs → g ≡ m.graph
graph_is m k g p xs h = h.graph ∙ ap (λ (c : CodedGraph). c.graph) h.same

pub delay_is : (m k : CodedGraph) (g : StateGraph) (p xs : List Class) (a : Edge) → Handed m k g p xs
    → IsFirst edge_place (ArcWaits g xs) a → IsFirst delay_place (Delays m.graph p) (record { s = a.from; e = a.event })
delay_is m k g p xs a h first =
    let is = is_coded m k g p xs h in
    let P : StateGraph → List Class → Type 0 = λ j ys. IsFirst edge_place (ArcWaits j ys) a in
    first_delay m.graph p (record { s = a.from; e = a.event }) is.graph_is is.deterministic h.lawful
    (first_waiting m.graph p a (subst₂ P (graph_is m k g p xs h) h.classes first))

pub none_delayed : (m k : CodedGraph) (g : StateGraph) (p xs : List Class) → Handed m k g p xs
    → ((a : Edge) → ArcWaits g xs a → ⊥) → DelaysNoInput m.graph p
none_delayed m k g p xs h none =
    let is = is_coded m k g p xs h in
    let P : StateGraph → List Class → Type 0 = λ j ys. (a : Edge) → ArcWaits j ys a → ⊥ in
    let no = subst₂ P (graph_is m k g p xs h) h.classes none in
    no_delay m.graph p is.graph_is h.lawful (λ d w. no (arc d.s d.e w.to) (arc_of_delay m.graph p d w))

pub loss_is : (m k : CodedGraph) (g : StateGraph) (p xs : List Class) (a b : Edge) → Handed m k g p xs
    → IsFirst edge_place (ArcBreaks g xs) a → IsFirst edge_place (PairBreaks g xs a) b
    → IsFirst loss_place (LosesAtCopy m.graph p) (record { s = a.from; lost = a.event; by = b.event })
loss_is m k g p xs a b h first second =
    let is = is_coded m k g p xs h in
    let P : StateGraph → List Class → Type 0 = λ j ys. IsFirst edge_place (ArcBreaks j ys) a in
    let Q : StateGraph → List Class → Type 0 = λ j ys. IsFirst edge_place (PairBreaks j ys a) b in
    first_loss m p (record { s = a.from; lost = a.event; by = b.event }) is h.proper h.lawful
    (first_broken m.graph p a b is.deterministic (subst₂ P (graph_is m k g p xs h) h.classes first)
    (subst₂ Q (graph_is m k g p xs h) h.classes second))

pub none_lost : (m k : CodedGraph) (g : StateGraph) (p xs : List Class) → Handed m k g p xs
    → ((a : Edge) → ArcBreaks g xs a → ⊥) → StaysProper m.graph p
none_lost m k g p xs h none =
    let P : StateGraph → List Class → Type 0 = λ j ys. (a : Edge) → ArcBreaks j ys a → ⊥ in
    let no = subst₂ P (graph_is m k g p xs h) h.classes none in
    proper_if_none m p (is_coded m k g p xs h) h.proper h.lawful
    (λ y w. no (arc y.s y.lost w.t) (arc_of_loss m.graph p y w))

pub one_way : (k : CodedGraph) (g : StateGraph) → g ≡ k.graph → IsCoded k → IsDeterministic g
one_way k g same is = subst IsDeterministic (sym same) is.deterministic

pub few_classes : (m k : CodedGraph) (g : StateGraph) (p xs : List Class) → Handed m k g p xs → length xs ≤ max_states
few_classes m k g p xs h =
    let is = is_coded m k g p xs h in
    let size = ap (length {A = Class}) h.classes in
    omega (arith, is.graph_is.few_states, size, h.lawful.count)
