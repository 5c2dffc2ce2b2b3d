-- The arcs after which the start can't be reached any more.
use Rattle.std.proofs.Common.{◌≡◌, ℕ, ◌<◌, ◌↔◌, List, [], ◌∷◌, length, get_or, Contains, Option, Some, None}
use Rattle.std.proofs.Common.{◌++◌, IsTrue, refl, sym, subst, is_some}
use Rattle.std.proofs.lemmas.Bool.{true≢false}
use Rattle.std.specs.List.Sorted.{IsStrictlySortedBy}
use Rattle.si_base.specs.declared.graph.Edge.{Edge}
use Rattle.si_base.specs.EdgeOrder.{edge_cmp}
use Rattle.si_base.specs.Graph.{StateGraph, IsGraph}
use Rattle.si_base.specs.Order.{Before}
use Rattle.si_base.proofs.StepCodes.{step_within}
use Rattle.si_carried.specs.Always.{Leads}
use Rattle.si_carried.specs.Lint.{IsOneWay}
use Rattle.si_told.specs.All.{arc_place}
use Rattle.si_told.specs.Loops.Search.{Adds}
use Rattle.si_lint.specs.Loops.Search.{IsLost}
use Rattle.si_told.proofs.Alls.{adds_none, adds_one}
use Rattle.si_told.proofs.ArcOrder.{walk_of, arcs_before}
use Rattle.si_walks.specs.Distances.{IsDistance}
use Rattle.si_walks.specs.declared.arcs.Arcs.TheVariants.{All}
use Rattle.si_walks.proofs.FirstWalks.{along_all}

-- ---- whether the start can be reached
pub leads_told : (g : StateGraph) (s t : ℕ) (o : Option ℕ) → IsDistance g All s t o
    → IsTrue (is_some o) ↔ Leads g s t
leads_told g s t None none = (
  λ is. absurd (true≢false (sym is)),
  λ leads. absurd (none (leads.0, along_all g s leads.0 t leads.1)),
)
leads_told g s t (Some n) is = ((λ told. (is.0.0, walk_of g s is.0.0 t is.0.2)), (λ leads. refl))

-- ---- arc by arc
abbrev pub IsThat : Edge → Edge → Type 0
IsThat b a = b ≡ a

module _ (g : StateGraph) (arcs : List Edge) (is : IsGraph g) (same : arcs ≡ g.edges) where
  pub one_way_order : (i j : ℕ) (d : Edge) → i < j → j < length arcs → (x y : Edge) → IsOneWay g x → IsOneWay g y
      → get_or arcs i d ≡ x → get_or arcs j d ≡ y → Before (arc_place x) (arc_place y)
  one_way_order i j d before within x y p q one other =
      arcs_before arcs (subst (IsStrictlySortedBy edge_cmp) (sym same) is.ordered) i j d before within x y one other

  pub arc_there : (k : ℕ) (a : Edge) → k < length arcs → a ≡ get_or arcs k a → Contains g.edges a
  arc_there k a within at = subst (λ (l : List Edge). Contains l a) same (k, within, sym at)

  pub arc_within : (k : ℕ) (a : Edge) → k < length arcs → a ≡ get_or arcs k a
      → (a.from < g.states) × (a.event.sig < length g.signals) × (a.to < g.states)
  arc_within k a within at = step_within g a.from a.event a.to is (arc_there k a within at)

  pub one_way_here : (k : ℕ) (a : Edge) (old new : List Edge) → k < length arcs → a ≡ get_or arcs k a → IsLost g a
      → new ≡ old ++ a ∷ [] → Adds arc_place (λ b. IsOneWay g b × (a ≡ b)) old new
  one_way_here k a old new within at lost pushed =
      adds_one arc_place (λ b. IsOneWay g b × (a ≡ b)) old new a
      (record { step = arc_there k a within at; back = lost.0; lost = lost.1 }, refl) (λ b also. also.1) pushed

  pub one_way_pass : (a : Edge) (old : List Edge) → (IsLost g a → ⊥)
      → Adds arc_place (λ b. IsOneWay g b × (a ≡ b)) old old
  one_way_pass a old kept = adds_none arc_place (λ b. IsOneWay g b × (a ≡ b)) old
      (λ b also. kept (subst (IsLost g) (sym also.1) (also.0.back, also.0.lost)))

  pub one_way_each : (a : Edge) → IsOneWay g a → (b : Edge) × Contains arcs b × (b ≡ a)
  one_way_each a way = (a, subst (λ (l : List Edge). Contains l a) (sym same) way.step, refl)
