-- Arcs in order, and walks along arcs of any kind.
use Rattle.std.proofs.Common.{◌≡◌, ℕ, ◌<◌, ◌⊎◌, List, [], ◌∷◌, length, get_or}
use Rattle.std.proofs.Common.{refl, sym, subst, ◌∙◌, inl, inr}
use Rattle.std.specs.declared.cmp.Ordering.{Ordering}
use Rattle.std.specs.declared.cmp.Ordering.TheVariants.{Less, Equal, Greater}
use Rattle.std.specs.List.Sorted.{IsStrictlySortedBy}
use Rattle.std.specs.Ordering.{nat_cmp, ordering_then}
use Rattle.std.proofs.lemmas.Map.Lookups.{exact_unsigned}
use Rattle.si_base.specs.declared.ids.Event.{Event}
use Rattle.si_base.specs.declared.graph.Edge.{Edge}
use Rattle.si_base.specs.EdgeOrder.{event_cmp, edge_cmp}
use Rattle.si_base.specs.Graph.{StateGraph, Walk}
use Rattle.si_base.specs.Order.{Before}
use Rattle.si_base.proofs.OrderAscending.{nat_less, sorted_at}
use Rattle.si_checks.proofs.ForkOrder.{event_order}
use Rattle.si_told.specs.All.{arc_place}
use Rattle.si_walks.specs.Walks.{WalkAlong}
use Rattle.si_walks.specs.declared.arcs.Arcs.TheVariants.{All}

pub walk_of : (g : StateGraph) (s : ℕ) (es : List Event) (t : ℕ) → WalkAlong g All s es t → Walk g s es t
walk_of g s [] t walk = walk
walk_of g s (e ∷ es) t (u, takes, step, walk) = (u, step, walk_of g u es t walk)

-- ---- arc order
less_then : (o p : Ordering) → ordering_then o p ≡ Less → (o ≡ Less) ⊎ ((o ≡ Equal) × (p ≡ Less))
less_then Less p is = inl refl
less_then Equal p is = inr (refl, is)
less_then Greater p is = absurd (let both : Greater ≡ Less = is in cc)

pub arc_before : (x y : Edge) → edge_cmp x y ≡ Less → Before (arc_place x) (arc_place y)
arc_before x y less = elim (less_then (nat_cmp x.from y.from) _ less) [
  | inl from ↦ inl (nat_less x.from y.from from)
  | inr tied ↦ inr (
    exact_unsigned x.from y.from tied.0,
    elim (less_then (event_cmp x.event y.event) _ tied.1) [
      | inl event ↦ inl (nat_less _ _ (sym (event_order x.event y.event) ∙ event))
      | inr also ↦ inr (
        exact_unsigned _ _ (sym (event_order x.event y.event) ∙ also.0),
        inl (nat_less x.to y.to also.1),
      )
    ],
  )
]

pub arcs_before : (arcs : List Edge) → IsStrictlySortedBy edge_cmp arcs → (i j : ℕ) (d : Edge) → i < j
    → j < length arcs → (x y : Edge) → get_or arcs i d ≡ x → get_or arcs j d ≡ y
    → Before (arc_place x) (arc_place y)
arcs_before arcs sorted i j d before within x y one other =
    let less = arc_before (get_or arcs i d) (get_or arcs j d) (sorted_at edge_cmp arcs sorted i j d before within) in
    subst (λ (b : Edge). Before (arc_place x) (arc_place b)) other
    (subst (λ (a : Edge). Before (arc_place a) (arc_place (get_or arcs j d))) one less)
