-- Graphs behave alike just where they can go the same walks, so to behave alike is an equivalence.
use Rattle.std.proofs.Common.{◌↔◌, List, Option, Some, None}
use Rattle.si_base.specs.declared.ids.Event.{Event}
use Rattle.si_base.specs.Codes.{CodedGraph, IsCoded}
use Rattle.si_same.specs.Same.{BehaveAlike, Difference, IsFirstDifferenceOrNone}
use Rattle.si_same.specs.Laws.{CanGo}
use Rattle.si_same.proofs.AlikeWalks.{goes_too, alike_back, no_difference_of_walks}
use Rattle.si_same.proofs.SearchDecided.{some_answer}

alike_of_walks : (c d : CodedGraph) → IsCoded c → IsCoded d → ((es : List Event) → CanGo c.graph es → CanGo d.graph es)
    → ((es : List Event) → CanGo d.graph es → CanGo c.graph es) → BehaveAlike c.graph d.graph
alike_of_walks c d is_c is_d forth back =
    let found =
    some_answer c.graph d.graph is_c.graph_is is_d.graph_is is_c.deterministic is_d.deterministic in
    none found.0 found.1
  where
    none : (found : Option Difference) → IsFirstDifferenceOrNone c.graph d.graph found → BehaveAlike c.graph d.graph
    none None is = is
    none (Some x) is =
        absurd (no_difference_of_walks c.graph d.graph is_c.deterministic is_d.deterministic forth back x is.holds)

pub walks_tell : (c d : CodedGraph) → IsCoded c → IsCoded d
    → BehaveAlike c.graph d.graph ↔ ((es : List Event) → CanGo c.graph es ↔ CanGo d.graph es)
walks_tell c d is_c is_d = (
  λ alike es. (
    λ walk. goes_too c.graph d.graph alike es walk,
    λ walk. goes_too d.graph c.graph (alike_back c.graph d.graph alike) es walk,
  ),
  λ same. alike_of_walks c d is_c is_d (λ es. (same es).0) (λ es. (same es).1),
)

pub alike_itself : (c : CodedGraph) → IsCoded c → BehaveAlike c.graph c.graph
alike_itself c is = alike_of_walks c c is is (λ es walk. walk) (λ es walk. walk)

pub alike_through : (c d e : CodedGraph) → IsCoded c → IsCoded d → IsCoded e → BehaveAlike c.graph d.graph
    → BehaveAlike d.graph e.graph → BehaveAlike c.graph e.graph
alike_through c d e is_c is_d is_e one other =
    alike_of_walks c e is_c is_e
    (λ es walk. goes_too d.graph e.graph other es (goes_too c.graph d.graph one es walk))
    (λ es walk. goes_too d.graph c.graph (alike_back c.graph d.graph one) es
    (goes_too e.graph d.graph (alike_back d.graph e.graph other) es walk))
