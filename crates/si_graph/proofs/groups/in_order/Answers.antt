use Rattle.std.proofs.Common.{Bool, rules}
use Rattle.std.specs.Ordering.{is_lt}
use Rattle.std.proofs.lemmas.Fn.{always_returns_same}
use Rattle.std.proofs.lemmas.List.Filters.{dedup_is}
use Rattle.std.proofs.lemmas.List.Kept.{IsStrictlySortedBy-dedup}
use Rattle.si_base.specs.declared.graph.Edge.{Edge}
use Rattle.si_base.specs.EdgeOrder.{edge_cmp}
use Rattle.si_base.proofs.GivenGraphUnique.{edges_total}
use Rattle.si_graph.proofs.ArcFacts.{edge_ties}
use Rattle.si_graph.proofs.GroupLemmas.{once_in_order, ordered_already}
use Rattle.si_graph.proofs.groups.in_order.Goals as goal

pub returns-then-is_sorted_by : goal.returns-then-is_sorted_by
returns-then-is_sorted_by c =
    let comes_before : Edge → Edge → Bool = λ a b. is_lt (edge_cmp a b) in
    let rising = c.if-is_sorted_by.ensures.cases comes_before
    (always_returns_same _ _ _ (λ a r f called. search rules)) in
    ordered_already _ (rw c.deref.ensures.value at rising)

pub returns : goal.returns
returns c =
    let is = dedup_is _ _ _ c.dedup.ensures.filtered in
    let same = rw c.as_slice.ensures.value at c.in_ok-ordered.ensures in
    rw is (once_in_order _ _ _ same c.sort_unstable.ensures.permutation
    (IsStrictlySortedBy-dedup edges_total edge_ties _ c.sort_unstable.ensures.sorted))
