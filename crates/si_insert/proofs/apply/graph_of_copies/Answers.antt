use Rattle.std.proofs.Common.{◌++◌, ◌∷◌, [], ◌≤◌, sym, subst, List, AllPairs}
use Rattle.si_base.specs.declared.graph.Signal.{Signal}
use Rattle.si_base.specs.Graph.{kind_place}
use Rattle.si_insert.specs.Accepted.{copy_count}
use Rattle.si_insert.specs.Insertion.{new_signal}
use Rattle.si_insert.specs.GraphOfCopies.{new_edges}
use Rattle.si_insert.proofs.ApplyLemmas.{arcs_within}
use Rattle.si_insert.proofs.apply.graph_of_copies.Goals as goal

pub make-requires-clause-kinds : goal.make-requires-clause-kinds
make-requires-clause-kinds c =
    let P : List Signal → Type 0 = λ xs. AllPairs (λ x y. kind_place x.kind ≤ kind_place y.kind) xs in
    subst P (sym c.in_ok-signals.ensures) c.requires.conditions.kinds

pub make-requires-clause-within : goal.make-requires-clause-within
make-requires-clause-within c =
    let g = c.args.graph.now in
    let p = c.args.classes.now in
    arcs_within (copy_count p) c.count_copies.result c.in_ok-edges.edges.items (new_edges g p)
    (g.signals ++ new_signal c.args.name.now ∷ []) c.in_ok-signals.signals.items
    c.in_ok-edges.ensures.all c.count_copies.ensures c.in_ok-signals.ensures c.requires.conditions.within
