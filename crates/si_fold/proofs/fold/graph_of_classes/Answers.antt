use Rattle.std.proofs.Common.{◌≡◌, ◌∙◌, sym, subst}
use Rattle.std.proofs.lemmas.Result.{IfOk-weaker}
use Rattle.si_base.specs.Codes.{CodedGraph}
use Rattle.si_fold.specs.Folded.{IsFolded}
use Rattle.si_fold.proofs.FoldLemmas.{folded_is_coded}
use Rattle.si_fold.proofs.FoldedGraph.{kept_within, some_kept, copied_arcs, copied_folded, copied_kinds, copied_start}
use Rattle.si_fold.proofs.fold.graph_of_classes.Goals as goal

pub make-requires-clause-some_state : goal.make-requires-clause-some_state
make-requires-clause-some_state c =
    some_kept c.args.coded.now c.graph-given.ensures.coded c.args.kept.now c.args.class.now c.requires.classes

pub make-requires-clause-kinds : goal.make-requires-clause-kinds
make-requires-clause-kinds c =
    let given = c.graph-given.ensures in
    copied_kinds c.args.coded.now given.coded c.args.kept.now c.args.class.now c.requires.classes _ given.same
    c.in_ok-signals.signals.items c.in_ok-signals.ensures

pub make-requires-clause-within : goal.make-requires-clause-within
make-requires-clause-within c =
    let given = c.graph-given.ensures in
    copied_arcs c.args.coded.now given.coded c.args.kept.now c.args.class.now c.requires.classes _ given.same
    c.in_ok-signals.signals.items c.in_ok-arcs.arcs.items c.in_ok-signals.ensures c.in_ok-arcs.ensures

pub make-requires-clause-start : goal.make-requires-clause-start
make-requires-clause-start c =
    let given = c.graph-given.ensures in
    copied_start c.args.coded.now given.coded c.args.kept.now c.args.class.now c.requires.classes _ given.same
    c.start-2.inside.0 c.index-class-start.result (c.start-2.view_is ∙ c.start.ensures) c.index-class-start.is

pub codes_of-requires : goal.codes_of-requires
codes_of-requires c =
    kept_within c.args.coded.now c.args.kept.now c.args.class.now c.requires.classes

pub known-requires : goal.known-requires
known-requires c =
    let coded = c.args.coded.now in
    let kept = c.args.kept.now in
    let class = c.args.class.now in
    let given = c.graph-given.ensures in
    folded_is_coded coded _ kept class given.coded
    (copied_folded coded given.coded kept class c.requires.classes _ given.same c.in_ok-signals.signals.items
    c.in_ok-arcs.arcs.items c.start-2.inside.0 c.index-class-start.result c.in_ok-graph.graph
    c.in_ok-codes.codes.items c.in_ok-signals.ensures c.in_ok-arcs.ensures (c.start-2.view_is ∙ c.start.ensures)
    c.index-class-start.is c.in_ok-graph.ensures c.in_ok-codes.ensures)

pub returns : goal.returns
returns c =
    let coded = c.args.coded.now in
    let kept = c.args.kept.now in
    let class = c.args.class.now in
    let given = c.graph-given.ensures in
    let folded = copied_folded coded given.coded kept class c.requires.classes _ given.same
    c.in_ok-signals.signals.items c.in_ok-arcs.arcs.items c.start-2.inside.0 c.index-class-start.result
    c.in_ok-graph.graph c.in_ok-codes.codes.items c.in_ok-signals.ensures c.in_ok-arcs.ensures
    (c.start-2.view_is ∙ c.start.ensures) c.index-class-start.is c.in_ok-graph.ensures c.in_ok-codes.ensures in
    let made : CodedGraph = record { graph = c.in_ok-graph.graph; codes = c.in_ok-codes.codes.items } in
    IfOk-weaker c.known.result (λ x. x ≡ made) (IsFolded coded kept class)
    (λ x same. subst (IsFolded coded kept class) (sym same) folded) c.known.ensures
