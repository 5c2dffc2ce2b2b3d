use Rattle.std.proofs.Common.{◌≡◌, ◌<◌, ◌∙◌, ap, arith, length, get_or}
use Rattle.si_graph.proofs.CutLemmas.{new_arcs, new_arcs_are, new_arcs_few, new_arcs_inside, place_read, start_within}
use Rattle.si_graph.proofs.CutLemmas.{made_is_cut, whole_is_cut, cut_connected}
use Rattle.si_graph.proofs.graph.Graph.cut.Goals as goal

pub returns-then-len-states-clause-cut : goal.returns-then-len-states-clause-cut
returns-then-len-states-clause-cut c =
    whole_is_cut c.args.self c.arcs-arcs.ensures.graph c.in_ok-reached.reached c.in_ok-kept.field-0.kept.items
    c.in_ok-kept.field-0.places.items c.in_ok-kept.ensures c.in_ok-reached.ensures.exactly
    (omega (arith, c.len.ensures, c.states.ensures, c.if-len-states.true, c.in_ok-kept.field-0.kept.ok))
    c.in_ok-reached.ensures.size

pub returns-then-len-states-clause-connected : goal.returns-then-len-states-clause-connected
returns-then-len-states-clause-connected c =
    cut_connected c.args.self c.in_ok-kept.field-0.kept.items c.args.self (returns-then-len-states-clause-cut c)

pub make-requires-clause-kinds : goal.make-requires-clause-kinds
make-requires-clause-kinds c = rw c.into_signals.ensures c.arcs-arcs.ensures.graph.kinds

pub make-requires-clause-few_edges : goal.make-requires-clause-few_edges
make-requires-clause-few_edges c =
    let g = c.args.self in
    let marks = c.in_ok-reached.reached in
    let places = c.in_ok-kept.field-0.places.items in
    let arcs : c.in_ok-renamed.renamed.items ≡ new_arcs g marks places =
    new_arcs_are g marks places _ _ _ c.in_ok-renamed.ensures c.arcs-arcs.ensures.arcs c.deref.ensures.value in
    omega (arith, ap length arcs, new_arcs_few g marks places, c.arcs-arcs.ensures.graph.few_edges)

pub make-requires-clause-within : goal.make-requires-clause-within
make-requires-clause-within c =
    let g = c.args.self in
    let marks = c.in_ok-reached.reached in
    let kept = c.in_ok-kept.field-0.kept.items in
    let places = c.in_ok-kept.field-0.places.items in
    let arcs : c.in_ok-renamed.renamed.items ≡ new_arcs g marks places =
    new_arcs_are g marks places _ _ _ c.in_ok-renamed.ensures c.arcs-arcs.ensures.arcs c.deref.ensures.value in
    let count : c.len-states.result ≡ length kept = omega (arith, c.len-states.ensures, c.in_ok-kept.field-0.kept.ok) in
    let signals : c.into_signals.result.items ≡ g.signals = c.into_signals.ensures in
    rw (arcs, count, signals) (new_arcs_inside g c.arcs-arcs.ensures.graph marks kept places c.in_ok-kept.ensures
    c.in_ok-reached.ensures.exactly)

pub make-requires-clause-start : goal.make-requires-clause-start
make-requires-clause-start c =
    let g = c.args.self in
    let marks = c.in_ok-reached.reached in
    let kept = c.in_ok-kept.field-0.kept.items in
    let places = c.in_ok-kept.field-0.places.items in
    let within : g.start < length places =
    omega (arith, c.in_ok-kept.ensures.size, c.in_ok-reached.ensures.size, c.arcs-arcs.ensures.graph.starts) in
    let start : c.index-start.result.now ≡ get_or places g.start 0 =
    place_read places _ g.start _ (c.index.view_is ∙ c.start.ensures) within c.index-start.ensures in
    let low : get_or places g.start 0 < length kept =
    start_within g c.arcs-arcs.ensures.graph marks kept places c.in_ok-kept.ensures c.in_ok-reached.ensures.exactly in
    rw start (omega (arith, low, c.len-states.ensures, c.in_ok-kept.field-0.kept.ok))

pub returns-clause-cut : goal.returns-clause-cut
returns-clause-cut c =
    let g = c.args.self in
    let marks = c.in_ok-reached.reached in
    let kept = c.in_ok-kept.field-0.kept.items in
    let places = c.in_ok-kept.field-0.places.items in
    let arcs : c.in_ok-renamed.renamed.items ≡ new_arcs g marks places =
    new_arcs_are g marks places _ _ _ c.in_ok-renamed.ensures c.arcs-arcs.ensures.arcs c.deref.ensures.value in
    let count : c.len-states.result ≡ length kept = omega (arith, c.len-states.ensures, c.in_ok-kept.field-0.kept.ok) in
    let signals : c.into_signals.result.items ≡ g.signals = c.into_signals.ensures in
    let within : g.start < length places =
    omega (arith, c.in_ok-kept.ensures.size, c.in_ok-reached.ensures.size, c.arcs-arcs.ensures.graph.starts) in
    let start : c.index-start.result.now ≡ get_or places g.start 0 =
    place_read places _ g.start _ (c.index.view_is ∙ c.start.ensures) within c.index-start.ensures in
    let made = rw (signals, count, arcs, start) at c.in_ok-graph.ensures in
    made_is_cut g c.arcs-arcs.ensures.graph marks kept places c.in_ok-kept.ensures
    c.in_ok-reached.ensures.exactly c.in_ok-graph.graph made

pub returns-clause-connected : goal.returns-clause-connected
returns-clause-connected c =
    cut_connected c.args.self c.in_ok-kept.field-0.kept.items c.in_ok-graph.graph (returns-clause-cut c)
