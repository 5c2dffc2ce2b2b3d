use Rattle.std.proofs.Common.{◌<◌, ◌∙◌, All, arith, length, sym, ap, subst}
use Rattle.si_base.specs.declared.ids.Event.{Event}
use Rattle.si_base.specs.Codes.{CodedGraph}
use Rattle.si_base.specs.Graph.{StateGraph}
use Rattle.si_same.specs.Same.{difference_of}
use Rattle.si_likeness.proofs.SameLemmas.{from_start, is_shown}
use Rattle.si_likeness.proofs.same.likeness.Goals as goal

pub unlike-requires-clause-one : goal.unlike-requires-clause-one
unlike-requires-clause-one c =
    let first = rw (c.in-Some.is, c.coded-3.ensures.same, c.coded-4.ensures.same) at c.in_ok-first_difference.ensures in
    let f = rw c.coded.ensures.same at c.graph-graph.ensures.coded in
    let g = rw c.coded-2.ensures.same at c.graph-other.ensures.coded in
    let shown = is_shown c.args.one.now.graph c.args.other.now.graph (difference_of c.in-Some.found) f.graph_is
    g.graph_is c.requires.lists.signals first.holds in
    omega (arith, shown.one, c.requires.one_named)

pub unlike-requires-clause-other : goal.unlike-requires-clause-other
unlike-requires-clause-other c =
    let first = rw (c.in-Some.is, c.coded-3.ensures.same, c.coded-4.ensures.same) at c.in_ok-first_difference.ensures in
    let f = rw c.coded.ensures.same at c.graph-graph.ensures.coded in
    let g = rw c.coded-2.ensures.same at c.graph-other.ensures.coded in
    let shown = is_shown c.args.one.now.graph c.args.other.now.graph (difference_of c.in-Some.found) f.graph_is
    g.graph_is c.requires.lists.signals first.holds in
    omega (arith, shown.other, c.requires.other_named)

pub unlike-requires-clause-event : goal.unlike-requires-clause-event
unlike-requires-clause-event c =
    let first = rw (c.in-Some.is, c.coded-3.ensures.same, c.coded-4.ensures.same) at c.in_ok-first_difference.ensures in
    let f = rw c.coded.ensures.same at c.graph-graph.ensures.coded in
    let g = rw c.coded-2.ensures.same at c.graph-other.ensures.coded in
    let shown = is_shown c.args.one.now.graph c.args.other.now.graph (difference_of c.in-Some.found) f.graph_is
    g.graph_is c.requires.lists.signals first.holds in
    let same = c.graph-graph.ensures.same ∙ ap (λ (d : CodedGraph). d.graph) c.coded.ensures.same in
    subst (λ (h : StateGraph). c.in-Some.found.event.sig < length h.signals) (sym same) shown.event

pub unlike-requires-clause-walk : goal.unlike-requires-clause-walk
unlike-requires-clause-walk c =
    let first = rw (c.in-Some.is, c.coded-3.ensures.same, c.coded-4.ensures.same) at c.in_ok-first_difference.ensures in
    let f = rw c.coded.ensures.same at c.graph-graph.ensures.coded in
    let g = rw c.coded-2.ensures.same at c.graph-other.ensures.coded in
    let shown = is_shown c.args.one.now.graph c.args.other.now.graph (difference_of c.in-Some.found) f.graph_is
    g.graph_is c.requires.lists.signals first.holds in
    let same = c.graph-graph.ensures.same ∙ ap (λ (d : CodedGraph). d.graph) c.coded.ensures.same in
    subst (λ (h : StateGraph). All (λ (e : Event). e.sig < length h.signals) c.in-Some.found.walk.items) (sym same)
    shown.walk

pub sizes_of-requires : goal.sizes_of-requires
sizes_of-requires c =
    let alike = rw (c.in-None.is, c.coded-3.ensures.same, c.coded-4.ensures.same) at c.in_ok-first_difference.ensures in
    let f = rw c.coded.ensures.same at c.graph-graph.ensures.coded in
    let g = rw c.coded-2.ensures.same at c.graph-other.ensures.coded in
    from_start c.args.one.now c.args.other.now f g c.requires.lists alike
