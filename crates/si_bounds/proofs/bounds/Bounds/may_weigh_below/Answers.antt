use Rattle.std.proofs.Common.{◌∙◌, All, Option, sym, subst}
use Rattle.std.specs.Prelude.{IfSome}
use Rattle.std.proofs.lemmas.Bool.{ltb-false}
use Rattle.si_bounds.specs.declared.unfit.Unfit.{Unfit}
use Rattle.si_bounds.specs.Loops.Least.{AreLeast}
use Rattle.si_bounds.specs.Loops.Unfit.{IsUnfitOfSize}
use Rattle.si_bounds.proofs.BoundLemmas.{all_of_graph, told_least}
use Rattle.si_bounds.proofs.KeptLemmas.{told_bound}
use Rattle.si_bounds.proofs.LeastLemmas.{bounded}
use Rattle.si_bounds.proofs.bounds.Bounds.may_weigh_below.Goals as goal

pub least_weights-requires-clause-size : goal.least_weights-requires-clause-size
least_weights-requires-clause-size c =
    let (library, are) = c.requires.bounds in
    let states = c.requires.lawful.count in
    let sized = c.in_ok-high.ensures.high_count ∙ states in
    subst (λ n. All (λ (o : Option Unfit). IfSome o (IsUnfitOfSize n)) c.args.self.now.unfit.items) (sym sized)
    (all_of_graph c.args.graph.now library c.args.self.now are)

pub returns-then-sum_without-bar : goal.returns-then-sum_without-bar
returns-then-sum_without-bar c = λ is library are.
    (let d = c.args.graph.now in
    let told = told_least d library c.args.self.now are c.args.classes.now c.in_ok-high.high c.in_ok-high.low
    c.in_ok-high.ensures c.args.waiting c.requires.waits c.in_ok-least.least.items c.in_ok-least.ensures in
    let least = subst (AreLeast d library c.args.classes.now) (sym c.deref.ensures.value) told in
    bounded d library c.args.classes.now c.deref.result.now c.args.waiting c.sum_without.result c.args.bar
    c.requires.lawful least c.requires.never c.sum_without.ensures c.if-sum_without-bar.true)

pub returns : goal.returns
returns c = λ is library are.
    (let d = c.args.graph.now in
    let told = told_least d library c.args.self.now are c.args.classes.now c.in_ok-high.high c.in_ok-high.low
    c.in_ok-high.ensures c.args.waiting c.requires.waits c.in_ok-least.least.items c.in_ok-least.ensures in
    let least = subst (AreLeast d library c.args.classes.now) (sym c.deref-2.ensures.value) told in
    told_bound d library c.args.classes.now c.deref-2.result.now c.args.self.now.most c.args.waiting
    c.graph-given.ensures.coded c.requires.lawful least are.few c.requires.never c.requires.waits
    c.sum_with.result c.args.bar c.sum_with.ensures
    (ltb-false c.sum_with.result c.args.bar is))
