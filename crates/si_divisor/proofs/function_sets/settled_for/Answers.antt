use Rattle.std.proofs.Common.{◌∙◌, ap, subst}
use Rattle.si_base.specs.Codes.{CodedGraph, IsCoded}
use Rattle.si_divisor.proofs.ManyFunctionLemmas.{are_settled_words}
use Rattle.si_divisor.proofs.function_sets.settled_for.Goals as goal

pub returns-clause-settled : goal.returns-clause-settled
returns-clause-settled c =
    let same = c.graph-g.ensures.same ∙ ap (λ (d : CodedGraph). d.graph) c.coded.ensures.same in
    let is = subst IsCoded c.coded.ensures.same c.graph-g.ensures.coded in
    let held = rw (c.deref.ensures.value, c.deref-2.ensures.value) at c.in_ok-held.ensures in
    let all = rw (c.signals.ensures, same) at c.in_ok-passes.ensures in
    let ones = rw (c.deref-3.ensures.value, c.deref-4.ensures.value, c.deref-5.ensures.value, same)
    at c.in_ok-ones.ensures in
    let zeros = rw (c.deref-6.ensures.value, c.deref-7.ensures.value, c.deref-8.ensures.value, same)
    at c.in_ok-zeros.ensures in
    are_settled_words c.args.graph.now (record {
      up = c.args.up;
      down = c.args.down;
      ones = c.in_ok-ones.ones;
      zeros = c.in_ok-zeros.zeros;
    }) c.in_ok-held.held.items c.in_ok-passes.passes.items is c.requires.up_size c.requires.down_size held all ones
    zeros
