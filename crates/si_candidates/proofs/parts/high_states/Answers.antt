use Rattle.std.proofs.Common.{◌∙◌, false, length, ap}
use Rattle.std.proofs.lemmas.List.{length-replicate}
use Rattle.si_candidates.proofs.PartLemmas.{spreads_end, spreads_from, spreads_more}
use Rattle.si_candidates.proofs.parts.high_states.Goals as goal

pub loop-s-init : goal.loop-s-init
loop-s-init c =
    let entered = rw c.in_ok-search.ensures at c.in_ok-follow_each.ensures in
    record {
      size = c.in_ok-follow_each-2.ensures.marks_are.size ∙ entered.marks_are.size
          ∙ length-replicate c.states.result false ∙ c.states.ensures;
      spreads = spreads_from c.args.graph.now c.args.plus.now c.args.minus.now c.args.others.now c.requires.others
          c.states.result _ _ _ _ entered c.in_ok-follow_each-2.ensures;
    }

pub loop-s-preserved : goal.loop-s-preserved
loop-s-preserved c =
    let so = c.loop-s.invariant in
    let taken = rw (c.in-Some.ensures.work, ← c.in-Some.ensures.marks) at so.spreads in
    record {
      size = c.in_ok-follow.ensures.marks_are.size ∙ ap length c.in-Some.ensures.marks ∙ so.size;
      spreads = spreads_more c.args.graph.now c.args.plus.now c.args.minus.now c.args.others.now
          c.requires.others c.in-Some.s _ _ _ _ taken c.in_ok-follow.ensures;
    }

pub returns : goal.returns
returns c =
    let so = c.loop-s.invariant in
    rw (c.into_marks.ensures, c.in_default.ensures.marks)
    (spreads_end c.args.graph.now c.args.plus.now c.args.minus.now c.args.others.now c.requires.others
    c.loop-s.search.marks so.size (rw c.in_default.ensures.work.0 at so.spreads))
