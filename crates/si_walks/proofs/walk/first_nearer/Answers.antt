use Rattle.std.proofs.Common.{◌∙◌, sym, refl, arith, inl, inr}
use Rattle.std.proofs.lemmas.Bool.{true≢false, cases_lt}
use Rattle.si_base.specs.declared.graph.Edge.{Edge}
use Rattle.si_base.specs.Graph.{event_place}
use Rattle.si_base.proofs.StepCodes.{step_within}
use Rattle.si_checks.proofs.ForkOrder.{out_item, out_arc, out_source, out_signal, one_more, none_before, none_at_all}
use Rattle.si_walks.specs.Distances.{IsNearer}
use Rattle.si_walks.proofs.WalkSteps.{nearer_too}
use Rattle.si_walks.proofs.walk.first_nearer.Goals as goal
use Rattle.si_walks.proofs.walk.first_nearer.Goals.{else-takes-via-then-takes+else-brings_nearer}
use Rattle.si_walks.proofs.walk.first_nearer.Goals.{else-takes-via-else-takes}
use Rattle.si_walks.proofs.FirstWalks.{step_of}

pub takes-requires : goal.takes-requires
takes-requires c = out_signal c.args.graph.now c.args.s c.arcs_out-out.result.now c.arcs_out-out.ensures
    c.loop-arc.arc-index c.arc-item.result c.loop-arc-test.true c.arc-item.is

pub brings_nearer-requires-clause-t : goal.brings_nearer-requires-clause-t
brings_nearer-requires-clause-t c =
    let g = c.args.graph.now in
    let a = c.arc-item.result in
    let step = out_item g c.args.s c.arcs_out-out.result.now c.arcs_out-out.ensures c.loop-arc.arc-index a
    c.loop-arc-test.true c.arc-item.is in
    omega (arith, (step_within g c.args.s a.event a.to c.arcs_out-out.ensures.graph step).2, c.requires.distances)

pub returns-then-brings_nearer : goal.returns-then-brings_nearer
returns-then-brings_nearer c =
    let g = c.args.graph.now in
    let s = c.args.s in
    let out = c.arcs_out-out.result.now in
    let n = c.loop-arc.arc-index in
    let a = c.arc-item.result in
    let Near : Edge → Type 0 = λ b. IsNearer g c.args.arcs.now c.args.distances.now s b in
    record {
      is = record {
        from = out_source g s out c.arcs_out-out.ensures n a c.loop-arc-test.true c.arc-item.is;
        there = out_arc g s out c.arcs_out-out.ensures n a c.loop-arc-test.true c.arc-item.is;
        takes = c.if-takes.ensures.0 refl;
        nearer = c.if-brings_nearer.ensures.0 refl;
      };
      first = λ b near. elim (cases_lt (event_place b.event) (event_place a.event)) [
        | inl less ↦ absurd (none_before g s out c.arcs_out-out.ensures Near (λ x. x.event)
            (λ x is. (x.to, step_of g s x is.from is.there)) n a c.loop-arc-test.true c.arc-item.is
            c.loop-arc.invariant b near less)
        | inr low ↦ low
      ];
    }

pub loop-arc-preserved : goal.loop-arc-preserved
loop-arc-preserved c =
    let g = c.args.graph.now in
    let s = c.args.s in
    let out = c.arcs_out-out.result.now in
    let n = c.loop-arc.arc-index in
    let a = c.arc-item.result in
    let arcs = c.args.arcs.now in
    let ds = c.args.distances.now in
    let step = out_item g s out c.arcs_out-out.ensures n a c.loop-arc-test.true c.arc-item.is in
    one_more g s out c.arcs_out-out.ensures (λ b. IsNearer g arcs ds s b) (λ x. x.event)
    (λ x is. (x.to, step_of g s x is.from is.there)) n a c.loop-arc-test.true c.arc-item.is c.loop-arc.invariant
    (λ b near same. (
    let too = nearer_too g arcs ds s b a.event a.to c.requires.deterministic near step same in
    elim c.else-takes.branch [
      | else-takes-via-then-takes+else-brings_nearer w ↦
          true≢false (sym (w.brings_nearer.ensures.1 too.1) ∙ w.if-brings_nearer.false)
      | else-takes-via-else-takes w ↦ true≢false (sym (c.takes.ensures.1 too.0) ∙ w.if-takes.false)
    ]))

pub returns : goal.returns
returns c =
    let g = c.args.graph.now in
    none_at_all g c.args.s c.arcs_out-out.result.now c.arcs_out-out.ensures
    (λ b. IsNearer g c.args.arcs.now c.args.distances.now c.args.s b) (λ x. x.event)
    (λ x is. (x.to, step_of g c.args.s x is.from is.there)) c.loop-arc.arc-index c.loop-arc-test.false
    c.loop-arc.invariant
