use Rattle.std.proofs.Common.{◌∙◌, sym, ap}
use Rattle.std.proofs.lemmas.Bool.{true≢false}
use Rattle.si_base.specs.declared.ids.Event.{Event}
use Rattle.si_base.specs.Graph.{enables}
use Rattle.si_base.proofs.GraphSteps.{enables-step}
use Rattle.si_checks.proofs.ForkOrder.{out_item, one_more, none_before, none_at_all}
use Rattle.si_same.specs.Loops.Search.{IsLacking}
use Rattle.si_same.proofs.ApartLemmas.{lacking_step}
use Rattle.si_same.proofs.apart.first_lacking.Goals as goal

pub returns-then-not-enabled : goal.returns-then-not-enabled
returns-then-not-enabled c =
    let f = c.args.one.now in
    let g = c.args.other.now in
    let s = c.args.s in
    let out = c.arcs_out-out.ensures in
    let n = c.loop-arc.arc-index in
    let a = c.arc-item.result in
    record {
      lacking = record {
        here = enables-step f s a.event a.to
            (out_item f s c.arcs_out-out.result.now out n a c.loop-arc-test.true c.arc-item.is);
        not_there = λ there. true≢false (sym there ∙ sym c.enabled.ensures ∙ c.if-not-enabled.true);
      };
      first = λ e less lacks. none_before f s c.arcs_out-out.result.now out (λ x. IsLacking f g s c.args.t x) (λ x. x)
          (λ x is. lacking_step f g s c.args.t x is) n a c.loop-arc-test.true c.arc-item.is c.loop-arc.invariant e lacks
          less;
    }

pub loop-arc-preserved : goal.loop-arc-preserved
loop-arc-preserved c =
    let f = c.args.one.now in
    let g = c.args.other.now in
    let s = c.args.s in
    one_more f s c.arcs_out-out.result.now c.arcs_out-out.ensures (λ x. IsLacking f g s c.args.t x) (λ x. x)
    (λ x is. lacking_step f g s c.args.t x is) c.loop-arc.arc-index c.arc-item.result c.loop-arc-test.true c.arc-item.is
    c.loop-arc.invariant
    (λ e lacks same. lacks.not_there
    (ap (λ (x : Event). enables g c.args.t x) same ∙ sym c.enabled.ensures ∙ c.if-not-enabled.false))

pub returns : goal.returns
returns c =
    let f = c.args.one.now in
    let g = c.args.other.now in
    none_at_all f c.args.s c.arcs_out-out.result.now c.arcs_out-out.ensures (λ e. IsLacking f g c.args.s c.args.t e)
    (λ e. e) (λ e is. lacking_step f g c.args.s c.args.t e is) c.loop-arc.arc-index c.loop-arc-test.false
    c.loop-arc.invariant
