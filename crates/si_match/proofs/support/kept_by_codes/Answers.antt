use Rattle.std.proofs.Common.{◌<◌, ◌≤◌, ◌∙◌, sym, length, subst, rules, arith, Contains}
use Rattle.si_match.proofs.CodeLemmas.{in_kept, signal_kept, signal_dropped, in_end}
use Rattle.si_match.proofs.DroppingLemmas.{kept_when_tried}
use Rattle.si_match.proofs.support.kept_by_codes.Goals as goal

pub loop-i-init : goal.loop-i-init
loop-i-init c = record {
  tried = c.requires.tried;
  on_are = c.in_ok-on.ensures;
  off_are = c.in_ok-off.ensures;
}

pub loop-i-preserved-then-get : goal.loop-i-preserved-then-get
loop-i-preserved-then-get c =
    let inside : c.loop-i.i < length c.args.coded.now.graph.signals = search rules in
    let so_far = c.loop-i.invariant in
    let there = so_far.tried.later c.loop-i.i (omega arith) inside in
    let trigger = c.requires.triggers c.loop-i.i (sym c.get.ensures ∙ c.if-get.true) in
    in_kept c.args.coded.now c.args.z c.loop-i.i c.loop-i.signals c.loop-i.on.items c.loop-i.off.items so_far inside
    (kept_when_tried c.args.coded.now c.args.z c.loop-i.i c.loop-i.signals c.requires.coded trigger there)

pub loop-i-preserved-then-meet : goal.loop-i-preserved-then-meet
loop-i-preserved-then-meet c =
    let inside : c.loop-i.i < length c.args.coded.now.graph.signals = search rules in
    let (k, in_on, in_off) = c.meet.ensures.meet c.if-meet.true in
    signal_kept c.args.coded.now c.args.z c.loop-i.i c.loop-i.signals c.flip-fewer.result c.loop-i.on.items
    c.loop-i.off.items
    c.deref.result.now c.deref-in-loop-i.result.now c.in_ok-fewer_on.fewer_on.items c.in_ok-fewer_off.fewer_off.items
    c.loop-i.invariant
    inside c.flip-fewer.ensures c.deref.ensures.value c.deref-in-loop-i.ensures.value c.in_ok-fewer_on.ensures.same
    c.in_ok-fewer_off.ensures.same (
      k,
      subst (λ xs. Contains xs k) c.deref-in-loop-i-2.ensures.value in_on,
      subst
          (λ xs. Contains xs k) c.deref-in-loop-i-3.ensures.value in_off,
    )

pub loop-i-preserved : goal.loop-i-preserved
loop-i-preserved c =
    let inside : c.loop-i.i < length c.args.coded.now.graph.signals = search rules in
    signal_dropped c.args.coded.now c.args.z c.loop-i.i c.loop-i.signals c.flip-fewer.result c.loop-i.on.items
    c.loop-i.off.items
    c.deref.result.now c.deref-in-loop-i.result.now c.in_ok-fewer_on.fewer_on.items c.in_ok-fewer_off.fewer_off.items
    c.loop-i.invariant
    inside c.flip-fewer.ensures c.deref.ensures.value c.deref-in-loop-i.ensures.value c.in_ok-fewer_on.ensures.same
    c.in_ok-fewer_off.ensures.same
    (λ k in_on in_off. c.meet.ensures.apart c.if-meet.false k (subst (λ xs. Contains xs k)
    (sym c.deref-in-loop-i-2.ensures.value) in_on)
    (subst (λ xs. Contains xs k) (sym c.deref-in-loop-i-3.ensures.value) in_off))

pub returns : goal.returns
returns c =
    let past : length c.args.coded.now.graph.signals ≤ c.loop-i.i = search rules in
    in_end c.args.coded.now c.args.z c.loop-i.i c.loop-i.signals c.loop-i.on.items c.loop-i.off.items past
    c.loop-i.invariant
