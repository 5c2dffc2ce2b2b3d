use Rattle.std.proofs.Common.{◌<◌, ◌≤◌, ◌∙◌, sym, length, rules, arith}
use Rattle.si_match.proofs.CodeLemmas.{tried_all}
use Rattle.si_match.proofs.DifferenceLemmas.{kept_too, signal_kept, signal_dropped}
use Rattle.si_match.proofs.DroppingLemmas.{kept_when_tried}
use Rattle.si_match.proofs.support.kept_by_differences.Goals as goal

pub loop-i-init : goal.loop-i-init
loop-i-init c = record { tried = c.requires.tried; among = λ j there. there }

pub loop-i-preserved-then-get : goal.loop-i-preserved-then-get
loop-i-preserved-then-get c =
    let inside : c.loop-i.i < length c.args.coded.now.graph.signals = search rules in
    let so_far = c.loop-i.invariant in
    let there = so_far.tried.later c.loop-i.i (omega arith) inside in
    let trigger = c.requires.triggers c.loop-i.i (sym c.get.ensures ∙ c.if-get.true) in
    kept_too c.args.coded.now c.args.z c.args.all c.loop-i.i c.loop-i.signals c.args.triggers c.requires.coded
    c.requires.triggers so_far inside
    (kept_when_tried c.args.coded.now c.args.z c.loop-i.i c.loop-i.signals c.requires.coded trigger there)

pub loop-i-preserved-then-any_without : goal.loop-i-preserved-then-any_without
loop-i-preserved-then-any_without c =
    let inside : c.loop-i.i < length c.args.coded.now.graph.signals = search rules in
    signal_kept c.args.coded.now c.args.z c.args.all c.loop-i.i c.loop-i.signals c.args.triggers c.requires.coded
    c.requires.triggers c.loop-i.invariant inside c.args.differences.now c.requires.differences c.flip-fewer.result
    c.flip-fewer.ensures (sym c.get.ensures ∙ c.if-get.false) (sym c.any_without.ensures ∙ c.if-any_without.true)

pub loop-i-preserved : goal.loop-i-preserved
loop-i-preserved c =
    let inside : c.loop-i.i < length c.args.coded.now.graph.signals = search rules in
    signal_dropped c.args.coded.now c.args.z c.args.all c.loop-i.i c.loop-i.signals c.args.triggers c.requires.coded
    c.requires.triggers c.loop-i.invariant inside c.args.differences.now c.requires.differences c.flip-fewer.result
    c.flip-fewer.ensures (sym c.get.ensures ∙ c.if-get.false) (sym c.any_without.ensures ∙ c.if-any_without.false)

pub returns : goal.returns
returns c =
    let past : length c.args.coded.now.graph.signals ≤ c.loop-i.i = search rules in
    tried_all c.args.coded.now c.args.z c.loop-i.i c.loop-i.signals past c.loop-i.invariant.tried
