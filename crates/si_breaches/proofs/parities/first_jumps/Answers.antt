use Rattle.std.proofs.Common.{◌≡◌, ◌∙◌, [], ◌∷◌, ap, length, List, arith}
use Rattle.std.proofs.lemmas.List.{length-append}
use Rattle.si_breaches.specs.Loops.Jumps.{IsJump}
use Rattle.si_breaches.specs.declared.parities.Jump.{Jump}
use Rattle.si_breaches.proofs.JumpLemmas.{all_first, jumps_more}
use Rattle.si_breaches.proofs.parities.first_jumps.Goals as goal

pub loop-k-preserved : goal.loop-k-preserved
loop-k-preserved c =
    let old = c.loop-k.jumps.items in
    let k = c.loop-k.k in
    let pushed = c.in_ok-push.ensures.items in
    let size = c.loop-k.invariant.0 in
    let grown = ap (λ (l : List Jump). length l) pushed ∙ length-append old (c.first_jump.result ∷ []) in (
      omega (arith, grown, size),
      λ tree. jumps_more (IsJump c.args.graph.now tree.path 1) old _ c.first_jump.result k size pushed
          (c.loop-k.invariant.1 tree) (c.first_jump.ensures tree),
    )

pub returns : goal.returns
returns c =
    let tree = c.requires in
    let all : c.loop-k.k ≡ c.args.graph.now.states = omega (arith, c.loop-k-test.false, c.loop-k.auto.k-end, c.states-k-end.ensures) in
    all_first c.args.graph.now c.arcs-arcs.ensures.graph c.args.last.now tree c.loop-k.jumps.items
    (c.loop-k.invariant.0 ∙ all) (λ s within. c.loop-k.invariant.1 tree s (omega (arith, within, all)))
