use Rattle.std.proofs.Common.{◌≡◌, ◌≤◌, ◌+◌, ◌^◌, ◌∙◌, ℕ, ap, map, sym, subst, arith}
use Rattle.si_base.specs.Limits.{max_states}
use Rattle.si_breaches.specs.Loops.Jumps.{AreJumps, doubled_of}
use Rattle.si_breaches.specs.declared.parities.Jump.{Jump}
use Rattle.si_breaches.proofs.JumpLemmas.{targets_within, all_twice, twice_power, parities_told}
use Rattle.si_breaches.proofs.parities.parities.Goals as goal

pub doubled-requires : goal.doubled-requires
doubled-requires c = rw c.as_slice.ensures.value (targets_within c.args.graph.now (2 ^ c.loop-round._round)
    c.loop-round.jumps.items c.loop-round.invariant)

pub loop-round-preserved : goal.loop-round-preserved
loop-round-preserved c =
    let g = c.args.graph.now in
    let old = c.loop-round.jumps.items in
    let r = c.loop-round._round in
    let far : AreJumps g (2 ^ (r + 1)) (doubled_of old) = subst (λ (n : ℕ). AreJumps g n (doubled_of old))
    (twice_power r) (all_twice g (2 ^ r) old c.loop-round.invariant) in
    subst (AreJumps g (2 ^ (r + 1))) (sym (c.in_ok-jumps-2.ensures ∙ ap doubled_of c.as_slice.ensures.value)) far

pub returns : goal.returns
returns c =
    let r = c.loop-round._round in
    let all : r ≡ 18 = omega (arith, c.loop-round-test.false, c.loop-round.auto._round-end) in
    let far : max_states ≤ 2 ^ r = subst (λ (n : ℕ). max_states ≤ 2 ^ n) (sym all) (omega arith) in
    parities_told c.args.graph.now (2 ^ r) c.loop-round.jumps.items c.in_ok-codes.codes.items far
    c.loop-round.invariant
    (c.in_ok-codes.ensures ∙ ap (map (λ (j : Jump). j.change)) c.as_slice-2.ensures.value)
