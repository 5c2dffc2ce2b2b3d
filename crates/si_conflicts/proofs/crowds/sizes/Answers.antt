use Rattle.std.proofs.Common.{◌==◌, ◌∙◌, ap, arith, take, unwrap_or}
use Rattle.std.specs.BTreeMap.{get}
use Rattle.std.specs.Ordering.{nat_cmp, is_eq}
use Rattle.si_conflicts.specs.declared.members.Member.{Member}
use Rattle.si_conflicts.proofs.CountLemmas.{at_most_counted, code_counted, code_hit, counts_more}
use Rattle.si_conflicts.proofs.crowds.sizes.Goals as goal

pub overflow_add-before : goal.overflow_add-before
overflow_add-before c =
    let m = c.m-item.result in
    let before = c.unwrap_or-before.ensures ∙ ap (λ o. unwrap_or o 0) (c.copied.ensures ∙ c.get.ensures.value)
    ∙ c.loop-m.invariant m.key.code in
    let most = at_most_counted (λ (x : Member). m.key.code == x.key.code) c.args.members.now c.loop-m.m-index _ before
    c.loop-m-test.true in
    omega (arith, most, c.requires, c.loop-m-test.true)

pub loop-m-preserved : goal.loop-m-preserved
loop-m-preserved c =
    let m = c.m-item.result in
    let i = c.loop-m.m-index in
    let members = c.args.members.now in
    let before = c.unwrap_or-before.ensures ∙ ap (λ o. unwrap_or o 0) (c.copied.ensures ∙ c.get.ensures.value)
    ∙ c.loop-m.invariant m.key.code in
    counts_more (λ q (x : Member). q == x.key.code) (λ q. is_eq (nat_cmp m.key.code q)) members i m
    c.unwrap_or-before.result (λ q. get nat_cmp c.loop-m.sizes q) (λ q. get nat_cmp c.insert.new.self q)
    c.loop-m-test.true c.m-item.is c.in_ok-insert.ensures.updates.0 (code_hit m.key.code)
    (code_counted (λ (x : Member). x.key.code) m.key.code (take i members) _ before) c.loop-m.invariant
