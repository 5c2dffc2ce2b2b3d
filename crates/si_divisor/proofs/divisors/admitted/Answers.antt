use Rattle.std.proofs.Common.{◌<◌, ◌≤◌, ◌∙◌, length, rules, sym}
use Rattle.si_cell.specs.Library.{admits}
use Rattle.si_divisor.proofs.DivisorLemmas.{also_kept, left_out, all_kept}
use Rattle.si_divisor.proofs.divisors.admitted.Goals as goal

pub loop-literal-preserved-then-not-admits : goal.loop-literal-preserved-then-not-admits
loop-literal-preserved-then-not-admits c =
    let inside : c.loop-literal.literal-index < length c.args.literals.now = search rules in
    left_out (admits c.args.allowed) c.args.literals.now c.loop-literal.kept.items c.loop-literal.literal-index
    c.literal-item.result inside c.literal-item.is c.loop-literal.invariant
    (sym c.admits.ensures ∙ c.if-not-admits.true)

pub loop-literal-preserved : goal.loop-literal-preserved
loop-literal-preserved c =
    let inside : c.loop-literal.literal-index < length c.args.literals.now = search rules in
    also_kept (admits c.args.allowed) c.args.literals.now c.loop-literal.kept.items c.loop-literal.literal-index
    c.literal-item.result inside c.literal-item.is c.loop-literal.invariant
    (sym c.admits.ensures ∙ c.if-not-admits.false) c.push.new.self.items c.in_ok-push.ensures.items

pub returns : goal.returns
returns c =
    let past : length c.args.literals.now ≤ c.loop-literal.literal-index = search rules in
    all_kept (admits c.args.allowed) c.args.literals.now c.loop-literal.kept.items c.loop-literal.literal-index past
    c.loop-literal.invariant
