use Rattle.std.proofs.Common.{◌∙◌, refl, sym}
use Rattle.std.proofs.lemmas.Bool.{true≢false}
use Rattle.si_bounds.specs.Loops.Supports.{IsSeparated}
use Rattle.si_bounds.proofs.SupportsLemmas.{next_too, none_mixed, one_mixed}
use Rattle.si_bounds.proofs.supports.Groups.have_mixed.Goals as goal

pub returns-then-not-is_separated : goal.returns-then-not-is_separated
returns-then-not-is_separated c =
    let have = one_mixed c.args.high.now c.args.low.now c.args.self.now c.deref-group-items.result.now
    c.deref-group-items.ensures.value c.loop-group.group-index c.group-item.result c.loop-group-test.true
    c.group-item.is (λ separated. true≢false (sym (c.is_separated.ensures.1 separated) ∙ c.if-not-is_separated.true)) in
    (λ yes. have, λ here. refl)

pub loop-group-preserved : goal.loop-group-preserved
loop-group-preserved c =
    next_too (IsSeparated c.args.high.now c.args.low.now) c.deref-group-items.result.now c.loop-group.group-index
    c.group-item.result c.loop-group-test.true c.group-item.is c.loop-group.invariant
    (c.is_separated.ensures.0 c.if-not-is_separated.false)

pub returns : goal.returns
returns c = (
  λ no. absurd (true≢false (sym no)),
  λ have. absurd (none_mixed c.args.high.now c.args.low.now c.args.self.now c.deref-group-items.result.now
      c.deref-group-items.ensures.value c.loop-group.group-index c.loop-group-test.false c.loop-group.invariant have),
)
