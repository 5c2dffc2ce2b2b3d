use Rattle.std.proofs.Common.{◌≡◌, ◌∙◌, ap, arith, length, subst, ℕ, bit_and}
use Rattle.si_match.proofs.CodeLemmas.{CodesBefore, passed_over, added, differs, is_same}
use Rattle.si_bounds.proofs.SupportsLemmas.{same_codes_there}
use Rattle.si_bounds.proofs.supports.codes_with.Goals as goal

pub loop-s-preserved-then-next_value-value : goal.loop-s-preserved-then-next_value-value
loop-s-preserved-then-next_value-value c =
    passed_over c.args.coded.now c.args.z c.args.value c.args.signals c.loop-s.s c.loop-s.codes.items c.loop-s.invariant
    (differs c.next_value.result c.args.value _ c.next_value.ensures c.if-next_value-value.true)

pub loop-s-preserved : goal.loop-s-preserved
loop-s-preserved c =
    added c.args.coded.now c.args.z c.args.value c.args.signals c.loop-s.s _ c.loop-s.codes.items c.push.new.self.items
    c.loop-s.invariant
    (is_same c.next_value.result c.args.value _ c.next_value.ensures c.if-next_value-value.false)
    (c.cut.ensures ∙ ap (λ (n : ℕ). bit_and n c.args.signals) c.code.ensures) c.in_ok-push.ensures.items

pub returns-clause-same : goal.returns-clause-same
returns-clause-same c =
    let all : c.loop-s.s ≡ length c.args.coded.now.codes = omega (
      arith,
      c.loop-s-test.false,
      c.loop-s.auto.s-end,
      c.states-s-end.ensures,
      c.graph.ensures.coded.count,
      ap (λ g. g.states) c.graph.ensures.same,
    ) in
    same_codes_there c.args.coded.now c.args.z c.args.value c.args.signals c.loop-s.codes.items c.in_order.result.items
    (subst (λ (n : ℕ). CodesBefore c.args.coded.now c.args.z c.args.value c.args.signals n c.loop-s.codes.items) all
    c.loop-s.invariant) c.in_order.ensures.same
