use Rattle.std.proofs.Common.{◌≡◌, ◌∙◌, ℕ, length, sym, subst, rules, arith}
use Rattle.si_match.specs.Loops.Rows.{AreSignals}
use Rattle.si_match.proofs.RowLemmas.{in_set_too, not_in_set}
use Rattle.si_match.proofs.WeightLemmas.{not_there, one_there}
use Rattle.si_match.proofs.rows.signals_of.Goals as goal

pub loop-i-preserved-then-not-get : goal.loop-i-preserved-then-not-get
loop-i-preserved-then-not-get c =
    let absent = sym c.get.ensures ∙ c.if-not-get.true in
    record {
      signals = not_in_set c.args.set c.loop-i.i c.loop-i.signals.items c.loop-i.invariant.signals absent;
      told = not_there c.args.count c.loop-i.i c.args.set c.loop-i-test.true (length c.loop-i.signals.items) _ absent
          c.loop-i.invariant.told;
    }

pub loop-i-preserved : goal.loop-i-preserved
loop-i-preserved c =
    let present = sym c.get.ensures ∙ c.if-not-get.false in
    record {
      signals = in_set_too c.args.set c.loop-i.i c.loop-i.signals.items c.loop-i.invariant.signals
          c.push.new.self.items present c.push.ensures.items;
      told = (
          let more = one_there c.args.count c.loop-i.i c.args.set c.loop-i-test.true (length c.loop-i.signals.items) _
          present c.loop-i.invariant.told in
          omega (arith, more, c.push.ensures.len));
    }

pub returns-clause-signals : goal.returns-clause-signals
returns-clause-signals c =
    let all : c.loop-i.i ≡ c.args.count = search rules in
    subst (λ (n : ℕ). AreSignals c.args.set n c.loop-i.signals.items) all c.loop-i.invariant.signals
