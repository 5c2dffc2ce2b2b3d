use Rattle.std.proofs.Common.{◌≡◌, ◌≢◌, ◌<◌, ◌∙◌, ℕ, AllPairs, arith, get_or, subst, sym}
use Rattle.std.proofs.lemmas.List.Quantifiers.{all_pairs_push}
use Rattle.si_match.specs.Loops.Rows.{AreSignals}
use Rattle.si_match.proofs.RowLemmas.{in_set_too, not_in_set, signals_below}
use Rattle.si_bounds.proofs.needs.signals_of.Goals as goal

pub loop-i-preserved-then-not-get : goal.loop-i-preserved-then-not-get
loop-i-preserved-then-not-get c = record {
  those = not_in_set c.args.set c.loop-i.i c.loop-i.signals.items c.loop-i.invariant.those
      (sym c.get.ensures ∙ c.if-not-get.true);
  once = c.loop-i.invariant.once;
}

pub loop-i-preserved : goal.loop-i-preserved
loop-i-preserved c =
    let signals = c.loop-i.signals.items in
    record {
      those = in_set_too c.args.set c.loop-i.i signals c.loop-i.invariant.those c.push.new.self.items
          (sym c.get.ensures ∙ c.if-not-get.false) c.in_ok-push.ensures.items;
      once = subst (AllPairs (λ (x y : ℕ). x ≢ y)) (sym c.in_ok-push.ensures.items)
          (all_pairs_push (λ (x y : ℕ). x ≢ y) signals c.loop-i.i c.loop-i.invariant.once (λ k d within same. (
          let below : get_or signals k d < c.loop-i.i =
          signals_below c.args.set c.loop-i.i c.loop-i.i signals c.loop-i.invariant.those (omega arith) k d within in
          omega (arith, below, same))));
    }

pub returns-clause-signals : goal.returns-clause-signals
returns-clause-signals c =
    let all : c.loop-i.i ≡ c.args.count = omega arith in
    subst (λ (n : ℕ). AreSignals c.args.set n c.loop-i.signals.items) all c.loop-i.invariant.those
