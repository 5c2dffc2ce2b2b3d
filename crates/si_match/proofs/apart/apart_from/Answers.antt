use Rattle.std.proofs.Common.{◌≡◌, ◌<◌, ◌∙◌, ℕ, arith, rules, refl, sym, subst}
use borrow.Author.Count.{below_more}
use Rattle.si_match.specs.Loops.Apart.{AreAlike}
use Rattle.si_match.proofs.ApartLemmas.{when_none}
use Rattle.si_match.proofs.apart.apart_from.Goals as goal

pub loop-other-init : goal.loop-other-init
loop-other-init c = record {
  alike = λ t below. absurd (omega (arith, below));
  same = refl;
  within = c.requires.witnesses;
}

pub differing-found-requires-clause-one : goal.differing-found-requires-clause-one
differing-found-requires-clause-one c =
    subst (λ (s : ℕ). s < c.args.coded.now.graph.states) (sym c.loop-other.invariant.same) c.requires.one

pub returns-then-is_some-clause-witnesses : goal.returns-then-is_some-clause-witnesses
returns-then-is_some-clause-witnesses c =
    let states = c.args.coded.now.graph.states in
    let count : c.states-other-end.result ≡ states = search rules in
    let inside : c.loop-other.other < states = omega (arith, c.loop-other-test.true, count) in
    let one = subst (λ (s : ℕ). s < states) (sym (c.one.view_is ∙ c.loop-other.invariant.same)) c.requires.one in
    c.add_witness-then-is_some.ensures states inside (c.add_witness.ensures states one c.loop-other.invariant.within)

pub loop-other-preserved : goal.loop-other-preserved
loop-other-preserved c =
    let Alike : ℕ → ℕ → Type 0 = AreAlike c.args.coded.now c.args.z c.args.read in
    let here : Alike c.args.one c.loop-other.other = subst (λ (s : ℕ). Alike s c.loop-other.other)
    c.loop-other.invariant.same (when_none _ c.differing-found.result (sym c.is_some.ensures ∙ c.if-is_some.false)
    c.differing-found.ensures.none) in
    record {
      alike = below_more (Alike c.args.one) c.loop-other.other c.loop-other.invariant.alike here;
      same = c.loop-other.invariant.same;
      within = c.loop-other.invariant.within;
    }

pub returns-clause-none : goal.returns-clause-none
returns-clause-none c = λ t within. (
    let count : c.states-other-end.result ≡ c.args.coded.now.graph.states = search rules in
    c.loop-other.invariant.alike t (omega (arith, within, count, c.loop-other-test.false)))

pub returns-clause-witnesses : goal.returns-clause-witnesses
returns-clause-witnesses c = c.loop-other.invariant.within
