use Rattle.std.proofs.Common.{◌<◌, ◌≤◌, sym, ◌∙◌, ap, arith, length}
use Rattle.si_match.specs.Fit.{suits}
use Rattle.si_match.proofs.StateLemmas.{one_more, one_fails, all_states}
use Rattle.si_match.proofs.state.fits.Goals as goal

pub returns-in-loop-s-clause-fits : goal.returns-in-loop-s-clause-fits
returns-in-loop-s-clause-fits c =
    let within : c.loop-s.s < length c.args.coded.now.codes = omega (
      arith,
      c.loop-s-test.true,
      c.states-s-end.ensures,
      c.graph.ensures.coded.count,
      ap
          (λ g. g.states) c.graph.ensures.same,
    ) in
    sym (one_fails c.args.coded.now (suits c.args.coded.now c.args.z c.args.cell.now c.args.literals.now) c.loop-s.s
    within
    (sym c.suits.ensures ∙ c.if-suits.false))

pub loop-s-preserved : goal.loop-s-preserved
loop-s-preserved c =
    let within : c.loop-s.s < length c.args.coded.now.codes = omega (
      arith,
      c.loop-s-test.true,
      c.states-s-end.ensures,
      c.graph.ensures.coded.count,
      ap
          (λ g. g.states) c.graph.ensures.same,
    ) in
    record {
      told = one_more c.args.coded.now (suits c.args.coded.now c.args.z c.args.cell.now c.args.literals.now) c.loop-s.s
          within c.loop-s.invariant.told (sym c.suits.ensures ∙ c.if-suits.true);
      within = c.loop-s.invariant.within;
    }

pub returns-clause-fits : goal.returns-clause-fits
returns-clause-fits c =
    let past : length c.args.coded.now.codes ≤ c.loop-s.s = omega (
      arith,
      c.loop-s-test.false,
      c.states-s-end.ensures,
      c.graph.ensures.coded.count,
      ap
          (λ g. g.states) c.graph.ensures.same,
    ) in
    sym (all_states c.args.coded.now (suits c.args.coded.now c.args.z c.args.cell.now c.args.literals.now) c.loop-s.s
    past c.loop-s.invariant.told)
