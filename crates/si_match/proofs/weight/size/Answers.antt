use Rattle.std.proofs.Common.{◌∙◌, ap, arith, bit_and, count_ones}
use Rattle.si_match.proofs.WeightLemmas.{masked_size, size_within}
use Rattle.si_match.proofs.weight.size.Goals as goal

pub returns-clause-size : goal.returns-clause-size
returns-clause-size c =
    c.from-2.ensures ∙ ap count_ones (c.from.view_is ∙ c.cut.ensures ∙ ap (bit_and c.args.signals) c.ones.ensures)
    ∙ masked_size c.args.signals c.args.count

pub returns-clause-few : goal.returns-clause-few
returns-clause-few c =
    let counted = returns-clause-size c in
    let few = size_within c.args.count 0 c.args.signals in
    omega (arith, counted, few)
