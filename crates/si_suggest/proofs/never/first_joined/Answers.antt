use Rattle.std.proofs.Common.{◌∙◌, sym}
use Rattle.si_suggest.proofs.NeverLemmas.{first_joined, none_joined, one_more, pair_states}
use Rattle.si_suggest.proofs.never.first_joined.Goals as goal

pub find_witness-requires-clause-p : goal.find_witness-requires-clause-p
find_witness-requires-clause-p c = (pair_states c.args.coded.now c.args.pairs.now c.requires.pairs c.loop-pair.pair-index
    c.pair-item.result c.loop-pair-test.true c.pair-item.is).0

pub find_witness-requires-clause-q : goal.find_witness-requires-clause-q
find_witness-requires-clause-q c = (pair_states c.args.coded.now c.args.pairs.now c.requires.pairs c.loop-pair.pair-index
    c.pair-item.result c.loop-pair-test.true c.pair-item.is).1

pub loop-pair-preserved : goal.loop-pair-preserved
loop-pair-preserved c =
    one_more c.args.coded.now c.args.pairs.now c.requires.pairs c.loop-pair.pair-index c.pair-item.result
    c.in_ok-witness.witness c.loop-pair-test.true c.pair-item.is c.in_ok-witness.ensures
    (sym c.is_some.ensures ∙ c.if-is_some.false) c.loop-pair.invariant

pub returns-then-is_some : goal.returns-then-is_some
returns-then-is_some c =
    first_joined c.args.coded.now c.args.pairs.now c.requires.pairs c.requires.many c.loop-pair.pair-index
    c.pair-item.result c.in_ok-witness.witness c.loop-pair-test.true c.pair-item.is c.in_ok-witness.ensures
    (sym c.is_some.ensures ∙ c.if-is_some.true) c.loop-pair.invariant

pub returns : goal.returns
returns c =
    none_joined c.args.coded.now c.args.pairs.now c.requires.pairs c.requires.many c.loop-pair.pair-index
    c.loop-pair-test.false c.loop-pair.invariant
