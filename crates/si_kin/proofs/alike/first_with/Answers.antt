use Rattle.std.proofs.Common.{rules}
use Rattle.si_kin.proofs.AlikeLemmas.{other_likeness}
use Rattle.si_kin.proofs.alike.first_with.Goals as goal

pub returns-clause-others : goal.returns-clause-others
returns-clause-others c = λ k apart. (
    let kept = (c.in_ok-known.ensures.update.0 c.or_insert.result.now).2 k (other_likeness c.args.likeness k apart) in
    search (rules, kept))
