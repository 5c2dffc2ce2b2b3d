use Rattle.si_breaches.proofs.ClashLemmas.{turned}
use Rattle.si_breaches.proofs.clashes.turned_by.Goals as goal

pub returns : goal.returns
returns c = λ walk ways. turned walk c.args.a c.args.x.now c.turned_at.result c.eq-own.result
    (c.turned_at.ensures walk ways) c.eq-own.ensures
