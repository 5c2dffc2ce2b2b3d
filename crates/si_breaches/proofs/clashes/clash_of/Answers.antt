use Rattle.std.proofs.Common.{Some, None}
use Rattle.si_breaches.proofs.ClashLemmas.{torn_as, own_as, unswitched}
use Rattle.si_breaches.proofs.clashes.clash_of.Goals as goal

pub returns-in-Some : goal.returns-in-Some
returns-in-Some c = λ walk ways.
    torn_as c.args.graph.now walk c.args.a (Some c.in-Some.x) (c.in-Some.ensures.first walk ways)

pub returns-in_err-x : goal.returns-in_err-x
returns-in_err-x c = λ walk ways. rw c.from_residual.ensures (unswitched c.args.graph.now walk c.args.a
    (torn_as c.args.graph.now walk c.args.a None (c.in_default.ensures.first walk ways))
    (own_as c.args.graph.now walk c.args.a None (c.in_err-x.ensures.first walk ways)))

pub first_differing-requires-clause-within : goal.first_differing-requires-clause-within
first_differing-requires-clause-within c = c.in_ok-x.ensures.within

pub returns : goal.returns
returns c = λ walk ways. (
  torn_as c.args.graph.now walk c.args.a None (c.in_default.ensures.first walk ways),
  own_as c.args.graph.now walk c.args.a (Some c.in_ok-x.x) (c.in_ok-x.ensures.first walk ways),
  c.in_ok-y.ensures walk ways,
)
