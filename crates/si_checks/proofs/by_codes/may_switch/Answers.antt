use Rattle.si_checks.proofs.ByCodesLemmas.{changed_is}
use Rattle.si_checks.proofs.by_codes.may_switch.Goals as goal

pub returns : goal.returns
returns c = rw (c.result.view_is, c.result-2.view_is, c.code.ensures)
    (changed_is c.args.coded.now c.requires.coded c.args.s c.next.result c.requires.state c.next.ensures)
