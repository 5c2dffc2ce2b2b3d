use Rattle.std.proofs.Common.{◌∙◌}
use Rattle.si_checks.specs.Loops.Lent.{coded_of}
use Rattle.si_map.proofs.SearchFitted.{fitted_adds, unfit_adds}
use Rattle.si_map.proofs.weight.added_by.Goals as goal

pub returns-then-fits-clause-weight : goal.returns-then-fits-clause-weight
returns-then-fits-clause-weight c = λ library are.
    fitted_adds (coded_of c.args.graph) library c.args.z c.args.fits are c.if-fits.true

pub returns-clause-weight : goal.returns-clause-weight
returns-clause-weight c = λ library are.
    c.in_ok-added.ensures.weight
    ∙ unfit_adds (coded_of c.args.graph) library c.args.z c.args.fits are c.if-fits.false
