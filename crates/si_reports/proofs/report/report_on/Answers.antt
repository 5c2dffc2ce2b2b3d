use Rattle.si_reports.proofs.report.report_on.Goals as goal

pub returns-in-Summary-clause-ok : goal.returns-in-Summary-clause-ok
returns-in-Summary-clause-ok c = rw c.in-Summary.is c.on_proper.ensures.ok

pub returns-in-Summary-clause-err : goal.returns-in-Summary-clause-err
returns-in-Summary-clause-err c = rw c.in-Summary.is c.on_proper.ensures.err

pub returns-in-Regions-clause-ok : goal.returns-in-Regions-clause-ok
returns-in-Regions-clause-ok c = rw c.in-Regions.is c.on_proper-in-Regions.ensures.ok

pub returns-in-Regions-clause-err : goal.returns-in-Regions-clause-err
returns-in-Regions-clause-err c = rw c.in-Regions.is c.on_proper-in-Regions.ensures.err

pub returns-in-Conflicts-clause-ok : goal.returns-in-Conflicts-clause-ok
returns-in-Conflicts-clause-ok c = rw c.in-Conflicts.is c.on_proper-in-Conflicts.ensures.ok

pub returns-in-Conflicts-clause-err : goal.returns-in-Conflicts-clause-err
returns-in-Conflicts-clause-err c = rw c.in-Conflicts.is c.on_proper-in-Conflicts.ensures.err

pub returns-in-Covers-clause-ok : goal.returns-in-Covers-clause-ok
returns-in-Covers-clause-ok c = rw c.in-Covers.is c.on_proper-in-Covers.ensures.ok

pub returns-in-Covers-clause-err : goal.returns-in-Covers-clause-err
returns-in-Covers-clause-err c = rw c.in-Covers.is c.on_proper-in-Covers.ensures.err

pub returns-in-Fold-clause-ok : goal.returns-in-Fold-clause-ok
returns-in-Fold-clause-ok c = rw c.in-Fold.is c.on_proper-in-Fold.ensures.ok

pub returns-in-Fold-clause-err : goal.returns-in-Fold-clause-err
returns-in-Fold-clause-err c = rw c.in-Fold.is c.on_proper-in-Fold.ensures.err

pub returns-in-Explain-clause-ok : goal.returns-in-Explain-clause-ok
returns-in-Explain-clause-ok c = rw c.in-Explain.is c.on_proper-in-Explain.ensures.ok

pub returns-in-Explain-clause-err : goal.returns-in-Explain-clause-err
returns-in-Explain-clause-err c = rw c.in-Explain.is c.on_proper-in-Explain.ensures.err

pub returns-in-Lint-clause-ok : goal.returns-in-Lint-clause-ok
returns-in-Lint-clause-ok c = rw c.in-Lint.is c.told.ensures.ok

pub returns-in-Lint-clause-err : goal.returns-in-Lint-clause-err
returns-in-Lint-clause-err c = rw c.in-Lint.is c.told.ensures.err

pub returns-in-States-clause-ok : goal.returns-in-States-clause-ok
returns-in-States-clause-ok c = rw c.in-States.is c.listed.ensures.ok

pub returns-in-Dot-clause-ok : goal.returns-in-Dot-clause-ok
returns-in-Dot-clause-ok c = rw c.in-Dot.is c.drawn.ensures.ok
