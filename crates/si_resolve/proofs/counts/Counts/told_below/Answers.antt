use Rattle.si_resolve.proofs.CountingLemmas.{are_told, have_told}
use Rattle.si_resolve.proofs.SearchLemmas.{told_classes}
use Rattle.si_resolve.proofs.counts.Counts.told_below.Goals as goal

pub returns-clause-told : goal.returns-clause-told
returns-clause-told c =
    let d = c.args.graph.now in
    let plus = c.args.plus.now in
    let minus = c.args.minus.now in
    let r = c.requires in
    are_told d c.args.self.now.chains.members plus minus c.new-classes.result
    (λ classes are. told_classes d plus minus c.new-classes.result classes r.coded r.plus_size r.minus_size r.some_plus
    r.some_minus c.new-classes.ensures.only are)
    c.told_below.result c.told_below.ensures.told

pub returns-clause-none : goal.returns-clause-none
returns-clause-none c =
    let d = c.args.graph.now in
    let plus = c.args.plus.now in
    let minus = c.args.minus.now in
    let r = c.requires in
    have_told d c.args.self.now.chains.members plus minus c.new-classes.result
    (λ classes are. told_classes d plus minus c.new-classes.result classes r.coded r.plus_size r.minus_size r.some_plus
    r.some_minus c.new-classes.ensures.only are)
    c.told_below.result c.args.room c.told_below.ensures.none
