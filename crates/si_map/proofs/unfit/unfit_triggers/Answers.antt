use Rattle.std.proofs.Common.{◌∙◌, sym}
use Rattle.std.proofs.lemmas.Option.{slice_get_within}
use Rattle.si_match.proofs.KnownLemmas.{fitted_some}
use Rattle.si_map.proofs.unfit.unfit_triggers.Goals as goal

pub returns-then-not-get-clause-unfit : goal.returns-then-not-get-clause-unfit
returns-then-not-get-clause-unfit c =
    let fitted = c.requires.known.fitted c.args.z c.requires.driven (sym c.get-then-get.ensures ∙ c.if-not-get.true)
    (sym c.get.ensures ∙ c.if-get.true) in
    sym (fitted_some c.args.coded.now c.args.library.now c.args.z c.requires.coded fitted)

pub triggers_of-triggers-requires : goal.triggers_of-triggers-requires
triggers_of-triggers-requires c =
    let (x, at, driven) = c.requires.driven in
    slice_get_within c.args.coded.now.graph.signals c.args.z x at
