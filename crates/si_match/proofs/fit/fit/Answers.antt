use Rattle.std.proofs.Common.{◌≡◌, ◌<◌, ◌∙◌, sym, subst, length}
use Rattle.std.proofs.lemmas.Option.{slice_get_within}
use Rattle.si_base.specs.Codes.{CodedGraph}
use Rattle.si_cell.specs.Library.{cell_at}
use Rattle.si_checks.specs.Loops.Lent.{coded_of}
use Rattle.si_match.proofs.TriggerLemmas.{all_needed}
use Rattle.si_match.proofs.fit.fit.Goals as goal

pub triggers_of-triggers-requires : goal.triggers_of-triggers-requires
triggers_of-triggers-requires c =
    let same : c.coded-coded.result.now ≡ coded_of c.args.graph =
    c.coded-coded.ensures.same ∙ c.proper.ensures.same in
    let (x, at, driven) = c.requires in
    subst (λ (g : CodedGraph). c.args.z < length g.graph.signals) (sym same) (slice_get_within _ c.args.z x at)

pub first_fitting-requires-clause-needed : goal.first_fitting-requires-clause-needed
first_fitting-requires-clause-needed c = λ k within. (
    all_needed c.coded-coded.result.now c.args.z (cell_at c.args.library.now k) c.triggers_of-triggers.result.signals
    c.triggers_of-triggers.ensures.coded c.triggers_of-triggers.ensures.triggers)
