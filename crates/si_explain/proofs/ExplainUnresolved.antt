-- Where input events join a conflict, resolving ends unresolved.
use Rattle.std.proofs.Common.{◌++◌, inl, inr}
use Rattle.si_candidates.proofs.BlocksExist.{some_blocks}
use Rattle.si_insert.proofs.InsertionKeeps.{keeps}
use Rattle.si_resolve.proofs.EndsExist.{resolving_ends}
use Rattle.si_resolve.proofs.TraceLemmas.{traces_are_lineages}
use Rattle.si_walks.proofs.Joined.{never_resolved}
use Rattle.si_walks.proofs.Twins as twins
use Rattle.si_kin.proofs.KinLemmas as kin
use Rattle.si_explain.specs.Laws.{KinAreTold, KinNeverResolve, KinEndUnresolved}
use Rattle.si_explain.specs.Laws.{JoinedNeverResolve, JoinedEndUnresolved}
use Rattle.si_explain.specs.Laws.{TwinsAreTold, TwinsNeverResolve, TwinsEndUnresolved}

pub joined_never_resolve : JoinedNeverResolve
joined_never_resolve given before trace v w pair lineage joined resolves =
    never_resolved given (before ++ trace) w pair (traces_are_lineages given before trace v w lineage resolves.goes)
    joined resolves.done

pub joined_end_unresolved : JoinedEndUnresolved
joined_end_unresolved given before v pair lineage joined =
    let kept = keeps given before v lineage in
    let ends = resolving_ends some_blocks v kept.coded kept.proper in
    elim ends.2 [
      | inl resolved ↦ absurd (joined_never_resolve given before ends.0 v ends.1 pair lineage joined resolved)
      | inr stuck ↦ (ends.0, ends.1, stuck.0, stuck.1)
    ]

-- ---- the same of twins
pub twins_are_told : TwinsAreTold
twins_are_told c x few conflict is = (
  λ told. record { conflict = conflict; twins = (is.twins.0 told).1 },
  λ twin. is.twins.1 (few, twin.twins),
)

pub twins_never_resolve : TwinsNeverResolve
twins_never_resolve given before trace v w pair lineage twin resolves =
    twins.never_resolved given (before ++ trace) w pair
    (traces_are_lineages given before trace v w lineage resolves.goes) twin resolves.done

pub twins_end_unresolved : TwinsEndUnresolved
twins_end_unresolved given before v pair lineage twin =
    let kept = keeps given before v lineage in
    let ends = resolving_ends some_blocks v kept.coded kept.proper in
    elim ends.2 [
      | inl resolved ↦ absurd (twins_never_resolve given before ends.0 v ends.1 pair lineage twin resolved)
      | inr stuck ↦ (ends.0, ends.1, stuck.0, stuck.1)
    ]

-- ---- and of kin
pub kin_are_told : KinAreTold
kin_are_told c x conflict is = (
  λ told. record { conflict = conflict; kin = is.kin.0 told },
  λ both. is.kin.1 both.kin,
)

pub kin_never_resolve : KinNeverResolve
kin_never_resolve given before trace v w pair lineage conflict resolves =
    kin.never_resolved given (before ++ trace) w pair
    (traces_are_lineages given before trace v w lineage resolves.goes) conflict resolves.done

pub kin_end_unresolved : KinEndUnresolved
kin_end_unresolved given before v pair lineage conflict =
    let kept = keeps given before v lineage in
    let ends = resolving_ends some_blocks v kept.coded kept.proper in
    elim ends.2 [
      | inl resolved ↦ absurd (kin_never_resolve given before ends.0 v ends.1 pair lineage conflict resolved)
      | inr stuck ↦ (ends.0, ends.1, stuck.0, stuck.1)
    ]
