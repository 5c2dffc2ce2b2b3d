-- Where something is suggested, and where nothing is.
use Rattle.std.proofs.Common.{subst, inl, inr}
use Rattle.si_base.specs.Codes.{CodedGraph}
use Rattle.si_insert.specs.Lineage.{IsLineage, given_current}
use Rattle.si_resolve.proofs.TraceLemmas.{ends_exclude}
use Rattle.si_suggest.proofs.NeverLemmas.{never_resolved}
use Rattle.si_suggestion.specs.Suggestion.{NeverIsNotSuggested, ResolvedIsSuggested}

pub resolved_is_suggested : ResolvedIsSuggested
resolved_is_suggested style model states c trace w refusal line ends (inl never) =
    never_resolved c trace w never.pair line never.first.holds ends.done
resolved_is_suggested style model states c trace w refusal line ends (inr left) =
    ends_exclude (given_current c) trace left.lineage.trace w left.lineage.current left.pair line.coded ends
    left.not_found.ends

pub never_is_not_suggested : NeverIsNotSuggested
never_is_not_suggested style model states c pair output never is =
    let l = is.lineage in
    let line = subst (λ (g : CodedGraph). IsLineage g l.trace l.current) is.given_is is.line in
    never_resolved c l.trace l.current pair line never is.free
