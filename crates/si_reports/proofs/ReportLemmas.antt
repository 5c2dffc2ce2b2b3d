-- A report has one text at most, and has one.
use Rattle.std.proofs.Common.{ℕ, List}
use Rattle.si_base.specs.Codes.{CodedGraph, IsCoded}
use Rattle.si_explain.proofs.ExplainTexts.{one_explain_text, some_explain_text}
use Rattle.si_listings.proofs.CoverLemmas.{one_cover_text, some_cover_text}
use Rattle.si_listings.proofs.ListingLemmas.{one_region_text, one_conflict_text}
use Rattle.si_listings.proofs.ListingsExist.{some_region_text, some_conflict_text}
use Rattle.si_readings.specs.Laws.{AtMostOne, HasResult}
use Rattle.si_reports.specs.Reports.{summary, report_text}
use Rattle.si_reports.specs.declared.report_kind.ProperReport.{ProperReport}
use Rattle.si_reports.specs.declared.report_kind.ProperReport.TheVariants.{Summary, Regions, Conflicts, Covers, Fold}
use Rattle.si_reports.specs.declared.report_kind.ProperReport.TheVariants.{Explain}
use Rattle.si_reports.proofs.FoldLemmas.{one_fold_text, some_fold_text}
use Rattle.si_readings.proofs.StageLemmas.{gives_one, gives_some, shows_one, shows_some}

pub told_one : (what : ProperReport) (model : List ℕ) (states : List (List ℕ)) (coded : CodedGraph) → IsCoded coded
    → AtMostOne (report_text what model states coded)
told_one Summary model states coded is = gives_one (summary coded)
told_one Regions model states coded is = shows_one _ (one_region_text coded states)
told_one Conflicts model states coded is = shows_one _ (one_conflict_text coded states)
told_one Covers model states coded is = shows_one _ (one_cover_text coded states)
told_one Fold model states coded is = shows_one _ (one_fold_text model states coded is)
told_one Explain model states coded is = shows_one _ (one_explain_text coded states)

pub told_some : (what : ProperReport) (model : List ℕ) (states : List (List ℕ)) (coded : CodedGraph) → IsCoded coded
    → HasResult (report_text what model states coded)
told_some Summary model states coded is = gives_some (summary coded)
told_some Regions model states coded is = shows_some _ (some_region_text coded states is)
told_some Conflicts model states coded is = shows_some _ (some_conflict_text coded states)
told_some Covers model states coded is = shows_some _ (some_cover_text coded states is)
told_some Fold model states coded is = shows_some _ (some_fold_text model states coded is)
told_some Explain model states coded is = shows_some _ (some_explain_text coded states is)
