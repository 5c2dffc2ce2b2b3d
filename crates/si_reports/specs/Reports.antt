-- (command) What is told of a proper graph.
use Rattle.std.specs.Prelude.{ℕ, List, [], ◌∷◌, length, codes, decimal}
use Rattle.si_base.specs.Codes.{CodedGraph, code}
use Rattle.si_base.specs.NetlistText.{bits_from, word_if_any}
use Rattle.si_base.specs.Words.{text_of}
use Rattle.si_explain.specs.ExplainText.{IsExplainText}
use Rattle.si_listings.specs.ConflictText.{IsConflictText}
use Rattle.si_listings.specs.CoverText.{IsCoverText}
use Rattle.si_listings.specs.RegionText.{IsRegionText}
use Rattle.si_refusals.specs.Refusal.{TextRefusal}
use Rattle.si_refusals.specs.Stages.{Stage, gives, shows}
use Rattle.si_reports.specs.Fold.{IsFoldText}
use Rattle.si_reports.specs.declared.report_kind.ProperReport.{ProperReport}
use Rattle.si_reports.specs.declared.report_kind.ProperReport.TheVariants.{Summary, Regions}
use Rattle.si_reports.specs.declared.report_kind.ProperReport.TheVariants.{Conflicts, Covers, Fold}
use Rattle.si_reports.specs.declared.report_kind.ProperReport.TheVariants.{Explain}

-- a line of a word and a number
abbrev pub count_line : List ℕ → ℕ → List (List ℕ)
count_line word n = word ∷ decimal n ∷ []

-- that it is proper; how many signals, states and arcs it has; and the values of the signals at the
-- start
abbrev pub summary : CodedGraph → List ℕ
summary coded = text_of ((codes "proper" ∷ [])
    ∷ count_line (codes "signals") (length coded.graph.signals)
    ∷ count_line (codes "states") coded.graph.states
    ∷ count_line (codes "arcs") (length coded.graph.edges)
    ∷ (codes "start" ∷ word_if_any (bits_from 0 coded.graph.signals (code coded coded.graph.start)))
    ∷ [])

-- of a graph with this model and these names of its states: its summary; the text of its regions;
-- the text of its conflicts; the text of its covers; the text of its folded graph; the text that
-- explains its conflicts
abbrev pub report_text : ProperReport → (model : List ℕ) → (states : List (List ℕ)) → CodedGraph
    → Stage TextRefusal (List ℕ)
report_text Summary model states coded = gives (summary coded)
report_text Regions model states coded = shows (IsRegionText coded states)
report_text Conflicts model states coded = shows (IsConflictText coded states)
report_text Covers model states coded = shows (IsCoverText coded states)
report_text Fold model states coded = shows (IsFoldText model states coded)
report_text Explain model states coded = shows (IsExplainText coded states)
