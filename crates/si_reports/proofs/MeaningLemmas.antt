-- The texts of each report and each replay come to one answer.
use Rattle.std.proofs.Common.{◌≡◌, ℕ, List, None, Ok, refl}
use Rattle.std.proofs.Common.{inl, inr}
use Rattle.si_base.specs.Codes.{CodedGraph}
use Rattle.si_base.specs.GivenGraph.{Sg}
use Rattle.si_base.specs.System.{IsFor}
use Rattle.si_base.specs.Graph.{names_in}
use Rattle.si_netlist_reader.specs.NetlistFault.{netlist_fault}
use Rattle.si_netlist_reader.specs.NetlistValue.{netlist_of}
use Rattle.si_refusals.specs.Refusal.{TextRefusal}
use Rattle.si_refusals.specs.Stages.{Stage, Then, Passes}
use Rattle.si_sg.specs.GivenGraph.{IsGivenBy}
use Rattle.si_system.specs.ScheduleText.{schedule_fault, schedule_of}
use Rattle.si_readings.specs.Checks.{IsSound}
use Rattle.si_readings.specs.Laws.{AtMostOne, HasResult}
use Rattle.si_reports.specs.Laws.{EndsOrDiffers}
use Rattle.si_reports.specs.Meaning.{on_proper, report_on, report, replay}
use Rattle.si_readings.specs.Readings.{ReplayReadings}
use Rattle.si_reports.specs.declared.replay_kind.ReplayReport.{ReplayReport}
use Rattle.si_reports.specs.declared.report_kind.ProperReport.{ProperReport}
use Rattle.si_reports.specs.declared.report_kind.ProperReport.TheVariants as told
use Rattle.si_reports.specs.declared.report_kind.Report.{Report}
use Rattle.si_reports.specs.declared.report_kind.Report.TheVariants.{Summary, Regions, Conflicts, Covers, Fold}
use Rattle.si_reports.specs.declared.report_kind.Report.TheVariants.{States, Explain, Dot, Lint}
use Rattle.si_readings.proofs.CheckLemmas.{proper_one, match_lists_one}
use Rattle.si_readings.proofs.ReadingLemmas.{replay_readings_are, replay_readings_one, replay_readings_some}
use Rattle.si_readings.proofs.CheckNames.{given_named_states}
use Rattle.si_reports.proofs.LintedLemmas.{whole_one, whole_some}
use Rattle.si_reports.proofs.LintedLemmas.{told_one as linted_one, told_some as linted_some}
use Rattle.si_reports.proofs.PicturedLemmas.{drawn_one, drawn_some, listed_one, listed_some}
use Rattle.si_reports.proofs.ReportLemmas.{told_one, told_some}
use Rattle.si_readings.proofs.ReadingsExist.{proper_some, match_lists_some}
use Rattle.si_reports.proofs.ReplayEnds.{ends_or_departs, replay_end_one, replay_end_some}
use Rattle.si_readings.proofs.StageLemmas.{then_one, then_some}

-- ---- to one answer at most
on_proper_one : (what : ProperReport) (given : Sg) → AtMostOne (on_proper what given.model given.states given.graph)
on_proper_one what given = then_one _ _ (proper_one given.graph given.states)
    (λ coded sound. told_one what given.model given.states coded sound.coded_is)

report_on_one : (what : Report) (given : Sg) (dropped : List (List ℕ))
    → AtMostOne (report_on what given.model given.states dropped given.graph)
report_on_one Summary given dropped = on_proper_one told.Summary given
report_on_one Regions given dropped = on_proper_one told.Regions given
report_on_one Conflicts given dropped = on_proper_one told.Conflicts given
report_on_one Covers given dropped = on_proper_one told.Covers given
report_on_one Fold given dropped = on_proper_one told.Fold given
report_on_one States given dropped = listed_one given.states given.graph
report_on_one Explain given dropped = on_proper_one told.Explain given
report_on_one Dot given dropped = drawn_one given.model given.states given.graph
report_on_one Lint given dropped = linted_one given.states dropped given.graph

pub report_one : (what : Report) (file text : List ℕ) → AtMostOne (report what file text)
report_one what file text =
    then_one _ _ (whole_one file text) (λ whole is. report_on_one what whole.given whole.dropped)

pub replay_one : (what : ReplayReport) (g a n b s c : List ℕ) → AtMostOne (replay what g a n b s c)
replay_one what g a n b s c = then_one _ _ (replay_readings_one g a n b s c)
    (λ readings read. then_one _ _ (proper_one readings.given.graph readings.given.states)
    (λ coded sound. then_one _ _ (match_lists_one n coded readings.netlist)
    (λ _ same. replay_end_one what readings.given.graph readings.given.states readings.netlist readings.events)))

-- ---- and to some answer
on_proper_some : (what : ProperReport) (text : List ℕ) (given : Sg) → IsGivenBy text given
    → HasResult (on_proper what given.model given.states given.graph)
on_proper_some what text given is = then_some _ _ (proper_some text given is)
    (λ coded sound. told_some what given.model given.states coded sound.coded_is)

report_on_some : (what : Report) (text : List ℕ) (given : Sg) (dropped : List (List ℕ)) → IsGivenBy text given
    → HasResult (report_on what given.model given.states dropped given.graph)
report_on_some Summary text given dropped is = on_proper_some told.Summary text given is
report_on_some Regions text given dropped is = on_proper_some told.Regions text given is
report_on_some Conflicts text given dropped is = on_proper_some told.Conflicts text given is
report_on_some Covers text given dropped is = on_proper_some told.Covers text given is
report_on_some Fold text given dropped is = on_proper_some told.Fold text given is
report_on_some States text given dropped is = listed_some given.states given.graph (given_named_states text given is)
report_on_some Explain text given dropped is = on_proper_some told.Explain text given is
report_on_some Dot text given dropped is =
    drawn_some given.model given.states given.graph (given_named_states text given is)
report_on_some Lint text given dropped is =
    linted_some given.states dropped given.graph (given_named_states text given is)

pub report_some : (what : Report) (file text : List ℕ) → HasResult (report what file text)
report_some what file text =
    then_some _ _ (whole_some file text) (λ whole is. report_on_some what text whole.given whole.dropped is.0)

pub replay_some : (what : ReplayReport) (g a n b s c : List ℕ) → HasResult (replay what g a n b s c)
replay_some what g a n b s c = then_some _ _ (replay_readings_some g a n b s c)
    (λ readings read. let given = (replay_readings_are g a n b s c readings read).given in
    then_some _ _ (proper_some a readings.given given)
    (λ coded sound. then_some _ _ (match_lists_some n coded readings.netlist)
    (λ _ same. replay_end_some what readings.given.graph readings.given.states readings.netlist readings.events
    (given_named_states a readings.given given))))

-- ---- where nothing is refused before, a replay ends or departs from the graph
then_ends : {A : Type 0} (first : Stage TextRefusal A) (next : A → Stage TextRefusal (List ℕ)) (x : A) → first (Ok x)
    → EndsOrDiffers (next x) → EndsOrDiffers (Then TextRefusal A (List ℕ) first next)
then_ends first next x is (inl ends) = inl (ends.0, Passes x is ends.1)
then_ends first next x is (inr departs) = inr (departs.0, departs.1, departs.2, Passes x is departs.3)

pub replay_ends : (what : ReplayReport) (g n s a b c : List ℕ) (given : Sg) (coded : CodedGraph)
    → IsGivenBy a given → netlist_fault b ≡ None → schedule_fault (names_in (netlist_of b).signals) c ≡ None
    → IsSound given.graph coded → IsFor coded (netlist_of b) → EndsOrDiffers (replay what g a n b s c)
replay_ends what g n s a b c given coded is netlist schedule sound fits =
    let net = netlist_of b in
    let events = schedule_of (names_in net.signals) c in
    let readings : ReplayReadings = record { given = given; netlist = net; events = events } in
    let read = Passes given is (Passes net (netlist, refl) (Passes events (schedule, refl) refl)) in
    then_ends _ _ readings read (then_ends _ _ coded sound (then_ends _ _ tt fits
    (ends_or_departs what given.graph given.states net events (given_named_states a given is))))
