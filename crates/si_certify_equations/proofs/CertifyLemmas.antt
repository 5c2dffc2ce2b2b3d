-- Equations come to one answer; what they come to passes its audit and has their values, and is
-- there wherever with some start values a lineage fits.
use Rattle.std.proofs.Common.{◌≡◌, ℕ, ◌^◌, ◌<◌, List, length, Ok, Err, refl, sym, ap, subst, ◌∙◌}
use Rattle.si_base.specs.Codes.{CodedGraph}
use Rattle.si_base.specs.GivenGraph.{Sg}
use Rattle.si_base.specs.Graph.{StateGraph}
use Rattle.si_base.specs.Netlist.{Insertion, Netlist}
use Rattle.si_base.specs.System.{IsFor}
use Rattle.si_base.specs.WellFormed.{IsNetlist}
use Rattle.si_base.proofs.StepCodes.{code_fits}
use Rattle.si_certified.specs.Bare.{with_lines}
use Rattle.si_circuit.specs.Circuits.{AreStateNames}
use Rattle.si_circuit.specs.Spelling.{insertions_of}
use Rattle.si_equations.specs.Equations.{Equations}
use Rattle.si_equations.specs.Whole.{AreWhole}
use Rattle.si_equations.proofs.WholeLemmas.{text_whole}
use Rattle.si_from_equations.specs.Beside.{netlist_beside, started}
use Rattle.si_from_equations.specs.BesideLaws.{IsOfEquations}
use Rattle.si_from_equations.specs.Given.{AreGiven}
use Rattle.si_from_equations.proofs.GateLemmas.{gates_are_equations}
use Rattle.si_from_equations.proofs.NetlistLemmas.{started_is_for, started_is_netlist}
use Rattle.si_netlist_reader.specs.NetlistValue.{netlist_of}
use Rattle.si_readings.specs.Checks.{IsSound}
use Rattle.si_readings.specs.Laws.{HasResult}
use Rattle.si_readings.proofs.CheckLemmas.{graph_one, proper_one}
use Rattle.si_readings.proofs.ReadingsExist.{graph_some, proper_some}
use Rattle.si_readings.proofs.StageLemmas.{passed, then_one, then_some}
use Rattle.si_refusals.specs.Stages.{Passes}
use Rattle.si_sg.specs.GivenGraph.{IsGivenBy}
use Rattle.si_sg.proofs.GivenNames.{given_named}
use Rattle.si_stages.specs.AuditLaws.{IsCertifiedBy}
use Rattle.si_stages.proofs.AuditLaws.{reads_back}
use Rattle.si_stages.proofs.GivenLineages.{given_state_names}
use Rattle.si_certify.proofs.CertifyLemmas.{certified_by, proper_is}
use Rattle.si_certify.proofs.SpelledLemmas.{spelled_is_netlist}
use Rattle.si_verilog_reader.specs.Comments.{without_comments}
use Rattle.si_verilog_reader.proofs.WholeLemmas.{text_whole as modules_whole}
use Rattle.si_certify_equations.specs.declared.form.Form.{Form}
use Rattle.si_certify_equations.specs.declared.form.Form.TheVariants as forms
use Rattle.si_certify_equations.specs.Certify.{certify_equations, spelled_in}
use Rattle.si_certify_equations.specs.Laws.{AnswersAreOne, AnswersExist, CertifiedEquationsPass, FittingAreCertified}
use Rattle.si_certify_equations.specs.Starts.{IsStarted, spelled_first, started_on, starts}
use Rattle.si_certify_equations.proofs.NetlistStage.{IsNetlistBeside, beside_for, beside_more}
use Rattle.si_certify_equations.proofs.NetlistStage.{beside_netlist, beside_start, netlist_is_beside, netlist_one}
use Rattle.si_certify_equations.proofs.NetlistStage.{netlist_some, read_one, read_some}
use Rattle.si_certify_equations.proofs.StartsLemmas.{starts_one, starts_some}

-- ---- what a text of a graph gives
pub given_names : (text : List ℕ) (sg : Sg) → IsGivenBy text sg → AreGiven sg.model sg.graph.signals
given_names text sg given =
    let named = given_named text sg given in
    record { model_name = named.model; names = named.names; given = named.given }

pub coded_names : (sg : Sg) (c : CodedGraph) → IsSound sg.graph c → AreGiven sg.model sg.graph.signals
    → AreGiven sg.model c.graph.signals
coded_names sg c sound given = subst (λ (g : StateGraph). AreGiven sg.model g.signals) (sym sound.same_graph) given

-- what a text spells is whole
pub spelled_whole : (form : Form) (text : List ℕ) (e : Equations) → spelled_in form text ≡ Ok e → AreWhole e
spelled_whole forms.Equations text e is = text_whole text e is
spelled_whole forms.Modules text e is = modules_whole (without_comments text) e is

-- ---- the texts come to one answer
pub answers_are_one : AnswersAreOne
answers_are_one form g a n b = then_one _ _ (graph_one g a)
    (λ sg given. then_one _ _ (read_one form n b)
    (λ e spelled. then_one _ _ (proper_one sg.graph sg.states)
    (λ c sound. then_one _ _ (netlist_one n sg.model c e)
    (λ m comes. starts_one sg.states c m sound.coded_is (proper_is sg.graph c sound)))))

module _ (a : List ℕ) (sg : Sg) (e : Equations) (c : CodedGraph) (m : Netlist) (given : IsGivenBy a sg) (whole : AreWhole e)
    (sound : IsSound sg.graph c) (is : IsNetlistBeside sg.model c e m) where
  names : AreGiven sg.model c.graph.signals
  names = coded_names sg c sound (given_names a sg given)

  netlist : IsNetlist m
  netlist = beside_netlist sg.model c e m is sound.coded_is names whole

  for : IsFor c m
  for = beside_for sg.model c e m is names

  answered : HasResult (spelled_first sg.states c m)
  answered = starts_some sg.states c m sound.coded_is (proper_is sg.graph c sound) netlist for
      (beside_more sg.model c e m is) (beside_start sg.model c e m is)

  -- with start values of the hidden signals
  module _ (values : ℕ) (within : values < starts c m) where
    started_netlist : IsNetlist (started_on c m values)
    started_netlist = started_is_netlist (length c.graph.signals) values m netlist (beside_more sg.model c e m is)
        (subst (λ (k : ℕ). k < 2 ^ length c.graph.signals) (sym (beside_start sg.model c e m is))
        (code_fits c c.graph.start sound.coded_is sound.coded_is.graph_is.starts)) within

    started_for : IsFor c (started_on c m values)
    started_for = started_is_for c m values for

pub answers_exist : AnswersExist
answers_exist form g a n b = then_some _ _ (graph_some g a)
    (λ sg given. then_some _ _ (read_some form n b)
    (λ e spelled. then_some _ _ (proper_some a sg given)
    (λ c sound. then_some _ _ (netlist_some n sg.model c e)
    (λ m comes. answered a sg e c m given (spelled_whole form b e spelled) sound (netlist_is_beside n sg.model c e m comes)))))

-- ---- what they come to
-- other lines and start values change no gate
still_of_equations : (lines : List Insertion) (given values : ℕ) (n : Netlist) (e : Equations) → IsOfEquations n e
    → IsOfEquations (with_lines lines (started given values n)) e
still_of_equations lines given values n e of z drives =
    let h = of z drives in
    record { equation = h.equation; there = h.there; named = h.named; value = h.value }

pub certified_equations_pass : CertifiedEquationsPass
certified_equations_pass form g a n b output comes =
    let read = passed _ _ output comes in
    let spelled = passed _ _ output read.2 in
    let checked = passed _ _ output spelled.2 in
    let made = passed _ _ output checked.2 in
    let sg = read.0 in
    let e = spelled.0 in
    let c = checked.0 in
    let m = made.0 in
    let is = netlist_is_beside n sg.model c e m made.1 in
    let told : IsStarted sg.states c m output = made.2 in
    let whole = spelled_whole form b e spelled.1 in
    let lineage = told.spelled.lineage in
    let lines = insertions_of sg.states lineage in
    let this = started_on c m told.values in
    let netlist = started_netlist a sg e c m read.1 whole checked.1 is told.values told.within in
    let for = started_for a sg e c m read.1 whole checked.1 is told.values told.within in
    let passes = certified_by a sg c this lineage read.1 checked.1 netlist for told.spelled.fits in
    let states = subst (λ (h : StateGraph). AreStateNames h sg.states) (sym checked.1.same_graph)
    (given_state_names a sg read.1) in
    let back = reads_back (with_lines lines this)
    (spelled_is_netlist sg.states c this lineage told.spelled.fits states netlist) in
    let of = subst (λ (k : Netlist). IsOfEquations k e) (sym is.netlist_is)
    (gates_are_equations sg.model c e is.lists is.summed) in
    let gates = still_of_equations lines (length c.graph.signals) told.values m e of in
    let same = ap netlist_of told.spelled.output_is ∙ back.1 in
    record {
      read = e;
      spelled = spelled.1;
      given = sg;
      lineage = lineage;
      certified = subst (λ (t : List ℕ). IsCertifiedBy a t sg lineage) (sym told.spelled.output_is) passes;
      gates = subst (λ (k : Netlist). IsOfEquations k e) (sym same) gates;
    }

-- ---- when they come to something
pub fitting_are_certified : FittingAreCertified
fitting_are_certified form g a n b some =
    let sg = some.given in
    let e = some.read in
    let c = some.coded in
    let m = netlist_beside sg.model c e in
    let is : IsNetlistBeside sg.model c e m =
    record { lists = some.lists; few = some.few; summed = some.summed; netlist_is = refl } in
    let whole = spelled_whole form b e some.spelled in
    of_answer (answered a sg e c m some.is_given whole some.sound is)
  where
    of_answer : HasResult (spelled_first some.given.states some.coded
        (netlist_beside some.given.model some.coded some.read))
        → (output : List ℕ) × certify_equations form g a n b (Ok output)
    of_answer (Ok output, told) = (
      output,
      Passes some.given some.is_given (Passes some.read some.spelled (Passes some.coded some.sound
          (Passes (netlist_beside some.given.model some.coded some.read)
          (Passes tt some.lists (Passes tt some.few (some.summed, refl))) told))),
    )
    of_answer (Err refusal, told) = absurd (told.none some.values some.within some.lineage some.fits)
