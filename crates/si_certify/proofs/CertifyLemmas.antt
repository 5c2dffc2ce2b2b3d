-- `certify` comes to one answer; what it comes to passes its audit, and is there wherever a lineage
-- fits.
use Rattle.std.proofs.Common.{◌≡◌, ℕ, List, length, None, Ok, Err, Result, refl, sym, ap, subst, ◌∙◌}
use Rattle.si_audit.specs.Audit.{Certifies}
use Rattle.si_audit.specs.Laws.{CanBeAudited}
use Rattle.si_audit.proofs.OneCertificate.{certified_implement, one_certificate}
use Rattle.si_base.specs.Behaviour.{Implements}
use Rattle.si_base.specs.Codes.{CodedGraph, IsCoded}
use Rattle.si_base.specs.GivenGraph.{Sg}
use Rattle.si_base.specs.Graph.{StateGraph}
use Rattle.si_base.specs.Netlist.{Netlist}
use Rattle.si_base.specs.NetlistText.{netlist_text}
use Rattle.si_base.specs.Proper.{IsProper}
use Rattle.si_base.specs.System.{IsFor}
use Rattle.si_base.specs.WellFormed.{IsNetlist}
use Rattle.si_certified.specs.Bare.{with_lines}
use Rattle.si_certified.proofs.ComingBack.{fitting_certified}
use Rattle.si_circuit.specs.Circuits.{AreStateNames}
use Rattle.si_circuit.specs.Spelling.{insertions_of}
use Rattle.si_finder.specs.Laws.{IsAnswer}
use Rattle.si_finder.specs.declared.not_found.NotFound.{NotFound}
use Rattle.si_finder.proofs.NoneFound.{refusals_fit_none}
use Rattle.si_finder.proofs.OneAnswer.{answers_are_one}
use Rattle.si_finder.proofs.SomeAnswer.{answers_exist}
use Rattle.si_found.specs.Found.{Fits}
use Rattle.si_found.proofs.OneLineage.{fitting_one}
use Rattle.si_insert.specs.Lineage.{History}
use Rattle.si_netlist_reader.specs.NetlistFault.{netlist_fault}
use Rattle.si_netlist_reader.specs.NetlistValue.{netlist_of}
use Rattle.si_netlist_reader.proofs.ReadLaw.{read_is_netlist}
use Rattle.si_readings.specs.Checks.{IsSound}
use Rattle.si_readings.specs.Laws.{AtMostOne, HasResult}
use Rattle.si_readings.specs.Readings.{AuditReadings}
use Rattle.si_readings.proofs.CheckLemmas.{match_lists_one, proper_one}
use Rattle.si_readings.proofs.ReadingLemmas.{AreAuditReadings, audit_readings_are, audit_readings_one}
use Rattle.si_readings.proofs.ReadingLemmas.{audit_readings_some}
use Rattle.si_readings.proofs.ReadingsExist.{match_lists_some, proper_some}
use Rattle.si_readings.proofs.StageLemmas.{passed, then_one, then_some}
use Rattle.si_refusals.specs.Refusal.{TextRefusal, Rejected}
use Rattle.si_refusals.specs.Stages.{Passes}
use Rattle.si_refusals.specs.declared.rejection.NamedRejection.{NamedRejection}
use Rattle.si_sg.specs.GivenGraph.{IsGivenBy}
use Rattle.si_stages.specs.AuditLaws.{IsCertifiedBy}
use Rattle.si_stages.specs.Audited.{IsCertified, audit_text}
use Rattle.si_stages.proofs.AuditLaws.{reads_back}
use Rattle.si_stages.proofs.AuditLemmas.{can_be_audited, certified_output, output_certified}
use Rattle.si_stages.proofs.GivenLineages.{given_state_names}
use Rattle.si_certify.specs.Certify.{IsSpelled, IsUnfound, TellsNotFound, certify, spelling}
use Rattle.si_certify.specs.Hidden.{hiding}
use Rattle.si_certify.specs.Laws.{AuditedComeBack, CertifiedTextsPass, FittingAreWritten, IsCertifiedText}
use Rattle.si_certify.specs.Laws.{hidden_netlist}
use Rattle.si_certify.proofs.HiddenLemmas.{hiding_is_netlist}
use Rattle.si_certify.proofs.ReasonLemmas.{not_memory, one_reason, some_reason}
use Rattle.si_certify.proofs.SpelledLemmas.{certified_fits, hidden_is_for, lines_come_back, spelled_is_for}
use Rattle.si_certify.proofs.SpelledLemmas.{spelled_is_netlist}
use Rattle.si_certify.proofs.ThereLemmas.{is_there}

-- ---- the last stage has one result
module _ (states : List (List ℕ)) (c : CodedGraph) (n : Netlist) (is : IsCoded c) (proper : IsProper c.graph) where
  abbrev given : ℕ
  given = length c.graph.signals

  text_by : History → List ℕ
  text_by l = netlist_text (with_lines (insertions_of states l) n)

  refusal_answers : (r : TextRefusal) (u : IsUnfound states c n r) → IsAnswer c n (Err u.why)
  refusal_answers r u = (u.shows, not_memory states given n.signals u.why u.reason u.told)

  apart : (a : List ℕ) (r : TextRefusal) → IsSpelled states c n a → IsUnfound states c n r → ⊥
  apart a r spelled unfound =
      let answer = refusal_answers r unfound in
      refusals_fit_none c n unfound.why is proper answer.0 answer.1 spelled.lineage spelled.fits

  same_why : (why other : NotFound) → IsAnswer c n (Err why) → IsAnswer c n (Err other) → why ≡ other
  same_why why other one also =
      let make : NotFound → Result History NotFound = λ w. Err w in
      let same : make why ≡ make other = answers_are_one c n (Err why) (Err other) is proper one also in cc

  same_refusal : (r q : TextRefusal) → IsUnfound states c n r → IsUnfound states c n q → r ≡ q
  same_refusal r q one other =
      let same = same_why one.why other.why (refusal_answers r one) (refusal_answers q other) in
      let told = subst (λ (w : NotFound). TellsNotFound states given n.signals w other.reason) (sym same) other.told in
      let reason = one_reason states given n.signals one.why one.reason other.reason one.told told in
      one.refusal_is ∙ ap (λ (x : NamedRejection). Rejected x) reason ∙ sym other.refusal_is

  pub spelling_one : AtMostOne (spelling states c n)
  unfolding text_by
  spelling_one (Ok a) (Ok b) one other =
      let same = fitting_one c n one.lineage other.lineage one.fits other.fits in
      ap Ok (one.output_is ∙ ap text_by same ∙ sym other.output_is)
  spelling_one (Ok a) (Err r) one other = absurd (apart a r one other)
  spelling_one (Err r) (Ok a) one other = absurd (apart a r other one)
  spelling_one (Err r) (Err q) one other = ap Err (same_refusal r q one other)

  pub spelling_some : IsNetlist n → IsFor c n → HasResult (spelling states c n)
  spelling_some netlist fits = of_answer (answers_exist c n is proper netlist fits)
    where
      of_answer : (r : Result History NotFound) × IsAnswer c n r → HasResult (spelling states c n)
      of_answer (Ok l, fitting) = (
        Ok (netlist_text (with_lines (insertions_of states l) n)),
        record { lineage = l; fits = fitting; output_is = refl },
      )
      of_answer (Err why, shown) =
          let there = is_there c n is proper netlist fits why shown.0 in
          let reason = some_reason states given n.signals c.graph.states why shown.1 there in (
            Err (Rejected reason.0),
            record {
              why = why;
              shows = shown.0;
              reason = reason.0;
              told = reason.1;
              refusal_is = refl;
            },
          )

-- ---- the texts come to one answer
pub proper_is : (g : StateGraph) (c : CodedGraph) → IsSound g c → IsProper c.graph
proper_is g c sound = subst IsProper (sym sound.same_graph) sound.proper

pub certify_one : (g a n b : List ℕ) → AtMostOne (certify g a n b)
certify_one g a n b = then_one _ _ (audit_readings_one g a n b)
    (λ readings read. let sg = readings.given in
    then_one _ _ (proper_one sg.graph sg.states)
    (λ c sound. let m = hiding (length c.graph.signals) readings.netlist in
    then_one _ _ (match_lists_one n c m)
    (λ _ fits. spelling_one sg.states c m sound.coded_is (proper_is sg.graph c sound))))

read_netlist : (a b : List ℕ) (readings : AuditReadings) → AreAuditReadings a b readings → IsNetlist readings.netlist
read_netlist a b readings are = subst IsNetlist (sym are.netlist) (read_is_netlist b are.no_fault)

pub certify_some : (g a n b : List ℕ) → HasResult (certify g a n b)
certify_some g a n b = then_some _ _ (audit_readings_some g a n b)
    (λ readings read. let sg = readings.given in
    let are = audit_readings_are g a n b readings read in
    then_some _ _ (proper_some a sg are.given)
    (λ c sound. let given = length c.graph.signals in
    let m = hiding given readings.netlist in
    then_some _ _ (match_lists_some n c m)
    (λ _ fits. spelling_some sg.states c m sound.coded_is (proper_is sg.graph c sound)
    (hiding_is_netlist given readings.netlist (read_netlist a b readings are)) fits)))

-- ---- the text of a netlist with the lines of the lineage that fits it passes its audit
module _ (text : List ℕ) (sg : Sg) (c : CodedGraph) (n : Netlist) (l : History) (given : IsGivenBy text sg)
    (sound : IsSound sg.graph c) (netlist : IsNetlist n) (for : IsFor c n) (fits : Fits c n l) where
  abbrev lined : Netlist
  lined = with_lines (insertions_of sg.states l) n

  abbrev output : List ℕ
  output = netlist_text lined

  names : AreStateNames c.graph sg.states
  names = subst (λ (g : StateGraph). AreStateNames g sg.states) (sym sound.same_graph) (given_state_names text sg given)

  back : (netlist_fault output ≡ None) × (netlist_of output ≡ lined)
  back = reads_back lined (spelled_is_netlist sg.states c n l fits names netlist)

  can : CanBeAudited sg.states c (netlist_of output)
  can = can_be_audited text output sg c given back.0 sound
      (subst (IsFor c) (sym back.1) (spelled_is_for sg.states c n l fits names netlist for))

  certifies : Certifies sg.states c (netlist_of output) l
  certifies = subst (λ (m : Netlist). Certifies sg.states c m l) (sym back.1) (fitting_certified sg.states c n l fits)

  is_certified : IsCertified text output (audit_text l (netlist_of output))
  is_certified = record {
    given = sg;
    is_given = given;
    no_fault = back.0;
    coded = c;
    sound = sound;
    is_for = can.fits;
    lineage = l;
    certifies = certifies;
    implements = subst (λ (g : StateGraph). Implements (netlist_of output) g) sound.same_graph
        (certified_implement sg.states c (netlist_of output) l can certifies);
    output_is = refl;
  }

  pub certified_by : IsCertifiedBy text output sg l
  certified_by =
      let circuit = netlist_of output in
      let here : CodedGraph → Type 0 = λ d. Certifies sg.states d circuit l in
      record {
        is_given = given;
        certifies = subst here (sym fits.given_is) certifies;
        alone = λ m other. one_certificate sg.states c circuit m l can
            (subst (λ (d : CodedGraph). Certifies sg.states d circuit m) fits.given_is other) certifies;
        passes = λ g n. certified_output g text n output (audit_text l circuit) is_certified;
      }

-- ---- what `certify` comes to
module _ (g a n b : List ℕ) where
  -- the netlist is hidden behind as many signals, whether they are counted in the text's graph or
  -- in that with codes
  same_hidden : (sg : Sg) (c : CodedGraph) (m : Netlist) → IsSound sg.graph c → m ≡ netlist_of b
      → hiding (length c.graph.signals) m ≡ hidden_netlist (length sg.graph.signals) b
  same_hidden sg c m sound is = rw (is, sound.same_graph) refl

  pub certified_text : (output : List ℕ) → certify g a n b (Ok output) → IsCertifiedText a b output
  certified_text output comes =
      let read = passed _ _ output comes in
      let checked = passed _ _ output read.2 in
      let matched = passed _ _ output checked.2 in
      let are = audit_readings_are g a n b read.0 read.1 in
      let sg = read.0.given in
      let c = checked.0 in
      let same = same_hidden sg c read.0.netlist checked.1 are.netlist in
      let told : IsSpelled sg.states c (hidden_netlist (length sg.graph.signals) b) output =
      subst (λ (m : Netlist). IsSpelled sg.states c m output) same matched.2 in
      let for = subst (IsFor c) same matched.1 in
      let netlist = hiding_is_netlist (length sg.graph.signals) (netlist_of b) (read_is_netlist b are.no_fault) in
      let passes = certified_by a sg c _ told.lineage are.given checked.1 netlist for told.fits in
      record {
        no_fault = are.no_fault;
        given = sg;
        lineage = told.lineage;
        output_is = told.output_is;
        certified = subst (λ (t : List ℕ). IsCertifiedBy a t sg told.lineage) (sym told.output_is) passes;
      }

  pub written_text : (sg : Sg) (c : CodedGraph) (l : History) → IsGivenBy a sg → netlist_fault b ≡ None
      → IsSound sg.graph c → IsFor c (hidden_netlist (length sg.graph.signals) b)
      → Fits c (hidden_netlist (length sg.graph.signals) b) l
      → certify g a n b
      (Ok (netlist_text (with_lines (insertions_of sg.states l) (hidden_netlist (length sg.graph.signals) b))))
  written_text sg c l given none sound for fits =
      let circuit = netlist_of b in
      let readings : AuditReadings = record { given = sg; netlist = circuit } in
      let reads = Passes sg given (Passes circuit (none, refl) refl) in
      let back = sym (same_hidden sg c circuit sound refl) in
      let told : IsSpelled sg.states c (hidden_netlist (length sg.graph.signals) b) _ =
      record { lineage = l; fits = fits; output_is = refl } in
      Passes readings reads (Passes c sound (Passes tt (subst (IsFor c) back for)
      (subst (λ (m : Netlist). IsSpelled sg.states c m
      (netlist_text (with_lines (insertions_of sg.states l) (hidden_netlist (length sg.graph.signals) b)))) back told)))

pub certified_texts_pass : CertifiedTextsPass
certified_texts_pass g a n b output comes = certified_text g a n b output comes

pub fitting_are_written : FittingAreWritten
fitting_are_written g a n b sg c l given none sound for fits = written_text g a n b sg c l given none sound for fits

pub audited_come_back : AuditedComeBack
audited_come_back g a n b output comes =
    let is = output_certified g a n b output comes in
    let sg = is.given in
    let c = is.coded in
    let circuit = netlist_of b in
    let can = can_be_audited a b sg c is.is_given is.no_fault is.sound is.is_for in
    let same = same_hidden g a n b sg c circuit is.sound refl in
    let for = subst (IsFor c) same (hidden_is_for c circuit can.netlist can.fits) in
    let fits = subst (λ (m : Netlist). Fits c m is.lineage) same
    (certified_fits sg.states c circuit is.lineage can is.certifies) in
    let lines = ap (with_lines (insertions_of sg.states is.lineage)) (sym same)
    ∙ lines_come_back sg.states c circuit is.lineage can is.certifies in
    subst (λ (m : Netlist). certify g a n b (Ok (netlist_text m))) lines
    (written_text g a n b sg c is.lineage is.is_given is.no_fault is.sound for fits)
