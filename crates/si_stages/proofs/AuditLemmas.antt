-- An audit comes to one answer: the netlist is certified, or there is a first reason against it.
use Rattle.std.proofs.Common.{◌≡◌, ◌≢◌, ℕ, List, None, Ok, Err, refl, sym, ap, subst, ◌∙◌, inl, inr}
use Rattle.si_audit.specs.declared.fault.AuditFault.{AuditFault}
use Rattle.si_audit.specs.declared.fault.AuditFault.TheVariants as fault
use Rattle.si_audit.specs.Audit.{Certifies}
use Rattle.si_audit.specs.Laws.{CanBeAudited}
use Rattle.si_audit.specs.Loops.FaultSignals.{TellsOf}
use Rattle.si_audit.proofs.AuditExists.{certified_or_faulty}
use Rattle.si_audit.proofs.OneCertificate.{certified_have_none, certified_implement, one_certificate, one_fault}
use Rattle.si_audit.proofs.FaultSignalLemmas.{tells}
use Rattle.si_base.specs.declared.graph.Signal.{Signal}
use Rattle.si_base.specs.Behaviour.{Implements}
use Rattle.si_base.specs.Codes.{CodedGraph}
use Rattle.si_base.specs.GivenGraph.{Sg}
use Rattle.si_base.specs.Graph.{StateGraph}
use Rattle.si_base.specs.Netlist.{Netlist}
use Rattle.si_base.specs.NetlistText.{name_of}
use Rattle.si_base.specs.Proper.{IsProper}
use Rattle.si_base.specs.System.{IsFor}
use Rattle.si_insert.specs.declared.accept.Rejected.TheVariants as why
use Rattle.si_insert.specs.Lineage.{History}
use Rattle.si_netlist_reader.specs.NetlistFault.{netlist_fault}
use Rattle.si_netlist_reader.specs.NetlistValue.{netlist_of}
use Rattle.si_netlist_reader.proofs.ReadLaw.{read_is_netlist}
use Rattle.si_refusals.specs.Refusal.{TextRefusal, Rejected}
use Rattle.si_refusals.specs.Stages.{Stage, Then, Passes}
use Rattle.si_refusals.specs.declared.rejection.NamedRejection.{NamedRejection}
use Rattle.si_refusals.specs.declared.rejection.NamedRejection.TheVariants as named
use Rattle.si_sg.proofs.GivenApart.{given_apart}
use Rattle.si_sg.specs.CanonicalText.{event_word}
use Rattle.si_sg.specs.GivenGraph.{IsGivenBy}
use Rattle.si_stages.specs.Audited.{EndsOrRejects, IsAudit, IsCertified, IsNamedSo, IsRejection}
use Rattle.si_stages.specs.Audited.{audit_text, certification}
use Rattle.si_readings.specs.Checks.{IsSound}
use Rattle.si_readings.specs.Laws.{AtMostOne, HasResult}
use Rattle.si_stages.specs.Meaning.{audit}
use Rattle.si_readings.specs.Readings.{AuditReadings}
use Rattle.si_readings.proofs.CheckLemmas.{proper_one, match_lists_one}
use Rattle.si_readings.proofs.ReadingLemmas.{AreAuditReadings, audit_readings_are, audit_readings_one}
use Rattle.si_readings.proofs.ReadingLemmas.{audit_readings_some}
use Rattle.si_readings.proofs.CheckNames.{as_many_names}
use Rattle.si_readings.proofs.ReadingsExist.{match_lists_some, proper_some}
use Rattle.si_readings.proofs.StageLemmas.{passed, then_one, then_some}

-- ---- a fault that is told has one name
pub not_memory : (signals : List Signal) (f : AuditFault) (r : NamedRejection) → IsNamedSo signals f r
    → f ≢ fault.NoMemory
not_memory signals fault.NoMemory r named = absurd named
not_memory signals (fault.States k) r named = λ (e : fault.States k ≡ fault.NoMemory). cc
not_memory signals (fault.Classes k) r named = λ (e : fault.Classes k ≡ fault.NoMemory). cc
not_memory signals (fault.Refused k s w) r named = λ (e : fault.Refused k s w ≡ fault.NoMemory). cc
not_memory signals (fault.Start z) r named = λ (e : fault.Start z ≡ fault.NoMemory). cc
not_memory signals (fault.Gate z s) r named = λ (e : fault.Gate z s ≡ fault.NoMemory). cc

pub one_name : (signals : List Signal) (f : AuditFault) (r q : NamedRejection) → IsNamedSo signals f r
    → IsNamedSo signals f q → r ≡ q
one_name signals fault.NoMemory r q one other = absurd one
one_name signals (fault.States k) r q one other = one ∙ sym other
one_name signals (fault.Classes k) r q one other = one ∙ sym other
one_name signals (fault.Refused k s (why.DelaysInput t e)) r q one other = one ∙ sym other
one_name signals (fault.Refused k s (why.BreaksPersistency t e f)) r q one other = one ∙ sym other
one_name signals (fault.Refused k s (why.TooLarge n)) r q one other = one ∙ sym other
one_name signals (fault.Refused k s why.NoCodeBit) r q one other = absurd one
one_name signals (fault.Start z) r q one other = one ∙ sym other
one_name signals (fault.Gate z s) r q one other = one ∙ sym other

pub some_name : (signals : List Signal) (f : AuditFault) → f ≢ fault.NoMemory → TellsOf signals f
    → (r : NamedRejection) × IsNamedSo signals f r
some_name signals fault.NoMemory other told = absurd (other refl)
some_name signals (fault.States k) other told = (named.States k, refl)
some_name signals (fault.Classes k) other told = (named.Classes k, refl)
some_name signals (fault.Refused k s (why.DelaysInput t e)) other told =
    (named.Delays k s (event_word signals e), refl)
some_name signals (fault.Refused k s (why.BreaksPersistency t e f)) other told =
    (named.Breaks k s (event_word signals e) (event_word signals f), refl)
some_name signals (fault.Refused k s (why.TooLarge n)) other told = (named.TooLarge k n, refl)
some_name signals (fault.Refused k s why.NoCodeBit) other told = absurd told
some_name signals (fault.Start z) other told = (named.Start (name_of signals z), refl)
some_name signals (fault.Gate z s) other told = (named.Gate (name_of signals z) s, refl)

-- ---- the stage has one result
module _ (states : List (List ℕ)) (coded : CodedGraph) (n : Netlist) (can : CanBeAudited states coded n) where
  apart : (a : List ℕ) (r : TextRefusal) → IsAudit states coded n a → IsRejection states coded n r → ⊥
  apart a r is other =
      not_memory n.signals other.fault other.reason other.named
      (certified_have_none states coded n is.lineage other.fault can is.certifies other.shows)

  pub audited_one : AtMostOne (certification states coded n)
  audited_one (Ok a) (Ok b) one other =
      let same = one_certificate states coded n one.lineage other.lineage can one.certifies other.certifies in
      ap Ok (one.output_is ∙ ap (λ (l : History). audit_text l n) same ∙ sym other.output_is)
  audited_one (Ok a) (Err r) one other = absurd (apart a r one other)
  audited_one (Err r) (Ok a) one other = absurd (apart a r other one)
  audited_one (Err r) (Err q) one other =
      let same : one.fault ≡ other.fault =
      one_fault states coded n one.fault other.fault can one.shows other.shows
      (not_memory n.signals one.fault one.reason one.named)
      (not_memory n.signals other.fault other.reason other.named) in
      let P : AuditFault → Type 0 = λ f. IsNamedSo n.signals f other.reason in
      let name : one.reason ≡ other.reason =
      one_name n.signals one.fault one.reason other.reason one.named (subst P (sym same) other.named) in
      ap Err (one.refusal_is ∙ ap (λ (r : NamedRejection). Rejected r) name ∙ sym other.refusal_is)

  -- a lineage that certifies the netlist gives an output
  pub is_audit : (l : History) → Certifies states coded n l → IsAudit states coded n (audit_text l n)
  is_audit l certifies = record {
    lineage = l;
    certifies = certifies;
    implements = certified_implement states coded n l can certifies;
    output_is = refl;
  }

  -- a netlist is certified, or rejected
  pub ends_or_rejects : EndsOrRejects (certification states coded n)
  ends_or_rejects = elim (certified_or_faulty states coded n can) [
    | inl (l, certifies) ↦ inl (audit_text l n, is_audit l certifies)
    | inr (f, other, shows) ↦ (
        let name = some_name n.signals f other (tells states coded n f can shows) in
        let rejects : IsRejection states coded n (Rejected name.0) =
        record { fault = f; shows = shows; reason = name.0; named = name.1; refusal_is = refl } in
        inr (name.0, rejects)
        )
  ]

  pub audited_some : HasResult (certification states coded n)
  audited_some = elim ends_or_rejects [
    | inl ends ↦ (Ok ends.0, ends.1)
    | inr rejects ↦ (Err (Rejected rejects.0), rejects.1)
  ]

-- ---- what the texts of an audit give can be audited
pub can_be_audited : (a b : List ℕ) (given : Sg) (coded : CodedGraph) → IsGivenBy a given → netlist_fault b ≡ None
    → IsSound given.graph coded → IsFor coded (netlist_of b) → CanBeAudited given.states coded (netlist_of b)
can_be_audited a b given coded is none sound fits = record {
  coded = sound.coded_is;
  proper = subst IsProper (sym sound.same_graph) sound.proper;
  count = as_many_names a given is ∙ ap (λ (g : StateGraph). g.states) (sym sound.same_graph);
  apart = given_apart a given is;
  netlist = read_is_netlist b none;
  fits = fits;
}

pub readings_can : (a b : List ℕ) (readings : AuditReadings) (coded : CodedGraph) → AreAuditReadings a b readings
    → IsSound readings.given.graph coded → IsFor coded readings.netlist
    → CanBeAudited readings.given.states coded readings.netlist
readings_can a b readings coded are sound fits =
    let Can : Netlist → Type 0 = CanBeAudited readings.given.states coded in
    subst Can (sym are.netlist) (can_be_audited a b readings.given coded are.given are.no_fault sound
    (subst (IsFor coded) are.netlist fits))

-- ---- the texts of an audit come to one answer
pub audit_one : (g a n b : List ℕ) → AtMostOne (audit g a n b)
audit_one g a n b = then_one _ _ (audit_readings_one g a n b)
    (λ readings read. then_one _ _ (proper_one readings.given.graph readings.given.states)
    (λ coded sound. then_one _ _ (match_lists_one n coded readings.netlist)
    (λ _ fits. audited_one readings.given.states coded readings.netlist
    (readings_can a b readings coded (audit_readings_are g a n b readings read) sound fits))))

pub audit_some : (g a n b : List ℕ) → HasResult (audit g a n b)
audit_some g a n b = then_some _ _ (audit_readings_some g a n b)
    (λ readings read. let are = audit_readings_are g a n b readings read in
    then_some _ _ (proper_some a readings.given are.given)
    (λ coded sound. then_some _ _ (match_lists_some n coded readings.netlist)
    (λ _ fits. audited_some readings.given.states coded readings.netlist
    (readings_can a b readings coded are sound fits))))

-- ---- where nothing is refused before, an audit ends or rejects the netlist
rejects_then : {A : Type 0} (first : Stage TextRefusal A) (next : A → Stage TextRefusal (List ℕ)) (x : A)
    → first (Ok x) → EndsOrRejects (next x) → EndsOrRejects (Then TextRefusal A (List ℕ) first next)
rejects_then first next x is (inl ends) = inl (ends.0, Passes x is ends.1)
rejects_then first next x is (inr rejects) = inr (rejects.0, Passes x is rejects.1)

pub audit_ends : (g a n b : List ℕ) (given : Sg) (coded : CodedGraph) → IsGivenBy a given → netlist_fault b ≡ None
    → IsSound given.graph coded → IsFor coded (netlist_of b) → EndsOrRejects (audit g a n b)
audit_ends g a n b given coded is none sound fits =
    let circuit = netlist_of b in
    let readings : AuditReadings = record { given = given; netlist = circuit } in
    let read = Passes given is (Passes circuit (none, refl) refl) in
    let can = can_be_audited a b given coded is none sound fits in
    rejects_then _ _ readings read (rejects_then _ _ coded sound (rejects_then _ _ tt fits
    (ends_or_rejects given.states coded circuit can)))

-- ---- it ends exactly where the netlist is certified
passes_all : (g a n b output : List ℕ) → audit g a n b (Ok output) → (readings : AuditReadings)
    × AreAuditReadings a b readings × (coded : CodedGraph) × IsSound readings.given.graph coded
    × IsFor coded readings.netlist × IsAudit readings.given.states coded readings.netlist output
passes_all g a n b output comes =
    let read = passed _ _ output comes in
    let checked = passed _ _ output read.2 in
    let matched = passed _ _ output checked.2 in
    (read.0, audit_readings_are g a n b read.0 read.1, checked.0, checked.1, matched.1, matched.2)

pub output_certified : (g a n b output : List ℕ) → audit g a n b (Ok output) → IsCertified a b output
output_certified g a n b output comes =
    let (readings, are, coded, sound, fits, told) = passes_all g a n b output comes in
    certified readings are coded sound (subst (IsFor coded) are.netlist fits)
    (subst (λ (c : Netlist). IsAudit readings.given.states coded c output) are.netlist told)
  where
    certified : (readings : AuditReadings) → AreAuditReadings a b readings → (coded : CodedGraph)
        → IsSound readings.given.graph coded → IsFor coded (netlist_of b)
        → IsAudit readings.given.states coded (netlist_of b) output → IsCertified a b output
    certified readings are coded sound fits told = record {
      given = readings.given;
      is_given = are.given;
      no_fault = are.no_fault;
      coded = coded;
      sound = sound;
      is_for = fits;
      lineage = told.lineage;
      certifies = told.certifies;
      implements = subst (λ (g : StateGraph). Implements (netlist_of b) g) sound.same_graph told.implements;
      output_is = told.output_is;
    }

pub certified_output : (g a n b output : List ℕ) → IsCertified a b output → audit g a n b (Ok output)
certified_output g a n b output is =
    let circuit = netlist_of b in
    let readings : AuditReadings = record { given = is.given; netlist = circuit } in
    let read = Passes is.given is.is_given (Passes circuit (is.no_fault, refl) refl) in
    let can = can_be_audited a b is.given is.coded is.is_given is.no_fault is.sound is.is_for in
    let told = is_audit is.given.states is.coded circuit can is.lineage is.certifies in
    let tells = subst (λ (t : List ℕ). IsAudit is.given.states is.coded circuit t) (sym is.output_is) told in
    Passes readings read (Passes is.coded is.sound (Passes tt is.is_for tells))
