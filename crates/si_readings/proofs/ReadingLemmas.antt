-- All texts of a command, read in their order: one result, and what each text gives.
use Rattle.std.proofs.Common.{◌≡◌, ℕ, List, None, Ok, refl, sym, ap, subst, ◌∙◌}
use Rattle.si_base.specs.Netlist.{Netlist}
use Rattle.si_base.specs.Graph.{names_in}
use Rattle.si_netlist_reader.specs.NetlistFault.{netlist_fault}
use Rattle.si_netlist_reader.specs.NetlistValue.{netlist_of}
use Rattle.si_refusals.specs.Stages.{Passes, Refuses}
use Rattle.si_sg.specs.GivenGraph.{IsGivenBy}
use Rattle.si_system.specs.ScheduleText.{schedule_fault, schedule_of}
use Rattle.si_readings.specs.Laws.{AtMostOne, HasResult}
use Rattle.si_readings.specs.Readings.{AuditReadings, GraphReadings, MappingReadings, ReplayReadings, graph_readings}
use Rattle.si_readings.specs.Readings.{audit_readings, fault_in, library_from, mapping_readings, replay_readings}
use Rattle.si_readings.specs.declared.library_format.LibraryFormat.{LibraryFormat}
use Rattle.si_readings.proofs.CheckLemmas.{graph_one}
use Rattle.si_readings.proofs.ReadingsExist.{graph_some}
use Rattle.si_readings.proofs.StageLemmas.{gives_one, gives_some, spelled_one, spelled_some, then_one, then_some}
use Rattle.si_readings.proofs.StageLemmas.{no_refusal, one_value}

-- ---- a graph, and a library
pub mapping_readings_one : (format : LibraryFormat) (g a n b : List ℕ) → AtMostOne (mapping_readings format g a n b)
mapping_readings_one format g a n b =
    then_one _ _ (graph_one g a) (λ given is. then_one _ _ (spelled_one n _ _) (λ library spelt. gives_one _))

pub mapping_readings_some : (format : LibraryFormat) (g a n b : List ℕ) → HasResult (mapping_readings format g a n b)
mapping_readings_some format g a n b =
    then_some _ _ (graph_some g a) (λ given is. then_some _ _ (spelled_some n _ _) (λ library spelt. gives_some _))

pub record AreMappingReadings (format : LibraryFormat) (a b : List ℕ) (readings : MappingReadings) : Type 0 where
  pub given : IsGivenBy a readings.given
  pub no_fault : fault_in format b ≡ None
  pub library : readings.library ≡ library_from format b

pub mapping_readings_are : (format : LibraryFormat) (g a n b : List ℕ) (readings : MappingReadings)
    → mapping_readings format g a n b (Ok readings) → AreMappingReadings format a b readings
mapping_readings_are format g a n b readings (Refuses r h same) = absurd (no_refusal (Ok readings) readings r refl same)
mapping_readings_are format g a n b readings (Passes given is (Refuses r h same)) =
    absurd (no_refusal (Ok readings) readings r refl same)
mapping_readings_are format g a n b readings (Passes given is (Passes cells spelt same)) =
    let read : MappingReadings = record { given = given; library = cells } in
    let readings_are = one_value (Ok readings) readings read refl same in
    let found : AreMappingReadings format a b read =
    record { given = is; no_fault = spelt.0; library = spelt.1 } in
    subst (AreMappingReadings format a b) (sym readings_are) found

-- ---- a graph, and a netlist
pub audit_readings_one : (g a n b : List ℕ) → AtMostOne (audit_readings g a n b)
audit_readings_one g a n b =
    then_one _ _ (graph_one g a) (λ given is. then_one _ _ (spelled_one n _ _) (λ circuit spelt. gives_one _))

pub audit_readings_some : (g a n b : List ℕ) → HasResult (audit_readings g a n b)
audit_readings_some g a n b =
    then_some _ _ (graph_some g a) (λ given is. then_some _ _ (spelled_some n _ _) (λ circuit spelt. gives_some _))

pub record AreAuditReadings (a b : List ℕ) (readings : AuditReadings) : Type 0 where
  pub given : IsGivenBy a readings.given
  pub no_fault : netlist_fault b ≡ None
  pub netlist : readings.netlist ≡ netlist_of b

pub audit_readings_are : (g a n b : List ℕ) (readings : AuditReadings) → audit_readings g a n b (Ok readings)
    → AreAuditReadings a b readings
audit_readings_are g a n b readings (Refuses r h same) = absurd (no_refusal (Ok readings) readings r refl same)
audit_readings_are g a n b readings (Passes given is (Refuses r h same)) =
    absurd (no_refusal (Ok readings) readings r refl same)
audit_readings_are g a n b readings (Passes given is (Passes circuit spelt same)) =
    let read : AuditReadings = record { given = given; netlist = circuit } in
    let readings_are = one_value (Ok readings) readings read refl same in
    let found : AreAuditReadings a b read =
    record { given = is; no_fault = spelt.0; netlist = spelt.1 } in
    subst (AreAuditReadings a b) (sym readings_are) found

-- ---- two graphs
pub graph_readings_one : (f a g b : List ℕ) → AtMostOne (graph_readings f a g b)
graph_readings_one f a g b =
    then_one _ _ (graph_one f a) (λ one is. then_one _ _ (graph_one g b) (λ other also. gives_one _))

pub graph_readings_some : (f a g b : List ℕ) → HasResult (graph_readings f a g b)
graph_readings_some f a g b =
    then_some _ _ (graph_some f a) (λ one is. then_some _ _ (graph_some g b) (λ other also. gives_some _))

pub record AreGraphReadings (a b : List ℕ) (readings : GraphReadings) : Type 0 where
  pub one : IsGivenBy a readings.one
  pub other : IsGivenBy b readings.other

pub graph_readings_are : (f a g b : List ℕ) (readings : GraphReadings) → graph_readings f a g b (Ok readings)
    → AreGraphReadings a b readings
graph_readings_are f a g b readings (Refuses r h same) = absurd (no_refusal (Ok readings) readings r refl same)
graph_readings_are f a g b readings (Passes one is (Refuses r h same)) =
    absurd (no_refusal (Ok readings) readings r refl same)
graph_readings_are f a g b readings (Passes one is (Passes other also same)) =
    let read : GraphReadings = record { one = one; other = other } in
    let readings_are = one_value (Ok readings) readings read refl same in
    let found : AreGraphReadings a b read = record { one = is; other = also } in
    subst (AreGraphReadings a b) (sym readings_are) found

-- ---- a graph, a netlist, and the events of a schedule
pub replay_readings_one : (g a n b s c : List ℕ) → AtMostOne (replay_readings g a n b s c)
replay_readings_one g a n b s c = then_one _ _ (graph_one g a) (λ given is. then_one _ _ (spelled_one n _ _)
    (λ net spelt. then_one _ _ (spelled_one s _ _) (λ events read. gives_one _)))

pub replay_readings_some : (g a n b s c : List ℕ) → HasResult (replay_readings g a n b s c)
replay_readings_some g a n b s c = then_some _ _ (graph_some g a) (λ given is. then_some _ _ (spelled_some n _ _)
    (λ net spelt. then_some _ _ (spelled_some s _ _) (λ events read. gives_some _)))

pub record AreReplayReadings (a b c : List ℕ) (readings : ReplayReadings) : Type 0 where
  pub given : IsGivenBy a readings.given
  pub no_fault : netlist_fault b ≡ None
  pub netlist : readings.netlist ≡ netlist_of b
  pub sound : schedule_fault (names_in (netlist_of b).signals) c ≡ None
  pub events : readings.events ≡ schedule_of (names_in (netlist_of b).signals) c

pub replay_readings_are : (g a n b s c : List ℕ) (readings : ReplayReadings)
    → replay_readings g a n b s c (Ok readings) → AreReplayReadings a b c readings
replay_readings_are g a n b s c readings (Refuses r h same) =
    absurd (no_refusal (Ok readings) readings r refl same)
replay_readings_are g a n b s c readings (Passes given is (Refuses r h same)) =
    absurd (no_refusal (Ok readings) readings r refl same)
replay_readings_are g a n b s c readings (Passes given is (Passes net spelt (Refuses r h same))) =
    absurd (no_refusal (Ok readings) readings r refl same)
replay_readings_are g a n b s c readings (Passes given is (Passes net spelt (Passes events read same))) =
    let all : ReplayReadings = record { given = given; netlist = net; events = events } in
    let readings_are = one_value (Ok readings) readings all refl same in
    let found : AreReplayReadings a b c all = record {
      given = is;
      no_fault = spelt.0;
      netlist = spelt.1;
      sound = subst (λ (m : Netlist). schedule_fault (names_in m.signals) c ≡ None) spelt.1 read.0;
      events = read.1 ∙ ap (λ (m : Netlist). schedule_of (names_in m.signals) c) spelt.1;
    } in
    subst (AreReplayReadings a b c) (sym readings_are) found
