-- The laws of the texts of folded graphs.
use Rattle.std.proofs.Common.{◌≡◌, ℕ, List, sym, ap, subst, ◌∙◌}
use Rattle.si_base.specs.Behaviour.{Implements}
use Rattle.si_base.specs.Codes.{CodedGraph}
use Rattle.si_base.specs.GivenGraph.{Sg}
use Rattle.si_base.specs.System.{IsFor}
use Rattle.si_fold.proofs.FoldedBehaviour.{folded_behaviour, folded_for}
use Rattle.si_fold.proofs.FoldLemmas.{folded_is_coded}
use Rattle.si_insert.specs.Lineage.{History}
use Rattle.si_sg.proofs.UniqueLemmas.{given_unique}
use Rattle.si_sg.specs.GivenGraph.{IsGivenBy}
use Rattle.si_readings.specs.Checks.{IsSound}
use Rattle.si_reports.specs.Fold.{IsFoldText}
use Rattle.si_stages.specs.FoldLaws.{GivesFolded, ImplementsGiven, FoldTextsReadBack}
use Rattle.si_stages.specs.FoldLaws.{FoldTextsAreMapped, FoldTextsAreSynthesised}
use Rattle.si_readings.proofs.CheckLemmas.{coded_unique}
use Rattle.si_stages.specs.Written.{IsWritten}
use Rattle.si_reports.proofs.FoldTexts.{reads_back}
use Rattle.si_readings.proofs.ReadingLemmas.{mapping_readings_are}
use Rattle.si_readings.proofs.StageLemmas.{passed}

gives_folded : (text output : List ℕ) (given : Sg) → IsGivenBy text given → (coded : CodedGraph)
    → IsSound given.graph coded → IsFoldText given.model given.states coded output → GivesFolded text output
gives_folded text output given is coded sound told = record {
  given = given;
  is_given = is;
  coded = coded;
  sound = sound;
  folded = told.folded;
  is_folded = told.is;
  back = subst (λ (o : List ℕ). IsGivenBy o told.folded) (sym told.output_is)
      (reads_back text given coded is sound told.folded told.is);
}

pub texts_read_back : FoldTextsReadBack
texts_read_back file text output comes =
    let read = passed _ _ output comes in
    let checked = passed _ _ output read.2 in
    gives_folded text output read.0.given read.1.0 checked.0 checked.1 checked.2

-- ---- a netlist for the graph that the text of a folded graph gives
module _ (text folded_text output : List ℕ) (f : GivesFolded text folded_text) (read : Sg)
    (is : IsGivenBy folded_text read) (coded : CodedGraph)
    (sound : IsSound read.graph coded) where
  same_sg : read ≡ f.folded
  same_sg = given_unique folded_text read f.folded is f.back

  abbrev recoded : CodedGraph
  recoded = record { graph = f.folded.graph; codes = f.is_folded.codes }

  same_codes : coded ≡ recoded
  same_codes =
      let again = folded_is_coded f.coded recoded f.is_folded.kept f.is_folded.class f.sound.coded_is
      f.is_folded.is_folded in
      coded_unique coded recoded sound.coded_is again (sound.same_graph ∙ ap (λ (sg : Sg). sg.graph) same_sg)

  -- a lineage that starts at that graph, and a text that is written over it
  pub serves_given : (l : History) → l.given ≡ coded → IsWritten read l output → ImplementsGiven text output
  serves_given l given_is w =
      let kept = f.is_folded.kept in
      let class = f.is_folded.class in
      let alike = folded_behaviour f.coded recoded kept class w.netlist f.sound.coded_is f.is_folded.is_folded in
      let own = subst (λ (sg : Sg). Implements w.netlist sg.graph) same_sg w.implements in
      let meets : Implements w.netlist f.coded.graph = record {
        speed_independent = alike.excitations.1 own.speed_independent;
        bisimilar = alike.bisimilarity.1 own.bisimilar;
        no_silent_cycle = alike.silent_cycles.1 own.no_silent_cycle;
      } in
      record {
        given = f.given;
        is_given = f.is_given;
        coded = f.coded;
        sound = f.sound;
        netlist = w.netlist;
        is_netlist = w.is_netlist;
        output_is = w.text_is;
        model_is = w.model_is ∙ ap (λ (sg : Sg). sg.model) same_sg ∙ f.is_folded.model_is;
        is_for = folded_for f.coded recoded kept class w.netlist f.sound.coded_is f.is_folded.is_folded
            (subst (λ (c : CodedGraph). IsFor c w.netlist) (given_is ∙ same_codes) w.is_for);
        implements = subst (Implements w.netlist) f.sound.same_graph meets;
      }

-- ---- what comes of that text
pub texts_are_synthesised : FoldTextsAreSynthesised
texts_are_synthesised style file text folded_file folded output told made =
    let given = texts_read_back file text folded told in
    let read = passed _ _ output made in
    let resolved = passed _ _ output read.2 in
    let checked = passed _ _ resolved.0 resolved.1 in
    serves_given text folded output given read.0 read.1 checked.0 checked.1 resolved.0 checked.2.given_is
    resolved.2.written

pub texts_are_mapped : FoldTextsAreMapped
texts_are_mapped format file text folded_file folded library cells output told made =
    let given = texts_read_back file text folded told in
    let read = passed _ _ output made in
    let is_given = (mapping_readings_are format folded_file folded library cells read.0 read.1).given in
    let resolved = passed _ _ output read.2 in
    let checked = passed _ _ resolved.0 resolved.1 in
    let m = resolved.2 in
    serves_given text folded output given read.0.given is_given checked.0 checked.1 m.lineage
    (m.maps.goes.given_stays ∙ checked.2.given_is) m.written
