-- Texts come to one joined netlist, or to one refusal; and a joined netlist passes its audit.
use Rattle.std.proofs.Common.{◌≡◌, ℕ, List, [], ◌++◌, map, Ok, refl, sym, ap, subst}
use Rattle.si_base.specs.Codes.{CodedGraph}
use Rattle.si_base.specs.GivenGraph.{Sg}
use Rattle.si_base.specs.Netlist.{Netlist}
use Rattle.si_base.specs.NetlistText.{netlist_text}
use Rattle.si_insert.specs.Lineage.{given_history}
use Rattle.si_joins.specs.Gates.{joined_netlist}
use Rattle.si_joins.specs.Join.{join, joined, joined_over, passing}
use Rattle.si_joins.specs.Laws.{JoinedPass, PassesAudit}
use Rattle.si_joins.specs.Loops.Audited.{AreAudited}
use Rattle.si_joins.specs.Steps.{with_parts}
use Rattle.si_joins.proofs.PartFacts.{are_audited, are_given, are_sound, begins_sound, given_in, givens, proper_parts}
use Rattle.si_joins.proofs.PartFacts.{whole_proper}
use Rattle.si_joins.proofs.StepAnswers.{parts_one, parts_some}
use Rattle.si_readings.specs.Checks.{IsSound, proper}
use Rattle.si_readings.specs.Laws.{AtMostOne, HasResult}
use Rattle.si_readings.proofs.CheckLemmas.{proper_one}
use Rattle.si_readings.proofs.StageLemmas.{gives_one, gives_some, one_value, passed, then_one, then_some}
use Rattle.si_refusals.specs.Stages.{Passes}
use Rattle.si_sg.specs.CanonicalText.{sg_text}
use Rattle.si_stages.specs.Meaning.{audit}
use Rattle.si_stages.specs.Audited.{IsCertified}
use Rattle.si_stages.proofs.AuditLemmas.{audit_one, audit_some, certified_output, output_certified}
use Rattle.si_systems.specs.Compose.{ComposedSg, composed}
use Rattle.si_systems.specs.Halts.{dead_count, dead_line, text_with_halts}
use Rattle.si_systems.proofs.BehindEnd.{gives_with_more}
use Rattle.si_systems.proofs.ComposeLemmas.{composed_one, composed_some}
use Rattle.si_systems.specs.Laws.{AreSound}
use Rattle.si_systems.specs.Loops.Parts.{AreGiven}
use Rattle.si_systems.proofs.PartLemmas.{all_coded}
use Rattle.si_works.specs.Audited.{AuditedPart, audited_parts}
use Rattle.si_works.specs.System.{two_by_two}
use Rattle.si_works.specs.Works.{graphs}
use Rattle.si_works.proofs.AuditedLemmas.{audited_one, audited_some}

-- ---- one answer at most
passing_one : (graph netlist : List ℕ) → AtMostOne (passing graph netlist)
passing_one graph netlist = then_one _ _ (audit_one [] graph [] netlist) (λ told is. gives_one netlist)

over_one : (given : List Sg) (netlists : List Netlist) (whole : ComposedSg) (coded : CodedGraph)
    → IsSound whole.sg.graph coded → AtMostOne (joined_over given netlists whole coded)
over_one given netlists whole coded sound =
    then_one _ _ (parts_one whole.sg.states whole.tuples (given_history coded) given netlists
    (begins_sound whole.sg.graph coded sound)) (λ lineage is. passing_one (sg_text whole.sg)
    (netlist_text (joined_netlist whole.sg.model whole.sg.states netlists lineage)))

joined_one : (given : List Sg) (parts : List CodedGraph) (netlists : List Netlist)
    → AtMostOne (joined given parts netlists)
joined_one given parts netlists = then_one _ _ (composed_one given parts)
    (λ whole is. then_one _ _ (proper_one whole.sg.graph whole.sg.states)
    (λ coded sound. over_one given netlists whole coded sound))

pub join_one : (files texts : List (List ℕ)) → AtMostOne (join files texts)
join_one files texts = then_one _ _ (audited_one files texts)
    (λ parts are. joined_one (givens parts) (graphs parts) (map (λ p. p.netlist) parts))

-- ---- and one there is
passing_some : (graph netlist : List ℕ) → HasResult (passing graph netlist)
passing_some graph netlist = then_some _ _ (audit_some [] graph [] netlist) (λ told is. gives_some netlist)

over_some : (given : List Sg) (netlists : List Netlist) (whole : ComposedSg) (coded : CodedGraph)
    → IsSound whole.sg.graph coded → HasResult (joined_over given netlists whole coded)
over_some given netlists whole coded sound =
    then_some _ _ (parts_some whole.sg.states whole.tuples (given_history coded) given netlists
    (begins_sound whole.sg.graph coded sound)) (λ lineage is. passing_some (sg_text whole.sg)
    (netlist_text (joined_netlist whole.sg.model whole.sg.states netlists lineage)))

joined_some : (given : List Sg) (parts : List CodedGraph) (netlists : List Netlist) → AreGiven given
    → AreSound given parts → HasResult (joined given parts netlists)
joined_some given parts netlists are sound =
    then_some _ _ (composed_some given parts (all_coded given parts sound))
    (λ whole is. then_some _ _ (whole_proper given parts are sound whole is)
    (λ coded proper_is. over_some given netlists whole coded proper_is))

pub join_some : (files texts : List (List ℕ)) → HasResult (join files texts)
join_some files texts = then_some _ _ (audited_some files texts)
    (λ parts all. (let are = are_audited (two_by_two files) (two_by_two texts) parts all in
    joined_some (givens parts) (graphs parts) (map (λ p. p.netlist) parts) (are_given parts are) (are_sound parts are)))

-- ---- a joined netlist passes its audit
-- what stands behind the end of the graph's text changes nothing
with_more : (graph : Sg) (netlist output more : List ℕ) → IsCertified (sg_text graph) netlist output
    → IsCertified (sg_text graph ++ more) netlist output
with_more graph netlist output more is = record {
  given = is.given;
  is_given = gives_with_more is.given graph more is.is_given;
  no_fault = is.no_fault;
  coded = is.coded;
  sound = is.sound;
  is_for = is.is_for;
  lineage = is.lineage;
  certifies = is.certifies;
  implements = is.implements;
  output_is = is.output_is;
}

module _ (files texts : List (List ℕ)) (netlist : List ℕ) (comes : join files texts (Ok netlist)) where
  row : (parts : List AuditedPart) × audited_parts files texts (Ok parts)
      × joined (givens parts) (graphs parts) (map (λ p. p.netlist) parts) (Ok netlist)
  row = passed _ _ netlist comes

  abbrev parts : List AuditedPart
  parts = row.0

  are : AreAudited parts
  are = are_audited (two_by_two files) (two_by_two texts) parts row.1

  passes_audit : PassesAudit files texts netlist
  unfolding row
  passes_audit =
      let first = passed (composed (givens parts) (graphs parts)) _ netlist row.2 in
      let whole = first.0 in
      let second = passed (proper whole.sg.graph whole.sg.states) _ netlist first.2 in
      let third = passed (with_parts whole.sg.states whole.tuples (given_history second.0) (givens parts)
      (map (λ p. p.netlist) parts)) _ netlist second.2 in
      let made = netlist_text (joined_netlist whole.sg.model whole.sg.states (map (λ p. p.netlist) parts) third.0) in
      let last = passed (audit [] (sg_text whole.sg) [] made) _ netlist third.2 in
      let same : netlist ≡ made = one_value (Ok netlist) netlist made refl last.2 in
      let told = subst (λ (o : List ℕ). audit [] (sg_text whole.sg) [] o (Ok last.0)) (sym same) last.1 in
      let certified = with_more whole.sg netlist last.0 (dead_line (dead_count whole.sg.graph))
      (output_certified [] (sg_text whole.sg) [] netlist last.0 told) in
      record {
        composed = text_with_halts whole.sg;
        composed_is = Passes (givens parts) (given_in (two_by_two files) (two_by_two texts) parts row.1)
            (Passes (graphs parts) (proper_parts parts are) (record {
              tuples = whole.tuples;
              whole = whole.sg.graph;
              side_by_side = first.1.0;
              output_is = ap text_with_halts first.1.1;
            }));
        output = last.0;
        passes = λ g n. certified_output g (text_with_halts whole.sg) n netlist last.0 certified;
        whole = certified.given;
        is_given = certified.is_given;
        implements = certified.implements;
      }

pub joined_pass : JoinedPass
joined_pass files texts netlist comes = passes_audit files texts netlist comes
