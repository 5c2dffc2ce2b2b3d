-- What is known of each part before it is joined, and how the composed graph stands at first.
use Rattle.std.proofs.Common.{◌≡◌, ℕ, zero, suc, ◌<◌, ◌+◌, List, [], ◌∷◌, length, map, slice_get, zip, Some, refl, sym}
use Rattle.std.proofs.Common.{ap, subst, ◌∙◌, arith}
use Rattle.std.proofs.lemmas.List.{length-map}
use Rattle.std.proofs.lemmas.List.FromFn.{get_or-range_with_len}
use Rattle.std.proofs.lemmas.Option.{slice_get_within}
use Rattle.si_compose.proofs.SameSignals.{some_same}
use Rattle.si_base.specs.Codes.{CodedGraph, IsCoded}
use Rattle.si_base.specs.Graph.{StateGraph}
use Rattle.si_base.specs.Netlist.{Netlist}
use Rattle.si_base.specs.Proper.{IsProper}
use Rattle.si_base.specs.System.{IsFor}
use Rattle.si_insert.specs.Lineage.{AllGiven, History, given_current, given_history, origin}
use Rattle.si_insert.proofs.LineageTraceLength.{AreNamed}
use Rattle.si_audit.specs.Laws.{CanBeAudited}
use Rattle.si_compose.specs.Composed.{IsComposed, IsFree}
use Rattle.si_compose.specs.Glued.{AreGlued, HasNoConstantOne}
use Rattle.si_compose.proofs.ComposedProper.{within_part}
use Rattle.si_compose.proofs.GluedCodes.{glued}
use Rattle.si_composing.specs.JoinedSignals.{graph_of, part}
use Rattle.si_composing.specs.SideBySide.{IsSideBySide}
use Rattle.si_composing.specs.Tuples.{state_in}
use Rattle.si_joins.specs.Loops.Audited.{AreAudited}
use Rattle.si_joins.proofs.PartFacts.{givens}
use Rattle.si_readings.specs.Checks.{IsSound}
use Rattle.si_stages.proofs.AuditLemmas.{can_be_audited}
use Rattle.si_works.specs.Audited.{AuditedPart}
use Rattle.si_works.specs.AuditedLaws.{IsAuditedPart}
use Rattle.si_works.specs.Works.{graphs}
use Rattle.si_lifts.specs.Parts.{inserts_before, part_at}
use Rattle.si_lifts.proofs.LiftedParts.{AreAuditedFrom, IsAfterPart, IsAuditedFor}
use Rattle.si_lifts.proofs.RenamedGraphs.{alike_itself}
use Rattle.si_lifts.proofs.Standing.{Stands}

abbrev pub netlists : List AuditedPart → List Netlist
netlists parts = map (λ p. p.netlist) parts

-- how many there are, and the graph of part i with its codes
abbrev pub count : List AuditedPart → ℕ
count parts = length (graphs parts)

abbrev pub coded_at : List AuditedPart → ℕ → CodedGraph
coded_at parts = part (graphs parts)

pub as_many : (parts : List AuditedPart) → count parts ≡ length parts
as_many parts = length-map parts (λ p. p.coded)

-- the lineage that certifies the netlist of part i
abbrev pub final_at : (parts : List AuditedPart) → AreAudited parts → ℕ → History
final_at [] are i = given_history (part [] 0)
final_at (p ∷ parts) are zero = are.0.2.lineage
final_at (p ∷ parts) are (suc i) = final_at parts are.1 i

audited : (a b : List ℕ) (p : AuditedPart) → (is : IsAuditedPart a b p)
    → IsAuditedFor p.given p.coded p.netlist is.lineage
audited a b p is = record {
  can = subst (CanBeAudited p.given.states p.coded) (sym is.netlist_is)
      (can_be_audited a b p.given p.coded is.is_given is.no_fault is.sound
      (subst (IsFor p.coded) is.netlist_is is.is_for));
  taken = is.certifies.taken;
  built = is.certifies.built;
}

-- ---- part i
pub record IsPartAt (parts : List AuditedPart) (are : AreAudited parts) (i : ℕ) : Type 0 where
  pub part_is : AuditedPart
  pub there : slice_get parts i ≡ Some part_is
  pub for_graph : IsAuditedFor part_is.given (part (graphs parts) i) part_is.netlist (final_at parts are i)
  pub sound : IsSound part_is.given.graph (part (graphs parts) i)
  pub netlist_is : part_at (netlists parts) i ≡ part_is.netlist

pub part_facts : (parts : List AuditedPart) (are : AreAudited parts) (i : ℕ) → i < length parts → IsPartAt parts are i
part_facts [] are i below = absurd (omega (arith, below))
part_facts (p ∷ parts) are zero below = record {
  part_is = p;
  there = refl;
  for_graph = audited are.0.0 are.0.1 p are.0.2;
  sound = are.0.2.sound;
  netlist_is = refl;
}
part_facts (p ∷ parts) are (suc i) below =
    let rest = part_facts parts are.1 i (omega (arith, below)) in
    record {
      part_is = rest.part_is;
      there = rest.there;
      for_graph = rest.for_graph;
      sound = rest.sound;
      netlist_is = rest.netlist_is;
    }

pub facts : (parts : List AuditedPart) (are : AreAudited parts) (i : ℕ) → i < count parts → IsPartAt parts are i
facts parts are i inside = part_facts parts are i (omega (arith, inside, as_many parts))

-- ---- the parts from part j on
none_before : (ns : List Netlist) → inserts_before ns 0 ≡ 0
none_before [] = refl
none_before (n ∷ ns) = refl

one_more : (parts : List AuditedPart) (k : ℕ) (p : AuditedPart) → slice_get parts k ≡ Some p
    → inserts_before (netlists parts) (k + 1) ≡ inserts_before (netlists parts) k + length p.netlist.inserts
one_more [] k p at = cc
one_more (q ∷ parts) zero p at =
    let same : q ≡ p = cc in
    let none = none_before (netlists parts) in
    let first = ap (λ (r : AuditedPart). length r.netlist.inserts) same in
    omega (arith, none, first)
one_more (q ∷ parts) (suc k) p at =
    let rest = one_more parts k p at in
    let next : suc (k + 1) ≡ suc k + 1 = omega arith in
    subst (λ (n : ℕ). inserts_before (netlists (q ∷ parts)) n
    ≡ inserts_before (netlists (q ∷ parts)) (suc k) + length p.netlist.inserts) next (omega (arith, rest))

module _ (count : ℕ) (tuples : List (List ℕ)) (whole : CodedGraph) (all : List Netlist) (coded : ℕ → CodedGraph)
    (final : ℕ → History) where
  audited_from : (j : ℕ) (rest : List AuditedPart) → count ≡ j + length rest
      → ((k i : ℕ) (p : AuditedPart) → i ≡ j + k → slice_get rest k ≡ Some p
      → IsAuditedFor p.given (coded i) p.netlist (final i)
      × (inserts_before all (i + 1) ≡ inserts_before all i + length p.netlist.inserts))
      → AreAuditedFrom count tuples whole all coded final j (zip (givens rest) (netlists rest))
  audited_from j [] many facts = omega (arith, many)
  audited_from j (p ∷ rest) many facts =
      let first = facts 0 j p (omega arith) refl in (
        omega (arith, many),
        first.0,
        first.1,
        audited_from (j + 1) rest (omega (arith, many)) (λ k i q is at. facts (suc k) i q (omega (arith, is)) at),
      )

module _ (parts : List AuditedPart) (are : AreAudited parts) (tuples : List (List ℕ)) (graph : StateGraph)
    (side : IsSideBySide (graphs parts) tuples graph) (whole : CodedGraph) (sound : IsSound graph whole)
    (given_alone : AllGiven whole.graph.signals) (named : AreNamed (given_current whole)) where
  pub all_audited : AreAuditedFrom (count parts) tuples whole (netlists parts) (coded_at parts) (final_at parts are) 0
      (zip (givens parts) (netlists parts))
  all_audited = audited_from (count parts) tuples whole (netlists parts) (coded_at parts) (final_at parts are) 0 parts
      (omega (arith, as_many parts))
      (λ k i p is at. (
      let here : k ≡ i = omega (arith, is) in
      let found = slice_get_facts k p at in
      subst (λ (n : ℕ). IsAuditedFor p.given (coded_at parts n) p.netlist (final_at parts are n)
      × (inserts_before (netlists parts) (n + 1) ≡ inserts_before (netlists parts) n + length p.netlist.inserts)) here
      (found, one_more parts k p at)))
    where
      slice_get_facts : (k : ℕ) (p : AuditedPart) → slice_get parts k ≡ Some p
          → IsAuditedFor p.given (coded_at parts k) p.netlist (final_at parts are k)
      slice_get_facts k p at =
          let found = part_facts parts are k (slice_get_within parts k p at) in
          let same : found.part_is ≡ p = some_same found.part_is p (sym found.there ∙ at) in
          subst (λ (q : AuditedPart). IsAuditedFor q.given (coded_at parts k) q.netlist (final_at parts are k)) same
          found.for_graph

  part_coded : (i : ℕ) → i < count parts → IsCoded (coded_at parts i)
  part_coded i inside = (facts parts are i inside).sound.coded_is

  part_proper : (i : ℕ) → i < count parts → IsProper (coded_at parts i).graph
  part_proper i inside =
      let is = (facts parts are i inside).sound in
      subst (λ (g : StateGraph). IsProper g) (sym is.same_graph) is.proper

  composed : IsComposed (count parts) (graph_of (graphs parts)) (state_in tuples) whole.graph
  composed = subst (IsComposed (count parts) (graph_of (graphs parts)) (state_in tuples)) (sym sound.same_graph)
      side.composed

  free : IsFree (count parts) (graph_of (graphs parts)) (state_in tuples) whole.graph
  free = subst (IsFree (count parts) (graph_of (graphs parts)) (state_in tuples)) (sym sound.same_graph) side.free

  no_constant : HasNoConstantOne (count parts) (coded_at parts) whole
  no_constant = subst (λ (g : StateGraph). HasNoConstantOne (count parts) (coded_at parts)
      (record { graph = g; codes = [] }))
      (sym sound.same_graph) side.no_constant

  glued_first : AreGlued (count parts) (coded_at parts) (state_in tuples) whole
  glued_first = glued (count parts) (coded_at parts) (state_in tuples) whole part_coded composed sound.coded_is
      no_constant

  own_origin : (c : CodedGraph) (s : ℕ) → s < c.graph.states → origin (given_current c) s ≡ s
  own_origin c s within = get_or-range_with_len 0 c.graph.states s 0 within ∙ omega arith

  stands_first : Stands (count parts) tuples (given_current whole) (λ i. (coded_at parts i).graph.signals)
      (λ i. given_current (coded_at parts i))
      (state_in tuples)
  stands_first = record {
    alike = λ i inside. alike_itself (coded_at parts i).graph.signals;
    part_coded = part_coded;
    part_proper = part_proper;
    coded = sound.coded_is;
    proper = subst (λ (g : StateGraph). IsProper g) (sym sound.same_graph) sound.proper;
    composed = composed;
    free = free;
    glued = glued_first;
    origins = λ i s inside within. ap (state_in tuples i) (own_origin whole s within)
        ∙ sym (own_origin (coded_at parts i) (state_in tuples i s)
        (within_part (count parts) (coded_at parts) (state_in tuples) whole part_coded composed sound.coded_is s i
        inside within));
  }

  pub begins : IsAfterPart (count parts) tuples whole (netlists parts) (coded_at parts) (final_at parts are)
      (given_history whole) 0
  begins = record {
    signals = λ i. (coded_at parts i).graph.signals;
    parts = λ i. given_current (coded_at parts i);
    at = state_in tuples;
    before = record {
      given_is = refl;
      lineage = record {
        coded = sound.coded_is;
        proper = subst (λ (g : StateGraph). IsProper g) (sym sound.same_graph) sound.proper;
        none_inserted = given_alone;
        grown = refl;
      };
      named = named;
      stands = stands_first;
      size = omega arith;
      origins = λ s within. (
          let same = own_origin whole s within in
          let many = ap (λ (g : StateGraph). g.states) sound.same_graph ∙ side.states in
          omega (arith, same, within, many));
      so_many = sym (none_before (netlists parts));
      done = λ k below inside. absurd (omega (arith, below));
      left = λ k above inside. (refl, refl);
    };
  }
