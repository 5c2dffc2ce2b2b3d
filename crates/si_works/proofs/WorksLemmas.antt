-- Texts come to one answer, and where it is an output they are right together.
use Rattle.std.proofs.Common.{◌≡◌, ℕ, zero, suc, ◌<◌, List, [], ◌∷◌, zip, length, map, Ok, Err, Some, None, refl, sym, ap, subst}
use Rattle.std.proofs.Common.{◌∙◌, arith, All, inl, inr, ◌≤◌, AllPairs}
use mathlib.Core.Path.{fun_ext}
use Rattle.std.proofs.lemmas.List.{length-map}
use Rattle.si_base.specs.Behaviour.{Implements}
use Rattle.si_base.specs.Codes.{CodedGraph, IsCoded}
use Rattle.si_base.specs.GivenGraph.{Sg}
use Rattle.si_base.specs.Graph.{StateGraph, kind_place}
use Rattle.si_base.specs.Netlist.{Netlist}
use Rattle.si_compose.specs.Composed.{IsComposed, IsFree}
use Rattle.si_compose.specs.JoinedNetlist.{IsJoined}
use Rattle.si_compose.specs.Laws.{IsPart}
use Rattle.si_composing.specs.JoinedSignals.{graph_of}
use Rattle.si_composing.specs.declared.clash.Clash.TheVariants as clash
use Rattle.si_groups.specs.Laws.{AreRightTogether}
use Rattle.si_groups.specs.declared.misfit.Misfit.{Misfit}
use Rattle.si_groups.specs.declared.misfit.Misfit.TheVariants as misfit
use Rattle.si_groups.proofs.OneWork.{no_misfit, one_misfit, work_one}
use Rattle.si_groups.proofs.SomeWork.{work_or_misfit}
use Rattle.si_groups.proofs.WholeRight.{right_together}
use Rattle.si_netlist_reader.specs.NetlistValue.{netlist_of}
use Rattle.si_netlist_reader.proofs.ReadLaw.{read_is_netlist}
use Rattle.si_readings.specs.Laws.{AtMostOne, HasResult}
use Rattle.si_readings.proofs.StageLemmas.{one_value, passed, then_one, then_some}
use Rattle.si_refusals.specs.Refusal.{TextRefusal}
use Rattle.si_refusals.specs.Stages.{each}
use Rattle.si_works.specs.Audited.{AuditedPart, audited_part}
use Rattle.si_works.specs.AuditedLaws.{AreAuditedParts, IsAuditedPart}
use Rattle.si_works.specs.System.{ArePairs, AreRight, graph_at, netlist_at, two_by_two}
use Rattle.si_works.specs.Works.{TellsMisfit, TellsWork, gate_count, graphs, misfit_name, together, works, works_text}
use Rattle.si_works.proofs.AuditedLemmas.{audited_one, audited_some, part_is, parts_are_audited}

module _ (files : List (List ℕ)) (parts : List AuditedPart) where
  -- a misfit with a name is no want of memory
  is_misfit : (e : Misfit) (r : TextRefusal) → misfit_name files parts e ≡ Some r → e ≡ misfit.NoMemory → ⊥
  is_misfit e r named none =
      let is : None ≡ Some r = subst (λ (f : Misfit). misfit_name files parts f ≡ Some r) none named in
      cc

  one_output : (x y : List ℕ) → TellsWork parts x → TellsWork parts y → x ≡ y
  one_output x y one other =
      let same = work_one (graphs parts) one.signals one.groups other.signals other.groups one.work other.work in
      one.output_is
      ∙ ap (λ (n : ℕ). works_text (length parts) one.groups n (gate_count parts)) same.0
      ∙ ap (λ (n : ℕ). works_text (length parts) n other.signals (gate_count parts)) same.1
      ∙ sym other.output_is

  not_both : (x : List ℕ) (r : TextRefusal) → TellsWork parts x → TellsMisfit files parts r → ⊥
  not_both x r one other = is_misfit other.first r other.named
      (no_misfit (graphs parts) one.signals one.groups other.first one.work other.shows)

  one_shown : (r q : TextRefusal) → TellsMisfit files parts r → TellsMisfit files parts q → r ≡ q
  one_shown r q one other =
      let same = one_misfit (graphs parts) one.first other.first (is_misfit one.first r one.named)
      (is_misfit other.first q other.named) one.shows other.shows in
      let names : Some r ≡ Some q = sym one.named ∙ ap (misfit_name files parts) same ∙ other.named in
      cc

  together_one : AtMostOne (together files parts)
  together_one (Ok x) (Ok y) one other = ap Ok (one_output x y one other)
  together_one (Ok x) (Err r) one other = absurd (not_both x r one other)
  together_one (Err r) (Ok x) one other = absurd (not_both x r other one)
  together_one (Err r) (Err q) one other = ap Err (one_shown r q one other)

  some_name : (e : Misfit) → (e ≡ misfit.NoMemory → ⊥) → (r : TextRefusal) × (misfit_name files parts e ≡ Some r)
  some_name misfit.NoMemory is = absurd (is refl)
  some_name (misfit.Signal clash.Driven name) is = (_, refl)
  some_name (misfit.Signal clash.Private name) is = (_, refl)
  some_name (misfit.Signal clash.Starts name) is = (_, refl)
  some_name (misfit.TooMany count) is = (_, refl)
  some_name misfit.States is = (_, refl)
  some_name (misfit.Interferes x) is = (_, refl)

  together_some : All IsCoded (graphs parts) → HasResult (together files parts)
  together_some coded = elim (work_or_misfit (graphs parts) coded) [
    | inl work ↦ (
      Ok (works_text (length parts) work.1 work.0 (gate_count parts)),
      record { signals = work.0; groups = work.1; work = work.2; output_is = refl },
    )
    | inr found ↦ (let shown = some_name found.0 found.1 in (
      Err shown.0,
      record { first = found.0; shows = found.2; named = shown.1 },
    ))
  ]

-- ---- parts that texts give have codes
coded_more : (c : CodedGraph) (cs : List CodedGraph) → IsCoded c → All IsCoded cs → All IsCoded (c ∷ cs)
coded_more c cs one others zero d below = one
coded_more c cs one others (suc k) d below = others k d (omega (arith, below))

pub all_coded : (pairs : List ((List ℕ × List ℕ) × (List ℕ × List ℕ))) (parts : List AuditedPart)
    → each (λ p. audited_part p.0.0 p.1.0 p.0.1 p.1.1) pairs (Ok parts) → All IsCoded (graphs parts)
all_coded [] parts all =
    subst (λ (ps : List AuditedPart). All IsCoded (graphs ps)) (sym (one_value (Ok parts) parts [] refl all))
    (λ k d below. absurd (omega (arith, below)))
all_coded (p ∷ pairs) parts all =
    let first = passed _ _ parts all in
    let rest = passed (each (λ q. audited_part q.0.0 q.1.0 q.0.1 q.1.1) pairs) _ parts first.2 in
    let is = part_is p.0.0 p.1.0 p.0.1 p.1.1 first.0 first.1 in
    subst (λ (ps : List AuditedPart). All IsCoded (graphs ps))
    (sym (one_value (Ok parts) parts (first.0 ∷ rest.0) refl rest.2))
    (coded_more first.0.coded (graphs rest.0) is.sound.coded_is (all_coded pairs rest.0 rest.1))

pub works_one : (files texts : List (List ℕ)) → AtMostOne (works files texts)
works_one files texts = then_one _ _ (audited_one files texts) (λ parts are. together_one files parts)

pub works_some : (files texts : List (List ℕ)) → HasResult (works files texts)
works_some files texts = then_some _ _ (audited_some files texts)
    (λ parts are. together_some files parts (all_coded (zip (two_by_two files) (two_by_two texts)) parts are))

-- ---- an output
givens : List AuditedPart → List Sg
givens parts = map (λ p. p.given) parts

pairs_are : (texts : List (List ℕ × List ℕ)) (parts : List AuditedPart) → AreAuditedParts texts parts
    → ArePairs texts (givens parts)
unfolding givens
pairs_are [] [] are = tt
pairs_are [] (p ∷ parts) are = absurd are
pairs_are (t ∷ texts) [] are = absurd are
pairs_are (t ∷ texts) (p ∷ parts) are = (are.0.is_given, are.0.no_fault, pairs_are texts parts are.1)

same_graph : (texts : List (List ℕ × List ℕ)) (parts : List AuditedPart) → AreAuditedParts texts parts → (i : ℕ)
    → graph_of (graphs parts) i ≡ graph_at (givens parts) i
unfolding givens
same_graph [] [] are i = refl
same_graph [] (p ∷ parts) are i = absurd are
same_graph (t ∷ texts) [] are i = absurd are
same_graph (t ∷ texts) (p ∷ parts) are zero = are.0.sound.same_graph
same_graph (t ∷ texts) (p ∷ parts) are (suc i) = same_graph texts parts are.1 i

audited_at : (texts : List (List ℕ × List ℕ)) (parts : List AuditedPart) → AreAuditedParts texts parts → (i : ℕ)
    → i < length (graphs parts) → (p : AuditedPart) × ((t : List ℕ × List ℕ) × IsAuditedPart t.0 t.1 p
    × (graph_of (graphs parts) i ≡ p.coded.graph) × (netlist_at texts i ≡ netlist_of t.1))
audited_at [] [] are i below = absurd (omega (arith, below))
audited_at [] (p ∷ parts) are i below = absurd are
audited_at (t ∷ texts) [] are i below = absurd are
audited_at (t ∷ texts) (p ∷ parts) are zero below = (p, (t, are.0, refl, refl))
audited_at (t ∷ texts) (p ∷ parts) are (suc i) below = audited_at texts parts are.1 i (omega (arith, below))

is_part : (a b : List ℕ) (p : AuditedPart) → IsAuditedPart a b p → IsPart p.coded.graph (netlist_of b)
is_part a b p is =
    let part : IsPart p.coded.graph p.netlist =
    record {
      over = record {
        given = is.is_for.signals;
        kinds = subst (λ (n : Netlist). AllPairs (λ x y. kind_place x.kind ≤ kind_place y.kind) n.signals)
            (sym is.netlist_is) (read_is_netlist b is.no_fault).kinds;
      };
      deterministic = is.sound.coded_is.deterministic;
      implements = subst (λ (g : StateGraph). Implements p.netlist g) (sym is.sound.same_graph) is.implements;
    } in
    subst (IsPart p.coded.graph) is.netlist_is part

part_at : (texts : List (List ℕ × List ℕ)) (parts : List AuditedPart) → AreAuditedParts texts parts → (i : ℕ)
    → i < length (graphs parts) → IsPart (graph_of (graphs parts) i) (netlist_at texts i)
part_at texts parts are i below =
    let at = audited_at texts parts are i below in
    subst (λ (g : StateGraph). IsPart g (netlist_at texts i)) (sym at.1.2)
    (subst (IsPart at.0.coded.graph) (sym at.1.3) (is_part at.1.0.0 at.1.0.1 at.0 at.1.1))

module _ (texts : List (List ℕ × List ℕ)) (parts : List AuditedPart) (are : AreAuditedParts texts parts)
    (right : AreRightTogether (graphs parts)) where
  same_graphs : graph_of (graphs parts) ≡ graph_at (givens parts)
  same_graphs = fun_ext (λ i. same_graph texts parts are i)

  many : length (graphs parts) ≡ length (givens parts)
  unfolding givens
  many = length-map parts (λ (p : AuditedPart). p.coded) ∙ sym (length-map parts (λ (p : AuditedPart). p.given))

  to_givens : (P : ℕ → (ℕ → StateGraph) → Type 0) → P (length (graphs parts)) (graph_of (graphs parts))
      → P (length (givens parts)) (graph_at (givens parts))
  to_givens P holds = subst (λ (n : ℕ). P n (graph_at (givens parts))) many
      (subst (P (length (graphs parts))) same_graphs holds)

  to_graphs : (P : ℕ → (ℕ → StateGraph) → Type 0) → P (length (givens parts)) (graph_at (givens parts))
      → P (length (graphs parts)) (graph_of (graphs parts))
  to_graphs P holds = subst (P (length (graphs parts))) (sym same_graphs)
      (subst (λ (n : ℕ). P n (graph_at (givens parts))) (sym many) holds)

  pub are_right : AreRight texts
  are_right = record {
    given = givens parts;
    pairs = pairs_are texts parts are;
    some = (
      right.some.0,
      right.some.1,
      to_givens (λ n g. IsComposed n g right.some.0 right.some.1) right.some.2,
    );
    free = λ at h composed. to_givens (λ n g. IsFree n g at h)
        (right.free at h (to_graphs (λ n g. IsComposed n g at h) composed));
    serves = λ at h m composed joined over. right.serves at h (netlist_at texts) m
        (to_graphs (λ n g. IsComposed n g at h) composed)
        (λ i below. part_at texts parts are i below)
        (to_graphs (λ n g. IsJoined n (netlist_at texts) m) joined) over;
  }

pub outputs_are_right : (files texts : List (List ℕ)) (output : List ℕ) → length texts ≡ length files
    → works files texts (Ok output) → AreRight (two_by_two texts)
outputs_are_right files texts output many comes =
    let first = passed _ _ output comes in
    let parts = first.0 in
    are_right (two_by_two texts) parts (parts_are_audited files texts parts many first.1)
    (right_together (graphs parts) first.2.signals first.2.groups
    (all_coded (zip (two_by_two files) (two_by_two texts)) parts first.1) first.2.work)
