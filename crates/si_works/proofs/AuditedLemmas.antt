-- Parts that texts give: one row of them at most, and each audited.
use Rattle.std.proofs.Common.{◌≡◌, ℕ, suc, List, [], ◌∷◌, zip, length, Ok, Err, refl, sym, ap, subst, ◌∙◌, arith}
use Rattle.std.specs.List.{AllByRecursion}
use Rattle.si_base.specs.Codes.{CodedGraph}
use Rattle.si_base.specs.GivenGraph.{Sg}
use Rattle.si_base.specs.Netlist.{Netlist}
use Rattle.si_netlist_reader.specs.NetlistValue.{netlist_of}
use Rattle.si_readings.specs.Checks.{IsSound}
use Rattle.si_readings.specs.Laws.{AtMostOne, HasResult}
use Rattle.si_readings.proofs.CheckLemmas.{graph_one, proper_one}
use Rattle.si_readings.proofs.ReadingLemmas.{audit_readings_are, audit_readings_one, audit_readings_some}
use Rattle.si_readings.proofs.ReadingsExist.{proper_some}
use Rattle.si_readings.proofs.StageLemmas.{each_one, each_some, gives_one, gives_some, one_value, passed, then_one, then_some}
use Rattle.si_refusals.specs.Ending.{Ending, NoMemory, Answered, MayStop}
use Rattle.si_refusals.specs.Refusal.{TextRefused}
use Rattle.si_refusals.specs.Stages.{each}
use Rattle.si_stages.specs.Audited.{IsCertified}
use Rattle.si_stages.specs.Meaning.{audit}
use Rattle.si_stages.proofs.AuditLemmas.{audit_one, audit_some, output_certified}
use Rattle.si_works.specs.Audited.{AuditedPart, audited_part, audited_parts, certified, of_several}
use Rattle.si_works.specs.System.{two_by_two}
use Rattle.si_works.specs.AuditedLaws.{AreAuditedParts, IsAuditedPart}
use Rattle.si_works.specs.Loops.Parts.{ending_of_several}

all_hold : {A : Type 0} (P : A → Type 0) → ((x : A) → P x) → (xs : List A) → AllByRecursion P xs
all_hold P each [] = tt
all_hold P each (x ∷ xs) = (each x, all_hold P each xs)

-- ---- one audit of several
module _ (g a n b : List ℕ) where
  pub several_stops : (e : Ending) → MayStop (audit g a n b) e → MayStop (certified g a n b) (ending_of_several n e)
  several_stops NoMemory may = tt
  several_stops (Answered (TextRefused r)) may = (r, may, refl)
  several_stops e may = absurd may

  certified_one : AtMostOne (certified g a n b)
  certified_one (Ok x) (Ok y) one other = audit_one g a n b (Ok x) (Ok y) one other
  certified_one (Ok x) (Err r) one other =
      let same = audit_one g a n b (Ok x) (Err other.0) one other.1 in cc
  certified_one (Err r) (Ok x) one other =
      let same = audit_one g a n b (Err one.0) (Ok x) one.1 other in cc
  certified_one (Err r) (Err q) one other =
      let same = audit_one g a n b (Err one.0) (Err other.0) one.1 other.1 in
      let refusals : one.0 ≡ other.0 = cc in
      ap Err (one.2 ∙ ap (of_several n) refusals ∙ sym other.2)

  certified_some : HasResult (certified g a n b)
  certified_some = as_several (audit_some g a n b)
    where
      as_several : HasResult (audit g a n b) → HasResult (certified g a n b)
      as_several (Ok output, is) = (Ok output, is)
      as_several (Err r, is) = (Err (of_several n r), (r, is, refl))

  pub part_one : AtMostOne (audited_part g a n b)
  part_one = then_one _ _ certified_one (λ output told. then_one _ _ (audit_readings_one g a n b)
      (λ readings read. then_one _ _ (proper_one readings.given.graph readings.given.states)
      (λ coded sound. gives_one _)))

  pub part_some : HasResult (audited_part g a n b)
  part_some = then_some _ _ certified_some (λ output told. then_some _ _ (audit_readings_some g a n b)
      (λ readings read. then_some _ _
      (proper_some a readings.given (audit_readings_are g a n b readings read).given)
      (λ coded sound. gives_some _)))

  -- ---- what a part is
  made : Sg → CodedGraph → Netlist → AuditedPart
  made given coded netlist = record { given = given; coded = coded; netlist = netlist }

  as_certified : (output : List ℕ) (c : IsCertified a b output)
      → IsAuditedPart a b (record { given = c.given; coded = c.coded; netlist = netlist_of b })
  as_certified output c = record {
    is_given = c.is_given;
    sound = c.sound;
    no_fault = c.no_fault;
    netlist_is = refl;
    is_for = c.is_for;
    lineage = c.lineage;
    certifies = c.certifies;
    implements = c.implements;
  }

  pub part_is : (p : AuditedPart) → audited_part g a n b (Ok p) → IsAuditedPart a b p
  unfolding made
  part_is p is =
      let first = passed _ _ p is in
      let second = passed _ _ p first.2 in
      let third = passed _ _ p second.2 in
      let are = audit_readings_are g a n b second.0 second.1 in
      let c = output_certified g a n b first.0 first.1 in
      let given_results = graph_one g a (Ok second.0.given) (Ok c.given) are.given c.is_given in
      let given : second.0.given ≡ c.given = cc in
      let sound : IsSound c.given.graph third.0 =
      subst (λ (s : Sg). IsSound s.graph third.0) given third.1 in
      let coded_results = proper_one c.given.graph c.given.states (Ok third.0) (Ok c.coded) sound c.sound in
      let coded : third.0 ≡ c.coded = cc in
      let same : p ≡ made c.given c.coded (netlist_of b) =
      one_value (Ok p) p (made second.0.given third.0 second.0.netlist) refl third.2
      ∙ ap (λ (s : Sg). made s third.0 second.0.netlist) given
      ∙ ap (λ (k : CodedGraph). made c.given k second.0.netlist) coded
      ∙ ap (made c.given c.coded) are.netlist in
      subst (IsAuditedPart a b) (sym same) (as_certified first.0 c)

-- ---- all parts
pub audited_one : (files texts : List (List ℕ)) → AtMostOne (audited_parts files texts)
audited_one files texts = each_one _ (zip (two_by_two files) (two_by_two texts))
    (all_hold _ (λ p. part_one p.0.0 p.1.0 p.0.1 p.1.1) (zip (two_by_two files) (two_by_two texts)))

pub audited_some : (files texts : List (List ℕ)) → HasResult (audited_parts files texts)
audited_some files texts = each_some _ (zip (two_by_two files) (two_by_two texts))
    (all_hold _ (λ p. part_some p.0.0 p.1.0 p.0.1 p.1.1) (zip (two_by_two files) (two_by_two texts)))

are_audited : (fs ts : List (List ℕ × List ℕ)) (parts : List AuditedPart) → length ts ≡ length fs
    → each (λ p. audited_part p.0.0 p.1.0 p.0.1 p.1.1) (zip fs ts) (Ok parts) → AreAuditedParts ts parts
are_audited [] [] parts many all = subst (AreAuditedParts []) (sym (one_value (Ok parts) parts [] refl all)) tt
are_audited [] (t ∷ ts) parts many all = absurd (omega (arith, many))
are_audited (f ∷ fs) [] parts many all = absurd (omega (arith, many))
are_audited (f ∷ fs) (t ∷ ts) parts many all =
    let first = passed _ _ parts all in
    let rest = passed (each (λ p. audited_part p.0.0 p.1.0 p.0.1 p.1.1) (zip fs ts)) _ parts first.2 in
    subst (AreAuditedParts (t ∷ ts)) (sym (one_value (Ok parts) parts (first.0 ∷ rest.0) refl rest.2))
    (part_is f.0 t.0 f.1 t.1 first.0 first.1, are_audited fs ts rest.0 (omega (arith, many)) rest.1)

as_many_pairs : (xs ys : List (List ℕ)) → length xs ≡ length ys → length (two_by_two xs) ≡ length (two_by_two ys)
as_many_pairs [] [] many = refl
as_many_pairs [] (y ∷ ys) many = absurd (omega (arith, many))
as_many_pairs (x ∷ []) [] many = absurd (omega (arith, many))
as_many_pairs (x ∷ []) (y ∷ []) many = refl
as_many_pairs (x ∷ []) (y ∷ (z ∷ ys)) many = absurd (omega (arith, many))
as_many_pairs (x ∷ (w ∷ xs)) [] many = absurd (omega (arith, many))
as_many_pairs (x ∷ (w ∷ xs)) (y ∷ []) many = absurd (omega (arith, many))
as_many_pairs (x ∷ (w ∷ xs)) (y ∷ (z ∷ ys)) many = ap suc (as_many_pairs xs ys (omega (arith, many)))

pub parts_are_audited : (files texts : List (List ℕ)) (parts : List AuditedPart) → length texts ≡ length files
    → audited_parts files texts (Ok parts) → AreAuditedParts (two_by_two texts) parts
parts_are_audited files texts parts many all =
    are_audited (two_by_two files) (two_by_two texts) parts (as_many_pairs texts files many) all
