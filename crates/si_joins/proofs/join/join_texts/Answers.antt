use Rattle.std.proofs.Common.{◌∙◌, ℕ, List, Ok, length, map, vec_items, sym, ap, subst, subst₂, arith}
use Rattle.std.proofs.lemmas.List.{length-map}
use Rattle.std.proofs.lemmas.Result.{IfOk-weaker}
use Rattle.si_base.specs.Codes.{CodedGraph}
use Rattle.si_base.specs.GivenGraph.{Sg}
use Rattle.si_base.specs.Netlist.{Netlist}
use Rattle.si_joins.specs.Join.{join, joined}
use Rattle.si_joins.specs.Loops.Parts.{AreNetlists}
use Rattle.si_joins.proofs.PartFacts.{are_audited, are_given, are_netlists, are_sound, givens}
use Rattle.si_readings.proofs.ReadingRefusals.{err_map, stops}
use Rattle.si_readings.proofs.StageLemmas.{stop_first, stop_next}
use Rattle.si_refusals.specs.Ending.{MayStop}
use Rattle.si_refusals.specs.Stages.{Passes}
use Rattle.si_sg.specs.GivenGraph.{sg_now}
use Rattle.si_systems.specs.Laws.{AreSound}
use Rattle.si_systems.specs.Loops.Parts.{AreGiven, sgs_now}
use Rattle.si_words.specs.Loops.Reads.{words_now}
use Rattle.si_works.specs.Audited.{AuditedPart}
use Rattle.si_works.specs.System.{two_by_two}
use Rattle.si_works.specs.Works.{graphs}
use Rattle.si_works.specs.Loops.Parts.{parts_now}
use Rattle.si_works.proofs.ShownLemmas.{parts_many}
use Rattle.si_joins.proofs.join.join_texts.Goals as goal

pub returns-in_err-parts-clause-err : goal.returns-in_err-parts-clause-err
returns-in_err-parts-clause-err c =
    stops (join (words_now c.args.files.now) (map vec_items c.args.texts.now)) c.from_residual-in_err-parts.result _
    c.from_residual-in_err-parts.ensures.1 (stop_first _ _ _ c.in_err-parts.ensures.err)

pub joined-requires-clause-few : goal.joined-requires-clause-few
joined-requires-clause-few c =
    let parts = c.in_ok-parts.parts.items in
    let counts = parts_many c.args.files.now c.args.texts.now parts c.requires.texts c.in_ok-parts.ensures.ok in
    let same = ap (length {A = CodedGraph}) (c.as_slice-2.ensures.value ∙ c.in_ok-apart.ensures.coded) in
    omega (arith, counts.0, counts.1, same, c.requires.few)

pub joined-requires-clause-given : goal.joined-requires-clause-given
joined-requires-clause-given c =
    let parts = parts_now c.in_ok-parts.parts.items in
    let are = are_audited (two_by_two (words_now c.args.files.now)) (two_by_two (map vec_items c.args.texts.now)) parts
    c.in_ok-parts.ensures.ok in
    subst AreGiven (sym (ap sgs_now c.as_slice.ensures.value ∙ c.in_ok-apart.ensures.given)) (are_given parts are)

pub joined-requires-clause-sound : goal.joined-requires-clause-sound
joined-requires-clause-sound c =
    let parts = parts_now c.in_ok-parts.parts.items in
    let are = are_audited (two_by_two (words_now c.args.files.now)) (two_by_two (map vec_items c.args.texts.now)) parts
    c.in_ok-parts.ensures.ok in
    subst₂ AreSound (sym (ap sgs_now c.as_slice.ensures.value ∙ c.in_ok-apart.ensures.given))
    (sym (c.as_slice-2.ensures.value ∙ c.in_ok-apart.ensures.coded)) (are_sound parts are)

pub joined-requires-clause-many : goal.joined-requires-clause-many
joined-requires-clause-many c =
    let parts = parts_now c.in_ok-parts.parts.items in
    let one = ap (length {A = Netlist}) (c.as_slice-3.ensures.value ∙ c.in_ok-apart.ensures.netlists) in
    let other = ap (length {A = Sg}) (ap sgs_now c.as_slice.ensures.value ∙ c.in_ok-apart.ensures.given) in
    let counts = length-map c.as_slice.result.now sg_now in
    let all = length-map parts (λ (p : AuditedPart). p.netlist) in
    let also = length-map parts (λ (p : AuditedPart). p.given) in
    omega (arith, one, other, counts, all, also)

pub joined-requires-clause-netlists : goal.joined-requires-clause-netlists
joined-requires-clause-netlists c =
    let parts = parts_now c.in_ok-parts.parts.items in
    let are = are_audited (two_by_two (words_now c.args.files.now)) (two_by_two (map vec_items c.args.texts.now)) parts
    c.in_ok-parts.ensures.ok in
    subst AreNetlists (sym (c.as_slice-3.ensures.value ∙ c.in_ok-apart.ensures.netlists)) (are_netlists parts are)

pub returns-clause-ok : goal.returns-clause-ok
returns-clause-ok c =
    let parts = parts_now c.in_ok-parts.parts.items in
    let given = ap sgs_now c.as_slice.ensures.value ∙ c.in_ok-apart.ensures.given in
    let coded = c.as_slice-2.ensures.value ∙ c.in_ok-apart.ensures.coded in
    let netlists = c.as_slice-3.ensures.value ∙ c.in_ok-apart.ensures.netlists in
    IfOk-weaker c.joined.result
    (λ (text : List ℕ). joined (sgs_now c.as_slice.result.now) c.as_slice-2.result.now c.as_slice-3.result.now (Ok text))
    (λ (text : List ℕ). join (words_now c.args.files.now) (map vec_items c.args.texts.now) (Ok text))
    (λ text told. Passes parts c.in_ok-parts.ensures.ok (subst (λ (ns : List Netlist). joined (givens parts)
    (graphs parts) ns (Ok text)) netlists (subst₂ (λ (gs : List Sg) (cs : List CodedGraph). joined gs cs
    c.as_slice-3.result.now (Ok text)) given coded told))) c.joined.ensures.ok

pub returns-clause-err : goal.returns-clause-err
returns-clause-err c =
    let parts = parts_now c.in_ok-parts.parts.items in
    let given = ap sgs_now c.as_slice.ensures.value ∙ c.in_ok-apart.ensures.given in
    let coded = c.as_slice-2.ensures.value ∙ c.in_ok-apart.ensures.coded in
    let netlists = c.as_slice-3.ensures.value ∙ c.in_ok-apart.ensures.netlists in
    err_map c.joined.result
    (MayStop (joined (sgs_now c.as_slice.result.now) c.as_slice-2.result.now c.as_slice-3.result.now))
    (MayStop (join (words_now c.args.files.now) (map vec_items c.args.texts.now)))
    (λ e may. stop_next _ _ parts e c.in_ok-parts.ensures.ok (subst (λ (ns : List Netlist). MayStop (joined
    (givens parts) (graphs parts) ns) e) netlists (subst₂ (λ (gs : List Sg) (cs : List CodedGraph). MayStop (joined gs
    cs c.as_slice-3.result.now) e) given coded may))) c.joined.ensures.err
