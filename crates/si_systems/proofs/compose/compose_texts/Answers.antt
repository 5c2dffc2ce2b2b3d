use Rattle.std.proofs.Common.{ℕ, ◌≡◌, List, Ok, arith, length, map, vec_items, zip, ap, sym, subst}
use Rattle.std.proofs.lemmas.Result.{IfOk-weaker}
use Rattle.si_base.specs.Codes.{CodedGraph}
use Rattle.si_readings.specs.Readings.{graph_in}
use Rattle.si_readings.proofs.ReadingRefusals.{err_map, stops}
use Rattle.si_readings.proofs.StageLemmas.{stop_first, stop_next}
use Rattle.si_refusals.specs.Ending.{Ending, MayStop, ending_of}
use Rattle.si_refusals.specs.Stages.{Passes}
use Rattle.si_sg.specs.declared.read.Sg.{Sg as SgRead}
use Rattle.si_systems.specs.Compose.{compose, composition, parts_of}
use Rattle.si_systems.specs.Laws.{AreSound}
use Rattle.si_systems.specs.Loops.Parts.{AreGiven, sgs_now}
use Rattle.si_systems.proofs.EachLemmas.{each_many}
use Rattle.si_systems.proofs.ListSteps.{zipped_many}
use Rattle.si_systems.proofs.PartLemmas.{are_given, are_sound, as_many}
use Rattle.si_words.specs.Loops.Reads.{words_now}
use Rattle.si_systems.proofs.compose.compose_texts.Goals as goal

-- ---- over the slices of what the calls give
sound_over : (read of : List SgRead) (parts slice : List CodedGraph) → of ≡ read → slice ≡ parts
    → AreSound (sgs_now read) parts → AreSound (sgs_now of) slice
sound_over read of parts slice given_same parts_same sound =
    subst (λ (gs : List SgRead). AreSound (sgs_now gs) slice) (sym given_same)
    (subst (λ (cs : List CodedGraph). AreSound (sgs_now read) cs) (sym parts_same) sound)

told_over : (read of : List SgRead) (parts slice : List CodedGraph) (output : List ℕ) → of ≡ read → slice ≡ parts
    → composition (sgs_now of) slice (Ok output) → composition (sgs_now read) parts (Ok output)
told_over read of parts slice output given_same parts_same told =
    subst (λ (gs : List SgRead). composition (sgs_now gs) parts (Ok output)) given_same
    (subst (λ (cs : List CodedGraph). composition (sgs_now of) cs (Ok output)) parts_same told)

stop_over : (read of : List SgRead) (parts slice : List CodedGraph) (e : Ending) → of ≡ read → slice ≡ parts
    → MayStop (composition (sgs_now of) slice) e → MayStop (composition (sgs_now read) parts) e
stop_over read of parts slice e given_same parts_same may =
    subst (λ (gs : List SgRead). MayStop (composition (sgs_now gs) parts) e) given_same
    (subst (λ (cs : List CodedGraph). MayStop (composition (sgs_now of) cs) e) parts_same may)

pub returns-in_err-given-clause-err : goal.returns-in_err-given-clause-err
returns-in_err-given-clause-err c =
    stops (compose (words_now c.args.files.now) (map vec_items c.args.texts.now))
    c.from_residual-in_err-given.result _ c.from_residual-in_err-given.ensures.1
    (stop_first _ _ _ c.in_err-given.ensures.err)

pub parts_of-requires : goal.parts_of-requires
parts_of-requires c =
    subst (λ (gs : List SgRead). AreGiven (sgs_now gs)) (sym c.deref.ensures.value)
    (are_given (zip (words_now c.args.files.now) (map vec_items c.args.texts.now))
    (sgs_now c.in_ok-given.given.items) c.in_ok-given.ensures.ok)

pub returns-in_err-parts-clause-err : goal.returns-in_err-parts-clause-err
returns-in_err-parts-clause-err c =
    let may = subst (λ (gs : List SgRead). MayStop (parts_of (sgs_now gs)) (ending_of c.in_err-parts.field-0.0))
    c.deref.ensures.value c.in_err-parts.ensures.err in
    stops (compose (words_now c.args.files.now) (map vec_items c.args.texts.now))
    c.from_residual-in_err-parts.result _ c.from_residual-in_err-parts.ensures.1
    (stop_next _ _ (sgs_now c.in_ok-given.given.items) _ c.in_ok-given.ensures.ok (stop_first _ _ _ may))

pub composition-requires-clause-few : goal.composition-requires-clause-few
composition-requires-clause-few c =
    let files = c.args.files.now in
    let texts = c.args.texts.now in
    let pairs = zip (words_now files) (map vec_items texts) in
    let sgs = sgs_now c.in_ok-given.given.items in
    let parts = c.in_ok-parts.parts.items in
    let passes = subst (λ (gs : List SgRead). parts_of (sgs_now gs) (Ok parts)) c.deref.ensures.value
    c.in_ok-parts.ensures.ok in
    let read = each_many (λ (f : List ℕ × List ℕ). graph_in f.0 f.1) pairs sgs c.in_ok-given.ensures.ok in
    let as_files = zipped_many files texts c.requires.texts in
    let as_given = as_many sgs parts (are_sound sgs parts passes) in
    omega (arith, read, as_files, as_given, c.deref-3.ensures.len, ap (λ (cs : List CodedGraph). length cs) c.deref-3.ensures.value, c.requires.few)

pub composition-requires-clause-given : goal.composition-requires-clause-given
composition-requires-clause-given c =
    subst (λ (gs : List SgRead). AreGiven (sgs_now gs)) (sym c.deref-2.ensures.value)
    (are_given (zip (words_now c.args.files.now) (map vec_items c.args.texts.now))
    (sgs_now c.in_ok-given.given.items) c.in_ok-given.ensures.ok)

pub composition-requires-clause-sound : goal.composition-requires-clause-sound
composition-requires-clause-sound c =
    let read = c.in_ok-given.given.items in
    let parts = c.in_ok-parts.parts.items in
    let passes = subst (λ (gs : List SgRead). parts_of (sgs_now gs) (Ok parts)) c.deref.ensures.value
    c.in_ok-parts.ensures.ok in
    sound_over read c.deref-2.result.now parts c.deref-3.result.now c.deref-2.ensures.value c.deref-3.ensures.value
    (are_sound (sgs_now read) parts passes)

pub returns-clause-ok : goal.returns-clause-ok
returns-clause-ok c =
    let read = c.in_ok-given.given.items in
    let parts = c.in_ok-parts.parts.items in
    let passes = subst (λ (gs : List SgRead). parts_of (sgs_now gs) (Ok parts)) c.deref.ensures.value
    c.in_ok-parts.ensures.ok in
    IfOk-weaker c.composition.result
    (λ (text : List ℕ). composition (sgs_now c.deref-2.result.now) c.deref-3.result.now (Ok text))
    (λ (text : List ℕ). compose (words_now c.args.files.now) (map vec_items c.args.texts.now) (Ok text))
    (λ text told. Passes (sgs_now read) c.in_ok-given.ensures.ok (Passes parts passes
    (told_over read c.deref-2.result.now parts c.deref-3.result.now text c.deref-2.ensures.value
    c.deref-3.ensures.value told)))
    c.composition.ensures.ok

pub returns-clause-err : goal.returns-clause-err
returns-clause-err c =
    let read = c.in_ok-given.given.items in
    let parts = c.in_ok-parts.parts.items in
    let passes = subst (λ (gs : List SgRead). parts_of (sgs_now gs) (Ok parts)) c.deref.ensures.value
    c.in_ok-parts.ensures.ok in
    err_map c.composition.result
    (MayStop (composition (sgs_now c.deref-2.result.now) c.deref-3.result.now))
    (MayStop (compose (words_now c.args.files.now) (map vec_items c.args.texts.now)))
    (λ e may. stop_next _ _ (sgs_now read) e c.in_ok-given.ensures.ok (stop_next _ _ parts e passes
    (stop_over read c.deref-2.result.now parts c.deref-3.result.now e c.deref-2.ensures.value c.deref-3.ensures.value
    may)))
    c.composition.ensures.err
