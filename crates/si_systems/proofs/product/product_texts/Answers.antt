use Rattle.std.proofs.Common.{ℕ, ◌≡◌, List, Ok, arith, length, map, vec_items, zip, ap, sym, subst}
use Rattle.std.proofs.lemmas.Result.{IfOk-weaker}
use Rattle.si_base.specs.Graph.{StateGraph}
use Rattle.si_readings.specs.Readings.{graph_in}
use Rattle.si_readings.proofs.ReadingRefusals.{err_map, stops}
use Rattle.si_readings.proofs.StageLemmas.{stop_first, stop_next}
use Rattle.si_refusals.specs.Ending.{Ending, MayStop, ending_of}
use Rattle.si_refusals.specs.Stages.{Passes}
use Rattle.si_sg.specs.declared.read.Sg.{Sg as SgRead}
use Rattle.si_systems.specs.Loops.Deterministic.{AreParts}
use Rattle.si_systems.specs.Loops.Parts.{AreGiven, sgs_now}
use Rattle.si_systems.specs.Product.{all_deterministic, product, production}
use Rattle.si_systems.proofs.EachLemmas.{each_many}
use Rattle.si_systems.proofs.ListSteps.{zipped_many}
use Rattle.si_systems.proofs.PartLemmas.{are_given}
use Rattle.si_systems.proofs.ProductParts.{are_parts, as_many}
use Rattle.si_words.specs.Loops.Reads.{words_now}
use Rattle.si_systems.proofs.product.product_texts.Goals as goal

-- ---- over the slices of what the calls give
parts_over : (read of : List SgRead) (parts slice : List StateGraph) → of ≡ read → slice ≡ parts
    → AreParts (sgs_now read) parts → AreParts (sgs_now of) slice
parts_over read of parts slice given_same parts_same are =
    subst (λ (gs : List SgRead). AreParts (sgs_now gs) slice) (sym given_same)
    (subst (λ (cs : List StateGraph). AreParts (sgs_now read) cs) (sym parts_same) are)

told_over : (read of : List SgRead) (parts slice : List StateGraph) (output : List ℕ) → of ≡ read → slice ≡ parts
    → production (sgs_now of) slice (Ok output) → production (sgs_now read) parts (Ok output)
told_over read of parts slice output given_same parts_same told =
    subst (λ (gs : List SgRead). production (sgs_now gs) parts (Ok output)) given_same
    (subst (λ (cs : List StateGraph). production (sgs_now of) cs (Ok output)) parts_same told)

stop_over : (read of : List SgRead) (parts slice : List StateGraph) (e : Ending) → of ≡ read → slice ≡ parts
    → MayStop (production (sgs_now of) slice) e → MayStop (production (sgs_now read) parts) e
stop_over read of parts slice e given_same parts_same may =
    subst (λ (gs : List SgRead). MayStop (production (sgs_now gs) parts) e) given_same
    (subst (λ (cs : List StateGraph). MayStop (production (sgs_now of) cs) e) parts_same may)

pub returns-in_err-given-clause-err : goal.returns-in_err-given-clause-err
returns-in_err-given-clause-err c =
    stops (product (words_now c.args.files.now) (map vec_items c.args.texts.now))
    c.from_residual-in_err-given.result _ c.from_residual-in_err-given.ensures.1
    (stop_first _ _ _ c.in_err-given.ensures.err)

pub deterministic_parts-requires : goal.deterministic_parts-requires
deterministic_parts-requires c =
    subst (λ (gs : List SgRead). AreGiven (sgs_now gs)) (sym c.deref.ensures.value)
    (are_given (zip (words_now c.args.files.now) (map vec_items c.args.texts.now))
    (sgs_now c.in_ok-given.given.items) c.in_ok-given.ensures.ok)

pub returns-in_err-parts-clause-err : goal.returns-in_err-parts-clause-err
returns-in_err-parts-clause-err c =
    let may = subst (λ (gs : List SgRead). MayStop (all_deterministic (sgs_now gs))
    (ending_of c.in_err-parts.field-0.0))
    c.deref.ensures.value c.in_err-parts.ensures.err in
    stops (product (words_now c.args.files.now) (map vec_items c.args.texts.now))
    c.from_residual-in_err-parts.result _ c.from_residual-in_err-parts.ensures.1
    (stop_next _ _ (sgs_now c.in_ok-given.given.items) _ c.in_ok-given.ensures.ok (stop_first _ _ _ may))

pub production-requires-clause-few : goal.production-requires-clause-few
production-requires-clause-few c =
    let files = c.args.files.now in
    let texts = c.args.texts.now in
    let pairs = zip (words_now files) (map vec_items texts) in
    let sgs = sgs_now c.in_ok-given.given.items in
    let parts = c.in_ok-parts.parts.items in
    let passes = subst (λ (gs : List SgRead). all_deterministic (sgs_now gs) (Ok parts)) c.deref.ensures.value
    c.in_ok-parts.ensures.ok in
    let read = each_many (λ (f : List ℕ × List ℕ). graph_in f.0 f.1) pairs sgs c.in_ok-given.ensures.ok in
    let as_files = zipped_many files texts c.requires.texts in
    let as_given = as_many sgs parts (are_parts sgs parts passes) in
    let slice = ap (λ (cs : List StateGraph). length cs) c.deref-3.ensures.value in
    omega (arith, read, as_files, as_given, c.deref-3.ensures.len, slice, c.requires.few)

pub production-requires-clause-given : goal.production-requires-clause-given
production-requires-clause-given c =
    subst (λ (gs : List SgRead). AreGiven (sgs_now gs)) (sym c.deref-2.ensures.value)
    (are_given (zip (words_now c.args.files.now) (map vec_items c.args.texts.now))
    (sgs_now c.in_ok-given.given.items) c.in_ok-given.ensures.ok)

pub production-requires-clause-parts : goal.production-requires-clause-parts
production-requires-clause-parts c =
    let read = c.in_ok-given.given.items in
    let parts = c.in_ok-parts.parts.items in
    let passes = subst (λ (gs : List SgRead). all_deterministic (sgs_now gs) (Ok parts)) c.deref.ensures.value
    c.in_ok-parts.ensures.ok in
    parts_over read c.deref-2.result.now parts c.deref-3.result.now c.deref-2.ensures.value c.deref-3.ensures.value
    (are_parts (sgs_now read) parts passes)

pub returns-clause-ok : goal.returns-clause-ok
returns-clause-ok c =
    let read = c.in_ok-given.given.items in
    let parts = c.in_ok-parts.parts.items in
    let passes = subst (λ (gs : List SgRead). all_deterministic (sgs_now gs) (Ok parts)) c.deref.ensures.value
    c.in_ok-parts.ensures.ok in
    IfOk-weaker c.production.result
    (λ (text : List ℕ). production (sgs_now c.deref-2.result.now) c.deref-3.result.now (Ok text))
    (λ (text : List ℕ). product (words_now c.args.files.now) (map vec_items c.args.texts.now) (Ok text))
    (λ text told. Passes (sgs_now read) c.in_ok-given.ensures.ok (Passes parts passes
    (told_over read c.deref-2.result.now parts c.deref-3.result.now text c.deref-2.ensures.value
    c.deref-3.ensures.value told)))
    c.production.ensures.ok

pub returns-clause-err : goal.returns-clause-err
returns-clause-err c =
    let read = c.in_ok-given.given.items in
    let parts = c.in_ok-parts.parts.items in
    let passes = subst (λ (gs : List SgRead). all_deterministic (sgs_now gs) (Ok parts)) c.deref.ensures.value
    c.in_ok-parts.ensures.ok in
    err_map c.production.result
    (MayStop (production (sgs_now c.deref-2.result.now) c.deref-3.result.now))
    (MayStop (product (words_now c.args.files.now) (map vec_items c.args.texts.now)))
    (λ e may. stop_next _ _ (sgs_now read) e c.in_ok-given.ensures.ok (stop_next _ _ parts e passes
    (stop_over read c.deref-2.result.now parts c.deref-3.result.now e c.deref-2.ensures.value c.deref-3.ensures.value
    may)))
    c.production.ensures.err
