use Rattle.std.proofs.Common.{ℕ, arith, subst, Ok, ◌∙◌, ap, List, ◌∷◌, [], map, zip, vec_items}
use Rattle.std.specs.Borrow.{Bor}
use Rattle.std.proofs.lemmas.List.{map-append}
use Rattle.si_readings.specs.Readings.{graph_in}
use Rattle.si_readings.proofs.ReadingRefusals.{stops}
use Rattle.si_refusals.specs.Stages.{each}
use Rattle.si_sg.specs.GivenGraph.{sg_now}
use Rattle.si_systems.specs.Compose.{graphs_in}
use Rattle.si_systems.specs.Loops.Parts.{sgs_now}
use Rattle.si_systems.proofs.EachLemmas.{each_may_stop, each_next}
use Rattle.si_systems.proofs.ListSteps.{taken_all, zipped_at, zipped_many}
use Rattle.si_words.specs.Loops.Reads.{words_now}
use Rattle.si_systems.proofs.compose.graphs_in.Goals as goal

abbrev no_file : Bor (List ℕ)
no_file = record { ref_ptr = (0, 0); now = [] }

pub returns-in_err-sg-clause-err : goal.returns-in_err-sg-clause-err
returns-in_err-sg-clause-err c =
    let files = c.args.files.now in
    let texts = c.args.texts.now in
    let text = c.index-texts-k.result in
    let pairs = zip (words_now files) (map vec_items texts) in
    let many = zipped_many files texts c.requires in
    let at = zipped_at files texts c.loop-k.k no_file text c.deref.result.now c.loop-k-test.true c.requires c.index-texts-k.is
    c.deref.ensures.value in
    stops (graphs_in (words_now files) (map vec_items texts)) c.from_residual.result _ c.from_residual.ensures.1
    (each_may_stop (λ (f : List ℕ × List ℕ). graph_in f.0 f.1) pairs c.loop-k.k (sgs_now c.loop-k.given.items) _ _
    (omega (arith, many, c.loop-k-test.true)) at c.loop-k.invariant c.in_err-sg.ensures.err)

pub loop-k-preserved : goal.loop-k-preserved
loop-k-preserved c =
    let files = c.args.files.now in
    let texts = c.args.texts.now in
    let text = c.index-texts-k.result in
    let pairs = zip (words_now files) (map vec_items texts) in
    let many = zipped_many files texts c.requires in
    let at = zipped_at files texts c.loop-k.k no_file text c.deref.result.now c.loop-k-test.true c.requires c.index-texts-k.is
    c.deref.ensures.value in
    each_next (λ (f : List ℕ × List ℕ). graph_in f.0 f.1) pairs c.loop-k.k (sgs_now c.loop-k.given.items)
    (sgs_now c.push.new.self.items) _ (sg_now c.in_ok-sg.sg) (omega (arith, many, c.loop-k-test.true)) at
    c.loop-k.invariant c.in_ok-sg.ensures.ok
    (ap sgs_now c.in-Ok.ensures.items ∙ map-append sg_now c.loop-k.given.items (c.in_ok-sg.sg ∷ []))

pub returns-clause-ok : goal.returns-clause-ok
returns-clause-ok c =
    let files = c.args.files.now in
    let texts = c.args.texts.now in
    let pairs = zip (words_now files) (map vec_items texts) in
    let many = zipped_many files texts c.requires in
    subst (λ (fs : List (List ℕ × List ℕ)). each (λ f. graph_in f.0 f.1) fs (Ok (sgs_now c.loop-k.given.items)))
    (taken_all pairs c.loop-k.k (omega (arith, many, c.loop-k-test.false, c.loop-k.auto.k-end)))
    c.loop-k.invariant
