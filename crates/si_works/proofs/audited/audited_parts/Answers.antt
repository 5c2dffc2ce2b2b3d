use Rattle.std.proofs.Common.{ℕ, List, [], ◌∷◌, Ok, arith, ap, subst, ◌∙◌}
use Rattle.std.specs.Borrow.{Bor}
use Rattle.std.proofs.lemmas.List.{map-append}
use Rattle.si_readings.proofs.ReadingRefusals.{stops}
use Rattle.si_refusals.specs.Stages.{each}
use Rattle.si_works.specs.Audited.{audited_part}
use Rattle.si_works.specs.Loops.Parts.{part_now, parts_now}
use Rattle.si_works.proofs.EachLemmas.{each_may_stop, each_next, taken_all}
use Rattle.si_works.proofs.PairLemmas.{pairs_at, pairs_many, pairs_of}
use Rattle.si_works.proofs.audited.audited_parts.Goals as goal

abbrev no_file : Bor (List ℕ)
no_file = record { ref_ptr = (0, 0); now = [] }

pub returns-in_err-part-clause-err : goal.returns-in_err-part-clause-err
returns-in_err-part-clause-err c =
    let files = c.args.files.now in
    let texts = c.args.texts.now in
    let many = pairs_many files texts c.requires in
    let at = pairs_at files texts c.loop-k.k no_file c.index-texts-k.result c.index-texts-k-in-loop-k.result
    c.deref.result.now c.deref-in-loop-k.result.now (omega (arith, c.loop-k-test.true)) c.requires
    c.index-texts-k.is c.index-texts-k-in-loop-k.is c.deref.ensures.value c.deref-in-loop-k.ensures.value in
    stops (each (λ p. audited_part p.0.0 p.1.0 p.0.1 p.1.1) (pairs_of files texts)) c.from_residual.result _
    c.from_residual.ensures.1
    (each_may_stop (λ (p : (List ℕ × List ℕ) × (List ℕ × List ℕ)). audited_part p.0.0 p.1.0 p.0.1 p.1.1)
    (pairs_of files texts) c.loop-k.k (parts_now c.loop-k.parts.items) _ _
    (omega (arith, many, c.loop-k-test.true)) at c.loop-k.invariant c.in_err-part.ensures.err)

pub loop-k-preserved : goal.loop-k-preserved
loop-k-preserved c =
    let files = c.args.files.now in
    let texts = c.args.texts.now in
    let many = pairs_many files texts c.requires in
    let at = pairs_at files texts c.loop-k.k no_file c.index-texts-k.result c.index-texts-k-in-loop-k.result
    c.deref.result.now c.deref-in-loop-k.result.now (omega (arith, c.loop-k-test.true)) c.requires
    c.index-texts-k.is c.index-texts-k-in-loop-k.is c.deref.ensures.value c.deref-in-loop-k.ensures.value in
    each_next (λ (p : (List ℕ × List ℕ) × (List ℕ × List ℕ)). audited_part p.0.0 p.1.0 p.0.1 p.1.1)
    (pairs_of files texts) c.loop-k.k (parts_now c.loop-k.parts.items) (parts_now c.push.new.self.items) _
    (part_now c.in_ok-part.part) (omega (arith, many, c.loop-k-test.true)) at c.loop-k.invariant
    c.in_ok-part.ensures.ok
    (ap parts_now c.in-Ok.ensures.items ∙ map-append part_now c.loop-k.parts.items (c.in_ok-part.part ∷ []))

pub returns-clause-ok : goal.returns-clause-ok
returns-clause-ok c =
    let files = c.args.files.now in
    let texts = c.args.texts.now in
    let many = pairs_many files texts c.requires in
    subst (λ (ps : List ((List ℕ × List ℕ) × (List ℕ × List ℕ))).
    each (λ p. audited_part p.0.0 p.1.0 p.0.1 p.1.1) ps (Ok (parts_now c.loop-k.parts.items)))
    (taken_all (pairs_of files texts) c.loop-k.k
    (omega (arith, many, c.loop-k-test.false, c.loop-k.auto.k-end))) c.loop-k.invariant
