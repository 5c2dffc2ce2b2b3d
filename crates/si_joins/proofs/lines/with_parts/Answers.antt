use Rattle.std.proofs.Common.{◌≡◌, ◌<◌, ◌∙◌, List, ℕ, Ok, get_or, length, zip, refl, sym, ap, subst, arith}
use Rattle.std.proofs.lemmas.List.{length-map}
use Rattle.si_base.specs.Codes.{CodedGraph}
use Rattle.si_base.specs.GivenGraph.{Sg}
use Rattle.si_base.specs.Netlist.{Netlist}
use Rattle.si_joins.specs.Steps.{along, numbered, with_part, with_parts}
use Rattle.si_joins.proofs.AlongLemmas.{along_may_stop, along_next}
use Rattle.si_joins.proofs.LineLemmas.{goes_on, goes_same, numbered_at, numbered_many, part_shown, zipped_at}
use Rattle.si_readings.proofs.ReadingRefusals.{stops}
use Rattle.si_sg.specs.GivenGraph.{sg_now}
use Rattle.si_sg.specs.declared.read.Sg.{Sg as SgRead}
use Rattle.si_systems.specs.Loops.Parts.{sgs_now}
use Rattle.si_systems.proofs.ListSteps.{mapped_at}
use Rattle.si_works.proofs.EachLemmas.{taken_all}
use Rattle.si_works.proofs.PairLemmas.{zip_many}
use Rattle.si_joins.proofs.lines.with_parts.Goals as goal

-- ---- the row of all parts
abbrev row : List SgRead → List Netlist → List (ℕ × (Sg × Netlist))
row given netlists = numbered 0 (zip (sgs_now given) netlists)

row_many : (given : List SgRead) (netlists : List Netlist) → length netlists ≡ length given
    → length (row given netlists) ≡ length given
row_many given netlists many =
    numbered_many 0 (zip (sgs_now given) netlists)
    ∙ zip_many (sgs_now given) netlists (length given) (length-map given sg_now) many

row_at : (given : List SgRead) (netlists : List Netlist) (i : ℕ) (g : SgRead) (n : Netlist)
    → length netlists ≡ length given → i < length given → g ≡ get_or given i g → n ≡ get_or netlists i n
    → (i, (sg_now g, n)) ≡ get_or (row given netlists) i (i, (sg_now g, n))
row_at given netlists i g n many below at_g at_n =
    let pairs = zip_many (sgs_now given) netlists (length given) (length-map given sg_now) many in
    numbered_at (zip (sgs_now given) netlists) i (sg_now g, n) (omega (arith, below, pairs))
    (zipped_at (sgs_now given) netlists i (sg_now g) n (omega (arith, below, length-map given sg_now))
    (omega (arith, below, many)) (mapped_at sg_now given i g below at_g) at_n)

pub loop-i-init : goal.loop-i-init
loop-i-init c = (refl, (goes_same c.args.begun, c.requires.names))

pub with_part-requires-clause-count : goal.with_part-requires-clause-count
with_part-requires-clause-count c =
    c.requires.count ∙ ap (λ (d : CodedGraph). d.graph.states) (sym c.loop-i.invariant.1.0.given)

pub with_part-requires-clause-tuples : goal.with_part-requires-clause-tuples
with_part-requires-clause-tuples c =
    c.requires.tuples ∙ ap (λ (d : CodedGraph). d.graph.states) (sym c.loop-i.invariant.1.0.given)

pub with_part-requires-clause-shown : goal.with_part-requires-clause-shown
with_part-requires-clause-shown c =
    let given = c.args.given.now in
    let g = c.index-given-i.result in
    part_shown (sgs_now given) c.loop-i.i c.args.whole.now.tuples.items (sg_now g) c.requires.shown
    (omega (arith, c.loop-i-test.true, length-map given sg_now))
    (mapped_at sg_now given c.loop-i.i g c.loop-i-test.true c.index-given-i.is)

pub with_part-requires-clause-names : goal.with_part-requires-clause-names
with_part-requires-clause-names c = c.loop-i.invariant.1.1

pub returns-in_err-lineage-clause-err : goal.returns-in_err-lineage-clause-err
returns-in_err-lineage-clause-err c =
    let whole = c.args.whole.now in
    let given = c.args.given.now in
    let netlists = c.args.netlists.now in
    let step = with_part whole.sg.states whole.tuples.items in
    let at = row_at given netlists c.loop-i.i c.index-given-i.result c.index-netlists-i.result c.requires.many
    c.loop-i-test.true c.index-given-i.is c.index-netlists-i.is in
    stops (with_parts whole.sg.states whole.tuples.items c.args.begun (sgs_now given) netlists) c.from_residual.result _
    c.from_residual.ensures.1
    (along_may_stop step c.args.begun (row given netlists) c.loop-i.i c.loop-i.lineage _ _
    (omega (arith, c.loop-i-test.true, row_many given netlists c.requires.many)) at c.loop-i.invariant.0
    c.in_err-lineage.ensures.err)

pub loop-i-preserved : goal.loop-i-preserved
loop-i-preserved c =
    let whole = c.args.whole.now in
    let given = c.args.given.now in
    let netlists = c.args.netlists.now in
    let step = with_part whole.sg.states whole.tuples.items in
    let at = row_at given netlists c.loop-i.i c.index-given-i.result c.index-netlists-i.result c.requires.many
    c.loop-i-test.true c.index-given-i.is c.index-netlists-i.is in (
      along_next step c.args.begun (row given netlists) c.loop-i.i c.loop-i.lineage _ c.in_ok-lineage.lineage
          (omega (arith, c.loop-i-test.true, row_many given netlists c.requires.many)) at c.loop-i.invariant.0
          c.in_ok-lineage.ensures.ok,
      (
        goes_on c.args.begun c.loop-i.lineage c.in_ok-lineage.lineage c.loop-i.invariant.1.0
            c.in_ok-lineage.ensures.goes,
        c.in_ok-lineage.ensures.names,
      ),
    )

pub returns-clause-ok : goal.returns-clause-ok
returns-clause-ok c =
    let whole = c.args.whole.now in
    let given = c.args.given.now in
    let netlists = c.args.netlists.now in
    subst (λ (ps : List (ℕ × (Sg × Netlist))). along (with_part whole.sg.states whole.tuples.items) c.args.begun ps
    (Ok c.loop-i.lineage)) (taken_all (row given netlists) c.loop-i.i
    (omega (arith, c.loop-i-test.false, c.loop-i.auto.i-end, row_many given netlists c.requires.many)))
    c.loop-i.invariant.0
