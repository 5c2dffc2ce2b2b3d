use Rattle.std.proofs.Common.{ℕ, List, ◌<◌, length, get_or, arith, ap, sym, subst, ◌∙◌, ◌++◌, ◌∷◌, [], take}
use Rattle.std.proofs.lemmas.List.{length-map}
use Rattle.si_sg.specs.CanonicalText.{state_at}
use Rattle.si_sg.specs.GivenGraph.{sg_now}
use Rattle.si_systems.specs.Loops.Parts.{sgs_now}
use Rattle.si_systems.specs.Names as meaning
use Rattle.si_systems.proofs.ListSteps.{mapped_at, next, taken_all}
use Rattle.si_systems.proofs.TupleNames.{many_names, names_more, state_below, tuple_width}
use Rattle.si_systems.proofs.names.names_at.Goals as goal

pub bounds-states-k : goal.bounds-states-k
bounds-states-k c =
    let width = tuple_width (sgs_now c.args.given.now) c.args.tuple.now c.requires in
    let many = length-map c.args.given.now sg_now in
    let same = ap (λ (xs : List ℕ). length xs) c.states-states.ensures in
    omega (arith, c.loop-k-test.true, width, many, same)

pub name_at-requires : goal.name_at-requires
name_at-requires c =
    let many = length-map c.args.given.now sg_now in
    let at = mapped_at sg_now c.args.given.now c.loop-k.k c.index-given-k.result c.loop-k-test.true c.index-given-k.is in
    let below = state_below (sgs_now c.args.given.now) c.args.tuple.now c.loop-k.k (sg_now c.index-given-k.result)
    c.requires (omega (arith, many, c.loop-k-test.true)) at in
    subst (λ (xs : List ℕ). get_or xs c.loop-k.k 0 < length c.index-given-k.result.states) (sym c.states-states.ensures)
    below

pub loop-k-preserved : goal.loop-k-preserved
loop-k-preserved c =
    let sgs = sgs_now c.args.given.now in
    let k = c.loop-k.k in
    let many = length-map c.args.given.now sg_now in
    let at = mapped_at sg_now c.args.given.now k c.index-given-k.result c.loop-k-test.true c.index-given-k.is in
    let named = c.name_at.ensures
    ∙ ap (λ (xs : List ℕ). state_at c.index-given-k.result.states (get_or xs k 0)) c.states-states.ensures in
    let more = names_more sgs c.args.tuple.now k (sg_now c.index-given-k.result) c.name_at.result.now c.requires
    (omega (arith, many, c.loop-k-test.true)) at named in
    c.in_ok-push.ensures.added
    ∙ ap (λ (ns : List (List ℕ)). ns ++ c.name_at.result.now ∷ []) c.loop-k.invariant
    ∙ sym more
    ∙ ap (λ (n : ℕ). take n (meaning.names_at sgs c.args.tuple.now)) (sym (next k))

pub returns : goal.returns
returns c =
    let sgs = sgs_now c.args.given.now in
    let many = length-map c.args.given.now sg_now in
    let names = many_names sgs c.args.tuple.now c.requires in
    c.loop-k.invariant
    ∙ taken_all (meaning.names_at sgs c.args.tuple.now) c.loop-k.k
    (omega (arith, many, names, c.loop-k-test.false, c.loop-k.auto.k-end))
