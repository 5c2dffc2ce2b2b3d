use Rattle.std.proofs.Common.{◌≡◌, ◌^◌, ◌<◌, ◌≤◌, ◌∙◌, arith}
use Rattle.si_base.specs.Limits.{code_width}
use Rattle.si_equations.proofs.LiteralLemmas.{all_taken, literal_pushed, literals_left_none, literals_left_past}
use Rattle.si_equations.proofs.LiteralLemmas.{next_literal, next_place}
use Rattle.si_equations.proofs.write_sums.literals_of.Goals as goal

pub returns-then-rest-eq0 : goal.returns-then-rest-eq0
returns-then-rest-eq0 c =
    let same : c.cube-inside.inside.0.0.0 ≡ c.cube.inside.care = cc in
    let none = literals_left_none c.cube.inside.care c.cube.inside.value c.loop-at.at
    (rw same at c.if-rest-eq0.true) in
    all_taken c.cube.inside.care c.cube.inside.value c.loop-at.at c.loop-at.literals.items c.loop-at.invariant none
    ∙ c.cube.view_is

pub get-plain-requires : goal.get-plain-requires
get-plain-requires c =
    let fits : c.cube-inside.inside.0.0.0 < 2 ^ code_width = omega arith in
    let next = next_literal c.cube-inside.inside.0.0.0 c.cube.inside.value c.loop-at.at fits
    (omega (arith, c.if-rest-eq0.false)) in
    next.within

pub loop-at-preserved : goal.loop-at-preserved
loop-at-preserved c =
    let same : c.cube-inside.inside.0.0.0 ≡ c.cube.inside.care = cc in
    let fits : c.cube-inside.inside.0.0.0 < 2 ^ code_width = omega arith in
    let value_same : c.cube-inside.inside.0.1.0 ≡ c.cube.inside.value = cc in
    let next = next_literal c.cube-inside.inside.0.0.0 c.cube-inside.inside.0.1.0 c.loop-at.at fits
    (omega (arith, c.if-rest-eq0.false)) in
    let place : c.sig.inside.0 ≡ next_place c.cube-inside.inside.0.0.0 c.loop-at.at = cc in
    rw (c.in_ok-push.ensures.items, c.get-plain.ensures)
    (literal_pushed c.cube.inside.care c.cube.inside.value c.cube-inside.inside.0.0.0 c.cube-inside.inside.0.1.0
    c.loop-at.at c.sig.inside.0 c.loop-at.literals.items same value_same place next ∙ c.loop-at.invariant)

pub returns : goal.returns
returns c =
    let past : code_width ≤ c.loop-at.at = omega (arith, c.loop-at-test.false) in
    all_taken c.cube.inside.care c.cube.inside.value c.loop-at.at c.loop-at.literals.items c.loop-at.invariant
    (literals_left_past c.cube.inside.care c.cube.inside.value c.loop-at.at past) ∙ c.cube.view_is
