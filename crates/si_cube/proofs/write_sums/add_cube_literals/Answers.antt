use Rattle.std.proofs.Common.{◌≡◌, List, ℕ, ◌++◌, ap, sym, ◌∙◌, map, arith}
use Rattle.std.proofs.lemmas.List.{append-nil}
use Rattle.si_base.specs.Limits.{code_width}
use Rattle.si_base.specs.declared.ids.Literal.{Literal}
use Rattle.si_base.specs.NetlistText.{literal_word}
use Rattle.si_words.specs.Loops.Writing.{spaced}
use Rattle.si_cube.proofs.WriteSumsLemmas.{literals_left_all, literals_left_none, literals_skip, literals_more}
use Rattle.si_cube.proofs.write_sums.add_cube_literals.Goals as goal

pub loop-i-preserved-then-not-get : goal.loop-i-preserved-then-not-get
loop-i-preserved-then-not-get c =
    let skip = literals_skip c.args.signals.now c.cube.inside.care c.cube.inside.value c.loop-i.i c.loop-i-test.true
    (sym c.if-not-get.ensures) in
    ap (λ (rest : List ℕ). c.loop-i.text ++ rest) skip ∙ c.loop-i.invariant

pub loop-i-preserved : goal.loop-i-preserved
loop-i-preserved c =
    let more = literals_more c.args.signals.now c.cube.inside.care c.cube.inside.value c.loop-i.i c.loop-i.text
    c.loop-i-test.true (sym c.if-not-get.ensures) in
    rw (c.in_ok-add_literal.ensures, c.get-plain.ensures) (more ∙ c.loop-i.invariant)

pub returns : goal.returns
returns c =
    let ended : c.loop-i.i ≡ code_width = omega arith in
    let none = literals_left_none c.args.signals.now c.cube.inside.care c.cube.inside.value in
    let all = literals_left_all c.args.signals.now c.cube.inside.care c.cube.inside.value in
    let words = ap (λ (cube : List Literal). c.args.text.now ++ spaced (map (literal_word c.args.signals.now) cube))
    c.cube.view_is in
    sym (append-nil c.loop-i.text) ∙ ap (λ (rest : List ℕ). c.loop-i.text ++ rest) (sym none)
    ∙ (rw ended at c.loop-i.invariant) ∙ ap (λ (rest : List ℕ). c.args.text.now ++ rest) all ∙ words
