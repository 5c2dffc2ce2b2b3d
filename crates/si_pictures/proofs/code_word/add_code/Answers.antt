use Rattle.std.proofs.Common.{◌≡◌, ◌<◌, ◌≤◌, ◌∙◌, ◌++◌, List, ℕ, ap, ap₂, length}
use Rattle.si_base.specs.Bits.{bit}
use Rattle.si_base.specs.Graph.{StateGraph}
use Rattle.si_pictures.specs.CodeWord.{marked_digit, code_word}
use Rattle.si_pictures.proofs.CodeLemmas.{digit_at}
use Rattle.si_pictures.proofs.WritingParts.{part_more, parts_done}
use Rattle.si_pictures.proofs.code_word.add_code.Goals as goal

pub loop-i-preserved : goal.loop-i-preserved
loop-i-preserved c =
    let d = c.args.graph.now in
    let i = c.loop-i.i in
    let signals : c.signals-signals.result.now ≡ d.graph.signals =
    c.signals-signals.ensures ∙ ap (λ (g : StateGraph). g.signals) c.graph.ensures.same in
    let within : i < length d.graph.signals = rw signals at c.loop-i-test.true in
    let digit : c.marked_digit.result.now ≡ digit_at d c.args.s i = c.marked_digit.ensures
    ∙ ap₂ marked_digit (c.get.ensures ∙ ap (λ k. bit k i) c.code.ensures) c.is_excited.ensures in
    part_more (digit_at d c.args.s) (length d.graph.signals) i _ c.loop-i.text c.add.new.self within c.loop-i.invariant
    (c.in_ok-add.ensures.added ∙ ap (λ (t : List ℕ). c.loop-i.text ++ t) digit)

pub returns : goal.returns
unfolding code_word
returns c =
    let d = c.args.graph.now in
    let signals : c.signals-signals.result.now ≡ d.graph.signals =
    c.signals-signals.ensures ∙ ap (λ (g : StateGraph). g.signals) c.graph.ensures.same in
    let all : length d.graph.signals ≤ c.loop-i.i = rw signals at c.loop-i-test.false in
    parts_done (digit_at d c.args.s) (length d.graph.signals) c.loop-i.i c.loop-i.text c.args.text.now all
    c.loop-i.invariant
