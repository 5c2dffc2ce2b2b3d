use Rattle.std.proofs.Common.{◌∙◌, ◌≡◌, ◌++◌, ◌∷◌, [], ap, sym, arith, List, ℕ}
use Rattle.std.proofs.lemmas.List.{get_or_default}
use Rattle.si_circuit.specs.Spelling.{descent, state_word}
use Rattle.si_circuit.proofs.SpellingWords.{word_more, word_passed}
use Rattle.si_circuit.proofs.spelling.switching_words.Goals as goal
use Rattle.si_circuit.proofs.spelling.switching_words.Goals.{then-switches+in_ok-word+in_ok-push, else-switches}

pub loop-s-preserved : goal.loop-s-preserved
loop-s-preserved c =
    let ds = c.args.descents.now in
    let old : List (List ℕ) = c.loop-s.words in
    elim c.if-switches.branch [
      | then-switches+in_ok-word+in_ok-push w ↦
          (let here : w.index-descents-s.result ≡ descent ds c.loop-s.s =
          w.index-descents-s.is ∙ get_or_default ds c.loop-s.s w.index-descents-s.result
          (record { origin = 0; bits = 0 })
          (omega (arith, c.loop-s-test.true, c.requires.count)) in
          word_more c.args.states.now c.args.k ds c.args.classes.now c.args.up c.loop-s.s old c.if-switches.words
          c.loop-s.invariant (sym c.switches.ensures ∙ w.if-switches.true)
          (w.words-is ∙ w.in_ok-push.ensures.added ∙ ap (λ (word : List ℕ). old ++ word ∷ [])
          (w.as_slice.ensures.value ∙ w.in_ok-word.ensures ∙ ap (state_word c.args.states.now c.args.k) here)))
      | else-switches w ↦ word_passed c.args.states.now c.args.k ds c.args.classes.now c.args.up c.loop-s.s
          c.if-switches.words (w.words-is ∙ c.loop-s.invariant) (sym c.switches.ensures ∙ w.if-switches.false)
    ]
