use Rattle.std.proofs.Common.{[], ◌∷◌, ◌++◌, ◌∙◌, List, ℕ, ap, take, append_assoc}
use Rattle.std.proofs.lemmas.List.{map-append}
use Rattle.si_words.specs.Loops.Reads.{words_now}
use Rattle.si_commands.specs.Form.{words_of}
use Rattle.si_commands.proofs.TailLemmas.{one_more_word}
use Rattle.si_commands.proofs.form.add_words.Goals as goal

pub loop-word-preserved : goal.loop-word-preserved
loop-word-preserved c =
    let words = words_of c.args.words.now in
    let old = words_now c.args.names.now.items in
    let word = c.as_str.result.now in
    let more = one_more_word c.args.words.now c.loop-word.word-index c.word-item.result word c.loop-word-test.true
    c.word-item.is c.as_str.ensures.value in
    rw (c.in_ok-push.ensures.items, map-append (λ name. name.now) c.loop-word.names.items (c.as_str.result ∷ []), more)
    (ap (λ (names : List (List ℕ)). names ++ word ∷ []) c.loop-word.invariant
    ∙ append_assoc old (take c.loop-word.word-index words) (word ∷ []))
