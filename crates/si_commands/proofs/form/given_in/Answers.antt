use Rattle.si_words.specs.Loops.Reads.{words_now}
use Rattle.si_commands.specs.Loops.Reads.{tail_now}
use Rattle.si_commands.proofs.TailLemmas.{read_whole}
use Rattle.si_commands.proofs.form.given_in.Goals as goal

pub returns-in-Some : goal.returns-in-Some
returns-in-Some c =
    let filled = rw c.in-Some.is at c.in_ok-placed_in.ensures.filled in
    read_whole (λ given. words_now given.files.items) (λ given. words_now given.choices.items) c.args.places.now
    (tail_now c.args.tail) c.args.words.now _ _ c.with_tail.result (filled (tail_now c.args.tail))
    c.with_tail.ensures
